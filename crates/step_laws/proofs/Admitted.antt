-- What a list of steps is, by the tree of its last step.
use Rattle.std.proofs.Common.{◌≡◌, ℕ, ◌<◌, ◌==◌, true, false, List, [], ◌∷◌, length, refl, sym, ap, ◌∙◌, Ok, Err, arith}
use Rattle.std.specs.Prelude.{Option, Some, None}
use Rattle.std.proofs.lemmas.Bool.Decides.{nat_tests}
use Rattle.lk_rules.specs.declared.rule.Step.{Step}
use Rattle.proof_trees.specs.Trees.{Tree}
use Rattle.step_laws.specs.declared.fault.StepCause.{StepCause}
use Rattle.step_laws.specs.declared.fault.AdmitFault.TheVariants as fault
use Rattle.step_laws.specs.Checking.{first_fault}
use Rattle.step_laws.specs.StepTrees.{IsTreeOf}
use Rattle.step_laws.specs.Admission.{last_tree, admission_by, admission}
use Rattle.step_laws.proofs.StepEnds.{last_there}

pub admitted : (steps : List Step) (t : Tree) → first_fault steps ≡ None → IsTreeOf steps t → admission steps ≡ Ok t
unfolding admission
admitted steps t none is = ap (admission_by steps) none ∙ ap last_tree is

pub no_steps : (steps : List Step) → steps ≡ [] → admission steps ≡ Err fault.Empty
unfolding admission
no_steps steps none = ap admission none

pub refused : (steps : List Step) (i : ℕ) (cause : StepCause) → first_fault steps ≡ Some (i, cause) → admission steps ≡ Err (fault.Step i cause)
unfolding admission
refused steps i cause found = ap (admission_by steps) found

-- a list of some steps without a fault has a tree
pub some_tree : (steps : List Step) → first_fault steps ≡ None → 0 < length steps → (t : Tree) × (admission steps ≡ Ok t)
some_tree steps none some = let last = last_there steps some in (last.0, admitted steps last.0 none last.1)

pub no_element : (steps : List Step) → (length steps == 0) ≡ true → steps ≡ []
no_element [] none = refl
no_element (step ∷ rest) none =
    let empty : length (step ∷ rest) ≡ 0 = grind (arith, nat_tests) in absurd (omega (arith, empty))

pub some_element : (steps : List Step) → (length steps == 0) ≡ false → 0 < length steps
some_element [] some = cc
some_element (step ∷ rest) some = omega arith

-- where a search for a fault finds none, there is none
pub no_fault_found : (steps : List Step) (found : Option (ℕ × StepCause)) → found ≡ first_fault steps → ((f : ℕ × StepCause) → found ≡ Some f → ⊥) → first_fault steps ≡ None
no_fault_found steps None is none = sym is
no_fault_found steps (Some f) is none = absurd (none f refl)
