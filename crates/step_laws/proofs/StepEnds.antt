-- The end sequents of the trees of steps, and the last tree.
use Rattle.std.proofs.Common.{◌≡◌, ℕ, ◌+◌, ◌-◌, ◌<◌, List, [], ◌∷◌, ◌++◌, map, length, get_or, refl, sym, ap, ◌∙◌, inl, inr, arith, length-append, append_assoc, append-nil}
use Rattle.std.specs.Prelude.{Some, option_map, slice_get}
use Rattle.std.proofs.lemmas.List.{map-append}
use Rattle.std.proofs.lemmas.Option.{slice_get-get_or, slice_get-map, slice_get_cases}
use Rattle.lk_rules.specs.declared.sequent.Sequent.{Sequent}
use Rattle.lk_rules.specs.declared.rule.Step.{Step}
use Rattle.proof_trees.specs.Trees.{Tree, concl}
use Rattle.step_laws.specs.Checking.{last_end}
use Rattle.step_laws.specs.StepTrees.{tree_over, trees_after, trees_of_steps, IsTreeOf}

abbrev pub end_of : Step → Sequent
end_of s = s.end

pub read_there : (steps : List Step) (i : ℕ) (step : Step) → i < length steps → step ≡ get_or steps i step → slice_get steps i ≡ Some step
read_there steps i step within is = slice_get-get_or steps i step within ∙ ap Some (sym is)

pub length-trees_after : (earlier : List Tree) (steps : List Step) → length (trees_after earlier steps) ≡ length earlier + length steps
length-trees_after earlier [] = omega arith
length-trees_after earlier (step ∷ later) =
    omega (arith, length-trees_after (earlier ++ tree_over earlier step ∷ []) later, length-append earlier (tree_over earlier step ∷ []))

concl-trees_after : (earlier : List Tree) (steps : List Step) → map concl (trees_after earlier steps) ≡ map concl earlier ++ map end_of steps
concl-trees_after earlier [] = sym (append-nil (map concl earlier))
concl-trees_after earlier (step ∷ later) =
    concl-trees_after (earlier ++ tree_over earlier step ∷ []) later
    ∙ ap (λ (es : List Sequent). es ++ map end_of later) (map-append concl earlier (tree_over earlier step ∷ []))
    ∙ append_assoc (map concl earlier) (step.end ∷ []) (map end_of later)

last_at : (step : Step) (rest : List Step) → option_map end_of (slice_get (step ∷ rest) (length rest)) ≡ Some (last_end (step ∷ rest))
last_at step [] = refl
last_at step (next ∷ rest) = last_at next rest

some_same : {X : Type 0} (x y : X) → Some x ≡ Some y → x ≡ y
some_same x y h = cc

-- the tree of the last step has its end sequent
pub tree_end : (steps : List Step) (t : Tree) → IsTreeOf steps t → concl t ≡ last_end steps
tree_end [] t is = cc
tree_end (step ∷ rest) t is =
    let place : length (step ∷ rest) - 1 ≡ length rest = omega arith in
    some_same (concl t) (last_end (step ∷ rest)) (
    sym (ap (option_map concl) is) ∙ sym (slice_get-map concl (trees_of_steps (step ∷ rest)) (length (step ∷ rest) - 1))
    ∙ ap (λ (es : List Sequent). slice_get es (length (step ∷ rest) - 1)) (concl-trees_after [] (step ∷ rest))
    ∙ slice_get-map end_of (step ∷ rest) (length (step ∷ rest) - 1) ∙ ap (λ (n : ℕ). option_map end_of (slice_get (step ∷ rest) n)) place ∙ last_at step rest)

-- some steps have a last tree
pub last_there : (steps : List Step) → 0 < length steps → (t : Tree) × IsTreeOf steps t
last_there steps some =
    elim (slice_get_cases (trees_of_steps steps) (length steps - 1)).1 [
      | inl found ↦ (found.0, found.2)
      | inr past ↦ absurd (omega (arith, past.0, length-trees_after [] steps))
    ]
