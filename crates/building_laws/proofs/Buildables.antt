-- Lists whose trees are an expansion proof: each has a step, and a proof is built for it.
use Rattle.std.proofs.Common.{◌≡◌, ℕ, List, [], ◌∷◌, Some, None, refl, sym, ap, subst, ◌∙◌}
use Rattle.std.specs.List.{All, AllByRecursion}
use Rattle.std.proofs.lemmas.List.Elements.{All-from_recursion}
use Rattle.fol.specs.declared.symbols.Var.{Var}
use Rattle.lk_rules.specs.declared.sequent.Sequent.{Sequent}
use Rattle.proof_trees.specs.Trees.{Tree, concl, IsValid, IsCutFree}
use Rattle.expansion_laws.specs.Dependency.{Expansion}
use Rattle.expansion_laws.specs.Proofs.{shallow_sequent, IsExpansionProof}
use Rattle.building_laws.specs.Lists.{Placed, sides, start, conclusion}
use Rattle.building_laws.specs.Building.{Step, step_at, build}
use Rattle.building_laws.specs.Buildable.{IsFormedExpansion, IsBuildable}
use Rattle.building_laws.proofs.Built.{Proves, IsBuilt, built}
use Rattle.building_laws.proofs.ExpansionProofs.{provable_of_proof, buildable_of_provable}
use Rattle.building_laws.proofs.Invariant.{IsProvable, step_kept}
use Rattle.building_laws.proofs.Sides.{sides-start}
use Rattle.building_laws.proofs.Stuck.{never_stuck}

implied : {X : Type 0} (P Q : X → Type 0) (xs : List X) → ((x : X) → P x → Q x) → AllByRecursion P xs → AllByRecursion Q xs
implied P Q [] f h = tt
implied P Q (x ∷ xs) f h = (f x h.0, implied P Q xs f h.1)

-- lists that can be built

provable : (l : List Placed) → IsBuildable l → (rank : Var → ℕ) × IsProvable rank l
provable l h = (_, provable_of_proof l h.proof h.formed)

pub first_buildable : (x : Expansion) (s : Sequent) → IsExpansionProof x s → IsFormedExpansion x s → IsBuildable (start x)
first_buildable x s h g = record { proof = proof_of (sides (start x)) (sym (sides-start x)); formed = formed_of (sides (start x)) (sym (sides-start x)) }
  where
    proof_of : (y : Expansion) → x ≡ y → IsExpansionProof y (shallow_sequent y)
    proof_of y e = subst (λ z. IsExpansionProof z (shallow_sequent z)) e (subst (IsExpansionProof x) (sym h.formulas) h)

    formed_of : (y : Expansion) → x ≡ y → IsFormedExpansion y (shallow_sequent y)
    formed_of y e = subst (λ z. IsFormedExpansion z (shallow_sequent z)) e (subst (IsFormedExpansion x) (sym h.formulas) g)

pub first_conclusion : (x : Expansion) (s : Sequent) → IsExpansionProof x s → conclusion (start x) ≡ s
first_conclusion x s h = ap shallow_sequent (sides-start x) ∙ h.formulas

pub has_step : (l : List Placed) → IsBuildable l → (t : Step) × (step_at l ≡ Some t)
has_step l h =
    elim (step_at l) as (λ o. step_at l ≡ o → (t : Step) × (step_at l ≡ Some t)) [
      | None ↦ λ e. let k = provable l h in absurd (never_stuck k.0 l k.1 e)
      | Some t ↦ λ e. (t, e)
    ] refl

pub premises_buildable : (l : List Placed) (t : Step) → IsBuildable l → step_at l ≡ Some t → All IsBuildable t.premises
premises_buildable l t h e =
    let k = provable l h in
    All-from_recursion IsBuildable t.premises (implied (IsProvable k.0) IsBuildable t.premises (λ m. buildable_of_provable m k.0) (step_kept k.0 l k.1 t e).premises)

built_as : (l : List Placed) → IsBuildable l → IsBuilt l (build l)
built_as l h = let k = provable l h in built k.0 l k.1

pub is_built : (l : List Placed) → IsBuildable l → (t : Tree) × (build l ≡ Some t) × (concl t ≡ conclusion l) × IsValid t × IsCutFree t
is_built l h =
    elim (build l) as (λ o. build l ≡ o → IsBuilt l o → (t : Tree) × (build l ≡ Some t) × (concl t ≡ conclusion l) × IsValid t × IsCutFree t) [
      | None ↦ λ _ k. absurd k
      | Some t ↦ λ e k. (t, e, k.end, k.valid, k.without_cuts)
    ] refl (built_as l h)

-- what is built for an expansion proof
pub proves : (x : Expansion) (s : Sequent) (t : Tree) → IsExpansionProof x s → IsFormedExpansion x s → build (start x) ≡ Some t → Proves (start x) t
proves x s t h g e = subst (IsBuilt (start x)) e (built_as (start x) (first_buildable x s h g))
