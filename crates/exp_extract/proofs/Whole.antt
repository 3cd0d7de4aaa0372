-- The trees of both sides are the expansion of the proof.
use Rattle.std.proofs.Common.{◌≡◌, ℕ, List, [], ◌∷◌, map, refl, sym, ap, ◌∙◌, subst}
use Rattle.std.proofs.lemmas.Simd.{map-map}
use Rattle.fol.specs.Syntax.{Formula}
use Rattle.fol.specs.Order.{formula_cmp}
use Rattle.finite.specs.Finite as set
use Rattle.finite.proofs.Finite.{listing_rises}
use Rattle.lk_rules.specs.Formulas.{FormulaSet}
use Rattle.lk_rules.specs.declared.sequent.Side.{Side}
use Rattle.lk_rules.specs.declared.sequent.Sequent.{Sequent}
use Rattle.proof_trees.specs.Trees.{Tree}
use Rattle.expansion_laws.specs.Dependency.{Expansion}
use Rattle.expansion_laws.specs.Proofs.{shallow_sequent, IsExpansionProof}
use Rattle.extraction_laws.specs.Addresses.{root, formula_at}
use Rattle.extraction_laws.specs.States.{tree_at}
use Rattle.extraction_laws.specs.Extraction.{vars_in, marks_of}
use Rattle.exp_extract.specs.Marked.{Marked, address_at}
use Rattle.exp_extract.specs.Reading.{tree_of}

pub side_is : (m : Marked) (t : Tree) (side : Side) (ns : List ℕ) (fs : List Formula) → m.state ≡ marks_of t → m.outside ≡ vars_in t → map (address_at m) ns ≡ map (root side) fs
    → map (λ n. tree_of m (address_at m n)) ns ≡ map (λ f. tree_at (vars_in t) (marks_of t) (root side f)) fs
side_is m t side ns fs state outside addresses =
    sym (map-map (tree_of m) (address_at m) ns) ∙ ap (map (tree_of m)) addresses ∙ map-map (tree_of m) (root side) fs ∙ (λ i. map (λ f. tree_at (outside i) (state i) (root side f)) fs)

-- and the formulas of a side rise

root_formulas : (side : Side) (fs : List Formula) → map formula_at (map (root side) fs) ≡ fs
root_formulas side [] = refl
root_formulas side (f ∷ fs) = ap (λ gs. f ∷ gs) (root_formulas side fs)

pub side_rises : (m : Marked) (side : Side) (ns ks : List ℕ) (s : FormulaSet) → ks ≡ ns → map (address_at m) ns ≡ map (root side) (set.listing s) → set.IsRising formula_cmp (map (λ n. formula_at (address_at m n)) ks)
side_rises m side ns ks s same addresses =
    let formulas : map (λ n. formula_at (address_at m n)) ks ≡ set.listing s =
    ap (map (λ n. formula_at (address_at m n))) same ∙ sym (map-map formula_at (address_at m) ns) ∙ ap (map formula_at) addresses ∙ root_formulas side (set.listing s) in
    subst (set.IsRising formula_cmp) (sym formulas) (listing_rises s)

-- trees that prove a sequent prove that of their formulas
pub own_sequent : (x : Expansion) (s : Sequent) → IsExpansionProof x s → IsExpansionProof x (shallow_sequent x)
own_sequent x s h = subst (λ (r : Sequent). IsExpansionProof x r) (sym h.formulas) h
