-- Whether a formula stands on a side, where nothing stands for it.
use Rattle.std.proofs.Common.{◌≡◌, ℕ, List, [], ◌∷◌, true, false, ◌||◌, map, refl, sym, ap, subst, ◌∙◌}
use Rattle.std.specs.List.{All, list_any}
use Rattle.std.specs.Ordering.{eq_by_cmp}
use Rattle.std.proofs.lemmas.List.Elements.{All-head, All-tail}
use Rattle.fol.specs.Syntax.{Formula}
use Rattle.fol.specs.Order.{formula_cmp}
use Rattle.fol.specs.OrderLaws.{formula_total}
use Rattle.fol.proofs.OrderTies.{formula_ties}
use Rattle.finite.specs.Finite as set
use Rattle.lk_rules.specs.Formulas.{FormulaSet}
use Rattle.arena_cells.specs.Items.{Item}
use Rattle.arena_cells.specs.Standing.{HasFormula, formula_at, IsFormulaAt}
use Rattle.arena_cells.specs.Meaning.{formulas_of}
use Rattle.arena_cells.proofs.Sets.{has-set_of}
use Rattle.proof_trees.proofs.Passing.{same_here}

module _ (a : List Item) (f : Formula) (absent : (n : ℕ) → ¬ HasFormula a n f) where
  among_none : (ns : List ℕ) → All (IsFormulaAt a) ns → list_any (eq_by_cmp formula_cmp f) (map (formula_at a) ns) ≡ false
  among_none [] h = refl
  among_none (n ∷ ns) h =
      elim (eq_by_cmp formula_cmp f (formula_at a n)) as (λ b. eq_by_cmp formula_cmp f (formula_at a n) ≡ b → (b || list_any (eq_by_cmp formula_cmp f) (map (formula_at a) ns)) ≡ false) [
        | true ↦ λ e. absurd (absent n (subst (λ (g : Formula). HasFormula a n g) (sym (same_here formula_total formula_ties f (formula_at a n) e)) (All-head (IsFormulaAt a) n ns h)))
        | false ↦ λ e. among_none ns (All-tail (IsFormulaAt a) n ns h)
      ] refl

  pub has_none : (s : FormulaSet) (ns : List ℕ) → s ≡ formulas_of a ns → All (IsFormulaAt a) ns → false ≡ set.has s f
  has_none s ns shown h = sym (ap (λ t. set.has t f) shown ∙ has-set_of formula_total (formula_at a) ns f ∙ among_none ns h)
