-- An inference stays right with a larger conclusion, and with smaller premises.
use Rattle.std.proofs.Common.{◌≡◌, ℕ, true, false, List, Option, Some, None, IfSome, sym, ◌∙◌}
use Rattle.std.specs.List.{All}
use Rattle.fol.specs.Syntax.{Formula}
use Rattle.fol.specs.OrderLaws.{formula_total}
use Rattle.finite.specs.Finite as set
use Rattle.finite.proofs.Finite.{has-adds_each}
use Rattle.lk_rules.specs.declared.sequent.Sequent.{Sequent}
use Rattle.lk_rules.specs.declared.sequent.Side.{Side}
use Rattle.lk_rules.specs.declared.sequent.Side.TheVariants.{Left, Right}
use Rattle.lk_rules.specs.declared.rule.Rule.{Rule}
use Rattle.lk_rules.specs.Formulas.{FormulaSet}
use Rattle.lk_rules.specs.Sequents.{side_of, IsSubsequent}
use Rattle.lk_rules.specs.Rules.{main, aux, eigen_free, IsWithin, Row}
use Rattle.proof_trees.specs.Trees.{IsSmaller}
use Rattle.proof_trees.proofs.Booleans.{or_more}

larger_with : (s t : FormulaSet) (fs : List Formula) → set.IsSubset s t → set.IsSubset (set.adds_each s fs) (set.adds_each t fs)
larger_with s t fs h f e =
    has-adds_each formula_total t fs f ∙ or_more _ _ _ _ (h f) (λ x. x) (sym (has-adds_each formula_total s fs f) ∙ e)

within_larger : (r : Rule) (s t : Sequent) (i : ℕ) (premise : Option Sequent) → IsSubsequent s t → IfSome premise (IsWithin r s i) → IfSome premise (IsWithin r t i)
within_larger r s t i None h w = tt
within_larger r s t i (Some p) h w = record {
  left = λ f e. larger_with s.left t.left (aux r i Left) h.left f (w.left f e);
  right = λ f e. larger_with s.right t.right (aux r i Right) h.right f (w.right f e);
}

main_larger : (r : Rule) (s t : Sequent) → IsSubsequent s t → ((side : Side) → All (λ f. set.has (side_of s side) f ≡ true) (main r side))
    → (side : Side) → All (λ f. set.has (side_of t side) f ≡ true) (main r side)
main_larger r s t h stands Left k d l = h.left _ (stands Left k d l)
main_larger r s t h stands Right k d l = h.right _ (stands Right k d l)

pub row_larger : (r : Rule) (s t : Sequent) (n : ℕ) (first second : Option Sequent) → Row r s n first second → IsSubsequent s t → eigen_free r t ≡ false → Row r t n first second
row_larger r s t n first second row h eigen = record {
  premises = row.premises;
  shape = row.shape;
  main_formula = main_larger r s t h row.main_formula;
  eigenvariable = eigen;
  first_premise = within_larger r s t 0 first h row.first_premise;
  second_premise = within_larger r s t 1 second h row.second_premise;
}

within_smaller : (r : Rule) (s : Sequent) (i : ℕ) (new old : Option Sequent) → IsSmaller new old → IfSome old (IsWithin r s i) → IfSome new (IsWithin r s i)
within_smaller r s i None None h w = tt
within_smaller r s i None (Some y) h w = tt
within_smaller r s i (Some x) None h w = elim h [ ]
within_smaller r s i (Some x) (Some y) h w = record { left = λ f e. w.left f (h.left f e); right = λ f e. w.right f (h.right f e) }

pub row_smaller : (r : Rule) (s : Sequent) (n : ℕ) (first second new_first new_second : Option Sequent) → Row r s n first second → IsSmaller new_first first → IsSmaller new_second second → Row r s n new_first new_second
row_smaller r s n first second new_first new_second row h g = record {
  premises = row.premises;
  shape = row.shape;
  main_formula = row.main_formula;
  eigenvariable = row.eigenvariable;
  first_premise = within_smaller r s 0 new_first first h row.first_premise;
  second_premise = within_smaller r s 1 new_second second g row.second_premise;
}
