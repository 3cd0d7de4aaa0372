-- Predicates by which clauses can be found again.
--     HasPredicate      it stands in a formula of a set
--     ArePartners      clauses that have one in common, where a full resolvent needs it
use Rattle.std.specs.Prelude.{◌≡◌, true}
use Rattle.std.specs.List.{list_any}
use Rattle.fol.specs.Syntax.{Pred}
use Rattle.finite.specs.Finite as set
use Rattle.free_variables.specs.Occurrence.{is_pred_in}
use Rattle.lk_rules.specs.declared.sequent.Sequent.{Sequent}
use Rattle.lk_rules.specs.Formulas.{FormulaSet}

-- the predicate symbol of some formula of the set
abbrev pub HasPredicate : Pred → FormulaSet → Type 0
HasPredicate p s = list_any (is_pred_in p) (set.listing s) ≡ true

-- a predicate stands on the right of c and on the left of d
pub record ArePartners (c d : Sequent) : Type 0 where
  pub predicate : Pred
  pub on_right : HasPredicate predicate c.right
  pub on_left : HasPredicate predicate d.left
