-- Which variables and predicate symbols stand in what a rule names, which predicate symbols in a sequent, and whether one there has a body.
use Rattle.std.specs.Prelude.{◌≡◌, Bool, false, ◌||◌, Option, Some, None}
use Rattle.std.specs.List.{list_any}
use Rattle.std.specs.Ordering.{eq_by_cmp}
use Rattle.fol.specs.Syntax.{Pred}
use Rattle.fol.specs.declared.symbols.Var.{Var}
use Rattle.fol.specs.Order.{var_cmp}
use Rattle.fol.specs.Facts.{has_body}
use Rattle.finite.specs.Finite as set
use Rattle.free_variables.specs.Occurrence.{is_free_in, is_free_in_term, is_pred_in}
use Rattle.lk_rules.specs.declared.sequent.Sequent.{Sequent}
use Rattle.lk_rules.specs.declared.rule.Rule.{Rule}
use Rattle.lk_rules.specs.RuleOrder.{formula_of, term_of, variable_of}
use Rattle.lk_rules.specs.Rules.{is_unfolding_rule}

-- whether there is a value, and it passes the test
abbrev pub passes : {X : Type 0} → (X → Bool) → Option X → Bool
passes p None = false
passes p (Some x) = p x

-- whether v stands in the term or is the eigenvariable of the rule
abbrev pub is_chosen : Var → Rule → Bool
is_chosen v r = passes (is_free_in_term v) (term_of r) || passes (eq_by_cmp var_cmp v) (variable_of r)

-- whether v is free in what the rule names: its formula, and its term or eigenvariable
abbrev pub is_free_in_rule : Var → Rule → Bool
is_free_in_rule v r = passes (is_free_in v) (formula_of r) || is_chosen v r

-- whether s is a predicate symbol of the rule's formula
abbrev pub is_pred_in_rule : Pred → Rule → Bool
is_pred_in_rule s r = passes (is_pred_in s) (formula_of r)

-- whether s is a predicate symbol of a formula of a sequent
abbrev pub is_pred_in_sequent : Pred → Sequent → Bool
is_pred_in_sequent s e = list_any (is_pred_in s) (set.listing e.left) || list_any (is_pred_in s) (set.listing e.right)

-- whether the predicate symbol of some atom of a sequent has a body
abbrev pub has_body_in_sequent : Sequent → Bool
has_body_in_sequent e = list_any has_body (set.listing e.left) || list_any has_body (set.listing e.right)

-- the rule unfolds nothing, and the conclusion has no predicate symbol with a body
pub record IsPlainNode (r : Rule) (s : Sequent) : Type 0 where
  pub rule : is_unfolding_rule r ≡ false
  pub conclusion : has_body_in_sequent s ≡ false
