-- Formulas in which predicate symbols get their definitions.
--     is_like, first_like      symbols with one name and one number of arguments
--     marked      a formula, a sequent, a rule and a step in which symbols without a body are those of a list
use Rattle.std.specs.Prelude.{ℕ, suc, Bool, if◌then◌else◌, List, [], ◌∷◌, map, find, Option, Some, None, option_map, unwrap_or}
use Rattle.std.specs.List.{list_any}
use Rattle.std.specs.Ordering.{eq_by_cmp}
use Rattle.fol.specs.Syntax.{Pred, pred, pred_symbol, undefined, defined, Formula, atom, top, bot, not, and, or, imp, all, ex}
use Rattle.fol.specs.Order.{sym_cmp}
use Rattle.finite.specs.Finite as set
use Rattle.lk_rules.specs.declared.sequent.Sequent.{Sequent}
use Rattle.lk_rules.specs.declared.rule.Rule.{Rule}
use Rattle.lk_rules.specs.declared.rule.Step.{Step}
use Rattle.lk_rules.specs.RuleOrder.{map_rule}
use Rattle.lk_rules.specs.Formulas.{FormulaSet}

-- whether two symbols have one name and one number of arguments
abbrev pub is_like : Pred → Pred → Bool
is_like p q = eq_by_cmp sym_cmp (pred_symbol p) (pred_symbol q)

-- the first place of a list at which a symbol is like an earlier one, or like one of those seen before the list
abbrev pub first_like : List Pred → List Pred → Option ℕ
first_like seen [] = None
first_like seen (p ∷ ps) = if list_any (is_like p) seen then Some 0 else option_map suc (first_like (p ∷ seen) ps)

-- the symbol: without a body the first one of a list that is like it, where there is one
abbrev pub marked_pred : List Pred → Pred → Pred
marked_pred ds (pred s undefined) = unwrap_or (find (is_like (pred s undefined)) ds) (pred s undefined)
marked_pred ds (pred s (defined f)) = pred s (defined f)

abbrev pub marked : List Pred → Formula → Formula
marked ds (atom p ts) = atom (marked_pred ds p) ts
marked ds top = top
marked ds bot = bot
marked ds (not f) = not (marked ds f)
marked ds (and f g) = and (marked ds f) (marked ds g)
marked ds (or f g) = or (marked ds f) (marked ds g)
marked ds (imp f g) = imp (marked ds f) (marked ds g)
marked ds (all f) = all (marked ds f)
marked ds (ex f) = ex (marked ds f)

abbrev pub marked_set : List Pred → FormulaSet → FormulaSet
marked_set ds s = set.of_list (map (marked ds) (set.listing s))

abbrev pub marked_sequent : List Pred → Sequent → Sequent
marked_sequent ds s = record { left = marked_set ds s.left; right = marked_set ds s.right }

abbrev pub marked_rule : List Pred → Rule → Rule
marked_rule ds r = map_rule (marked ds) (λ t. t) (λ y. y) r

abbrev pub marked_step : List Pred → Step → Step
marked_step ds s = record s { rule = marked_rule ds s.rule; end = marked_sequent ds s.end }
