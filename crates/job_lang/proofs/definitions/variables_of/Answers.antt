-- Each variable is none of those before it, so it goes behind them.
use Rattle.std.proofs.Common.{◌≡◌, ◌+◌, false, List, [], cond, drop, map, Option, Some, is_some, sym, ap, ◌∙◌, subst}
use Rattle.std.specs.Prelude.{IfSome}
use Rattle.std.specs.List.{All}
use Rattle.std.specs.BTreeMap.{get}
use Rattle.std.specs.Ordering.{eq_by_cmp}
use Rattle.std.proofs.lemmas.List.Elements.{All-push}
use Rattle.fol.specs.declared.symbols.Var.{Var}
use Rattle.fol.specs.Order.{var_cmp}
use Rattle.fol.specs.Formed.{IsFormedVar}
use Rattle.free_variables.specs.Fresh.{is_among}
use Rattle.serde_json.specs.Find.{as_str}
use Rattle.line_values.specs.View.{view}
use Rattle.job_lang.specs.Definitions.{whole_of, variables_behind}
use Rattle.job_lang.proofs.Variables.{among_more, one_more}
use Rattle.job_lang.proofs.definitions.variables_of.Goals as goal

pub loop-index-preserved : goal.loop-index-preserved
loop-index-preserved c =
    let i = c.loop-index.index in
    let vs = c.loop-index.vars.items in
    let v = c.in-Some.var in
    let seen = c.loop-index.seen in
    let before = c.loop-index.invariant in
    let whole : whole_of (as_str (view c.index-values-index.result)) ≡ Some v = sym c.in_ok-var.ensures.value ∙ c.in-Some.is in
    let unseen : is_some (get var_cmp seen v) ≡ false =
    ap (λ (w : Var). is_some (get var_cmp seen w)) (sym c.in_ok-copy.ensures) ∙ (ap is_some (sym c.in_ok-insert.ensures.old) ∙ (sym c.is_some.ensures ∙ c.if-is_some.false)) in
    let formed : IsFormedVar v = subst (λ (o : Option Var). IfSome o IsFormedVar) c.in-Some.is c.in_ok-var.ensures.formed in
    subst (λ (ws : List Var). (variables_behind ws (i + 1) (map view (drop (i + 1) c.args.values.now)) ≡ variables_behind [] 0 (map view c.args.values.now))
    × (All IsFormedVar ws × ((w : Var) → is_some (get var_cmp c.insert.new.self w) ≡ is_among w ws))) (sym c.in_ok-push.ensures.items) (
      one_more view c.args.values.now i c.index-values-index.result vs c.loop-index-test.true c.index-values-index.is before.0 v whole (sym (before.1.1 v) ∙ unseen),
      (
        All-push IsFormedVar vs v before.1.0 formed,
        λ w. ap is_some (c.in_ok-insert.ensures.updates.0 w)
            ∙ (ap (λ (x : Var). is_some (cond (eq_by_cmp var_cmp x w) (Some _) (get var_cmp seen w))) c.in_ok-copy.ensures
            ∙ among_more v w vs (get var_cmp seen w) _ (before.1.1 w)),
      ),
    )
