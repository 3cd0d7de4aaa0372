-- One definition more is found first.
use Rattle.std.proofs.Common.{◌≡◌, suc, ◌-◌, ◌<◌, cond, length, Some, ap, ◌∙◌, arith}
use Rattle.std.specs.BTreeMap.{get}
use Rattle.std.specs.Ordering.{eq_by_cmp}
use Rattle.fol.specs.Order.{sym_cmp}
use Rattle.fol.specs.Syntax.{pred_symbol}
use Rattle.def_symbols.proofs.DefinitionLists.{table_more}
use Rattle.def_symbols.proofs.table.table_of.Goals as goal

pub loop-at-preserved-in_ok-insert : goal.loop-at-preserved-in_ok-insert
loop-at-preserved-in_ok-insert c =
    let level : suc (c.loop-at.at - 1) ≡ c.loop-at.at = omega arith in
    let below : c.loop-at.at - 1 < length c.args.list.now = omega arith in
    table_more (get sym_cmp c.loop-at.table) (get sym_cmp c.insert.new.self) c.args.list.now (c.loop-at.at - 1) c.loop-at.at c.index-list-at.result level below c.index-list-at.is c.loop-at.invariant
    (λ s. c.in_ok-insert.ensures.updates.0 s
    ∙ (λ i. cond (eq_by_cmp sym_cmp ((c.in_ok-copy.ensures ∙ ap pred_symbol c.definition.view_is) i) s) (Some (c.in_ok-copy-2.ensures i)) (get sym_cmp c.loop-at.table s)))

pub loop-at-preserved : goal.loop-at-preserved
loop-at-preserved c =
    let level : suc (c.loop-at.at - 1) ≡ c.loop-at.at = omega arith in
    let below : c.loop-at.at - 1 < length c.args.list.now = omega arith in
    table_more (get sym_cmp c.loop-at.table) (get sym_cmp c.insert.new.self) c.args.list.now (c.loop-at.at - 1) c.loop-at.at c.index-list-at.result level below c.index-list-at.is c.loop-at.invariant
    (λ s. c.in_ok-insert.ensures.updates.0 s
    ∙ (λ i. cond (eq_by_cmp sym_cmp ((c.in_ok-copy.ensures ∙ ap pred_symbol c.definition.view_is) i) s) (Some (c.in_ok-copy-2.ensures i)) (get sym_cmp c.loop-at.table s)))
