-- A symbol that is seen already is the first one of its kind, and one that isn't is passed.
use Rattle.std.proofs.Common.{◌≡◌, true, false, cond, sym, ap, ◌∙◌, arith}
use Rattle.std.specs.BTreeSet.{contains}
use Rattle.std.specs.Ordering.{eq_by_cmp}
use Rattle.fol.specs.Order.{sym_cmp}
use Rattle.fol.specs.Syntax.{pred_symbol}
use Rattle.def_symbols.proofs.DefinitionLists.{found_here, passed_more}
use Rattle.def_symbols.proofs.twice.first_twice.Goals as goal

pub returns-then-contains : goal.returns-then-contains
returns-then-contains c =
    let seen : contains sym_cmp c.loop-place.seen (pred_symbol c.index-definitions-place.result) ≡ true =
    ap (contains sym_cmp c.loop-place.seen) (sym (ap pred_symbol c.definition.view_is)) ∙ sym c.contains.ensures ∙ c.if-contains.true in
    sym (found_here (λ s. contains sym_cmp c.loop-place.seen s) c.args.definitions.now c.loop-place.place c.index-definitions-place.result c.loop-place.invariant (omega arith) c.index-definitions-place.is seen)

pub loop-place-preserved : goal.loop-place-preserved
loop-place-preserved c =
    let seen : contains sym_cmp c.loop-place.seen (pred_symbol c.index-definitions-place.result) ≡ false =
    ap (contains sym_cmp c.loop-place.seen) (sym (ap pred_symbol c.definition.view_is)) ∙ sym c.contains.ensures ∙ c.if-contains.false in
    passed_more (λ s. contains sym_cmp c.loop-place.seen s) (λ s. contains sym_cmp c.insert.new.self s) c.args.definitions.now c.loop-place.place c.index-definitions-place.result
    c.loop-place.invariant (omega arith) c.index-definitions-place.is seen
    (λ s. c.in_ok-insert.ensures.updates.0 s ∙ ap (λ k. cond (eq_by_cmp sym_cmp k s) true (contains sym_cmp c.loop-place.seen s)) (c.in_ok-copy.ensures ∙ ap pred_symbol c.definition.view_is))
