use Rattle.std.proofs.Common.{inr, sym, subst, rules}
use Rattle.std.proofs.lemmas.Result.{on_ok_weaker}
use Rattle.memo_table.specs.Pairs.{IsIn, IsAbsent}
use Rattle.memo_table.proofs.Finds.{in_pushed}
use Rattle.memo_table.proofs.rows.Rows.note.Goals as goal

pub returns-clause-stands : goal.returns-clause-stands
returns-clause-stands g c =
    on_ok_weaker c.put.result
    (λ e. subst (λ ps. IsIn g.L.Key.Ord.cmp ps c.args.key) (sym e) (in_pushed g.L.Key.Ord.cmp g.met.L.Key.Ord.total c.args.self.now.pairs c.args.key c.args.val))
    c.put.ensures.ok

pub returns-clause-adds : goal.returns-clause-adds
returns-clause-adds g c =
    let away : IsAbsent g.L.Key.Ord.cmp c.args.self.now.pairs c.args.key = search rules in
    on_ok_weaker c.put.result (λ e. inr (away, e)) c.put.ensures.ok
