-- The pass has seen the pairs of the value in which the key was looked up.
use Rattle.std.proofs.Common.{◌≡◌, subst, rules, IfOk, IsNone, IsSome}
use Rattle.turn_log.specs.Passes.{seen}
use Rattle.memo_table.specs.Pairs.{IsIn, IsAbsent}
use Rattle.memo_table.proofs.memo.MemoOf+TurnLog+Rows+L.find.Goals as goal

pub returns-clause-stands : goal.returns-clause-stands
returns-clause-stands g c =
    let same : c.value-2.result.now.pairs ≡ seen c.give.new.pass = search rules in
    subst (λ ps. IfOk c.find-found.result (λ o. IsSome o → IsIn g.L.Key.Ord.cmp ps c.args.key.now)) same c.find-found.ensures.stands

pub returns-clause-none : goal.returns-clause-none
returns-clause-none g c =
    let same : c.value-2.result.now.pairs ≡ seen c.give.new.pass = search rules in
    subst (λ ps. IfOk c.find-found.result (λ o. IsNone o → IsAbsent g.L.Key.Ord.cmp ps c.args.key.now)) same c.find-found.ensures.none
