use Rattle.std.proofs.Common.{◌≡◌, subst, rules}
use Rattle.std.proofs.lemmas.Result.{on_ok_weaker}
use Rattle.turn_log.specs.Passes.{seen}
use Rattle.memo_table.specs.Pairs.{IsIn}
use Rattle.memo_table.proofs.Listed.{adds_at_turn}
use Rattle.memo_table.proofs.memo.MemoOf+TurnLog+Rows+L.note.Goals as goal

pub returns-clause-stands : goal.returns-clause-stands
returns-clause-stands g c =
    let same : c.note-noted.new.self.pairs ≡ seen c.give.new.pass = search rules in
    on_ok_weaker c.note-noted.result (λ at. subst (λ ps. IsIn g.L.Key.Ord.cmp ps c.args.key) same at) c.note-noted.ensures.stands

pub returns-clause-adds : goal.returns-clause-adds
returns-clause-adds g c =
    adds_at_turn g.L.Key.Ord.cmp _ (seen c.take-turn.new.pass) c.value_mut.result.now.pairs c.note-noted.new.self.pairs _ c.args.key c.args.val c.note-noted.result
    c.take-turn.ensures.grown (search rules) (search rules) c.note-noted.ensures.adds
