use Rattle.std.proofs.Common.{length, sym, ◌∙◌}
use Rattle.tptp_problem.proofs.TokenLaws.{some_number}
use Rattle.tptp_problem.proofs.EntryReading.{entries_none, entry_more}
use Rattle.tptp_problem.proofs.reader.read_entries.Goals as goal

pub loop-pool-init : goal.loop-pool-init
loop-pool-init c = entries_none c.args.text.now c.new-entries.result.items c.new-names.result c.new-entries.ensures.items c.new-names.ensures.empty

pub loop-pool-preserved : goal.loop-pool-preserved
loop-pool-preserved c =
    entry_more c.args.text.now c.loop-pool.rest.now c.in_ok-front.front.now c.loop-pool.names c.loop-pool.conjectures c.loop-pool.entries.items c.loop-pool.invariant c.in_ok-front.ensures.front
    c.in_ok-entry.behind.now c.read_entry.new.names c.count_entry.new.conjectures c.push.new.self.items c.in_ok-entry.entry
    (some_number (length c.in_ok-front.front.now) (sym c.is_empty.ensures ∙ c.if-is_empty.false)) c.in_ok-entry.ensures.value c.in_ok-entry.ensures.named c.in_ok-count_entry.ensures c.in_ok-push.ensures.items
