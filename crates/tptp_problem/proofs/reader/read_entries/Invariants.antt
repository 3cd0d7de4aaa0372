use Rattle.std.proofs.Common.{length}
use Rattle.tptp_problem.proofs.EntryReading.{Known}
use Rattle.tptp_problem.proofs.reader.read_entries.Given as goal

-- the entries are at the front of the text, and their names and the number of conjectures are known
abbrev pub invariant-loop-pool : goal.invariant-loop-pool
invariant-loop-pool l = Known l.text l.rest l.names l.conjectures l.entries.items

abbrev pub decreases-loop-pool : goal.decreases-loop-pool
decreases-loop-pool l = length l.rest
