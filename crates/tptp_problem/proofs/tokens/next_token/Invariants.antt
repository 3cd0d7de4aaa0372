use Rattle.std.proofs.Common.{◌≡◌, ◌≤◌, length}
use Rattle.tptp_problem.specs.Readers.{passed}
use Rattle.tptp_problem.proofs.tokens.next_token.Given as goal

-- the next token stays the same
abbrev pub invariant-loop-length : goal.invariant-loop-length
invariant-loop-length l = (passed 0 l.rest ≡ passed 0 l.bytes) × (length l.rest ≤ length l.bytes)

abbrev pub decreases-loop-length : goal.decreases-loop-length
decreases-loop-length l = length l.rest
