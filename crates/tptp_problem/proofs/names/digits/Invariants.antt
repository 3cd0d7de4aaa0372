use Rattle.std.proofs.Common.{◌≡◌, ◌+◌, drop}
use Rattle.tptp_problem.proofs.names.digits.Given as goal
use Rattle.tptp_problem.specs.Words.{digits}

-- the bytes that are passed are digits
abbrev pub invariant-loop-byte : goal.invariant-loop-byte
invariant-loop-byte l = (l.count ≡ l.byte-index) × (l.count + digits (drop l.byte-index l.bytes) ≡ digits l.bytes)
