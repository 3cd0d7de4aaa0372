use Rattle.std.proofs.Common.{◌≡◌, ◌+◌, false, drop}
use Rattle.tptp_problem.proofs.annotations.quoted_piece.Given as goal
use Rattle.tptp_problem.specs.Pieces.{in_quotes}

-- what is left of the quotes says what all of them say
abbrev pub invariant-loop-passed : goal.invariant-loop-passed
invariant-loop-passed l = in_quotes l.quote l.escaping (l.passed + 1) (drop l.passed l.rest) ≡ in_quotes l.quote false 1 l.rest
