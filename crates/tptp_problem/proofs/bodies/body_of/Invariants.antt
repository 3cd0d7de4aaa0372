use Rattle.std.proofs.Common.{◌≡◌, ◌≤◌, length}
use Rattle.tptp_problem.specs.BodyReader.{body_meaning, body_from}
use Rattle.tptp_problem.proofs.bodies.body_of.Given as goal

-- the rest of the body from here gives what the whole body gives
abbrev pub invariant-loop-body : goal.invariant-loop-body
invariant-loop-body l = (body_from (body_meaning l.body) l.rest ≡ body_from (body_meaning l.initial.body) l.bytes) × (length l.rest ≤ length l.bytes)

abbrev pub decreases-loop-body : goal.decreases-loop-body
decreases-loop-body l = length l.rest
