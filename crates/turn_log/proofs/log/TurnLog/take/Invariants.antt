use Rattle.std.proofs.Common.{◌≡◌, false}
use Rattle.turn_log.specs.Passes.{IsOf, seen, is_out}
use Rattle.turn_log.proofs.log.TurnLog.take.Given as goal

abbrev pub invariant-loop : goal.invariant-loop
invariant-loop g l = IsOf l.self l.pass × (is_out l.pass ≡ false) × (seen l.pass ≡ seen l.initial.pass)
