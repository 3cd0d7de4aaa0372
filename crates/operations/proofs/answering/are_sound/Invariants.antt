-- The values so far are sound.
use Rattle.std.proofs.Common.{take}
use Rattle.std.specs.Prelude.{IfSome}
use Rattle.std.specs.List.{All}
use Rattle.operation_laws.specs.Values.{IsSound}
use Rattle.held_values.specs.Means.{sense}
use Rattle.operations.proofs.answering.are_sound.Given as goal

abbrev pub invariant-loop-held : goal.invariant-loop-held
invariant-loop-held l = All (λ h. IfSome (sense h) IsSound) (take l.held-index l.given)
