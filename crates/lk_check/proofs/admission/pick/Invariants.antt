-- The references so far are picked.
use Rattle.std.proofs.Common.{◌≡◌, take}
use Rattle.std.specs.Prelude.{slice_get}
use Rattle.std.specs.List.{filter_map}
use Rattle.lk_check.proofs.admission.pick.Given as goal

abbrev pub invariant-loop-premise : goal.invariant-loop-premise
invariant-loop-premise l = l.picked.items ≡ filter_map (slice_get l.proofs) (take l.premise-index l.premises)
