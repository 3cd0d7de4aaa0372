use Rattle.std.proofs.Common.{◌≡◌, ◌∷◌, ◌++◌, take}
use Rattle.std.specs.List.{flat_map}
use Rattle.tptp_print.specs.Canonical.{escaped}
use Rattle.tptp_print.proofs.names.push_quoted.Given as goal

abbrev pub invariant-loop-byte : goal.invariant-loop-byte
invariant-loop-byte l = l.out.items ≡ l.fn.out.items ++ (39 ∷ flat_map escaped (take l.byte-index l.name))
