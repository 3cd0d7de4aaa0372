-- The number of open levels.
use Rattle.std.proofs.Common.{◌≡◌, ◌+◌, List, [], ◌∷◌, length, arith}
use Rattle.tptp_read.specs.declared.state.Call.{Call}
use Rattle.tptp_read.specs.declared.state.Frame.{Frame}
use Rattle.tptp_read.specs.Machine.{depth}

pub depth_is : (cs : List Call) (k : List Frame) → depth cs k ≡ length cs + length k
depth_is [] k = omega arith
depth_is (c ∷ cs) k = omega (arith, depth_is cs k)
