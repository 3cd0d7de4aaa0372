use Rattle.std.proofs.Common.{arith}
use Rattle.prop_search.proofs.BitSets.{removed}
use Rattle.prop_search.proofs.bits.remove.Goals as goal

pub returns : goal.returns
returns c = removed c.args.words.now c.args.number (omega arith)
