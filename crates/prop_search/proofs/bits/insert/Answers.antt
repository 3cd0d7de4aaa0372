use Rattle.std.proofs.Common.{arith}
use Rattle.prop_search.proofs.BitSets.{inserted}
use Rattle.prop_search.proofs.bits.insert.Goals as goal

pub returns : goal.returns
returns c = inserted c.args.words.now c.args.number (omega arith)
