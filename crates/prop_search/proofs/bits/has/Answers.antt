use Rattle.prop_search.proofs.BitSets.{tested_bit}
use Rattle.prop_search.proofs.bits.has.Goals as goal

pub returns : goal.returns
returns c = tested_bit c.args.words.now c.args.number
