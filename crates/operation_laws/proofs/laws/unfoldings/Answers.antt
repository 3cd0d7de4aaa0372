-- The laws of unfolded trees.
use Rattle.operation_laws.proofs.laws.unfoldings.Goals as goal

pub returns : goal.returns
returns c t valid end rules =
    let laws = c.unfolded_trees.ensures in
    record {
      right = record { valid = (laws.valid t valid end).1 rules; ends = laws.end t };
      cuts = laws.cuts t;
      quants = laws.quants t;
      primitive = laws.none_left t;
    }
