-- What is known stays known in a larger arena.
use Rattle.arena_flat.proofs.Growth.{flat_stays, on_ok}
use Rattle.arena_flat.proofs.rules.copy_witness.Goals as goal

pub returns-in-AllR-clause-flattened : goal.returns-in-AllR-clause-flattened
returns-in-AllR-clause-flattened c =
    on_ok c.copy_variable.result (flat_stays c.args.from.now c.args.to.now c.copy_variable.new.to c.args.flattened.now c.copy_variable.ensures.grown c.requires.flattened)
