-- What is known stays known in a larger arena.
use Rattle.arena_flat.proofs.Growth.{flat_stays, on_ok}
use Rattle.arena_flat.proofs.sequents.flatten_sequent.Goals as goal

pub returns-clause-flattened : goal.returns-clause-flattened
returns-clause-flattened c =
    on_ok c.put_sequent.result (flat_stays c.args.from.now c.flatten_side-2.new.to c.put_sequent.new.self c.flatten_side-2.new.flattened c.put_sequent.ensures.grown c.in_ok-right.ensures.flattened)
