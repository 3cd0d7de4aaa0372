-- What is known stays known in a larger arena.
use Rattle.arena_flat.proofs.Growth.{flat_stays, on_ok}
use Rattle.arena_flat.proofs.trees.flatten_over.Goals as goal

pub returns-clause-flattened : goal.returns-clause-flattened
returns-clause-flattened c =
    on_ok c.inference.result (flat_stays c.args.from.now c.flatten_rule.new.to c.inference.new.arena c.flatten_rule.new.flattened c.inference.ensures.grown c.in_ok-rule.ensures.flattened)
