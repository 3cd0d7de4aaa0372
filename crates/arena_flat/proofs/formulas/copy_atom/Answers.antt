-- What is known stays known in a larger arena.
use Rattle.arena_flat.proofs.Growth.{flat_stays, on_ok}
use Rattle.arena_flat.proofs.formulas.copy_atom.Goals as goal

pub returns-clause-flattened : goal.returns-clause-flattened
returns-clause-flattened c =
    on_ok c.put.result (flat_stays c.args.from.now c.copy_terms.new.to c.put.new.self c.copy_terms.new.flattened (λ n t h. c.put.ensures.grown n t (c.copy_symbol.ensures.grown n t h)) c.in_ok-terms.ensures.flattened)
