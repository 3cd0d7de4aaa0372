-- What is known stays known in a larger arena.
use Rattle.arena_flat.proofs.Growth.{flat_stays, on_ok}
use Rattle.arena_flat.proofs.formulas.+flatten_formula.Goals as goal

pub flatten_new-returns-in-Defined-clause-flattened : goal.flatten_new-returns-in-Defined-clause-flattened
flatten_new-returns-in-Defined-clause-flattened t c =
    on_ok c.unfold_atom.result (flat_stays c.args.from.now c.args.to.now c.unfold_atom.new.to c.args.flattened.now c.unfold_atom.ensures.grown c.requires.flattened)

pub flatten_new-returns-in-Top-clause-flattened : goal.flatten_new-returns-in-Top-clause-flattened
flatten_new-returns-in-Top-clause-flattened t c = on_ok c.put.result (flat_stays c.args.from.now c.args.to.now c.put.new.self c.args.flattened.now c.put.ensures.grown c.requires.flattened)

pub flatten_new-returns-in-Bot-clause-flattened : goal.flatten_new-returns-in-Bot-clause-flattened
flatten_new-returns-in-Bot-clause-flattened t c =
    on_ok c.put-in-Bot.result (flat_stays c.args.from.now c.args.to.now c.put-in-Bot.new.self c.args.flattened.now c.put-in-Bot.ensures.grown c.requires.flattened)

pub flatten_new-returns-in_ok-first-in-And-clause-flattened : goal.flatten_new-returns-in_ok-first-in-And-clause-flattened
flatten_new-returns-in_ok-first-in-And-clause-flattened t c =
    on_ok c.put-in-And.result (flat_stays c.args.from.now c.flatten_two.new.to c.put-in-And.new.self c.flatten_two.new.flattened c.put-in-And.ensures.grown c.in_ok-first-in-And.ensures.flattened)

pub flatten_new-returns-in_ok-flat-in-Not-clause-flattened : goal.flatten_new-returns-in_ok-flat-in-Not-clause-flattened
flatten_new-returns-in_ok-flat-in-Not-clause-flattened t c =
    on_ok c.put-in-Not.result (flat_stays c.args.from.now c.flatten_formula.new.to c.put-in-Not.new.self c.flatten_formula.new.flattened c.put-in-Not.ensures.grown c.in_ok-flat-in-Not.ensures.flattened)
