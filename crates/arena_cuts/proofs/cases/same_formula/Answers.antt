-- Equal formulas have one number.
use Rattle.arena_cuts.proofs.SameNumbers.{formulas_tested}
use Rattle.arena_cuts.proofs.cases.same_formula.Goals as goal

pub returns : goal.returns
returns c = formulas_tested c.args.arena.now c.known.ensures c.args.first c.args.second c.requires.first c.requires.second
