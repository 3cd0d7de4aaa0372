-- What is kept stays right in a larger arena.
use Rattle.arena.proofs.Results.{results_stay, vars_stay, none_stays, imported_stay}
use Rattle.arena.proofs.arena.Arena.put.Goals as goal

pub invariant_of-self : goal.invariant_of-self
invariant_of-self c = record {
  results = results_stay c.self.inside.cells c.put.new.self c.self.inside.results c.self.invariant.results c.put.ensures.grown;
  variables = vars_stay c.self.inside.cells c.put.new.self c.put.ensures.grown c.self.inside.variables.items c.self.invariant.variables;
  no_variables = none_stays c.self.inside.cells c.put.new.self c.put.ensures.grown c.self.inside.no_variables c.self.invariant.no_variables;
  imported = imported_stay c.self.inside.cells c.put.new.self c.self.inside.imported c.self.invariant.imported c.put.ensures.grown;
}
