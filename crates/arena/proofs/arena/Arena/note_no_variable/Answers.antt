-- The number of the set of no variable is kept.
use Rattle.std.proofs.Common.{List, sym, subst}
use Rattle.finite.specs.Finite as set
use Rattle.arena_cells.specs.Items.{Item}
use Rattle.arena_cells.specs.Standing.{HasVariables}
use Rattle.arena.proofs.arena.Arena.note_no_variable.Goals as goal

pub invariant_of-self : goal.invariant_of-self
invariant_of-self c = record {
  results = c.self.invariant.results;
  variables = c.self.invariant.variables;
  no_variables = subst (λ (a : List Item). HasVariables a c.args.number set.empty) (sym c.self.view_is) c.requires;
  imported = c.self.invariant.imported;
}
