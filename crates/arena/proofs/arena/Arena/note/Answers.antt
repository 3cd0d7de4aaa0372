-- One more result keeps what is kept right.
use Rattle.std.proofs.Common.{List, sym, subst}
use Rattle.arena_cells.specs.Items.{Item}
use Rattle.arena_cells.specs.Standing.{Stands}
use Rattle.arena.specs.Tasks.{HasTask, result_of}
use Rattle.arena.proofs.Results.{results_same, results_more}
use Rattle.arena.proofs.arena.Arena.note.Goals as goal

pub invariant_of-self : goal.invariant_of-self
invariant_of-self c = record {
  results = results_same c.self.inside.cells c.self.inside.results c.insert.new.self c.self.invariant.results c.in_err-insert.ensures.err;
  variables = c.self.invariant.variables;
  no_variables = c.self.invariant.no_variables;
  imported = c.self.invariant.imported;
}

pub invariant_of-self-2 : goal.invariant_of-self-2
invariant_of-self-2 c = record {
  results =
      results_more c.self.inside.cells c.self.inside.results c.insert.new.self c.args.task c.args.number c.self.invariant.results c.in_ok-insert.ensures.updates
      (subst (λ (a : List Item). HasTask a c.args.task) (sym c.self.view_is) c.requires.task)
      (subst (λ (a : List Item). Stands a c.args.number (result_of a c.args.task)) (sym c.self.view_is) c.requires.result);
  variables = c.self.invariant.variables;
  no_variables = c.self.invariant.no_variables;
  imported = c.self.invariant.imported;
}
