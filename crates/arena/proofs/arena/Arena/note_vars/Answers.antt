-- One more set of variables keeps what is kept right.
use Rattle.std.proofs.Common.{List, sym, subst}
use Rattle.arena_cells.specs.Items.{Item}
use Rattle.arena_cells.specs.Standing.{HasVariables, IsThere, item_at}
use Rattle.arena.specs.Tasks.{vars_any}
use Rattle.arena.proofs.Results.{vars_noted}
use Rattle.arena.proofs.arena.Arena.note_vars.Goals as goal

pub invariant_of-self : goal.invariant_of-self
invariant_of-self c = record {
  results = c.self.invariant.results;
  variables =
      vars_noted c.self.inside.cells c.self.inside.variables.items c.set_entry.new.table.items c.args.number c.args.variables c.set_entry.result c.self.invariant.variables c.set_entry.ensures.kept c.set_entry.ensures.unchanged
      (record {
        there = subst (λ (a : List Item). IsThere a c.args.number) (sym c.self.view_is) c.requires.there;
        stands = subst (λ (a : List Item). HasVariables a c.args.variables (vars_any (item_at a c.args.number))) (sym c.self.view_is) c.requires.variables;
      });
  no_variables = c.self.invariant.no_variables;
  imported = c.self.invariant.imported;
}
