-- One more formula keeps what is kept right.
use Rattle.std.proofs.Common.{List, sym, subst}
use Rattle.arena_cells.specs.Items.{Item}
use Rattle.arena_cells.specs.Standing.{HasFormula}
use Rattle.arena.proofs.Results.{imported_same, imported_more}
use Rattle.arena.proofs.arena.Arena.note_formula.Goals as goal

pub invariant_of-self : goal.invariant_of-self
invariant_of-self c = record {
  results = c.self.invariant.results;
  variables = c.self.invariant.variables;
  no_variables = c.self.invariant.no_variables;
  imported = imported_same c.self.inside.cells c.self.inside.imported c.insert.new.self c.self.invariant.imported c.in_err-insert.ensures.err;
}

pub invariant_of-self-2 : goal.invariant_of-self-2
invariant_of-self-2 c = record {
  results = c.self.invariant.results;
  variables = c.self.invariant.variables;
  no_variables = c.self.invariant.no_variables;
  imported =
      imported_more c.self.inside.cells c.self.inside.imported c.insert.new.self c.fingerprint-fingerprint.result _ c.self.invariant.imported c.in_ok-insert.ensures.updates
      (subst (λ (a : List Item). HasFormula a c.args.number c.args.formula) (sym c.self.view_is) c.requires);
}
