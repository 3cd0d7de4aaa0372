-- The variable is bound, or it is another one.
use Rattle.std.proofs.Common.{sym, ap, ◌∙◌, subst}
use Rattle.std.specs.Prelude.{Some, IfOk}
use Rattle.arena_cells.specs.Items.{Item}
use Rattle.arena_cells.specs.Standing.{Stands}
use Rattle.arena.proofs.Mapped.{bound_here, bound_elsewhere}
use Rattle.arena.proofs.arena.Arena.bind_variable.Goals as goal

pub returns-then-variable-of-clause-stands : goal.returns-then-variable-of-clause-stands
returns-then-variable-of-clause-stands c =
    subst (λ (t : Item). IfOk c.put.result (λ n. Stands c.put.new.self n t))
    (sym (bound_here c.args.self.now c.known.ensures c.args.variable c.args.of c.args.depth c.requires.of c.if-variable-of.true)) c.put.ensures.stands

pub returns-clause-stands : goal.returns-clause-stands
returns-clause-stands c =
    c.requires.of
    ∙ ap Some (sym (bound_elsewhere c.args.self.now c.known.ensures c.args.variable c.args.of c.args.depth c.requires.variable c.requires.of c.if-variable-of.false))
