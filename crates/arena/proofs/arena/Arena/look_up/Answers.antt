-- What is kept for the task is its result.
use Rattle.std.proofs.Common.{ℕ, List, sym, ◌∙◌, subst}
use Rattle.std.specs.Prelude.{IfSome}
use Rattle.arena_cells.specs.Items.{Item}
use Rattle.arena_cells.specs.Standing.{Stands}
use Rattle.arena.specs.Tasks.{result_of}
use Rattle.arena_cells.proofs.Reading.{if_some}
use Rattle.arena.proofs.arena.Arena.look_up.Goals as goal

pub returns : goal.returns
returns c =
    subst (λ (a : List Item). IfSome c.copied.result (λ n. Stands a n (result_of a c.args.task))) c.self.view_is
    (if_some c.copied.result (λ (n : ℕ). Stands c.self.inside.cells n (result_of c.self.inside.cells c.args.task))
    (λ n e. (c.self.invariant.results c.args.task n (sym c.get.ensures.value ∙ sym c.copied.ensures ∙ e)).stands))
