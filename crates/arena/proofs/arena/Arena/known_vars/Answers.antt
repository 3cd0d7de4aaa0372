-- What is kept at the place is right.
use Rattle.std.proofs.Common.{ℕ, List, get_or, sym, ap, ◌∙◌, subst}
use Rattle.std.specs.Prelude.{Option, None, IfSome}
use Rattle.arena_cells.specs.Items.{Item}
use Rattle.arena_cells.specs.Standing.{HasVariables, item_at}
use Rattle.arena.specs.Tasks.{vars_any}
use Rattle.arena_cells.proofs.Reading.{if_some}
use Rattle.arena.proofs.arena.Arena.known_vars.Goals as goal

pub returns : goal.returns
returns c =
    subst (λ (a : List Item). IfSome c.entry.result (λ n. HasVariables a n (vars_any (item_at a c.args.number)))) c.self.view_is
    (if_some c.entry.result (λ (n : ℕ). HasVariables c.self.inside.cells n (vars_any (item_at c.self.inside.cells c.args.number)))
    (λ n e. (c.self.invariant.variables c.args.number n (ap (λ (kept : List (Option ℕ)). get_or kept c.args.number None) (sym c.deref.ensures.value) ∙ sym c.entry.ensures ∙ e)).stands))
