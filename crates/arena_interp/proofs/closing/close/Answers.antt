-- The variables of the formula stand in the arena.
use Rattle.std.proofs.Common.{ap, ◌∙◌}
use Rattle.finite.specs.Finite as set
use Rattle.arena_cells.proofs.Staying.{are_variables, sequent_stays}
use Rattle.arena_interp.specs.Closing.{closed_outside}
use Rattle.arena_interp.proofs.LastInferences.{made_same}
use Rattle.arena_interp.proofs.Staying.{interpolated_there, interpolation_stays}
use Rattle.arena_interp.proofs.closing.close.Goals as goal

pub close_over-requires-clause-made : goal.close_over-requires-clause-made
close_over-requires-clause-made c = interpolated_there c.args.arena.now c.free_vars.new.self c.free_vars.ensures.grown c.args.made c.requires.made

pub returns-clause-made : goal.returns-clause-made
returns-clause-made c =
    let a = c.args.arena.now in
    let b = c.free_vars.new.self in
    let grown = c.free_vars.ensures.grown in
    let vars = c.as_slice.ensures ∙ ap set.listing (c.in_ok-vars.ensures ∙ are_variables b c.in_ok-set.set _ c.in_ok-set.ensures.set) in
    made_same c.close_over.result c.close_over.new.arena _ _
    (λ i. closed_outside c.args.side (sequent_stays a b grown c.args.one c.requires.one i) (sequent_stays a b grown c.args.two c.requires.two i) (vars i) (interpolation_stays a b grown c.args.made c.requires.made i)) c.close_over.ensures.made
