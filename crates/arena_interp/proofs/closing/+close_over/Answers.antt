-- One variable after those of the rest.
use Rattle.std.proofs.Common.{◌<◌, ◌-◌, List, length, take, drop, ap, ◌∙◌, arith}
use Rattle.fol.specs.declared.symbols.Var.{Var}
use Rattle.arena_cells.specs.Standing.{sequent_at}
use Rattle.arena_cells.proofs.Staying.{sequent_stays}
use Rattle.arena_interp.specs.Closing.{closed_once, closed_outside}
use Rattle.arena_interp.specs.Partitions.{interpolation_at}
use Rattle.arena_interp.proofs.LastInferences.{made_same}
use Rattle.arena_interp.proofs.Quantified.{closed_step, head_and_rest}
use Rattle.arena_interp.proofs.Staying.{interpolation_is}
use Rattle.arena_interp.proofs.closing.+close_over.Goals as goal

pub returns-in_ok-inner-in-len1-up-clause-made : goal.returns-in_ok-inner-in-len1-up-clause-made
returns-in_ok-inner-in-len1-up-clause-made t c =
    let a = c.args.arena.now in
    let b = c.close_over.new.arena in
    let grown = c.close_over.ensures.grown in
    let xs = c.args.vars.now in
    let x = c.var-item.result in
    let m = c.args.side in
    let some : 0 < length xs = omega (arith, c.in-len1-up.len_at_least) in
    let here = head_and_rest xs x some c.var-item.is in
    made_same c.close_one.result c.close_one.new.arena _ _
    ((λ i. closed_once m (sequent_stays a b grown c.args.one c.requires.one i) (sequent_stays a b grown c.args.two c.requires.two i) x (interpolation_is b _ c.in_ok-inner-in-len1-up.inner c.in_ok-inner-in-len1-up.ensures.made i))
    ∙ closed_step m (sequent_at a c.args.one) (sequent_at a c.args.two) x (take (length xs - 1) (drop 1 xs)) (interpolation_at a c.args.made)
    ∙ ap (λ (ys : List Var). closed_outside m (sequent_at a c.args.one) (sequent_at a c.args.two) ys (interpolation_at a c.args.made)) here) c.close_one.ensures.made
