-- The classes are those of numbers of their own at first, and solve the equations at last.
use Rattle.std.proofs.Common.{◌≡◌, length, arith}
use Rattle.fol_unify.proofs.Started.{started}
use Rattle.fol_unify.proofs.Solved.{solved}
use Rattle.fol_unify.proofs.joining.solved_roots.Goals as goal

pub join_all-requires : goal.join_all-requires
join_all-requires c =
    let so_many : length c.in_ok-classes.classes ≡ length c.number_pairs.new.cells = omega (arith, c.in_ok-classes.ensures.count, c.len.ensures, c.in-Ok.ensures) in
    started c.number_pairs.new.cells c.args.equations.now c.in_ok-classes.classes c.in_ok-work.work.items so_many
    (λ n below. c.in_ok-classes.ensures.own n (omega (arith, c.len.ensures, c.in-Ok.ensures))) c.in_ok-work.ensures.pairs

pub returns-clause-solved : goal.returns-clause-solved
returns-clause-solved c =
    solved c.number_pairs.new.cells c.args.equations.now c.join_all.new.classes c.in_ok-roots.roots.items c.in_ok-join_all.ensures.unifying c.known.ensures c.in_ok-roots.ensures.count c.in_ok-roots.ensures.roots
