-- The arena of the pass has only become larger.
use Rattle.proof_subst.proofs.Passes.{pass_stays}
use Rattle.lk_interp.proofs.interpolation.interpolate_tree.Goals as goal

pub returns-clause-pass_stays : goal.returns-clause-pass_stays
returns-clause-pass_stays c =
    pass_stays c.args.bench.now c.number_of.new.pass c.interpolate_at.new.arena c.number_of.ensures.pass_stays
    (λ n t h. c.interpolate_at.ensures.grown n t (cc (c.arena.ensures.value, h)))
