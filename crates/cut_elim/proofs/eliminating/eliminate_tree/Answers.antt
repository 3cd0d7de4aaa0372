-- The arena of the pass has only become larger.
use Rattle.proof_subst.proofs.Passes.{pass_stays}
use Rattle.cut_elim.proofs.eliminating.eliminate_tree.Goals as goal

pub returns-clause-pass_stays : goal.returns-clause-pass_stays
returns-clause-pass_stays g c =
    pass_stays c.args.bench.now c.number_of.new.pass c.eliminate_in.new.arena c.number_of.ensures.pass_stays
    (λ n t h. c.eliminate_in.ensures.grown n t (cc (c.arena-arena.ensures.value, h)))
