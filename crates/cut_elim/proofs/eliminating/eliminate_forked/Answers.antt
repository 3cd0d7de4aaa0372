-- The arena of the pass has only become larger.
use Rattle.proof_subst.proofs.Passes.{pass_stays}
use Rattle.cut_elim.proofs.eliminating.eliminate_forked.Goals as goal

pub returns-in-Err-clause-pass_stays : goal.returns-in-Err-clause-pass_stays
returns-in-Err-clause-pass_stays g c =
    pass_stays c.args.bench.now c.eliminate_tree-second.new.pass c.take_both.new.arena c.eliminate_tree-second.ensures.pass_stays
    (λ n t h. c.take_both.ensures.grown n t (cc (c.arena-arena.ensures.value, h)))

pub returns-clause-pass_stays : goal.returns-clause-pass_stays
returns-clause-pass_stays g c =
    pass_stays c.args.bench.now c.eliminate_tree-second.new.pass c.eliminate_below.new.arena c.eliminate_tree-second.ensures.pass_stays
    (λ n t h. c.eliminate_below.ensures.grown n t (c.take_both.ensures.grown n t (cc (c.arena-arena.ensures.value, h))))
