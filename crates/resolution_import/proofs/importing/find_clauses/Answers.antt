-- The arena of the pass has only become larger.
use Rattle.proof_subst.proofs.Passes.{pass_stays}
use Rattle.resolution_import.proofs.importing.find_clauses.Goals as goal

pub returns-clause-pass_stays : goal.returns-clause-pass_stays
returns-clause-pass_stays c =
    pass_stays c.args.bench.now c.args.pass.now c.clauses_of_refutation.new.arena c.requires.pass_of
    (λ n t h. c.clauses_of_refutation.ensures.grown n t (cc (c.arena.ensures.value, h)))
