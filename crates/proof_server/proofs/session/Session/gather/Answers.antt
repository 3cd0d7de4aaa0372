use Rattle.std.proofs.Common.{refl}
use Rattle.proof_server.proofs.Turns.{gathered_more}
use Rattle.proof_server.proofs.session.Session.gather.Goals as goal

pub returns-then-len-ge-MOST_JOBS-clause-at : goal.returns-then-len-ge-MOST_JOBS-clause-at
returns-then-len-ge-MOST_JOBS-clause-at c = λ desk asked written text at kept.
    gathered_more desk c.args.self.now _ asked written text at refl refl refl refl (c.in_ok-gather.ensures.gathered desk at.done at.waiting text at.gathered kept)

pub returns-else-len-ge-MOST_JOBS-clause-at : goal.returns-else-len-ge-MOST_JOBS-clause-at
returns-else-len-ge-MOST_JOBS-clause-at c = λ desk asked written text at kept.
    gathered_more desk c.args.self.now _ asked written text at refl refl refl refl (c.in_ok-gather.ensures.gathered desk at.done at.waiting text at.gathered kept)
