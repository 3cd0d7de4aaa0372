-- The new pass, with nothing in its arena, knows no number.
use Rattle.proof_subst.proofs.bench.Bench.split.Goals as goal

pub returns-clause-of : goal.returns-clause-of
returns-clause-of c = record { graph = c.split.ensures.of; images = c.split-2.ensures.of.1; numbers = c.new-2.ensures (c.args.self.now.graph) c.new.result }
