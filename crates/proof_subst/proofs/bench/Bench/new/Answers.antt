-- A pass with nothing in its arena knows no number.
use Rattle.proof_subst.proofs.bench.Bench.new.Goals as goal

pub returns-clause-pass : goal.returns-clause-pass
returns-clause-pass g c = record { graph = c.in_ok-graph.ensures.pass; images = c.in-Ok.ensures.of; numbers = c.new-4.ensures c.in_ok-graph.graph c.new-3.result }
