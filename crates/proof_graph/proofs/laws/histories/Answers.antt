-- From no entry on, each event keeps the history legal.
use Rattle.std.proofs.Common.{[]}
use Rattle.proof_graph.proofs.Histories.{legal_none, legal_after, made_by_itself}
use Rattle.proof_graph.proofs.laws.histories.Goals as goal

pub returns-clause-legal : goal.returns-clause-legal
returns-clause-legal c = λ events allowed. legal_after [] events legal_none allowed

pub returns-clause-made : goal.returns-clause-made
returns-clause-made c = λ history legal. made_by_itself [] history legal
