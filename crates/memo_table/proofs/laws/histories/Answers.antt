-- From no pair on, each event keeps the pairs legal.
use Rattle.std.proofs.Common.{[]}
use Rattle.memo_table.proofs.Histories.{legal_none, legal_after, made_by_itself}
use Rattle.memo_table.proofs.laws.histories.Goals as goal

pub returns-clause-legal : goal.returns-clause-legal
returns-clause-legal g c = λ home events allowed. legal_after (g.L.Law.Truth home) g.L.Key.Ord.cmp [] events (legal_none (g.L.Law.Truth home) g.L.Key.Ord.cmp) allowed

pub returns-clause-made : goal.returns-clause-made
returns-clause-made g c = λ home pairs legal. made_by_itself (g.L.Law.Truth home) g.L.Key.Ord.cmp [] pairs legal
