-- What an index keeps makes its history legal.
use Rattle.std.proofs.Common.{subst}
use Rattle.proof_graph.specs.History.{Recorded, IsLegal}
use Rattle.proof_graph.proofs.Entries.{legal}
use Rattle.proof_graph.proofs.index.Index.known.Goals as goal

pub returns : goal.returns
returns c = subst (λ (v : Recorded). IsLegal v.history) c.self.view_is (legal c.self.inside c.self.invariant)
