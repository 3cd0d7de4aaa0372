-- There is a number for each tree below the root.
use Rattle.std.proofs.Common.{◌≡◌, length, subst}
use Rattle.proof_trees.specs.Trees.{below, count}
use Rattle.proof_graph.specs.References.{Reference}
use Rattle.proof_graph.proofs.Premises.{as_many}
use Rattle.proof_graph.proofs.reference.ProofRef.known.Goals as goal

pub returns-clause-premises : goal.returns-clause-premises
returns-clause-premises c =
    subst (λ (v : Reference). length v.premises ≡ count (below v.tree)) c.self.view_is (
    as_many c.self.inside.link.value.premises.items _ _ c.self.invariant.numbers c.self.invariant.trees)
