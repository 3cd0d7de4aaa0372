-- The tree of the premise is the one at its place.
use Rattle.proof_graph.proofs.Premises.{premise_tree, kept_tree, within_premises}
use Rattle.proof_graph.proofs.graph.Graph.premise.Goals as goal

pub returns-clause-tree : goal.returns-clause-tree
returns-clause-tree c =
    kept_tree c.keep.result c.index-premises-place.result _ c.keep.ensures
    (premise_tree c.premises.result.now c.args.place c.index-premises-place.result _ (within_premises c.premises.result.now c.args.proof.now.premises c.args.place c.premises.ensures.numbers c.requires.within) c.index-premises-place.is c.premises.ensures.trees)
