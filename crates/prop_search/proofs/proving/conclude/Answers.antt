use Rattle.proof_trees.specs.Trees.{node}
use Rattle.proof_graph.specs.References.{trees_of}
use Rattle.prop_search.proofs.ProofParts.{proof_is}
use Rattle.prop_search.proofs.proving.conclude.Goals as goal

pub intern-requires-clause-inference : goal.intern-requires-clause-inference
intern-requires-clause-inference g c =
    let s = c.args.sequent in
    let r = c.args.rule in
    let ts = trees_of c.args.premises.now in
    (c.proofs.ensures.valid s (node r s ts) c.formed.ensures.left c.formed.ensures.right (proof_is s (c.steps.ensures.walk s) r ts c.requires.taken c.requires.trees)).0
