use Rattle.exp_tree.specs.Reads.{expansion_of}
use Rattle.cut_intro.proofs.InstancingOrder.{trees_found}
use Rattle.cut_intro.proofs.instancing.trees.Goals as goal

pub returns-in-Ok-clause-exact : goal.returns-in-Ok-clause-exact
returns-in-Ok-clause-exact c = trees_found c.args.proof.now.tree c.args.budget c.requires.prenex (expansion_of c.in-Ok.exps) c.in-Ok.ensures.exact
