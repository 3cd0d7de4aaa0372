-- The laws are lemmas.
use Rattle.merge_laws.proofs.Agreeing.{can_merge}
use Rattle.merge_laws.proofs.MergedTrees.{merged-trees}
use Rattle.merge_laws.proofs.laws.merges.Goals as goal

pub returns-clause-trees : goal.returns-clause-trees
returns-clause-trees c vs x y a h k same = merged-trees vs x y h k same a

pub returns-clause-can : goal.returns-clause-can
returns-clause-can c vs x y a same = can_merge vs x y same a
