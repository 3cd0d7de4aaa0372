-- The laws are lemmas.
use Rattle.std.proofs.Common.{sym, subst}
use Rattle.exp_tree.specs.FlatReading.{AreRight}
use Rattle.exp_tree.proofs.FlatReadings.{read_exactly, is_read}
use Rattle.exp_tree.proofs.RightTrees.{right_trees}
use Rattle.exp_tree.proofs.laws.readings.Goals as goal

pub returns-clause-exact : goal.returns-clause-exact
returns-clause-exact c result flat n read = read_exactly result flat n read

pub returns-clause-roots : goal.returns-clause-roots
returns-clause-roots c flat n x is = (is_read flat n x is).roots

pub returns-clause-right : goal.returns-clause-right
returns-clause-right c flat n x is = let read = is_read flat n x is in subst AreRight (sym read.roots) (right_trees flat read.right)
