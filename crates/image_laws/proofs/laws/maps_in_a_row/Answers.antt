-- The law is a lemma.
use Rattle.image_laws.proofs.RigidTrees.{composed-tree}
use Rattle.image_laws.proofs.laws.maps_in_a_row.Goals as goal

pub returns : goal.returns
returns c = composed-tree
