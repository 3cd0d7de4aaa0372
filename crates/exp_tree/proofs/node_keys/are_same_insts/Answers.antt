-- The lists are equal where their elements are.
use Rattle.exp_tree.proofs.SamePairs.{pairs_same}
use Rattle.exp_tree.proofs.node_keys.are_same_insts.Goals as goal

pub returns : goal.returns
returns c = rw (c.as_slice.ensures, c.as_slice-2.ensures) at (pairs_same c.as_slice.result.now c.as_slice-2.result.now c.eq.result c.eq.ensures)
