-- Both sides are those of the expansion.
use Rattle.std.proofs.Common.{map, ap, ◌∙◌}
use Rattle.finite.specs.Finite as set
use Rattle.lk_rules.specs.declared.sequent.Side.TheVariants.{Left, Right}
use Rattle.proof_trees.specs.Trees.{concl}
use Rattle.exp_extract.specs.Marked.{address_at}
use Rattle.exp_extract.specs.Reading.{tree_of}
use Rattle.exp_extract.proofs.Whole.{side_is, side_rises}
use Rattle.exp_extract.proofs.extraction.extract_trees.Goals as goal

pub read_side-requires-clause-rises : goal.read_side-requires-clause-rises
read_side-requires-clause-rises c =
    side_rises c.in_ok-marked.marked.marks Left c.in_ok-marked.marked.left.items c.deref.result.now (concl c.args.proof.now.tree).left c.deref.ensures.value c.in_ok-marked.ensures.left

pub read_side-requires-2-clause-rises : goal.read_side-requires-2-clause-rises
read_side-requires-2-clause-rises c =
    side_rises c.in_ok-marked.marked.marks Right c.in_ok-marked.marked.right.items c.deref-2.result.now (concl c.args.proof.now.tree).right c.deref-2.ensures.value c.in_ok-marked.ensures.right

pub returns : goal.returns
returns c =
    let t = c.args.proof.now.tree in
    let m = c.in_ok-marked.marked.marks in
    let left = c.in_ok-left.ensures ∙ ap (map (λ n. tree_of m (address_at m n))) c.deref.ensures.value ∙ side_is m t Left c.in_ok-marked.marked.left.items (set.listing (concl t).left) c.in_ok-marked.ensures.state c.in_ok-marked.ensures.outside c.in_ok-marked.ensures.left in
    let right = c.in_ok-right.ensures ∙ ap (map (λ n. tree_of m (address_at m n))) c.deref-2.ensures.value ∙ side_is m t Right c.in_ok-marked.marked.right.items (set.listing (concl t).right) c.in_ok-marked.ensures.state c.in_ok-marked.ensures.outside c.in_ok-marked.ensures.right in
    λ i. record { left = left i; right = right i }
