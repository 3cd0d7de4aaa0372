-- The formula stands on both sides.
use Rattle.lk_rules.specs.declared.sequent.Side.TheVariants.{Left, Right}
use Rattle.exp_extract.proofs.MetRules.{axiom_paired}
use Rattle.exp_extract.proofs.NumberedFormulas.{context_child}
use Rattle.exp_extract.proofs.inferences.mark_axiom.Goals as goal

pub pair-requires : goal.pair-requires
pair-requires c =
    let bs = c.args.marks.now.addresses in
    axiom_paired c.args.marks.now c.args.end.now c.args.sides.now c.args.map.now c.args.main.now c.in_ok-left.left c.in_ok-right.right c.requires.left c.requires.right
    (context_child bs c.args.end.now c.args.sides.now c.requires.sides Left c.args.main.now c.in_ok-left.left c.in_ok-left.ensures)
    (context_child bs c.args.end.now c.args.sides.now c.requires.sides Right c.args.main.now c.in_ok-right.right c.in_ok-right.ensures)
