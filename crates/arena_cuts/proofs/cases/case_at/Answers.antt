-- The tests pick the case.
use Rattle.std.proofs.Common.{not, ap}
use Rattle.lk_rules.specs.declared.sequent.Side.TheVariants.{Left, Right}
use Rattle.arena_cuts.proofs.Picked.{picks_weaken, picks_leaf, picks_pass, picks_split, picks_reduce}
use Rattle.arena_cuts.proofs.cases.case_at.Goals as goal

pub returns-then-proves : goal.returns-then-proves
returns-then-proves c = picks_weaken _ _ _ _ Right c.if-proves.ensures

pub returns-then-proves-2 : goal.returns-then-proves-2
returns-then-proves-2 c = picks_weaken _ _ _ _ Left (c.if-proves.ensures, c.if-proves-2.ensures)

pub returns-then-is_other_leaf : goal.returns-then-is_other_leaf
returns-then-is_other_leaf c = picks_leaf _ _ _ _ (c.if-proves.ensures, c.if-proves-2.ensures) Right c.if-is_other_leaf.ensures

pub returns-then-is_other_leaf-2 : goal.returns-then-is_other_leaf-2
returns-then-is_other_leaf-2 c = picks_leaf _ _ _ _ (c.if-proves.ensures, c.if-proves-2.ensures) Left (c.if-is_other_leaf.ensures, c.if-is_other_leaf-2.ensures)

pub returns-then-not-introduces : goal.returns-then-not-introduces
returns-then-not-introduces c =
    picks_pass _ _ _ _ (c.if-proves.ensures, c.if-proves-2.ensures) (c.if-is_other_leaf.ensures, c.if-is_other_leaf-2.ensures) Right (ap not c.if-not-introduces.ensures)

pub returns-then-not-introduces-2 : goal.returns-then-not-introduces-2
returns-then-not-introduces-2 c =
    picks_pass _ _ _ _ (c.if-proves.ensures, c.if-proves-2.ensures) (c.if-is_other_leaf.ensures, c.if-is_other_leaf-2.ensures) Left (ap not c.if-not-introduces.ensures, ap not c.if-not-introduces-2.ensures)

pub returns-then-has_above : goal.returns-then-has_above
returns-then-has_above c =
    picks_split _ _ _ _ (c.if-proves.ensures, c.if-proves-2.ensures) (c.if-is_other_leaf.ensures, c.if-is_other_leaf-2.ensures) (ap not c.if-not-introduces.ensures, ap not c.if-not-introduces-2.ensures)
    Right c.if-has_above.ensures

pub returns-then-has_above-2 : goal.returns-then-has_above-2
returns-then-has_above-2 c =
    picks_split _ _ _ _ (c.if-proves.ensures, c.if-proves-2.ensures) (c.if-is_other_leaf.ensures, c.if-is_other_leaf-2.ensures) (ap not c.if-not-introduces.ensures, ap not c.if-not-introduces-2.ensures)
    Left (c.if-has_above.ensures, c.if-has_above-2.ensures)

pub returns-else-has_above-2 : goal.returns-else-has_above-2
returns-else-has_above-2 c =
    picks_reduce _ _ _ _ (c.if-proves.ensures, c.if-proves-2.ensures) (c.if-is_other_leaf.ensures, c.if-is_other_leaf-2.ensures) (ap not c.if-not-introduces.ensures, ap not c.if-not-introduces-2.ensures)
    (c.if-has_above.ensures, c.if-has_above-2.ensures)
