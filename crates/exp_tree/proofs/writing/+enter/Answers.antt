-- The nodes of trees over those below them.
use Rattle.std.proofs.Common.{◌≡◌, sym, ap, ◌∙◌, subst, arith}
use Rattle.expansion_laws.specs.Expansions.{weak, strong}
use Rattle.expansion_laws.specs.Formed.{IsProper}
use Rattle.exp_tree.specs.Shown.{exp_of, insts_of}
use Rattle.exp_tree.specs.Tables.{IsNodeOf}
use Rattle.exp_tree.specs.declared.flat.ExpNode.TheVariants.{And, Or, Imp, Weak, Strong}
use Rattle.exp_tree.proofs.Entered.{still, conj_node, disj_node, impl_node, weak_node, strong_node, inst_stands, inst_smaller, insts_next, earlier_next, placed_next}
use Rattle.exp_tree.proofs.writing.+enter.Goals as goal

pub enter_below-returns-in_ok-first-in-And-clause-node : goal.enter_below-returns-in_ok-first-in-And-clause-node
enter_below-returns-in_ok-first-in-And-clause-node t c =
    let h = c.in_ok-first-in-And.ensures in
    subst (λ e. IsNodeOf c.enter_both.new.table e (And c.in_ok-first-in-And.first c.in_ok-first-in-And.second)) (ap exp_of (sym c.in-And.is) ∙ c.root.ensures)
    (conj_node c.enter_both.new.table c.in-And.first c.in-And.second c.in_ok-first-in-And.first c.in_ok-first-in-And.second h.first h.second)

pub enter_below-returns-in_ok-first-in-Or-clause-node : goal.enter_below-returns-in_ok-first-in-Or-clause-node
enter_below-returns-in_ok-first-in-Or-clause-node t c =
    let h = c.in_ok-first-in-Or.ensures in
    subst (λ e. IsNodeOf c.enter_both-in-Or.new.table e (Or c.in_ok-first-in-Or.first c.in_ok-first-in-Or.second)) (ap exp_of (sym c.in-Or.is) ∙ c.root.ensures)
    (disj_node c.enter_both-in-Or.new.table c.in-Or.first c.in-Or.second c.in_ok-first-in-Or.first c.in_ok-first-in-Or.second h.first h.second)

pub enter_below-returns-in_ok-first-in-Imp-clause-node : goal.enter_below-returns-in_ok-first-in-Imp-clause-node
enter_below-returns-in_ok-first-in-Imp-clause-node t c =
    let h = c.in_ok-first-in-Imp.ensures in
    subst (λ e. IsNodeOf c.enter_both-in-Imp.new.table e (Imp c.in_ok-first-in-Imp.first c.in_ok-first-in-Imp.second)) (ap exp_of (sym c.in-Imp.is) ∙ c.root.ensures)
    (impl_node c.enter_both-in-Imp.new.table c.in-Imp.first c.in-Imp.second c.in_ok-first-in-Imp.first c.in_ok-first-in-Imp.second h.first h.second)

pub enter_weak-returns-clause-node : goal.enter_weak-returns-clause-node
enter_weak-returns-clause-node t c =
    let f = c.args.formula.now in
    let is = c.args.instances.now in
    let ts = c.enter_insts.new.table in
    let ps = c.in_ok-instances.instances in
    subst (λ e. IsNodeOf ts e (Weak c.in_ok-copy.field-0 ps)) (sym c.requires.root)
    (subst (λ g. IsNodeOf ts (weak f (insts_of is)) (Weak g ps)) (sym c.in_ok-copy.ensures)
    (weak_node ts f is ps (subst IsProper c.requires.root c.known.ensures) c.in_ok-instances.ensures.earlier c.in_ok-instances.ensures.insts))

pub enter_strong-returns-clause-node : goal.enter_strong-returns-clause-node
enter_strong-returns-clause-node t c =
    let f = c.args.formula.now in
    let y = c.args.var.now in
    let d = c.args.child.now in
    let ts = c.enter.new.table in
    let i = c.in_ok-child.child in
    let node : Strong f y i ≡ Strong c.in_ok-copy.field-0 c.in_ok-copy-2.field-0 i = λ k. Strong (sym c.in_ok-copy.ensures k) (sym c.in_ok-copy-2.ensures k) i in
    subst (λ e. IsNodeOf ts e (Strong c.in_ok-copy.field-0 c.in_ok-copy-2.field-0 i)) (sym c.requires.root)
    (subst (IsNodeOf ts (strong f y d)) node (strong_node ts f y d i (subst IsProper c.requires.root c.known.ensures) c.in_ok-child.ensures.place))

pub enter_both-returns-clause-first : goal.enter_both-returns-clause-first
enter_both-returns-clause-first t c =
    still c.enter.new.table c.enter-2.new.table c.args.second.now c.in_ok-first.first c.args.first.now c.in_ok-second.ensures.trees c.in_ok-first.ensures.place

pub enter_insts-enter-requires : goal.enter_insts-enter-requires
enter_insts-enter-requires t c =
    let less = inst_smaller c.args.instances.now c.loop-instance.instance-index c.instance-item.result c.loop-instance-test.true c.instance-item.is in
    (omega (arith, less, c.decreases), inst_stands c.args.instances.now c.loop-instance.instance-index c.instance-item.result c.loop-instance-test.true c.instance-item.is c.requires)

pub enter_insts-loop-instance-preserved : goal.enter_insts-loop-instance-preserved
enter_insts-loop-instance-preserved t c =
    let is = c.args.instances.now in
    let k = c.loop-instance.instance-index in
    let i = c.instance-item.result in
    let mid = c.loop-instance.table in
    let new = c.enter.new.table in
    let so_far = c.loop-instance.invariant in
    let now = c.in_ok-place.ensures in
    let term = c.in_ok-copy.field-0 in
    let places = c.in_ok-push.ensures.items in
    record {
      trees = insts_next is k i c.args.table.now mid new c.loop-instance-test.true c.instance-item.is so_far.trees now.trees;
      earlier = earlier_next mid new i c.loop-instance.places.items c.push.new.self.items term c.in_ok-place.place so_far.earlier now.trees now.place places;
      insts = placed_next is k i mid new c.loop-instance.places.items c.push.new.self.items term c.in_ok-place.place c.loop-instance-test.true c.instance-item.is
          so_far.earlier so_far.insts now.trees now.place c.in_ok-copy.ensures places;
    }
