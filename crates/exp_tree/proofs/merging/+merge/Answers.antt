-- The trees get smaller, and what is built of merged parts is the merged tree.
use Rattle.std.proofs.Common.{◌≡◌, ◌≤◌, ◌⊎◌, inl, inr, ◌++◌, length, drop, sym, ap, ◌∙◌, arith}
use Rattle.std.proofs.lemmas.Grind.{common_steps}
use Rattle.fol.proofs.OrderTies.{term_ties}
use Rattle.exp_tree.specs.Shown.{exp_of, insts_of}
use Rattle.exp_tree.specs.Merging.{merged_in}
use Rattle.exp_tree.proofs.MergeParts.{can_strong, can_at, weak_proper, strong_instance}
use Rattle.exp_tree.proofs.MergeSteps.{step_less, step_equal, step_greater, all_merged, nodes_at}
use Rattle.exp_tree.proofs.merging.+merge.Goals as goal
use Rattle.exp_tree.proofs.merging.+merge.Goals.{merge_instances-then-loop-i-test+else-j-others, merge_instances-else-loop-i-test}

pub merge_instances-returns : goal.merge_instances-returns
merge_instances-returns t c =
    let over : (length c.args.some.now ≤ c.loop-i.i) ⊎ (length c.args.others.now ≤ c.loop-i.j) =
    elim c.loop-i-test.branch [ merge_instances-then-loop-i-test+else-j-others w ↦ inr (omega arith) | merge_instances-else-loop-i-test w ↦ inl (omega arith) ] in
    let items : c.push_instances-2.new.list.items ≡ (c.loop-i.list.items ++ drop c.loop-i.i c.args.some.now) ++ drop c.loop-i.j c.args.others.now = grind (arith, common_steps, c.in_ok-push_instances.ensures, c.in_ok-push_instances-2.ensures) in
    ap insts_of items ∙ all_merged c.args.some.now c.args.others.now c.loop-i.list.items c.loop-i.i c.loop-i.j (merged_in (insts_of c.args.some.now) (insts_of c.args.others.now)) over c.loop-i.invariant.so_far

pub merge_strong-merge-requires : goal.merge_strong-merge-requires
merge_strong-merge-requires t c = (
  omega (arith, c.decreases),
  can_strong c.args.first.now c.args.second.now c.args.formula.now c.in-Strong.field-0 c.args.var.now c.in-Strong.field-1 c.args.child.now c.in-Strong.other c.requires.root (sym c.root.ensures ∙ ap exp_of c.in-Strong.is) c.requires.can
      c.known.ensures c.known-in-Strong.ensures,
)

pub merge_strong-strong-requires-clause-instance : goal.merge_strong-strong-requires-clause-instance
merge_strong-strong-requires-clause-instance t c =
    strong_instance c.args.first.now c.args.second.now c.args.formula.now c.in-Strong.field-0 c.in_ok-copy-in-Strong.field-0 c.args.var.now c.in-Strong.field-1 c.in_ok-copy-in-Strong-2.field-0
    c.args.child.now c.in-Strong.other c.in_ok-child-in-Strong.child c.requires.root (sym c.root.ensures ∙ ap exp_of c.in-Strong.is) c.requires.can c.known.ensures c.known-in-Strong.ensures
    c.in_ok-copy-in-Strong.ensures c.in_ok-copy-in-Strong-2.ensures c.in_ok-child-in-Strong.ensures

pub merge_weak-weak-requires : goal.merge_weak-weak-requires
merge_weak-weak-requires t c =
    weak_proper c.args.first.now c.args.second.now c.args.formula.now c.in-Weak.field-0 c.in_ok-copy-in-Weak.field-0 (insts_of c.args.instances.now) (insts_of c.in-Weak.others.items) (insts_of c.in_ok-instances-in-Weak.instances.items)
    c.requires.root (sym c.root.ensures ∙ ap exp_of c.in-Weak.is) c.requires.can c.known.ensures c.known-in-Weak.ensures c.in_ok-copy-in-Weak.ensures
    (c.in_ok-instances-in-Weak.ensures ∙ ap (λ l. merged_in (insts_of c.args.instances.now) (insts_of l)) c.deref.ensures.value)

pub push_next-merge-requires : goal.push_next-merge-requires
push_next-merge-requires t c =
    let smaller = nodes_at c.args.some.now c.args.i c.index-some-i.result c.requires.first c.index-some-i.is in (
      omega (arith, smaller, c.decreases),
      can_at c.args.some.now c.args.others.now c.args.i c.args.j c.index-some-i.result c.index-others-j.result c.requires.first c.requires.second c.index-some-i.is c.index-others-j.is c.requires.can
          (term_ties c.index-some-i.result.term c.index-others-j.result.term (sym c.cmp.ensures.value ∙ c.in-Equal.is)),
    )

pub push_next-returns-in_ok-push_instance-in-Less-clause-next : goal.push_next-returns-in_ok-push_instance-in-Less-clause-next
push_next-returns-in_ok-push_instance-in-Less-clause-next t c =
    step_less c.args.some.now c.args.others.now c.args.i c.args.j c.index-some-i.result c.index-others-j.result c.requires.first c.requires.second c.index-some-i.is c.index-others-j.is c.args.list.now.items c.push_instance.new.list.items
    (sym c.cmp.ensures.value ∙ c.in-Less.is) c.in_ok-push_instance-in-Less.ensures

pub push_next-returns-in_ok-push_child-in-Equal-clause-next : goal.push_next-returns-in_ok-push_child-in-Equal-clause-next
push_next-returns-in_ok-push_child-in-Equal-clause-next t c =
    step_equal c.args.some.now c.args.others.now c.args.i c.args.j c.index-some-i.result c.index-others-j.result c.requires.first c.requires.second c.index-some-i.is c.index-others-j.is c.args.list.now.items c.push_child.new.list.items
    (sym c.cmp.ensures.value ∙ c.in-Equal.is) c.in_ok-child-in-Equal.child c.in_ok-child-in-Equal.ensures c.in_ok-push_child-in-Equal.ensures

pub push_next-returns-in_ok-push_instance-in-Greater-clause-next : goal.push_next-returns-in_ok-push_instance-in-Greater-clause-next
push_next-returns-in_ok-push_instance-in-Greater-clause-next t c =
    step_greater c.args.some.now c.args.others.now c.args.i c.args.j c.index-some-i.result c.index-others-j.result c.requires.first c.requires.second c.index-some-i.is c.index-others-j.is c.args.list.now.items c.push_instance-in-Greater.new.list.items
    (sym c.cmp.ensures.value ∙ c.in-Greater.is) c.in_ok-push_instance-in-Greater.ensures
