-- There is a last step.
use Rattle.std.proofs.Common.{◌≡◌, ℕ, ◌==◌, true, length, sym, ap, ◌∙◌, arith}
use Rattle.lk_check.proofs.Growing.{as_many_proofs, last_tree}
use Rattle.step_laws.proofs.StepEnds.{tree_end}
use Rattle.step_laws.proofs.Admitted.{admitted, no_steps, refused, some_tree, no_element, some_element, no_fault_found}
use Rattle.lk_check.proofs.admission.admit.Goals as goal

pub unreachable-requires : goal.unreachable-requires
unreachable-requires g c =
    let many = as_many_proofs c.args.steps.now c.in-Ok.proofs.items c.in-Ok.ensures.trees in
    let none : length c.args.steps.now ≡ 0 = omega (arith, c.in-None.ensures.cases.0, c.in-Ok.proofs.ok.0) in
    let empty : (length c.args.steps.now == 0) ≡ true = ap (λ (n : ℕ). n == 0) none in
    cc

pub returns-clause-tree : goal.returns-clause-tree
returns-clause-tree g c = last_tree c.args.steps.now c.in-Ok.proofs.items c.pop.new.self.items c.in-Some-pop.last c.in-Ok.ensures.trees c.in-Some-pop.ensures.items

pub returns-clause-end : goal.returns-clause-end
returns-clause-end g c =
    tree_end c.args.steps.now c.in-Some-pop.last.tree (last_tree c.args.steps.now c.in-Ok.proofs.items c.pop.new.self.items c.in-Some-pop.last c.in-Ok.ensures.trees c.in-Some-pop.ensures.items)

pub returns-then-is_empty-clause-exact : goal.returns-then-is_empty-clause-exact
returns-then-is_empty-clause-exact g c = no_steps c.args.steps.now (no_element c.args.steps.now (sym c.is_empty.ensures ∙ c.if-is_empty.true))

pub returns-in-Some-clause-exact : goal.returns-in-Some-clause-exact
returns-in-Some-clause-exact g c = refused c.args.steps.now c.in-Some.step c.in-Some.cause (sym c.first_fault.ensures.value ∙ c.in-Some.is)

pub returns-in_default-admit_all-clause-exact : goal.returns-in_default-admit_all-clause-exact
returns-in_default-admit_all-clause-exact g c =
    some_tree c.args.steps.now (no_fault_found c.args.steps.now c.first_fault.result c.first_fault.ensures.value (λ f. c.in_default.not-Some f))
    (some_element c.args.steps.now (sym c.is_empty.ensures ∙ c.if-is_empty.false))

pub returns-clause-exact : goal.returns-clause-exact
returns-clause-exact g c =
    admitted c.args.steps.now c.in-Some-pop.last.tree
    (no_fault_found c.args.steps.now c.first_fault.result c.first_fault.ensures.value (λ f. c.in_default.not-Some f))
    (last_tree c.args.steps.now c.in-Ok.proofs.items c.pop.new.self.items c.in-Some-pop.last c.in-Ok.ensures.trees c.in-Some-pop.ensures.items)
