-- What was found so far decides.
use Rattle.std.proofs.Common.{◌≡◌, None, sym, ap, ◌∙◌}
use Rattle.std.specs.List.{position}
use Rattle.lk_rules.specs.Sequents.{union_sequent}
use Rattle.lk_rules.specs.declared.sequent.Sequent.{Sequent}
use Rattle.proof_graph.specs.declared.node.Node.{Node}
use Rattle.proof_trees.specs.Trees.{concl}
use Rattle.step_laws.specs.Places.{steps_of, is_cut_step}
use Rattle.step_laws.specs.Faults.{first_defined}
use Rattle.interp_laws.specs.Interpolating.{first_difference}
use Rattle.lk_interp.proofs.Found.{none_left}
use Rattle.interp_laws.proofs.InterpolationOrder.{at_cut, at_definition, at_difference, at_budget, within}
use Rattle.lk_interp.proofs.faults.check.Goals as goal

pub returns-in-Some-clause-err : goal.returns-in-Some-clause-err
returns-in-Some-clause-err c = at_cut c.args.proof.now.tree c.args.first.now c.args.second.now c.args.budget c.in-Some.place (sym c.in-Some.is ∙ c.in_ok-place.ensures.place)

pub returns-in-Some-2-clause-err : goal.returns-in-Some-2-clause-err
returns-in-Some-2-clause-err c =
    let t = c.args.proof.now.tree in
    let no_cut : None ≡ position is_cut_step (steps_of t) = sym (none_left c.in_ok-place.field-0 c.in_default.not-Some) ∙ c.in_ok-place.ensures.place in
    at_definition t c.args.first.now c.args.second.now c.args.budget no_cut (c.in-Some-2.formula, c.in-Some-2.side)
    (sym c.in-Some-2.is ∙ c.in_ok-formula.ensures.first ∙ ap (λ (k : Node). first_defined k.end) c.get.ensures)

pub returns-in-Some-3-clause-err : goal.returns-in-Some-3-clause-err
returns-in-Some-3-clause-err c =
    let t = c.args.proof.now.tree in
    let one = c.args.first.now in
    let two = c.args.second.now in
    let no_cut : None ≡ position is_cut_step (steps_of t) = sym (none_left c.in_ok-place.field-0 c.in_default.not-Some) ∙ c.in_ok-place.ensures.place in
    let no_body : None ≡ first_defined (concl t) = sym (none_left c.in_ok-formula.field-0 c.in_default-2.not-Some) ∙ c.in_ok-formula.ensures.first ∙ ap (λ (k : Node). first_defined k.end) c.get.ensures in
    at_difference t one two c.args.budget no_cut no_body (c.in-Some-3.formula, c.in-Some-3.side)
    (sym c.in-Some-3.is ∙ c.in_ok-formula-2.ensures.first ∙ ap (λ (s : Sequent). first_difference s c.get.result.now.end) c.in_ok-union.ensures ∙ ap (λ (k : Node). first_difference (union_sequent one two) k.end) c.get.ensures)

pub returns-then-branch-clause-err : goal.returns-then-branch-clause-err
returns-then-branch-clause-err c =
    let t = c.args.proof.now.tree in
    let one = c.args.first.now in
    let two = c.args.second.now in
    let no_cut : None ≡ position is_cut_step (steps_of t) = sym (none_left c.in_ok-place.field-0 c.in_default.not-Some) ∙ c.in_ok-place.ensures.place in
    let no_body : None ≡ first_defined (concl t) = sym (none_left c.in_ok-formula.field-0 c.in_default-2.not-Some) ∙ c.in_ok-formula.ensures.first ∙ ap (λ (k : Node). first_defined k.end) c.get.ensures in
    let same : None ≡ first_difference (union_sequent one two) (concl t) = sym (none_left c.in_ok-formula-2.field-0 c.in_default-3.not-Some) ∙ c.in_ok-formula-2.ensures.first
    ∙ ap (λ (s : Sequent). first_difference s c.get.result.now.end) c.in_ok-union.ensures ∙ ap (λ (k : Node). first_difference (union_sequent one two) k.end) c.get.ensures in
    at_budget t one two c.args.budget no_cut no_body same (sym c.if-branch.true ∙ c.in_ok-exceeds.ensures)

pub returns-clause-ok : goal.returns-clause-ok
returns-clause-ok c =
    let t = c.args.proof.now.tree in
    let one = c.args.first.now in
    let two = c.args.second.now in
    let no_cut : None ≡ position is_cut_step (steps_of t) = sym (none_left c.in_ok-place.field-0 c.in_default.not-Some) ∙ c.in_ok-place.ensures.place in
    let no_body : None ≡ first_defined (concl t) = sym (none_left c.in_ok-formula.field-0 c.in_default-2.not-Some) ∙ c.in_ok-formula.ensures.first ∙ ap (λ (k : Node). first_defined k.end) c.get.ensures in
    let same : None ≡ first_difference (union_sequent one two) (concl t) = sym (none_left c.in_ok-formula-2.field-0 c.in_default-3.not-Some) ∙ c.in_ok-formula-2.ensures.first
    ∙ ap (λ (s : Sequent). first_difference s c.get.result.now.end) c.in_ok-union.ensures ∙ ap (λ (k : Node). first_difference (union_sequent one two) k.end) c.get.ensures in
    within t one two c.args.budget no_cut no_body same (sym c.if-branch.false ∙ c.in_ok-exceeds.ensures)
