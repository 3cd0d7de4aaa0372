-- The first fault decides.
use Rattle.std.proofs.Common.{◌≡◌, None, sym, ap, ◌∙◌}
use Rattle.proof_trees.specs.Trees.{concl}
use Rattle.proof_graph.specs.declared.node.Node.{Node}
use Rattle.step_laws.specs.Faults.{first_defined}
use Rattle.extraction_laws.proofs.ExtractionOrder.{at_cut, at_definition, at_budget, within}
use Rattle.exp_extract.proofs.faults.check.Goals as goal

pub returns-in-Some-clause-err : goal.returns-in-Some-clause-err
returns-in-Some-clause-err c = at_cut c.args.proof.now.tree c.args.budget c.in-Some.place (sym c.in-Some.is ∙ c.in_ok-place.ensures.place)

pub returns-in-Some-2-clause-err : goal.returns-in-Some-2-clause-err
returns-in-Some-2-clause-err c =
    at_definition c.args.proof.now.tree c.args.budget (sym c.in_ok-place.ensures.place ∙ c.in_default.is) (c.in-Some-2.formula, c.in-Some-2.side)
    (sym c.in-Some-2.is ∙ c.in_ok-formula.ensures.first ∙ ap (λ (k : Node). first_defined k.end) c.get.ensures)

pub returns-in-None-clause-err : goal.returns-in-None-clause-err
returns-in-None-clause-err c =
    let no_body : first_defined (concl c.args.proof.now.tree) ≡ None = sym (c.in_ok-formula.ensures.first ∙ ap (λ (k : Node). first_defined k.end) c.get.ensures) ∙ c.in-None.is in
    at_budget c.args.proof.now.tree c.args.budget (sym c.in_ok-place.ensures.place ∙ c.in_default.is) no_body (sym c.if-branch.true ∙ c.in_ok-exceeds.ensures)

pub returns-in-None-2-clause-ok : goal.returns-in-None-2-clause-ok
returns-in-None-2-clause-ok c =
    let no_body : first_defined (concl c.args.proof.now.tree) ≡ None = sym (c.in_ok-formula.ensures.first ∙ ap (λ (k : Node). first_defined k.end) c.get.ensures) ∙ c.in-None-2.is in
    within c.args.proof.now.tree c.args.budget (sym c.in_ok-place.ensures.place ∙ c.in_default.is) no_body (sym c.if-branch.false ∙ c.in_ok-exceeds.ensures)
