-- What is found of the clauses as sequents holds of them.
use Rattle.std.proofs.Common.{◌≡◌, List, sym, ap, ◌∙◌, subst}
use Rattle.std.specs.List.{All}
use Rattle.ground_laws.specs.declared.step.SatStep.{SatStep}
use Rattle.ground_laws.specs.Deciding.{IsAnswer}
use Rattle.ground_laws.specs.Steps.{IsRefutation, sequents_of}
use Rattle.sat_search.specs.declared.answer.SatAnswer.{SatAnswer}
use Rattle.sat_search.specs.Answers.{answer_of}
use Rattle.sat_search.specs.Grounds.{clauses_of}
use Rattle.operations.proofs.Satisfied.{AreGround, HasShownAtom, model_comes, refutes_clauses, atoms_shown}
use Rattle.operations.proofs.satisfying.solve_clauses.Goals as goal

pub returns-in-Ok-Model : goal.returns-in-Ok-Model
returns-in-Ok-Model c = λ g.
    let cs = c.args.clauses.now in
    let gs = c.deref.result.now in
    let known : AreGround cs = record { clauses = c.requires.known; ground = c.requires.ground; primitive = c.requires.primitive } in
    let same : clauses_of gs ≡ sequents_of cs = ap clauses_of c.deref.ensures.value ∙ c.in-Ok.ensures in
    let is = subst (λ (a : SatAnswer). IsAnswer (clauses_of gs) (answer_of a)) c.in-Ok-Model.field-0-is c.in-Ok-Model.ensures.answer in
    model_comes g cs gs c.in-Ok-Model.atoms known same is

pub hold_steps-requires-clause-refutes : goal.hold_steps-requires-clause-refutes
hold_steps-requires-clause-refutes c =
    let cs = c.args.clauses.now in
    let gs = c.deref.result.now in
    let same : clauses_of gs ≡ sequents_of cs = ap clauses_of c.deref.ensures.value ∙ c.in-Ok.ensures in
    let is = subst (λ (a : SatAnswer). IsAnswer (clauses_of gs) (answer_of a)) c.in-Ok-Refutation.field-0-is c.in-Ok-Refutation.ensures.answer in
    subst (λ (steps : List SatStep). IsRefutation (sequents_of cs) steps) (sym c.as_slice.ensures) (refutes_clauses cs gs c.in-Ok-Refutation.steps same is)

pub hold_steps-requires-clause-shown : goal.hold_steps-requires-clause-shown
hold_steps-requires-clause-shown c =
    let cs = c.args.clauses.now in
    let gs = c.deref.result.now in
    let known : AreGround cs = record { clauses = c.requires.known; ground = c.requires.ground; primitive = c.requires.primitive } in
    let same : clauses_of gs ≡ sequents_of cs = ap clauses_of c.deref.ensures.value ∙ c.in-Ok.ensures in
    let is = subst (λ (a : SatAnswer). IsAnswer (clauses_of gs) (answer_of a)) c.in-Ok-Refutation.field-0-is c.in-Ok-Refutation.ensures.answer in
    subst (λ (steps : List SatStep). All HasShownAtom steps) (sym c.as_slice.ensures) (atoms_shown cs gs c.in-Ok-Refutation.steps known same is)
