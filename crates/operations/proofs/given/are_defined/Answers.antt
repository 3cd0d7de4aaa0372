-- What the names before the place are given decides with what this one is given.
use Rattle.std.proofs.Common.{[], subst}
use Rattle.operation_laws.specs.Given.{definition_given}
use Rattle.held_values.specs.Means.{sense}
use Rattle.operations.specs.Means.{FindsNone}
use Rattle.operations.specs.declared.answers.Absent.TheVariants as absent
use Rattle.operations.proofs.DefinitionsGiven.{AreGivenTo, given_first, given_more, given_wanted, given_fault, given_all, wanted_all}
use Rattle.operations.proofs.given.are_defined.Goals as goal
use Rattle.operations.proofs.given.are_defined.Goals.{in-Ok, in-Err-Wanting}

pub loop-index-init : goal.loop-index-init
loop-index-init c = ([], given_first c.args.texts.now c.args.given.now)

pub loop-index-preserved : goal.loop-index-preserved
loop-index-preserved c = elim c.match-definition_given.branch [
  | in-Ok w ↦ given_more c.args.texts.now c.args.given.now c.loop-index.index c.loop-index.wants c.loop-index.invariant.0 c.loop-index.invariant.1
      c.index-texts-index.result c.index-given-index.result c.loop-index-test.true c.requires c.index-texts-index.is c.index-given-index.is _ w.in-Ok.ensures.found c.match-definition_given.wants w.wants-is
  | in-Err-Wanting w ↦ given_wanted c.args.texts.now c.args.given.now c.loop-index.index c.loop-index.wants c.loop-index.invariant.0 c.loop-index.invariant.1
      c.index-texts-index.result c.index-given-index.result c.loop-index-test.true c.requires c.index-texts-index.is c.index-given-index.is (subst (λ a. FindsNone a (definition_given c.index-texts-index.result (sense c.index-given-index.result))) w.in-Err-Wanting.field-0-is w.in-Err-Wanting.ensures.found) c.match-definition_given.wants w.wants-is
]

pub returns-in-Err-Refused-clause-absent : goal.returns-in-Err-Refused-clause-absent
returns-in-Err-Refused-clause-absent c = given_fault c.args.texts.now c.args.given.now c.loop-index.index c.loop-index.wants c.loop-index.invariant.0 c.loop-index.invariant.1
    c.index-texts-index.result c.index-given-index.result c.loop-index-test.true c.requires c.index-texts-index.is c.index-given-index.is (absent.Refused c.in-Err-Refused.refusal) (subst (λ a. FindsNone a (definition_given c.index-texts-index.result (sense c.index-given-index.result))) c.in-Err-Refused.field-0-is c.in-Err-Refused.ensures.found) (λ same. cc)

pub returns-in-Err-Unnamed-clause-absent : goal.returns-in-Err-Unnamed-clause-absent
returns-in-Err-Unnamed-clause-absent c = given_fault c.args.texts.now c.args.given.now c.loop-index.index c.loop-index.wants c.loop-index.invariant.0 c.loop-index.invariant.1
    c.index-texts-index.result c.index-given-index.result c.loop-index-test.true c.requires c.index-texts-index.is c.index-given-index.is absent.Unnamed (subst (λ a. FindsNone a (definition_given c.index-texts-index.result (sense c.index-given-index.result))) c.in-Err-Unnamed.field-0-is c.in-Err-Unnamed.ensures.found) (λ same. cc)

pub returns-then-wants-clause-absent : goal.returns-then-wants-clause-absent
returns-then-wants-clause-absent c =
    let all = c.loop-index.invariant in
    wanted_all c.args.texts.now c.args.given.now c.loop-index.index all.0 c.loop-index-test.false
    (subst (λ w. AreGivenTo c.args.texts.now c.args.given.now c.loop-index.index w all.0) c.if-wants.true all.1)

pub returns-clause-found : goal.returns-clause-found
returns-clause-found c =
    let all = c.loop-index.invariant in
    let given = subst (λ w. AreGivenTo c.args.texts.now c.args.given.now c.loop-index.index w all.0) c.if-wants.false all.1 in
    (all.0, given_all c.args.texts.now c.args.given.now c.loop-index.index all.0 c.loop-index-test.false given)
