use Rattle.tptp_problem.specs.BodyReader.{body_meaning, body_from}
use Rattle.tptp_problem.proofs.Loops.{body_error_on}
use Rattle.tptp_problem.proofs.bodies.body_of.Goals as goal

pub returns-in-Err-clause-value : goal.returns-in-Err-clause-value
returns-in-Err-clause-value c =
    body_error_on (body_meaning c.loop-body.body) c.loop-body.rest.now c.in_ok-found.front.now c.in_ok-found.ensures.front c.in_ok-found.found c.in-Found.token c.in-Found.length c.ends_before.result c.in-Err.error (body_from (body_meaning c.args.body) c.args.bytes.now)
    c.in_ok-found.ensures.token c.in-Found.is c.ends_before.ensures c.if-ends_before.false c.in-Err.ensures c.loop-body.invariant.0
