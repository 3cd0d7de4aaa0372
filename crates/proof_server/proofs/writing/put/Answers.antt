use Rattle.proof_server.proofs.writing.put.Goals as goal

pub returns-in-Err-clause-puts : goal.returns-in-Err-clause-puts
returns-in-Err-clause-puts g c =
    let failed = c.in-Err.ensures in
    (failed.cause, (c.in-Err.field-0.written, failed.within, failed.partial))
