use Rattle.proof_server.proofs.Endings.{nothing_done}
use Rattle.proof_server.proofs.serving.serve_session.Goals as goal

pub returns-in-Err : goal.returns-in-Err
returns-in-Err g c = record { ends = nothing_done _ _ _ }
