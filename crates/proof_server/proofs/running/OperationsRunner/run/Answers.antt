use Rattle.proof_server.proofs.running.OperationsRunner.run.Goals as goal

pub answer-requires-sync-R : goal.answer-requires-sync-R
answer-requires-sync-R g c κs within = record { shared = c.requires.sync.shared }
