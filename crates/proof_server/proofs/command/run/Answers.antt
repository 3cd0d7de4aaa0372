use Rattle.std.proofs.Common.{refl, inl}
use Rattle.proof_server.specs.declared.ending.Ended.TheVariants.{Memory}
use Rattle.proof_server.specs.declared.bundles.EndedSessions.TheVariants as bundle
use Rattle.proof_server.proofs.Endings.{nothing_done}
use Rattle.proof_server.proofs.Bundled.{none_taken}
use Rattle.proof_server.proofs.command.run.Goals as goal

pub returns-in-Err-Memory-clause-served : goal.returns-in-Err-Memory-clause-served
returns-in-Err-Memory-clause-served g c = λ asked. (Memory, refl, nothing_done _ _ _)

pub returns-in-Err-Memory-clause-sessions : goal.returns-in-Err-Memory-clause-sessions
returns-in-Err-Memory-clause-sessions g c = λ asked. (bundle.Memory, refl, refl, inl (none_taken _, refl))
