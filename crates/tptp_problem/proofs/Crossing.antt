-- Problems may cross threads, as a set for `search`.
use denote.Param.Send.{IsSend, IsSync, sendable}
use Rattle.std.proofs.Crossing as std
use Rattle.fol.proofs.texts.Text.TheSendSync as text
use Rattle.lk_rules.proofs.Crossing as rules
use Rattle.tptp_problem.proofs.problems.Language.TheSendSync as language
use Rattle.tptp_problem.proofs.problems.Role.TheSendSync as role
use Rattle.tptp_problem.specs.contracts.problems.Entry as entry
use Rattle.tptp_problem.specs.contracts.problems.Problem as problem

entry_send : IsSend (entry.the_field).row
entry_send = search (sendable, std.crosses, rules.crosses, text.the_send, language.the_field_send, role.the_field_send) depth 20

entry_sync : IsSync (entry.the_field).row
entry_sync = search (sendable, std.crosses, rules.crosses, text.the_sync, language.the_field_sync, role.the_field_sync) depth 20

pub problem_send : IsSend (problem.the_field).row
problem_send = search (sendable, std.crosses, rules.crosses, entry_send, entry_sync) depth 20

pub problem_sync : IsSync (problem.the_field).row
problem_sync = search (sendable, std.crosses, rules.crosses, entry_send, entry_sync) depth 20

pub ruleset crosses = (problem_send, problem_sync)
