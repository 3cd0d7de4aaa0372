-- Steps, names and what else jobs and replies are made of may cross threads, as a set for `search`.
use denote.Param.Send.{IsSend, IsSync, sendable}
use Rattle.std.proofs.Crossing as std
use Rattle.job_words.proofs.causes.JobCause.TheSendSync as cause
use Rattle.job_words.proofs.formed.FormedVar.TheSendSync as var
use Rattle.job_words.proofs.formed.FormedVars.TheSendSync as vars
use Rattle.job_words.proofs.names.Name.TheSendSync as name
use Rattle.job_words.proofs.formed.SymbolName.TheSendSync as symbol
use Rattle.job_words.proofs.texts.Utf8Text.TheSendSync as text
use Rattle.job_words.proofs.texts.Utf8Texts.TheSendSync as texts
use Rattle.job_words.specs.contracts.clauses.ClauseList as clauses
use Rattle.job_words.specs.contracts.formed.FormedFormula as formula
use Rattle.job_words.specs.contracts.steps.RefutationSteps as refutation
use Rattle.job_words.specs.contracts.steps.Steps as steps
use Rattle.lk_rules.proofs.Crossing as rules
use Rattle.refutations.specs.contracts.step.ResStep as res_step
use Rattle.substitution.specs.contracts.maps.Subst as subst

pub steps_send : IsSend steps.the_row
steps_send = search (sendable, std.crosses, rules.crosses) depth 20

pub steps_sync : IsSync steps.the_row
steps_sync = search (sendable, std.crosses, rules.crosses) depth 20

subst_send : IsSend subst.the_row
subst_send = search (sendable, std.crosses, rules.crosses) depth 20

subst_sync : IsSync subst.the_row
subst_sync = search (sendable, std.crosses, rules.crosses) depth 20

res_step_send : IsSend (res_step.the_field).row
res_step_send = search (sendable, std.crosses, rules.crosses, subst_send) depth 20

res_step_sync : IsSync (res_step.the_field).row
res_step_sync = search (sendable, std.crosses, rules.crosses, subst_sync) depth 20

pub refutation_send : IsSend refutation.the_row
refutation_send = search (sendable, std.crosses, res_step_send, res_step_sync) depth 20

pub refutation_sync : IsSync refutation.the_row
refutation_sync = search (sendable, std.crosses, res_step_send, res_step_sync) depth 20

pub clauses_send : IsSend clauses.the_row
clauses_send = search (sendable, std.crosses, rules.crosses) depth 20

pub clauses_sync : IsSync clauses.the_row
clauses_sync = search (sendable, std.crosses, rules.crosses) depth 20

pub formula_send : IsSend formula.the_row
formula_send = search (sendable, rules.crosses) depth 20

pub formula_sync : IsSync formula.the_row
formula_sync = search (sendable, rules.crosses) depth 20

pub ruleset crosses = (
  steps_send,
  steps_sync,
  refutation_send,
  refutation_sync,
  clauses_send,
  clauses_sync,
  formula_send,
  formula_sync,
  cause.the_field_send,
  cause.the_field_sync,
  var.the_send,
  var.the_sync,
  vars.the_send,
  vars.the_sync,
  name.the_send,
  name.the_sync,
  symbol.the_send,
  symbol.the_sync,
  text.the_send,
  text.the_sync,
  texts.the_send,
  texts.the_sync,
)
