-- What came of a job may cross to another thread, as a set for `search`. It has so many variants that the lemma on enums is applied by hand, and
-- the search for the variants needs bounds of its own.
use denote.Enum.Declared as declared
use denote.Param.Send.{IsSend, sendable, plain_send, such_send, copied_send, fixed_send, view_send, recorded_send, struct_send, enum_send}
use Rattle.std.proofs.Crossing as std
use Rattle.exp_tree.proofs.Crossing as trees
use Rattle.exp_tree.proofs.flat.NodeCause.TheSendSync as node
use Rattle.exp_tree.proofs.flat.RootCause.TheSendSync as root
use Rattle.job_words.proofs.Crossing as words
use Rattle.job_words.proofs.causes.JobCause.TheSendSync as cause
use Rattle.job_words.proofs.formed.FormedVar.TheSendSync as var
use Rattle.job_words.proofs.formed.FormedVars.TheSendSync as vars
use Rattle.job_words.proofs.formed.SymbolName.TheSendSync as symbol
use Rattle.job_words.proofs.texts.Utf8Text.TheSendSync as text
use Rattle.lk_rules.proofs.Crossing as rules
use Rattle.lk_rules.proofs.sequent.Side.TheSendSync as side
use Rattle.reply_lines.proofs.replies.RefutationShown.TheSendSync as refutation
use Rattle.reply_lines.proofs.replies.StepShown.TheSendSync as step
use Rattle.reply_lines.specs.contracts.replies.ExpSummary as exp_summary
use Rattle.reply_lines.specs.contracts.replies.Outcome as outcome
use Rattle.reply_lines.specs.contracts.replies.Summary as summary

summary_send : IsSend (summary.the_field).row
summary_send = search (sendable, std.crosses, rules.crosses) depth 20

exp_summary_send : IsSend (exp_summary.the_field).row
exp_summary_send = search (sendable, std.crosses, rules.crosses) depth 20

-- what the parts of an outcome are made of: whole types before the forms of types, so that none is taken apart
ruleset parts = (
  tt,
  plain_send,
  words.steps_send,
  words.refutation_send,
  words.clauses_send,
  words.formula_send,
  summary_send,
  exp_summary_send,
  cause.the_field_send,
  var.the_send,
  vars.the_send,
  symbol.the_send,
  text.the_send,
  node.the_field_send,
  root.the_field_send,
  side.the_field_send,
  refutation.the_field_send,
  step.the_field_send,
  rules.crosses,
  trees.crosses,
  such_send,
  copied_send,
  fixed_send,
  view_send,
  recorded_send,
  struct_send,
  enum_send,
)

pub outcome_send : IsSend (outcome.the_field).row
outcome_send = enum_send (declared.shape outcome.the_type) (search parts depth 80 fits 10000)

pub ruleset crosses = (outcome_send)
