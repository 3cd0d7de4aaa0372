-- What jobs ask for may cross threads, as a set for `search`. It has so many variants that the lemma on enums is
-- applied by hand, and the search for the variants needs bounds of its own.
use denote.Enum.Declared as declared
use denote.Param.Send.{IsSend, IsSync, sendable}
use denote.Param.Send.{plain_send, such_send, copied_send, fixed_send, view_send, recorded_send, struct_send, enum_send}
use denote.Param.Send.{plain_sync, such_sync, copied_sync, fixed_sync, view_sync, recorded_sync, struct_sync, enum_sync}
use Rattle.std.proofs.Crossing as std
use Rattle.exp_tree.proofs.Crossing as trees
use Rattle.job_lang.proofs.budgets.Budget.TheSendSync as budget
use Rattle.job_lang.proofs.round_numbers.RoundNumber.TheSendSync as rounds
use Rattle.job_lang.proofs.widths.Width.TheSendSync as width
use Rattle.job_lang.specs.contracts.jobs.Op as op
use Rattle.job_lang.specs.contracts.maps.FormedMap as map
use Rattle.job_lang.specs.contracts.resolutions.ResSteps as resolution
use Rattle.job_words.proofs.Crossing as words
use Rattle.job_words.proofs.formed.FormedVars.TheSendSync as vars
use Rattle.job_words.proofs.formed.SymbolName.TheSendSync as symbol
use Rattle.job_words.proofs.texts.Utf8Text.TheSendSync as text
use Rattle.job_words.proofs.texts.Utf8Texts.TheSendSync as texts
use Rattle.lk_rules.proofs.Crossing as rules
use Rattle.refutations.specs.contracts.step.ResStep as step
use Rattle.substitution.specs.contracts.maps.Subst as subst
use Rattle.tptp_problem.proofs.Crossing as problems

subst_send : IsSend subst.the_row
subst_send = search (sendable, std.crosses, rules.crosses) depth 20

subst_sync : IsSync subst.the_row
subst_sync = search (sendable, std.crosses, rules.crosses) depth 20

map_send : IsSend map.the_row
map_send = search (sendable, subst_send) depth 10

map_sync : IsSync map.the_row
map_sync = search (sendable, subst_sync) depth 10

step_send : IsSend (step.the_field).row
step_send = search (sendable, std.crosses, rules.crosses, subst_send) depth 20

step_sync : IsSync (step.the_field).row
step_sync = search (sendable, std.crosses, rules.crosses, subst_sync) depth 20

resolution_send : IsSend resolution.the_row
resolution_send = search (sendable, std.crosses, step_send) depth 20

resolution_sync : IsSync resolution.the_row
resolution_sync = search (sendable, std.crosses, step_sync) depth 20

-- what the parts of a job are made of: whole types before the forms of types, so that none is taken apart
ruleset parts_send = (
  tt,
  plain_send,
  words.steps_send,
  words.formula_send,
  vars.the_send,
  symbol.the_send,
  text.the_send,
  texts.the_send,
  map_send,
  resolution_send,
  budget.the_send,
  width.the_send,
  rounds.the_send,
  rules.crosses,
  problems.crosses,
  trees.crosses,
  such_send,
  copied_send,
  fixed_send,
  view_send,
  recorded_send,
  struct_send,
  enum_send,
)

ruleset parts_sync = (
  tt,
  plain_sync,
  words.steps_sync,
  words.formula_sync,
  vars.the_sync,
  symbol.the_sync,
  text.the_sync,
  texts.the_sync,
  map_sync,
  resolution_sync,
  budget.the_sync,
  width.the_sync,
  rounds.the_sync,
  rules.crosses,
  problems.crosses,
  trees.crosses,
  such_sync,
  copied_sync,
  fixed_sync,
  view_sync,
  recorded_sync,
  struct_sync,
  enum_sync,
)

pub op_send : IsSend (op.the_field).row
op_send = enum_send (declared.shape op.the_type) (search parts_send depth 80 fits 10000)

pub op_sync : IsSync (op.the_field).row
op_sync = enum_sync (declared.shape op.the_type) (search parts_sync depth 80 fits 10000)

pub ruleset crosses = (op_send, op_sync)
