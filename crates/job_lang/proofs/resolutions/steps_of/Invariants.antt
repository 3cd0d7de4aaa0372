use Rattle.line_values.specs.View.{view}
use Rattle.refutations.specs.Refutations.{AreFormedSteps}
use Rattle.job_lang.specs.Resolutions.{res_step_at}
use Rattle.job_lang.proofs.Each.{Reads}
use Rattle.job_lang.proofs.resolutions.steps_of.Given as goal

abbrev pub invariant-loop-index : goal.invariant-loop-index
invariant-loop-index l = Reads view res_step_at l.values l.index l.items.items × AreFormedSteps l.items.items
