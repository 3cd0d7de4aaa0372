use Rattle.std.proofs.Common.{◌+◌, List, sym, subst}
use Rattle.std.proofs.lemmas.List.Elements.{All-push}
use Rattle.refutations.specs.declared.step.ResStep.{ResStep}
use Rattle.refutations.specs.Refutations.{IsFormedStep, AreFormedSteps}
use Rattle.line_values.specs.View.{view}
use Rattle.job_lang.specs.Resolutions.{res_step_at}
use Rattle.job_lang.proofs.Each.{Reads, reads_more}
use Rattle.job_lang.proofs.resolutions.steps_of.Goals as goal

pub loop-index-preserved : goal.loop-index-preserved
loop-index-preserved c =
    let i = c.loop-index.index in
    subst (λ (steps : List ResStep). Reads view res_step_at c.args.values.now (i + 1) steps × AreFormedSteps steps) (sym c.in_ok-push.ensures.items) (
      reads_more view res_step_at c.args.values.now i c.index-values-index.result c.loop-index.items.items c.in_ok-step.step
          c.loop-index-test.true c.index-values-index.is c.in_ok-step.ensures.value c.loop-index.invariant.0,
      All-push IsFormedStep c.loop-index.items.items c.in_ok-step.step c.loop-index.invariant.1 c.in_ok-step.ensures.formed,
    )
