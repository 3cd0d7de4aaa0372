use Rattle.std.proofs.Common.{◌+◌, List, sym, subst}
use Rattle.std.specs.List.{All}
use Rattle.std.proofs.lemmas.List.Elements.{All-push}
use Rattle.lk_rules.specs.Rules.{IsFormedRule}
use Rattle.lk_rules.specs.declared.rule.Step.{Step}
use Rattle.line_values.specs.View.{view}
use Rattle.job_lang.specs.Steps.{step_at}
use Rattle.job_lang.proofs.Each.{Reads, reads_more}
use Rattle.job_lang.proofs.steps.steps_of.Goals as goal

pub loop-index-preserved : goal.loop-index-preserved
loop-index-preserved c =
    let i = c.loop-index.index in
    subst (λ (steps : List Step). Reads view step_at c.args.values.now (i + 1) steps × All (λ s. IsFormedRule s.rule) steps) (sym c.in_ok-push.ensures.items) (
      reads_more view step_at c.args.values.now i c.index-values-index.result c.loop-index.items.items c.in_ok-step.step
          c.loop-index-test.true c.index-values-index.is c.in_ok-step.ensures.value c.loop-index.invariant.0,
      All-push (λ (s : Step). IsFormedRule s.rule) c.loop-index.items.items c.in_ok-step.step c.loop-index.invariant.1 c.in_ok-step.ensures.formed,
    )
