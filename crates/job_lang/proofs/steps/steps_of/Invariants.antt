use Rattle.std.specs.List.{All}
use Rattle.lk_rules.specs.Rules.{IsFormedRule}
use Rattle.line_values.specs.View.{view}
use Rattle.job_lang.specs.Steps.{step_at}
use Rattle.job_lang.proofs.Each.{Reads}
use Rattle.job_lang.proofs.steps.steps_of.Given as goal

abbrev pub invariant-loop-index : goal.invariant-loop-index
invariant-loop-index l = Reads view step_at l.values l.index l.items.items × All (λ s. IsFormedRule s.rule) l.items.items
