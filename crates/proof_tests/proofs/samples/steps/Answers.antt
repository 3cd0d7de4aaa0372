-- A further step whose rule names well-formed parts.
use Rattle.std.proofs.lemmas.List.Elements.{All-push}
use Rattle.lk_rules.specs.Rules.{IsFormedRule}
use Rattle.proof_tests.proofs.samples.steps.Goals as goal

pub loop-part-preserved : goal.loop-part-preserved
loop-part-preserved c =
    rw c.in_ok-push.ensures.items (All-push (λ step. IsFormedRule step.rule) c.loop-part.list.items c.in_ok-step.field-0 c.loop-part.invariant c.in_ok-step.ensures)
