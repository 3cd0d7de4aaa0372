-- Each rule so far names well-formed parts.
use Rattle.std.specs.List.{All}
use Rattle.lk_rules.specs.Rules.{IsFormedRule}
use Rattle.proof_tests.proofs.samples.steps.Given as goal

abbrev pub invariant-loop-part : goal.invariant-loop-part
invariant-loop-part l = All (λ step. IsFormedRule step.rule) l.list.items
