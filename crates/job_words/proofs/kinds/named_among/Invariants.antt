use Rattle.std.proofs.Common.{◌≡◌, drop}
use Rattle.job_words.specs.RuleKinds.{named_among}
use Rattle.job_words.proofs.kinds.named_among.Given as goal

abbrev pub invariant-loop-kind : goal.invariant-loop-kind
invariant-loop-kind l = named_among l.name l.kinds ≡ named_among l.name (drop l.kind-index l.kinds)
