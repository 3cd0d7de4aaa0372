use Rattle.std.proofs.Common.{◌≡◌, drop}
use Rattle.job_words.specs.NodeKinds.{node_named_among}
use Rattle.job_words.proofs.node_kinds.named_among.Given as goal

abbrev pub invariant-loop-kind : goal.invariant-loop-kind
invariant-loop-kind l = node_named_among l.name l.kinds ≡ node_named_among l.name (drop l.kind-index l.kinds)
