-- The key that is left over is what was asked for.
use Rattle.std.proofs.Common.{subst, rules}
use Rattle.std.specs.Prelude.{IfOk}
use Rattle.proof_graph.specs.declared.node.Node.{Node}
use Rattle.proof_graph.specs.History.{Adds}
use Rattle.proof_graph.proofs.Candidates.{key_left}
use Rattle.proof_graph.proofs.index.Index.intern_left.Goals as goal

pub returns-in-Some-clause-adds : goal.returns-in-Some-clause-adds
returns-in-Some-clause-adds g c =
    subst (λ (n : Node). IfOk c.intern.result (λ e. Adds c.args.self.now.history n e.made c.intern.new.self.history))
    (key_left c.args.candidate c.in-Some.key c.in-Some.draft (search rules)) c.intern.ensures.adds
