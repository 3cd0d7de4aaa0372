-- The key, which has the numbers of the premises, stands at the number of the reference, and nowhere else in a legal history.
use Rattle.std.proofs.Common.{◌≡◌, ap, ◌∙◌, subst}
use Rattle.std.specs.Prelude.{IfOk}
use Rattle.proof_graph.specs.declared.node.Node.{Node}
use Rattle.proof_graph.specs.References.{key_over}
use Rattle.proof_graph.specs.History.{StandsAt}
use Rattle.proof_graph.specs.Graphs.{history}
use Rattle.proof_graph.proofs.Standing.{known_after, stands_if_made}
use Rattle.proof_graph.proofs.graph.Graph.intern.Goals as goal

pub returns-clause-stands : goal.returns-clause-stands
returns-clause-stands g c =
    let key : c.in_ok-key.key ≡ key_over c.args.rule c.args.end c.args.premises.now = c.in_ok-key.ensures.key ∙ ap (key_over c.args.rule c.args.end) c.in_ok-keep_all.ensures in
    subst (λ (k : Node). IfOk c.add.result (λ r. StandsAt (history c.add.new.pass) k r.number)) key
    (stands_if_made c.add.result (history c.args.pass.now) (history c.add.new.pass) c.in_ok-key.key c.add.ensures.key c.add.ensures.adds)

pub returns-clause-known : goal.returns-clause-known
returns-clause-known g c =
    known_after c.add.result (history c.args.pass.now) (history c.add.new.pass) (key_over c.args.rule c.args.end c.args.premises.now) c.add.new.pass.legal c.add.ensures.grown
    (returns-clause-stands g c)
