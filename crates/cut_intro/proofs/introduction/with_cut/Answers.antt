-- The parts are those for the candidate, and fit together.
use Rattle.std.proofs.Common.{sym, ap, subst}
use Rattle.lk_rules.specs.declared.sequent.Sequent.{Sequent}
use Rattle.proof_graph.specs.declared.node.Node.{Node}
use Rattle.proof_trees.specs.Trees.{concl}
use Rattle.cut_intro.specs.Instancing.{AreInstancesFor}
use Rattle.cut_intro.proofs.Readiness.{ready, makes_at}
use Rattle.cut_intro.proofs.introduction.with_cut.Goals as goal

pub plan-requires-clause-instances : goal.plan-requires-clause-instances
plan-requires-clause-instances g c = subst (λ (s : Sequent). AreInstancesFor s c.args.instances.now) (sym (ap (λ (n : Node). n.end) c.get.ensures)) c.requires.instances

pub perform-requires-clause-ready : goal.perform-requires-clause-ready
perform-requires-clause-ready g c =
    let width = c.requires.candidate.0 in
    let k = c.requires.candidate.1 in
    ready c.get.result.now.end c.args.instances.now (subst (λ (s : Sequent). AreInstancesFor s c.args.instances.now) (sym (ap (λ (n : Node). n.end) c.get.ensures)) c.requires.instances)
    width c.args.candidate.now.values k.occurs c.in_ok-cutting.cutting (c.in_ok-cutting.ensures width k)

pub returns-clause-made : goal.returns-clause-made
returns-clause-made g c = λ width k.
    makes_at c.get.result.now.end (concl c.args.proof.now.tree) (ap (λ (n : Node). n.end) c.get.ensures) width c.args.instances.now c.args.candidate.now.values c.in_ok-cutting.cutting (c.in_ok-cutting.ensures width k)
    c.perform.result c.args.budget c.perform.ensures.made
