-- The trees get smaller, and the variables of one more proof are added.
use Rattle.std.proofs.Common.{Result, Ok, Err, ap, ◌∙◌, arith}
use Rattle.std.specs.Prelude.{IfOk}
use Rattle.proof_graph.specs.declared.node.Node.{Node}
use Rattle.proof_graph.specs.References.{Reference, trees_of}
use Rattle.proof_steps.proofs.Sizes.{premise_smaller}
use Rattle.exp_extract.proofs.Gathered.{known, added, whole, one_more}
use Rattle.exp_extract.proofs.variables.+gather.Goals as goal

is_ok : {X E : Type 0} (r : Result X E) {P : Type 0} → P → IfOk r (λ x. P)
is_ok (Ok x) h = h
is_ok (Err e) h = tt

pub gather-returns-then-has_seen-clause-vars : goal.gather-returns-then-has_seen-clause-vars
gather-returns-then-has_seen-clause-vars t c = known c.args.gathering.now.vars c.args.proof.now.tree (c.has_seen.ensures c.if-has_seen.true)

pub gather-note-requires-clause-known : goal.gather-note-requires-clause-known
gather-note-requires-clause-known t c =
    added c.args.gathering.now.vars c.gather_all.new.gathering.vars c.args.proof.now.tree (
    whole c.args.gathering.now.vars c.add.new.self.vars c.gather_all.new.gathering.vars c.args.proof.now.tree c.get.result.now c.in_ok-vars.vars.items c.deref.result.now (trees_of c.premises.result.now)
    (ap (λ (n : Node). n.rule) c.get.ensures) (ap (λ (n : Node). n.end) c.get.ensures) c.in_ok-vars.ensures c.deref.ensures.value c.in_ok-add.ensures.vars c.in_ok-gather_all.ensures.vars c.premises.ensures.trees)

pub gather-returns-clause-vars : goal.gather-returns-clause-vars
gather-returns-clause-vars t c =
    let there = whole c.args.gathering.now.vars c.add.new.self.vars c.gather_all.new.gathering.vars c.args.proof.now.tree c.get.result.now c.in_ok-vars.vars.items c.deref.result.now (trees_of c.premises.result.now)
    (ap (λ (n : Node). n.rule) c.get.ensures) (ap (λ (n : Node). n.end) c.get.ensures) c.in_ok-vars.ensures c.deref.ensures.value c.in_ok-add.ensures.vars c.in_ok-gather_all.ensures.vars c.premises.ensures.trees in
    is_ok c.note.result (c.note.ensures.vars ∙ there)

pub gather_all-gather-requires : goal.gather_all-gather-requires
gather_all-gather-requires t c =
    let smaller = premise_smaller c.args.proofs.now c.loop-proof.proof-index c.proof-item.result c.loop-proof-test.true c.proof-item.is in
    (omega (arith, smaller, c.decreases), (c.loop-proof.invariant.gathering, ap (λ (r : Reference). r.home) c.proof-item.is ∙ c.requires.of c.loop-proof.proof-index c.proof-item.result c.loop-proof-test.true))

pub gather_all-loop-proof-preserved : goal.gather_all-loop-proof-preserved
gather_all-loop-proof-preserved t c = record {
  vars = one_more c.args.proofs.now c.loop-proof.proof-index c.proof-item.result c.args.gathering.now.vars c.loop-proof.gathering.vars c.gather.new.gathering.vars c.loop-proof-test.true c.proof-item.is c.loop-proof.invariant.vars c.in_ok-gather.ensures.vars;
  gathering = c.in_ok-gather.ensures.gathering;
}
