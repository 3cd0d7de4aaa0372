-- One draft more is entered.
use Rattle.std.proofs.Common.{length, ap, ◌∙◌, arith}
use Rattle.std.specs.Vec.Iter.{into_iter_items}
use Rattle.std.proofs.lemmas.List.{length_push}
use Rattle.turn_log.proofs.Prefixes.{prefix_trans}
use Rattle.proof_graph.specs.declared.node.Node.{Node}
use Rattle.proof_graph.specs.declared.reference.Draft.{Draft}
use Rattle.proof_graph.specs.Drafts.{IsDraftOf, drafted}
use Rattle.proof_graph.specs.Entered.{IsCandidate, key_entered, made_in}
use Rattle.proof_graph.proofs.Several.{one_entered, next_good, grows_each}
use Rattle.proof_graph.proofs.index.Index.enter_each.Goals as goal

pub enter-requires-clause-draft : goal.enter-requires-clause-draft
enter-requires-clause-draft g c =
    next_good (λ (d : Node × Draft). IsDraftOf c.args.nodes.now d.0 d.1) (into_iter_items c.loop-key.key-iterator) (c.in-Some.key, c.in-Some.draft) (into_iter_items c.next.new.self)
    c.loop-key.invariant.entering.good c.in-Some.ensures.steps.0

pub returns-in_err-enter-clause-grown : goal.returns-in_err-enter-clause-grown
returns-in_err-enter-clause-grown g c =
    prefix_trans c.args.self.now.history c.loop-key.self.history c.enter.new.self.history
    (grows_each c.args.self.now.history (made_in c.loop-key.entered.items) c.loop-key.self.history c.loop-key.invariant.entering.adds)
    c.enter.ensures.grown

pub returns-clause-grown : goal.returns-clause-grown
returns-clause-grown g c = grows_each c.args.self.now.history (made_in c.loop-key.entered.items) c.loop-key.self.history c.loop-key.invariant.entering.adds

pub loop-key-preserved : goal.loop-key-preserved
loop-key-preserved g c =
    let before = c.loop-key.invariant in
    let done = c.loop-key.entered.items in
    let left = into_iter_items c.loop-key.key-iterator in
    let rest = into_iter_items c.next.new.self in
    let taken = c.in-Some.ensures.steps.0 in
    let made = c.in_ok-enter.field-0 in
    let is = c.in_ok-enter.ensures in
    record {
      next = tt;
      finite = tt;
      entering =
          rw c.push_reserved.ensures.items
          (one_entered (λ (d : Node × Draft). IsDraftOf c.args.nodes.now d.0 d.1) (λ d. d.0) (λ d. drafted d.1) (IsCandidate c.args.nodes.now) key_entered c.args.self.now.history c.args.drafts.items left done c.loop-key.self.history (c.in-Some.key, c.in-Some.draft) rest made c.enter.new.self.history before.entering taken is.candidate is.key is.tree is.adds);
      legal = is.legal;
      home = is.home ∙ before.home;
      room = omega (arith, before.room, ap length taken, ap length c.push_reserved.ensures.items, length_push done made, c.push_reserved.ensures.capacity);
    }
