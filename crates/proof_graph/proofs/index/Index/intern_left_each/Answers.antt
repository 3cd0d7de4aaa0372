-- One candidate more is entered.
use Rattle.std.proofs.Common.{◌≡◌, List, [], ◌++◌, append-nil, map, length, ap, ◌∙◌, sym, subst, arith, rules}
use Rattle.std.specs.Vec.Iter.{into_iter_items}
use Rattle.std.proofs.lemmas.List.{length_push, nil_from_length}
use Rattle.std.proofs.lemmas.List.Elements.{All-rest}
use Rattle.std.proofs.lemmas.Simd.{map-map}
use Rattle.turn_log.proofs.Prefixes.{prefix_trans}
use Rattle.proof_graph.specs.declared.index.Entered.{Entered}
use Rattle.proof_graph.specs.declared.node.Node.{Node}
use Rattle.proof_graph.specs.References.{Reference, key_of}
use Rattle.proof_graph.specs.History.{StandsAt, StandEach, Adds}
use Rattle.proof_graph.specs.Entered.{IsCandidate, IsEntered, key_entered, tree_entered, made_in}
use Rattle.proof_graph.proofs.Several.{none_entered, one_entered, next_good, grows_each, stand_on}
use Rattle.proof_graph.proofs.index.Index.intern_left_each.Goals as goal

pub intern_left-requires-clause-candidate : goal.intern_left-requires-clause-candidate
intern_left-requires-clause-candidate g c =
    next_good (IsCandidate c.args.nodes.now) (into_iter_items c.loop-one.one-iterator) c.in-Some.one (into_iter_items c.next.new.self) c.loop-one.invariant.entering.good c.in-Some.ensures.steps.0

pub intern_left-requires-clause-stands : goal.intern_left-requires-clause-stands
intern_left-requires-clause-stands g c =
    next_good (λ (r : Reference). StandsAt c.loop-one.self.history (key_of r) r.number) (made_in (into_iter_items c.loop-one.one-iterator)) c.in-Some.one.made (made_in (into_iter_items c.next.new.self))
    c.loop-one.invariant.stand (ap made_in c.in-Some.ensures.steps.0)

pub returns-in_err-intern_left-clause-grown : goal.returns-in_err-intern_left-clause-grown
returns-in_err-intern_left-clause-grown g c =
    prefix_trans c.args.self.now.history c.loop-one.self.history c.intern_left.new.self.history
    (grows_each c.args.self.now.history (made_in c.loop-one.entered.items) c.loop-one.self.history c.loop-one.invariant.entering.adds)
    c.intern_left.ensures.grown

pub returns-clause-grown : goal.returns-clause-grown
returns-clause-grown g c = grows_each c.args.self.now.history (made_in c.loop-one.entered.items) c.loop-one.self.history c.loop-one.invariant.entering.adds

pub loop-one-preserved : goal.loop-one-preserved
loop-one-preserved g c =
    let before = c.loop-one.invariant in
    let done = c.loop-one.entered.items in
    let left = into_iter_items c.loop-one.one-iterator in
    let rest = into_iter_items c.next.new.self in
    let taken = c.in-Some.ensures.steps.0 in
    let made = c.in_ok-intern_left.field-0 in
    let is = c.in_ok-intern_left.ensures in
    let adds : Adds c.loop-one.self.history (key_of made.made) made.made c.intern_left.new.self.history =
    subst (λ (n : Node). Adds c.loop-one.self.history n made.made c.intern_left.new.self.history) (sym is.key) is.adds in
    record {
      next = tt;
      finite = tt;
      entering =
          rw c.push_reserved.ensures.items
          (one_entered (IsCandidate c.args.nodes.now) key_entered tree_entered (IsEntered c.args.nodes.now) (λ e. key_of e.made) c.args.self.now.history c.args.candidates.items left done c.loop-one.self.history c.in-Some.one rest made c.intern_left.new.self.history before.entering taken is.entered is.key is.tree adds);
      stand =
          stand_on c.loop-one.self.history c.intern_left.new.self.history (made_in rest) is.grown
          (All-rest (λ (r : Reference). StandsAt c.loop-one.self.history (key_of r) r.number) c.in-Some.one.made (made_in rest) (made_in left) (ap made_in taken) before.stand);
      legal = is.legal;
      home = is.home ∙ before.home;
      room = omega (arith, before.room, ap length taken, ap length c.push_reserved.ensures.items, length_push done made, c.push_reserved.ensures.capacity);
    }

pub loop-one-init : goal.loop-one-init
loop-one-init g c =
    let gives : into_iter_items c.into_iter-one-iterator.result ≡ c.args.candidates.items = search rules in
    record {
      next = tt;
      finite = tt;
      entering =
          none_entered (IsCandidate c.args.nodes.now) key_entered tree_entered (IsEntered c.args.nodes.now) (λ e. key_of e.made) c.args.self.now.history c.args.candidates.items
          (into_iter_items c.into_iter-one-iterator.result) c.args.entered.items gives c.requires.empty c.requires.candidates;
      stand = subst (λ (es : List Entered). StandEach c.args.self.now.history (made_in es)) (sym gives) c.requires.stand;
      legal = c.known.ensures;
      home = c.requires.home;
      room = omega (arith, ap length gives, ap length c.requires.empty, c.requires.room);
    }

pub returns-clause-keys : goal.returns-clause-keys
returns-clause-keys g c =
    let keys : List Node = map (λ (e : Entered). key_of e.made) c.loop-one.entered.items in
    let left = into_iter_items c.loop-one.one-iterator in
    let none : left ≡ [] = nil_from_length left (omega (arith, c.in-None.ensures.steps.0, c.loop-one.one-iterator.rest.ok.0)) in
    map-map key_of (λ (e : Entered). e.made) c.loop-one.entered.items
    ∙ (sym (append-nil keys) ∙ (ap (λ (es : List Entered). keys ++ map key_entered es) (sym none) ∙ c.loop-one.invariant.entering.keys))
