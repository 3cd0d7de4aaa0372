-- The instances of one more item.
use Rattle.std.proofs.Common.{◌≡◌, ◌<◌, map, length, sym, ap, subst, ◌∙◌, arith}
use Rattle.std.proofs.lemmas.List.Elements.{All-same}
use Rattle.fol.specs.Formed.{are_formed_terms_at}
use Rattle.std.specs.Prelude.{true, List}
use Rattle.fol.specs.Syntax.{Terms}
use Rattle.herbrand_laws.specs.Patterns.{put}
use Rattle.cut_intro.specs.Instances.{AreFormedTuples}
use Rattle.cut_intro.proofs.EachInstance.{each_one}
use Rattle.cut_intro.proofs.instances.instances_at.Goals as goal

pub push_instances-requires-clause-tuples : goal.push_instances-requires-clause-tuples
push_instances-requires-clause-tuples c =
    let t = c.args.term.now in
    let within : c.loop-place.place < length c.args.patterns.now = omega (arith, c.requires.lengths, c.loop-place-test.true) in
    let here = c.requires.formed c.loop-place.place c.index-patterns-place.result within in
    let formed = subst (λ (ps : List Terms). AreFormedTuples (map (λ p. put p t) ps)) (sym c.index-patterns-place.is) here in
    All-same (λ us. are_formed_terms_at 0 us ≡ true) c.deref.result.now (map (λ p. put p t) c.index-patterns-place.result)
    (c.deref.ensures.value ∙ (c.in_ok-tuples.ensures ∙ ap (map (λ p. put p t)) c.as_slice.ensures.tuples)) formed

pub loop-place-preserved : goal.loop-place-preserved
loop-place-preserved c =
    let t = c.args.term.now in
    let within : c.loop-place.place < length c.args.patterns.now = omega (arith, c.requires.lengths, c.loop-place-test.true) in
    record {
      so_far =
          each_one c.args.items.now c.args.patterns.now c.loop-place.place c.index-items-place.result c.index-patterns-place.result c.loop-place-test.true c.index-items-place.is within c.index-patterns-place.is t
          c.loop-place.list.items c.push_instances.new.list.items c.side.result c.formula.result.now c.deref.result.now
          c.loop-place.invariant.so_far (sym c.side.ensures) (sym c.formula.ensures.formula)
          (c.deref.ensures.value ∙ (c.in_ok-tuples.ensures ∙ ap (map (λ p. put p t)) c.as_slice.ensures.tuples)) c.in_ok-push_instances.ensures.items;
      formed = c.push_instances.ensures.formed;
    }
