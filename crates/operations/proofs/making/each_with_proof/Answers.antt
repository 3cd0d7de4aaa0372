-- One value more means the same.
use Rattle.std.proofs.Common.{◌≡◌, ◌+◌, List, [], ◌∷◌, ◌++◌, Option, map, take, sym, ap, ◌∙◌, subst, arith}
use Rattle.std.specs.List.{All}
use Rattle.std.proofs.lemmas.List.{take_more, map-append}
use Rattle.std.proofs.lemmas.List.Elements.{All-nil, All-cons, All-append}
use Rattle.operation_laws.specs.Values.{Value}
use Rattle.proof_subst.specs.Benches.{graph_of}
use Rattle.held_values.specs.declared.held.Held.{Held}
use Rattle.held_values.specs.Means.{sense, Fits}
use Rattle.operations.proofs.making.each_with_proof.Goals as goal

pub with_proof-requires-clause-fits : goal.with_proof-requires-clause-fits
with_proof-requires-clause-fits g c =
    subst (Fits (graph_of c.args.bench.now)) (sym c.value-item.is) (c.requires.fits c.loop-value.value-index c.value-item.result (omega (arith, c.loop-value-test.true)))

pub loop-value-preserved : goal.loop-value-preserved
loop-value-preserved g c =
    let given = c.args.given.now in
    let i = c.loop-value.value-index in
    let v = c.value-item.result in
    let made = c.loop-value.made.items in
    let one = c.in_ok-with_proof.field-0 in
    let more : take (i + 1) given ≡ take i given ++ v ∷ [] = take_more given i v c.loop-value-test.true ∙ ap (λ (w : Held). take i given ++ w ∷ []) (sym c.value-item.is) in
    let added = sym c.in_ok-push.ensures.items in
    let senses : map sense (made ++ one ∷ []) ≡ map sense (take (i + 1) given) =
    map-append sense made (one ∷ []) ∙ (ap (λ (o : Option Value). map sense made ++ o ∷ []) c.in_ok-with_proof.ensures.sense
    ∙ (ap (λ (os : List (Option Value)). os ++ sense v ∷ []) c.loop-value.invariant.0 ∙ sym (ap (map sense) more ∙ map-append sense (take i given) (v ∷ [])))) in (
      subst (λ (vs : List Held). map sense vs ≡ map sense (take (i + 1) given)) added senses,
      (
        subst (λ (vs : List Held). All (Fits (graph_of c.args.bench.now)) vs) added
            (All-append (Fits (graph_of c.args.bench.now)) made (one ∷ []) c.loop-value.invariant.1.0
            (All-cons (Fits (graph_of c.args.bench.now)) one [] c.in_ok-with_proof.ensures.fits (All-nil (Fits (graph_of c.args.bench.now))))),
        c.with_proof.ensures.pass,
      ),
    )
