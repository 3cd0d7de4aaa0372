-- One more value is sound, since it fits the graph.
use Rattle.std.proofs.Common.{◌≡◌, ◌+◌, List, [], ◌∷◌, ◌++◌, take, sym, ap, ◌∙◌, subst, arith}
use Rattle.std.specs.Prelude.{Option, IfSome}
use Rattle.std.specs.List.{All}
use Rattle.std.proofs.lemmas.List.{take_more, take_all}
use Rattle.std.proofs.lemmas.List.Elements.{All-nil, All-cons, All-append, All-map}
use Rattle.operation_laws.specs.Values.{Value, IsSound}
use Rattle.held_values.specs.declared.held.Held.{Held}
use Rattle.held_values.specs.Means.{sense, Fits}
use Rattle.operations.proofs.answering.are_sound.Goals as goal

pub known-requires : goal.known-requires
known-requires c =
    (c.requires.0, subst (Fits c.requires.0) (sym c.held-item.is) (c.requires.1 c.loop-held.held-index c.held-item.result (omega (arith, c.loop-held-test.true))))

pub loop-held-preserved : goal.loop-held-preserved
loop-held-preserved c =
    let given = c.args.given.now in
    let i = c.loop-held.held-index in
    let h = c.held-item.result in
    let more : take (i + 1) given ≡ take i given ++ h ∷ [] = take_more given i h c.loop-held-test.true ∙ ap (λ (x : Held). take i given ++ x ∷ []) (sym c.held-item.is) in
    subst (λ (hs : List Held). All (λ h. IfSome (sense h) IsSound) hs) (sym more)
    (All-append (λ (x : Held). IfSome (sense x) IsSound) (take i given) (h ∷ []) c.loop-held.invariant
    (All-cons (λ (x : Held). IfSome (sense x) IsSound) h [] c.known.ensures (All-nil (λ (x : Held). IfSome (sense x) IsSound))))

pub returns : goal.returns
returns c =
    let given = c.args.given.now in
    let each = subst (λ (hs : List Held). All (λ h. IfSome (sense h) IsSound) hs) (take_all c.loop-held.held-index given c.loop-held-test.false) c.loop-held.invariant in
    All-map (λ (v : Option Value). IfSome v IsSound) sense given each
