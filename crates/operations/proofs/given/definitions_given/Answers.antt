-- The symbol that this name is given is the next one.
use Rattle.std.proofs.Common.{◌+◌, false, List, [], ◌∷◌, ◌++◌, sym, ap, ◌∙◌, subst, arith}
use Rattle.std.specs.List.{All}
use Rattle.std.proofs.lemmas.List.Elements.{All-nil, All-cons, All-append}
use Rattle.fol.specs.Syntax.{Pred}
use Rattle.fol.specs.Formed.{IsFormedPred}
use Rattle.proof_graph.specs.declared.graph.Graph.{Graph}
use Rattle.held_values.specs.Means.{Fits}
use Rattle.operations.proofs.DefinitionsGiven.{AreGivenTo, given_first, given_next, given_all}
use Rattle.operations.proofs.given.definitions_given.Goals as goal

pub loop-index-init : goal.loop-index-init
loop-index-init c =
    let none = sym c.new-symbols.ensures.items in (
      subst (λ (ds : List Pred). AreGivenTo c.args.texts.now c.args.given.now 0 false ds) none (given_first c.args.texts.now c.args.given.now),
      λ g fits. subst (λ (ds : List Pred). All IsFormedPred ds) none (All-nil IsFormedPred),
    )

pub loop-index-preserved : goal.loop-index-preserved
loop-index-preserved c =
    let here : (g : Graph) → All (Fits g) c.args.given.now → Fits g c.index-given-index.result = λ g fits.
    subst (Fits g) (sym c.index-given-index.is) (fits c.loop-index.index c.index-given-index.result (omega (arith, c.loop-index-test.true, c.requires))) in
    let more = sym (c.in_ok-push.ensures.items ∙ ap (λ (d : Pred). c.loop-index.symbols.items ++ d ∷ []) c.in_ok-copy.ensures) in (
      subst (λ (ds : List Pred). AreGivenTo c.args.texts.now c.args.given.now (c.loop-index.index + 1) false ds) more
          (given_next c.args.texts.now c.args.given.now c.loop-index.index false c.loop-index.symbols.items c.loop-index.invariant.0
          c.index-texts-index.result c.index-given-index.result c.loop-index-test.true c.requires c.index-texts-index.is c.index-given-index.is c.in-Ok.symbol.now c.in-Ok.ensures.found),
      λ g fits. subst (λ (ds : List Pred). All IsFormedPred ds) more
          (All-append IsFormedPred c.loop-index.symbols.items (c.in-Ok.symbol.now ∷ []) (c.loop-index.invariant.1 g fits)
          (All-cons IsFormedPred c.in-Ok.symbol.now [] (c.in-Ok.ensures.fits g (here g fits)) (All-nil IsFormedPred))),
    )

pub returns-clause-found : goal.returns-clause-found
returns-clause-found c = given_all c.args.texts.now c.args.given.now c.loop-index.index c.loop-index.symbols.items c.loop-index-test.false c.loop-index.invariant.0
