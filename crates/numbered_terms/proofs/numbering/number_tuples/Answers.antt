-- The next tuple has its number.
use Rattle.std.proofs.Common.{◌≡◌, ◌+◌, ◌∷◌, [], ◌++◌, take, sym, ap, subst, ◌∙◌, arith}
use Rattle.std.proofs.lemmas.List.{take_more}
use Rattle.arena_cells.proofs.Staying.{symbol_there}
use Rattle.numbered_terms.specs.Numbered.{AreTuples}
use Rattle.numbered_terms.proofs.TupleNumbers.{tuples_more}
use Rattle.numbered_terms.proofs.numbering.number_tuples.Goals as goal

pub loop-tuple-preserved : goal.loop-tuple-preserved
loop-tuple-preserved c =
    let before = c.loop-tuple.cells in
    let after = c.number_tuple.new.cells in
    let k = c.loop-tuple.tuple-index in
    let tuples = c.args.tuples.now in
    let us = c.tuple-item.result in
    let next : take (k + 1) tuples ≡ take k tuples ++ us ∷ [] = take_more tuples k us (omega arith) ∙ ap (λ y. take k tuples ++ y ∷ []) (sym c.tuple-item.is) in
    record {
      grown = λ n t h. c.in_ok-number_tuple.ensures.grown n t (c.loop-tuple.invariant.grown n t h);
      symbol = symbol_there before after c.in_ok-number_tuple.ensures.grown c.in_ok-symbol.symbol c.loop-tuple.invariant.symbol;
      tuples =
          subst (λ ns. AreTuples after ns (take (k + 1) tuples)) (sym c.in_ok-push.ensures.items)
          (subst (AreTuples after (c.loop-tuple.numbers.items ++ c.in_ok-number_tuple.field-0 ∷ [])) (sym next)
          (tuples_more before after c.in_ok-number_tuple.ensures.grown c.loop-tuple.numbers.items (take k tuples) c.in_ok-number_tuple.field-0 us c.loop-tuple.invariant.tuples c.in_ok-number_tuple.ensures.tuple));
    }
