-- The sides of the next equation have their numbers.
use Rattle.std.proofs.Common.{◌≡◌, ◌+◌, ◌++◌, ◌∷◌, [], take, sym, ap, subst, ◌∙◌, arith}
use Rattle.std.proofs.lemmas.List.{take_more}
use Rattle.fol_unify.specs.Joining.{ArePairs}
use Rattle.fol_unify.proofs.Numbered.{one_more_pair}
use Rattle.fol_unify.proofs.numbering.number_pairs.Goals as goal

pub loop-place-preserved : goal.loop-place-preserved
loop-place-preserved c =
    let before = c.loop-place.cells in
    let between = c.number_term.new.cells in
    let after = c.number_term-in-loop-place.new.cells in
    let k = c.loop-place.place in
    let equations = c.args.equations.now in
    let e = c.index-equations-place.result in
    let next : take (k + 1) equations ≡ take k equations ++ e ∷ [] = take_more equations k e (omega arith) ∙ ap (λ y. take k equations ++ y ∷ []) (sym c.index-equations-place.is) in
    record {
      grown = λ n t h. c.in_ok-other.ensures.grown n t (c.in_ok-one.ensures.grown n t (c.loop-place.invariant.grown n t h));
      pairs =
          subst (λ ps. ArePairs after ps (take (k + 1) equations)) (sym c.in_ok-push.ensures.items)
          (subst (ArePairs after (c.loop-place.pairs.items ++ (c.in_ok-one.one, c.in_ok-other.other) ∷ [])) (sym next)
          (one_more_pair before after (λ n t h. c.in_ok-other.ensures.grown n t (c.in_ok-one.ensures.grown n t h)) c.loop-place.pairs.items (take k equations) (c.in_ok-one.one, c.in_ok-other.other) e c.loop-place.invariant.pairs
          (c.in_ok-other.ensures.grown c.in_ok-one.one _ c.in_ok-one.ensures.term) c.in_ok-other.ensures.term));
    }
