-- The next one is added, unless the clause subsumes it.
use Rattle.std.proofs.Common.{◌∷◌, ◌++◌, [], Bool, not, filter, take, sym, ap, ◌∙◌, arith}
use Rattle.std.proofs.lemmas.List.Elements.{filter-append}
use Rattle.clause_laws.specs.Searching.{subsumes}
use Rattle.res_prover.specs.declared.kept.Kept.{Kept}
use Rattle.res_prover.proofs.Members.{next_taken, all_taken}
use Rattle.res_prover.proofs.keeping.remaining.Goals as goal

pub loop-place-preserved : goal.loop-place-preserved
loop-place-preserved c = λ clause.
    let one = c.args.one.now in
    let ks = c.args.others.now in
    let n = c.loop-place.place in
    let k = c.index-others-place.result in
    let p : Kept → Bool = λ j. not (subsumes one.clause j.clause) in
    c.in_ok-push_unless_subsumed.ensures clause
    ∙ ap (λ js. js ++ filter p (k ∷ [])) (c.loop-place.invariant clause)
    ∙ sym (filter-append p (take n ks) (k ∷ [])) ∙ ap (filter p) (sym (next_taken ks n k c.loop-place-test.true c.index-others-place.is))

pub returns : goal.returns
returns c = λ clause.
    let one = c.args.one.now in
    let ks = c.args.others.now in
    c.loop-place.invariant clause ∙ ap (filter (λ (j : Kept). not (subsumes one.clause j.clause))) (all_taken ks c.loop-place.place (omega arith))
