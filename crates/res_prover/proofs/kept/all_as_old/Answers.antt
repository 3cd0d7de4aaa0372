-- The next clause comes last.
use Rattle.std.proofs.Common.{◌++◌, ◌∷◌, [], take, sym, ap, ◌∙◌}
use Rattle.std.proofs.lemmas.List.{map-append}
use Rattle.res_prover.specs.declared.kept.Kept.{Kept}
use Rattle.res_prover.specs.Kept.{kept_clauses}
use Rattle.res_prover.proofs.Members.{next_taken}
use Rattle.res_prover.proofs.kept.all_as_old.Goals as goal

pub loop-place-preserved : goal.loop-place-preserved
loop-place-preserved c =
    let kept = c.args.kept.now in
    let n = c.loop-place.place in
    let k = c.index-kept-place.result in
    let one = c.in_ok-one.one in
    let old = c.loop-place.all.items in
    ap kept_clauses c.in_ok-push.ensures.items
    ∙ map-append (λ (j : Kept). j.clause) old (one ∷ [])
    ∙ ap (λ cs. cs ++ one.clause ∷ []) c.loop-place.invariant
    ∙ ap (λ d. kept_clauses (take n kept) ++ d ∷ []) c.in_ok-one.ensures
    ∙ sym (ap kept_clauses (next_taken kept n k c.loop-place-test.true c.index-kept-place.is) ∙ map-append (λ (j : Kept). j.clause) (take n kept) (k ∷ []))
