-- The next clause subsumes it, or it has to be looked for in the rest.
use Rattle.std.proofs.Common.{◌≡◌, ◌+◌, suc, false, drop, refl, sym, ap, subst, ◌∙◌, arith}
use Rattle.std.specs.List.{list_any}
use Rattle.clause_laws.specs.Subsumption.{IsClause}
use Rattle.clause_laws.specs.Searching.{subsumes}
use Rattle.res_prover.specs.declared.kept.Kept.{Kept}
use Rattle.res_prover.proofs.Members.{mapped_place}
use Rattle.res_prover.proofs.MarkedLaws.{not_found}
use Rattle.res_prover.proofs.KeptLaws.{next_found, next_not_found}
use Rattle.res_prover.proofs.keeping.is_subsumed.Goals as goal

pub loop-place-preserved : goal.loop-place-preserved
loop-place-preserved c = λ all.
    let ks = c.args.kept.now in
    let k = c.index-kept-place.result in
    let n = c.loop-place.place in
    let of_k = mapped_place (λ (j : Kept). j.clause) IsClause ks n k all c.loop-place-test.true c.index-kept-place.is in
    let here = c.index-kept-place.is in
    let tested = c.in_ok-subsumes.ensures (subst (λ (j : Kept). IsClause j.clause) here of_k) ∙ ap (λ (j : Kept). subsumes j.clause c.args.one.now.clause) (sym here) in
    let next : suc n ≡ n + 1 = omega arith in
    c.loop-place.invariant all
    ∙ next_not_found (λ (j : Kept). subsumes j.clause c.args.one.now.clause) ks n k c.in_ok-subsumes.field-0 c.loop-place-test.true c.index-kept-place.is tested c.if-branch.false
    ∙ ap (λ m. list_any (λ (j : Kept). subsumes j.clause c.args.one.now.clause) (drop m ks)) next

pub returns-then-branch : goal.returns-then-branch
returns-then-branch c = λ all.
    let ks = c.args.kept.now in
    let k = c.index-kept-place.result in
    let n = c.loop-place.place in
    let of_k = mapped_place (λ (j : Kept). j.clause) IsClause ks n k all c.loop-place-test.true c.index-kept-place.is in
    let here = c.index-kept-place.is in
    let tested = c.in_ok-subsumes.ensures (subst (λ (j : Kept). IsClause j.clause) here of_k) ∙ ap (λ (j : Kept). subsumes j.clause c.args.one.now.clause) (sym here) in
    sym (c.loop-place.invariant all
    ∙ next_found (λ (j : Kept). subsumes j.clause c.args.one.now.clause) ks n k c.in_ok-subsumes.field-0 c.loop-place-test.true c.index-kept-place.is tested c.if-branch.true)

pub loop-place-preserved-then-not-has_marks_within : goal.loop-place-preserved-then-not-has_marks_within
loop-place-preserved-then-not-has_marks_within c = λ all.
    let ks = c.args.kept.now in
    let k = c.index-kept-place.result in
    let n = c.loop-place.place in
    let of_k = mapped_place (λ (j : Kept). j.clause) IsClause ks n k all c.loop-place-test.true c.index-kept-place.is in
    let here = c.index-kept-place.is in
    let out : false ≡ subsumes k.clause c.args.one.now.clause =
    not_found _ c.args.one.now.clause (subst (λ (j : Kept). IsClause j.clause) here of_k) (c.has_marks_within.ensures c.if-not-has_marks_within.true) ∙ ap (λ (j : Kept). subsumes j.clause c.args.one.now.clause) (sym here) in
    let next : suc n ≡ n + 1 = omega arith in
    c.loop-place.invariant all
    ∙ next_not_found (λ (j : Kept). subsumes j.clause c.args.one.now.clause) ks n k false c.loop-place-test.true c.index-kept-place.is out refl
    ∙ ap (λ m. list_any (λ (j : Kept). subsumes j.clause c.args.one.now.clause) (drop m ks)) next
