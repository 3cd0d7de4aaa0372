-- It subsumes the next one, or one has to be looked for in the rest.
use Rattle.std.proofs.Common.{◌≡◌, ◌+◌, suc, false, drop, refl, sym, ap, ◌∙◌, arith}
use Rattle.std.specs.List.{list_any}
use Rattle.clause_laws.specs.Searching.{subsumes}
use Rattle.res_prover.specs.declared.kept.Kept.{Kept}
use Rattle.res_prover.proofs.MarkedLaws.{not_found}
use Rattle.res_prover.proofs.KeptLaws.{next_found, next_not_found}
use Rattle.res_prover.proofs.keeping.subsumes_some.Goals as goal

pub loop-place-preserved : goal.loop-place-preserved
loop-place-preserved c = λ clause.
    let ks = c.args.others.now in
    let k = c.index-others-place.result in
    let n = c.loop-place.place in
    let tested = c.in_ok-subsumes.ensures clause ∙ ap (λ (j : Kept). subsumes c.args.one.now.clause j.clause) (sym c.index-others-place.is) in
    let next : suc n ≡ n + 1 = omega arith in
    c.loop-place.invariant clause
    ∙ next_not_found (λ (j : Kept). subsumes c.args.one.now.clause j.clause) ks n k c.in_ok-subsumes.field-0 c.loop-place-test.true c.index-others-place.is tested c.if-branch.false
    ∙ ap (λ m. list_any (λ (j : Kept). subsumes c.args.one.now.clause j.clause) (drop m ks)) next

pub returns-then-branch : goal.returns-then-branch
returns-then-branch c = λ clause.
    let ks = c.args.others.now in
    let k = c.index-others-place.result in
    let n = c.loop-place.place in
    let tested = c.in_ok-subsumes.ensures clause ∙ ap (λ (j : Kept). subsumes c.args.one.now.clause j.clause) (sym c.index-others-place.is) in
    sym (c.loop-place.invariant clause
    ∙ next_found (λ (j : Kept). subsumes c.args.one.now.clause j.clause) ks n k c.in_ok-subsumes.field-0 c.loop-place-test.true c.index-others-place.is tested c.if-branch.true)

pub loop-place-preserved-then-not-has_marks_within : goal.loop-place-preserved-then-not-has_marks_within
loop-place-preserved-then-not-has_marks_within c = λ clause.
    let ks = c.args.others.now in
    let k = c.index-others-place.result in
    let n = c.loop-place.place in
    let one = c.args.one.now.clause in
    let out : false ≡ subsumes one k.clause =
    not_found one _ clause (c.has_marks_within.ensures c.if-not-has_marks_within.true) ∙ ap (λ (j : Kept). subsumes one j.clause) (sym c.index-others-place.is) in
    let next : suc n ≡ n + 1 = omega arith in
    c.loop-place.invariant clause
    ∙ next_not_found (λ (j : Kept). subsumes one j.clause) ks n k false c.loop-place-test.true c.index-others-place.is out refl
    ∙ ap (λ m. list_any (λ (j : Kept). subsumes one j.clause) (drop m ks)) next
