-- The round goes on over the next clause.
use Rattle.std.proofs.Common.{take, sym, subst, ◌∙◌, arith}
use Rattle.lk_rules.specs.declared.sequent.Sequent.{Sequent}
use Rattle.clause_laws.proofs.Lists.{contains-map}
use Rattle.res_prover.specs.declared.partners.Partner.{Partner}
use Rattle.res_prover.specs.Partners.{IsPartner}
use Rattle.res_prover.specs.Working.{GoesOver, FromOne, ByNew}
use Rattle.res_prover.proofs.Members.{has_place, next_taken, all_taken}
use Rattle.res_prover.proofs.GoingOver.{goes_over, goes_start, goes_next}
use Rattle.res_prover.proofs.pairing.add_all.Goals as goal

pub add_with-requires-clause-first : goal.add_with-requires-clause-first
add_with-requires-clause-first c = subst IsPartner (sym c.index-partners-place.is) (c.requires c.loop-place.place c.index-partners-place.result c.loop-place-test.true)

pub loop-place-init : goal.loop-place-init
loop-place-init c = λ ks b within at. goes_start ks b (λ (p : Partner). FromOne (ByNew p) c.args.partners.now) c.args.work at

pub loop-place-preserved : goal.loop-place-preserved
loop-place-preserved c = λ ks b within at.
    let all = c.args.partners.now in
    let R : Partner → Sequent → Type 0 = λ p. FromOne (ByNew p) all in
    let x = c.index-partners-place.result in
    let k = c.loop-place.place in
    let mid = c.loop-place.work in
    let new = c.in_ok-work.work in
    let before = c.loop-place.invariant ks b within at in
    let there = within x.clause (contains-map (λ p. p.clause) all x (has_place all k x c.loop-place-test.true c.index-partners-place.is)) in
    subst (λ ps. GoesOver ks b c.args.work new (FromOne R ps)) (sym (next_taken all k x c.loop-place-test.true c.index-partners-place.is))
    (goes_next ks b R (take k all) x c.args.work mid new before (sym c.is_over.ensures ∙ c.if-is_over.false) (c.in_ok-work.ensures ks b there within before.work))

pub returns-then-is_over : goal.returns-then-is_over
returns-then-is_over c = λ ks b within at.
    let all = c.args.partners.now in
    let R : Partner → Sequent → Type 0 = λ p. FromOne (ByNew p) all in
    goes_over ks b c.args.work c.loop-place.work (FromOne R (take c.loop-place.place all)) (FromOne R all) (c.loop-place.invariant ks b within at) (sym c.is_over.ensures ∙ c.if-is_over.true)

pub returns : goal.returns
returns c = λ ks b within at.
    let all = c.args.partners.now in
    let R : Partner → Sequent → Type 0 = λ p. FromOne (ByNew p) all in
    subst (λ ps. GoesOver ks b c.args.work c.loop-place.work (FromOne R ps)) (all_taken all c.loop-place.place (omega arith)) (c.loop-place.invariant ks b within at)
