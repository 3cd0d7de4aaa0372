-- The round goes on over the next clause.
use Rattle.std.proofs.Common.{take, sym, subst, ◌∙◌, arith}
use Rattle.clause_laws.proofs.Lists.{contains-map}
use Rattle.res_prover.specs.Partners.{IsPartner}
use Rattle.res_prover.specs.Working.{GoesOver, FromOne, ByNew}
use Rattle.res_prover.proofs.Members.{has_place, next_taken, all_taken}
use Rattle.res_prover.proofs.GoingOver.{goes_over, goes_start, goes_next}
use Rattle.res_prover.proofs.pairing.add_with.Goals as goal

pub add_new-requires-clause-second : goal.add_new-requires-clause-second
add_new-requires-clause-second c = subst IsPartner (sym c.index-partners-place.is) (c.requires.partners c.loop-place.place c.index-partners-place.result c.loop-place-test.true)

pub loop-place-init : goal.loop-place-init
loop-place-init c = λ ks b in_first within at. goes_start ks b (ByNew c.args.first.now) c.args.work at

pub loop-place-preserved : goal.loop-place-preserved
loop-place-preserved c = λ ks b in_first within at.
    let x = c.args.first.now in
    let all = c.args.partners.now in
    let y = c.index-partners-place.result in
    let k = c.loop-place.place in
    let mid = c.loop-place.work in
    let new = c.in_ok-work.work in
    let before = c.loop-place.invariant ks b in_first within at in
    let there = within y.clause (contains-map (λ p. p.clause) all y (has_place all k y c.loop-place-test.true c.index-partners-place.is)) in
    subst (λ ps. GoesOver ks b c.args.work new (FromOne (ByNew x) ps)) (sym (next_taken all k y c.loop-place-test.true c.index-partners-place.is))
    (goes_next ks b (ByNew x) (take k all) y c.args.work mid new before (sym c.is_over.ensures ∙ c.if-is_over.false) (c.in_ok-work.ensures ks b in_first there before.work))

pub returns-then-is_over : goal.returns-then-is_over
returns-then-is_over c = λ ks b in_first within at.
    let x = c.args.first.now in
    let all = c.args.partners.now in
    goes_over ks b c.args.work c.loop-place.work (FromOne (ByNew x) (take c.loop-place.place all)) (FromOne (ByNew x) all) (c.loop-place.invariant ks b in_first within at) (sym c.is_over.ensures ∙ c.if-is_over.true)

pub returns : goal.returns
returns c = λ ks b in_first within at.
    subst (λ ps. GoesOver ks b c.args.work c.loop-place.work (FromOne (ByNew c.args.first.now) ps)) (all_taken c.args.partners.now c.loop-place.place (omega arith)) (c.loop-place.invariant ks b in_first within at)
