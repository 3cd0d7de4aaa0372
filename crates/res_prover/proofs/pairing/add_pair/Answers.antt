-- The round goes on over the next choice, and at last over all full resolvents.
use Rattle.std.proofs.Common.{List, take, sym, subst, ◌∙◌, arith}
use Rattle.std.specs.Prelude.{Contains}
use Rattle.fol.specs.Syntax.{Formula}
use Rattle.lk_rules.specs.declared.sequent.Sequent.{Sequent}
use Rattle.clause_laws.specs.Resolvents.{IsFullResolvent}
use Rattle.clause_laws.proofs.Lists.{contains-map}
use Rattle.clause_laws.proofs.Subsuming.{subsumes_itself}
use Rattle.res_prover.specs.Lists.{lists_of}
use Rattle.res_prover.specs.Working.{ByAtoms, GoesOver, FromOne}
use Rattle.res_prover.proofs.Members.{has_place, next_mapped, all_mapped}
use Rattle.res_prover.proofs.GoingOver.{goes_over, goes_start, goes_next, goes_weaker}
use Rattle.res_prover.proofs.PairLaws.{by_choices}
use Rattle.res_prover.proofs.pairing.add_pair.Goals as goal

pub add_each-requires-clause-rights : goal.add_each-requires-clause-rights
add_each-requires-clause-rights c =
    let all = c.args.first.now.rights.items in
    let v = c.index.result.now in
    let chosen = contains-map (λ u. u.items) all v (has_place all c.loop-place.place v (omega arith) c.index.ensures) in
    c.requires.first.rights.each c.as_slice-rights.result.now (subst (Contains (lists_of all)) (sym c.as_slice-rights.ensures.value) chosen)

pub loop-place-init : goal.loop-place-init
loop-place-init c = λ ks b in_first in_second at.
    goes_start ks b (λ fs. FromOne (λ gs. ByAtoms c.args.first.now.first c.args.second.now.second fs gs) (lists_of c.args.second.now.lefts.items)) c.args.work at

pub loop-place-preserved : goal.loop-place-preserved
loop-place-preserved c = λ ks b in_first in_second at.
    let x = c.args.first.now in
    let y = c.args.second.now in
    let R : List Formula → Sequent → Type 0 = λ fs. FromOne (λ gs. ByAtoms x.first y.second fs gs) (lists_of y.lefts.items) in
    let all = x.rights.items in
    let v = c.index.result.now in
    let mid = c.loop-place.work in
    let new = c.in_ok-work.work in
    let before = c.loop-place.invariant ks b in_first in_second at in
    let more = subst (λ fs. GoesOver ks b mid new (R fs)) c.as_slice-rights.ensures.value (c.in_ok-work.ensures ks b in_first in_second before.work) in
    subst (λ fss. GoesOver ks b c.args.work new (FromOne R fss)) (sym (next_mapped (λ u. u.items) all c.loop-place.place v (omega arith) c.index.ensures))
    (goes_next ks b R (take c.loop-place.place (lists_of all)) v.items c.args.work mid new before (sym c.is_over.ensures ∙ c.if-is_over.false) more)

pub returns-then-is_over : goal.returns-then-is_over
returns-then-is_over c = λ ks b in_first in_second at.
    let x = c.args.first.now in
    let y = c.args.second.now in
    let R : List Formula → Sequent → Type 0 = λ fs. FromOne (λ gs. ByAtoms x.first y.second fs gs) (lists_of y.lefts.items) in
    goes_over ks b c.args.work c.loop-place.work (FromOne R (take c.loop-place.place (lists_of x.rights.items))) (IsFullResolvent x.clause y.clause)
    (c.loop-place.invariant ks b in_first in_second at) (sym c.is_over.ensures ∙ c.if-is_over.true)

pub returns : goal.returns
returns c = λ ks b in_first in_second at.
    let x = c.args.first.now in
    let y = c.args.second.now in
    let R : List Formula → Sequent → Type 0 = λ fs. FromOne (λ gs. ByAtoms x.first y.second fs gs) (lists_of y.lefts.items) in
    goes_weaker ks b c.args.work c.loop-place.work (FromOne R (lists_of x.rights.items)) (IsFullResolvent x.clause y.clause)
    (λ r full. (r, by_choices x y c.requires.first c.requires.second r full, subsumes_itself r))
    (subst (λ fss. GoesOver ks b c.args.work c.loop-place.work (FromOne R fss)) (all_mapped (λ u. u.items) x.rights.items c.loop-place.place (omega arith)) (c.loop-place.invariant ks b in_first in_second at))
