-- The round goes on over the next choice.
use Rattle.std.proofs.Common.{List, take, sym, subst, ◌∙◌, arith}
use Rattle.std.specs.Prelude.{Contains}
use Rattle.fol.specs.Syntax.{Formula}
use Rattle.lk_rules.specs.declared.sequent.Sequent.{Sequent}
use Rattle.clause_laws.proofs.Lists.{contains-map}
use Rattle.res_prover.specs.Lists.{lists_of}
use Rattle.res_prover.specs.Working.{ByAtoms, GoesOver, FromOne}
use Rattle.res_prover.proofs.Members.{has_place, next_mapped, all_mapped}
use Rattle.res_prover.proofs.GoingOver.{goes_over, goes_start, goes_next}
use Rattle.res_prover.proofs.pairing.add_each.Goals as goal

pub add_one-requires-clause-lefts : goal.add_one-requires-clause-lefts
add_one-requires-clause-lefts c =
    let all = c.args.second.now.lefts.items in
    let v = c.index.result.now in
    let chosen = contains-map (λ u. u.items) all v (has_place all c.loop-place.place v (omega arith) c.index.ensures) in
    c.requires.second.lefts.each c.as_slice-lefts.result.now (subst (Contains (lists_of all)) (sym c.as_slice-lefts.ensures.value) chosen)

pub loop-place-init : goal.loop-place-init
loop-place-init c = λ ks b in_first in_second at. goes_start ks b (λ gs. ByAtoms c.args.first.now.first c.args.second.now.second c.args.rights.now gs) c.args.work at

pub loop-place-preserved : goal.loop-place-preserved
loop-place-preserved c = λ ks b in_first in_second at.
    let x = c.args.first.now in
    let y = c.args.second.now in
    let R : List Formula → Sequent → Type 0 = λ gs. ByAtoms x.first y.second c.args.rights.now gs in
    let all = y.lefts.items in
    let v = c.index.result.now in
    let mid = c.loop-place.work in
    let new = c.in_ok-work.work in
    let before = c.loop-place.invariant ks b in_first in_second at in
    let more = subst (λ gs. GoesOver ks b mid new (R gs)) c.as_slice-lefts.ensures.value (c.in_ok-work.ensures ks b in_first in_second before.work) in
    subst (λ gss. GoesOver ks b c.args.work new (FromOne R gss)) (sym (next_mapped (λ u. u.items) all c.loop-place.place v (omega arith) c.index.ensures))
    (goes_next ks b R (take c.loop-place.place (lists_of all)) v.items c.args.work mid new before (sym c.is_over.ensures ∙ c.if-is_over.false) more)

pub returns-then-is_over : goal.returns-then-is_over
returns-then-is_over c = λ ks b in_first in_second at.
    let R : List Formula → Sequent → Type 0 = λ gs. ByAtoms c.args.first.now.first c.args.second.now.second c.args.rights.now gs in
    let all = lists_of c.args.second.now.lefts.items in
    goes_over ks b c.args.work c.loop-place.work (FromOne R (take c.loop-place.place all)) (FromOne R all) (c.loop-place.invariant ks b in_first in_second at) (sym c.is_over.ensures ∙ c.if-is_over.true)

pub returns : goal.returns
returns c = λ ks b in_first in_second at.
    let R : List Formula → Sequent → Type 0 = λ gs. ByAtoms c.args.first.now.first c.args.second.now.second c.args.rights.now gs in
    let all = c.args.second.now.lefts.items in
    subst (λ gss. GoesOver ks b c.args.work c.loop-place.work (FromOne R gss)) (all_mapped (λ u. u.items) all c.loop-place.place (omega arith)) (c.loop-place.invariant ks b in_first in_second at)
