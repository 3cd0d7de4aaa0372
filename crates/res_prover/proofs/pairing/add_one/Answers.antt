-- The chosen atoms are members of the clauses' sides, and the resolvent is one of the next round.
use Rattle.std.proofs.Common.{◌≡◌, refl, ap, subst}
use Rattle.std.specs.Prelude.{Ok, IfSome}
use Rattle.std.proofs.lemmas.List.Elements.{All-append}
use Rattle.finite.specs.Finite as set
use Rattle.clause_laws.proofs.Sublists.{choices-sublists}
use Rattle.res_prover.specs.Resolved.{IsAtomFormed, IsResolvedBy}
use Rattle.res_prover.specs.Working.{ByAtoms}
use Rattle.res_prover.proofs.Chosen.{chosen_each, some_chosen}
use Rattle.res_prover.proofs.GoingOver.{goes_none, goes_weaker}
use Rattle.res_prover.proofs.PairLaws.{same_by_atoms, next_by}
use Rattle.res_prover.proofs.pairing.add_one.Goals as goal

pub resolve_by-requires-clause-some : goal.resolve_by-requires-clause-some
resolve_by-requires-clause-some c = some_chosen c.args.rights.now ((choices-sublists (set.listing c.args.first.now.first.right) c.args.rights.now).0 c.requires.rights).1

pub resolve_by-requires-clause-atoms : goal.resolve_by-requires-clause-atoms
resolve_by-requires-clause-atoms c =
    All-append IsAtomFormed c.args.rights.now c.args.lefts.now
    (chosen_each IsAtomFormed (set.listing c.args.first.now.first.right) c.args.rights.now c.requires.first.right_atoms c.requires.rights)
    (chosen_each IsAtomFormed (set.listing c.args.second.now.second.left) c.args.lefts.now c.requires.second.left_atoms c.requires.lefts)

pub returns-in_default : goal.returns-in_default
returns-in_default c = λ ks b in_first in_second at.
    let p = c.args.first.now.first in
    let n = c.args.second.now.second in
    let fs = c.args.rights.now in
    let gs = c.args.lefts.now in
    goes_none ks b c.args.work (ByAtoms p n fs gs) at (λ r k. c.in_ok-made.ensures.none (ap Ok c.in_default.is) (record { map = k.map; atom = k.atom; unifies = k.unifies }))

pub returns : goal.returns
returns c = λ ks b in_first in_second at.
    let x = c.args.first.now in
    let y = c.args.second.now in
    let fs = c.args.rights.now in
    let gs = c.args.lefts.now in
    let r = c.in-Some.made.clause in
    let by : IsResolvedBy x.first y.second fs gs r = subst (λ o. IfSome o (λ m. IsResolvedBy x.first y.second fs gs m.clause)) c.in-Some.is c.in_ok-made.ensures.by in
    goes_weaker ks b c.args.work c.in_ok-added.added (λ q. r ≡ q) (ByAtoms x.first y.second fs gs)
    (λ q k. (r, refl, same_by_atoms x.first y.second fs gs r by q k))
    (c.in_ok-added.ensures ks b (next_by x y c.requires.first c.requires.second fs gs c.requires.rights c.requires.lefts r by ks in_first in_second) at)
