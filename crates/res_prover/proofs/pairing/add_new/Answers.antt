-- Where neither clause is new, or no atoms have a unifier, nothing is to be looked at.
use Rattle.std.proofs.Common.{◌≡◌, true, false, ◌||◌, sym, ap, ◌∙◌}
use Rattle.clause_laws.proofs.Subsuming.{subsumes_itself}
use Rattle.clause_laws.specs.Resolvents.{IsFullResolvent}
use Rattle.res_prover.specs.Working.{ByNew}
use Rattle.res_prover.proofs.GoingOver.{goes_none, goes_weaker}
use Rattle.res_prover.proofs.PairLaws.{none_resolved}
use Rattle.res_prover.proofs.pairing.add_new.Goals as goal

pub returns-then-not-second : goal.returns-then-not-second
returns-then-not-second c = λ ks b in_first in_second at.
    let x = c.args.first.now in
    let y = c.args.second.now in
    let neither : (x.is_new || y.is_new) ≡ false = ap (λ f. f || y.is_new) c.if-not-first.true ∙ c.if-not-second.true in
    goes_none ks b c.args.work (ByNew x y) at (λ r k. let both : false ≡ true = sym neither ∙ k.some_new in cc)

pub returns-then-are_apart : goal.returns-then-are_apart
returns-then-are_apart c = λ ks b in_first in_second at.
    let x = c.args.first.now in
    let y = c.args.second.now in
    goes_none ks b c.args.work (ByNew x y) at (λ r k. none_resolved x y c.requires.first c.requires.second (c.are_apart.ensures c.if-are_apart.true) r k.full)

pub returns : goal.returns
returns c = λ ks b in_first in_second at.
    let x = c.args.first.now in
    let y = c.args.second.now in
    goes_weaker ks b c.args.work c.in_ok-added.added (IsFullResolvent x.clause y.clause) (ByNew x y) (λ r k. (r, k.full, subsumes_itself r)) (c.in_ok-added.ensures ks b in_first in_second at)
