-- The variable in front gets the next number.
use Rattle.std.proofs.Common.{◌≡◌, ◌<◌, ◌-◌, ◌∷◌, drop, length, suc, ap, sym, ◌∙◌, arith, drop-cons}
use Rattle.std.specs.FinMap as fin
use Rattle.std.proofs.Math.Seq.{drop-length}
use Rattle.fol.specs.Order.{var_cmp}
use Rattle.clause_laws.specs.Normal.{numbered}
use Rattle.res_prover.proofs.Numbering.{next_numbered}
use Rattle.res_prover.proofs.normal.numbering.Goals as goal

pub loop-place-init : goal.loop-place-init
loop-place-init c = record {
  within = omega arith;
  numbers = λ v. ap (λ m. fin.get m v) c.new-map.ensures ∙ fin.get-empty var_cmp v ∙ sym (ap (λ ws. numbered (length c.args.vars.now) ws v) (drop-length c.args.vars.now));
}

pub loop-place-preserved : goal.loop-place-preserved
loop-place-preserved c =
    let vars = c.args.vars.now in
    let p = c.loop-place.place in
    let k = p - 1 in
    let w = c.index-vars-place.result in
    let old = c.loop-place.map in
    let above : p ≡ suc k = omega arith in
    let below : k < length vars = omega (arith, c.loop-place.invariant.within) in
    let front : drop k vars ≡ w ∷ drop (suc k) vars = drop-cons vars k w below ∙ ap (λ x. x ∷ drop (suc k) vars) (sym c.index-vars-place.is) in
    record {
      within = omega (arith, c.loop-place.invariant.within);
      numbers = λ v.
          ap (λ m. fin.get m v) (c.in_ok-set.ensures.ok ∙ ap (λ x. fin.insert old x c.in_ok-number.number) c.in_ok-copy.ensures ∙ ap (fin.insert old w) c.in_ok-number.ensures)
          ∙ next_numbered old k w (drop (suc k) vars) (λ u. c.loop-place.invariant.numbers u ∙ ap (λ n. numbered n (drop n vars) u) above) v
          ∙ ap (λ ws. numbered k ws v) (sym front);
    }
