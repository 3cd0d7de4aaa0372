-- The last binding is of the variable, or one before it may be.
use Rattle.std.proofs.Common.{◌≡◌, ◌-◌, ◌+◌, ◌<◌, Bool, length, take, Some, None, option_map, sym, ap, ◌∙◌, arith}
use Rattle.std.specs.Ordering.{eq_by_cmp}
use Rattle.std.specs.FinMap as fin
use Rattle.fol.specs.Syntax.{Term}
use Rattle.fol.specs.Order.{var_cmp, term_cmp}
use Rattle.res_prover.specs.Bindings.{map_of}
use Rattle.res_prover.proofs.BindingLaws.{last_found, last_other}
use Rattle.res_prover.proofs.bindings.has_term.Goals as goal

pub returns-then-eq : goal.returns-then-eq
returns-then-eq c =
    let bs = c.args.bindings.now in
    let v = c.args.variable.now in
    let p = c.loop-place.place in
    let k = p - 1 in
    let b = c.index-bindings-place.result in
    let same : Term → Bool = λ s. eq_by_cmp term_cmp s c.args.term.now in
    let above : p ≡ k + 1 = omega arith in
    let below : k < length bs = omega (arith, c.loop-place.invariant.within) in
    let found : fin.get (map_of bs) v ≡ Some b.term.now =
    sym c.loop-place.invariant.map ∙ ap (λ n. fin.get (map_of (take n bs)) v) above ∙ last_found bs k b below c.index-bindings-place.is v (sym c.eq.ensures ∙ c.if-eq.true) in
    ap (λ (a : Bool). Some a) c.eq-then-eq.ensures ∙ sym (ap (option_map same) found)

pub loop-place-preserved : goal.loop-place-preserved
loop-place-preserved c =
    let bs = c.args.bindings.now in
    let v = c.args.variable.now in
    let p = c.loop-place.place in
    let k = p - 1 in
    let b = c.index-bindings-place.result in
    let above : k + 1 ≡ p = omega arith in
    let below : k < length bs = omega (arith, c.loop-place.invariant.within) in
    record {
      within = omega (arith, c.loop-place.invariant.within);
      map =
          sym (last_other bs k b below c.index-bindings-place.is v (sym c.eq.ensures ∙ c.if-eq.false))
          ∙ ap (λ n. fin.get (map_of (take n bs)) v) above
          ∙ c.loop-place.invariant.map;
    }

pub returns : goal.returns
returns c =
    let bs = c.args.bindings.now in
    let v = c.args.variable.now in
    let same : Term → Bool = λ s. eq_by_cmp term_cmp s c.args.term.now in
    let start : c.loop-place.place ≡ 0 = omega arith in
    let none : fin.get (map_of bs) v ≡ None = sym c.loop-place.invariant.map ∙ ap (λ n. fin.get (map_of (take n bs)) v) start ∙ fin.get-empty var_cmp v in
    sym (ap (option_map same) none)
