-- The variable has no term yet.
use Rattle.std.proofs.Common.{◌≡◌, Some, None, sym, ap, ◌∙◌}
use Rattle.std.specs.Ordering.{eq_by_cmp}
use Rattle.std.specs.FinMap as fin
use Rattle.fol.specs.Order.{term_cmp}
use Rattle.substitution.specs.Maps.{Map}
use Rattle.unify_laws.specs.Matching.{with_variable}
use Rattle.res_prover.specs.Bindings.{map_of}
use Rattle.res_prover.proofs.BindingLaws.{no_term, map_more}
use Rattle.res_prover.proofs.bindings.match_variable.Goals as goal

pub returns-clause-found : goal.returns-clause-found
returns-clause-found c =
    let bs = c.args.bindings.now.items in
    let m = map_of bs in
    let v = c.args.variable.now in
    let u = c.args.term.now in
    let none : fin.get m v ≡ None =
    ap (λ ds. fin.get (map_of ds) v) (sym c.as_slice.ensures.value)
    ∙ no_term (λ s. eq_by_cmp term_cmp s u) (fin.get (map_of c.as_slice.result.now) v) (sym c.has_term.ensures ∙ c.in_default.is) in
    ap (λ (n : Map). Some n) (map_more bs c.push.new.self.items _ c.in_ok-push.ensures.items) ∙ sym (ap (with_variable v u m) none)
