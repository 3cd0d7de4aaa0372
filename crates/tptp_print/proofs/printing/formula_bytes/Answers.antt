use Rattle.std.proofs.Common.{ℕ, ◌≤◌, length, slice_index, List, ◌++◌, ap, ◌∙◌, arith}
use Rattle.tptp_print.specs.Choice.{numbers_of, outside}
use Rattle.tptp_print.specs.Canonical.{canonical, formula_text, quantifier_depth}
use Rattle.tptp_print.proofs.Agreement.{Agree, formula_agrees}
use Rattle.tptp_print.proofs.printing.formula_bytes.Goals as goal

pub returns : goal.returns
unfolding canonical
returns c =
    let f = c.args.formula.now in
    let names = c.in_ok-names.names.items in
    let depth = quantifier_depth f in
    let enough : depth ≤ length names = omega (arith, c.quantifier_depth.ensures, c.in_ok-names.ensures.len, c.in_ok-names.names.small) in
    let same : Agree (slice_index names) (outside c.deref.result.now) depth = λ d below. c.in_ok-names.ensures.chosen d (omega (arith, c.in_ok-names.ensures.len)) in
    c.in_ok-push_formula.ensures
    ∙ (λ i. c.new-out.ensures.items i ++ formula_text (slice_index (c.deref-2.ensures.value i)) 0 f)
    ∙ formula_agrees (slice_index names) (outside c.deref.result.now) depth same 0 f (omega arith) c.requires
    ∙ ap (λ (ns : List ℕ). formula_text (outside ns) 0 f) (c.deref.ensures.value ∙ c.in_ok-numbers.ensures ∙ ap numbers_of c.in_ok-vars.ensures.value)
