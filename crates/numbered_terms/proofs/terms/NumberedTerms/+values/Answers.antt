-- Each step gives what the definition says.
use Rattle.std.proofs.Common.{map, Some, None, option_map, sym, ap, ◌∙◌}
use Rattle.herbrand_laws.specs.Patterns.{pattern_of_terms}
use Rattle.arena_cells.specs.Standing.{term_at}
use Rattle.numbered_terms.specs.Numbered.{listed_at}
use Rattle.numbered_terms.proofs.WalkSteps.{equal_values, other_values, inner_values, joined_at}
use Rattle.numbered_terms.proofs.terms.NumberedTerms.+values.Goals as goal

pub values_from-returns-in_err-back-clause-values : goal.values_from-returns-in_err-back-clause-values
values_from-returns-in_err-back-clause-values t c =
    let a = c.args.self.now in
    ap (option_map (listed_at a)) c.from_residual-in_err-back.ensures
    ∙ joined_at a c.args.first c.args.place c.in-Some.argument c.args.others.now c.in_ok-column.column.items (listed_at a c.values_of-front.result) None
    c.in-Some.ensures.some c.in_ok-column.ensures.values (c.values_of-front.ensures.values ∙ ap (λ ns. (pattern_of_terms (term_at a c.in-Some.argument) (map (term_at a) ns)).values) c.as_slice.ensures.value) c.in_err-back.ensures.values

pub values_from-returns-clause-values : goal.values_from-returns-clause-values
values_from-returns-clause-values t c =
    let a = c.args.self.now in
    c.common.ensures.values
    ∙ joined_at a c.args.first c.args.place c.in-Some.argument c.args.others.now c.in_ok-column.column.items (listed_at a c.values_of-front.result) (Some (listed_at a c.in_ok-back.back))
    c.in-Some.ensures.some c.in_ok-column.ensures.values (c.values_of-front.ensures.values ∙ ap (λ ns. (pattern_of_terms (term_at a c.in-Some.argument) (map (term_at a) ns)).values) c.as_slice.ensures.value) c.in_ok-back.ensures.values

pub values_of-returns-then-are_equal-clause-values : goal.values_of-returns-then-are_equal-clause-values
values_of-returns-then-are_equal-clause-values t c =
    let a = c.args.self.now in
    equal_values a (term_at a c.args.first) (map (term_at a) c.args.others.now) (sym c.are_equal.ensures ∙ c.if-are_equal.true)

pub values_of-returns-then-not-have_head-clause-values : goal.values_of-returns-then-not-have_head-clause-values
values_of-returns-then-not-have_head-clause-values t c =
    let a = c.args.self.now in
    ap (λ ns. Some (map (term_at a) ns)) c.side_by_side.ensures
    ∙ other_values a (term_at a c.args.first) (map (term_at a) c.args.others.now) (sym c.are_equal.ensures ∙ c.if-are_equal.false) (sym c.have_head.ensures ∙ c.if-not-have_head.true)

pub values_of-returns-in-None-clause-values : goal.values_of-returns-in-None-clause-values
values_of-returns-in-None-clause-values t c =
    let a = c.args.self.now in
    ap (λ ns. Some (map (term_at a) ns)) c.side_by_side-in-None.ensures
    ∙ inner_values a c.args.first c.args.others.now None (sym c.are_equal.ensures ∙ c.if-are_equal.false) (sym c.have_head.ensures ∙ c.if-not-have_head.false) c.in-None.ensures.values

pub values_of-returns-in-Some-clause-values : goal.values_of-returns-in-Some-clause-values
values_of-returns-in-Some-clause-values t c =
    let a = c.args.self.now in
    inner_values a c.args.first c.args.others.now (Some (listed_at a c.in-Some.values)) (sym c.are_equal.ensures ∙ c.if-are_equal.false) (sym c.have_head.ensures ∙ c.if-not-have_head.false) c.in-Some.ensures.values
