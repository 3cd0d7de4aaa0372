-- The variables of one image more.
use Rattle.std.proofs.Common.{map as each, sym, ap, subst, ◌∙◌}
use Rattle.std.specs.FinMap as fin
use Rattle.std.specs.List.{All, list_any}
use Rattle.std.specs.Ordering.{eq_by_cmp}
use Rattle.std.proofs.lemmas.List.Elements.{All-head}
use Rattle.fol.specs.Order.{var_cmp}
use Rattle.finite.specs.Finite as set
use Rattle.free_variables.specs.Union.{union_of}
use Rattle.free_variables.specs.Occurrence.{vars_term}
use Rattle.substitution.specs.Image.{image_term}
use Rattle.arena_cells.specs.Standing.{variable_at, variables_at, map_at, IsVariableAt}
use Rattle.arena_cells.proofs.Staying.{is_term, is_map, are_variables}
use Rattle.arena_cells.proofs.Reading.{if_ok}
use Rattle.arena_refutations.proofs.PlanLaws.{image_more}
use Rattle.arena_refutations.proofs.planning.+image_vars.Goals as goal

pub returns-clause-has : goal.returns-clause-has
returns-clause-has t c =
    let a = c.args.arena.now in
    let b = c.image_vars.new.arena in
    let e = c.term_vars.new.self in
    let var = c.in-Some.var.now in
    let rest = c.in-Some.rest.now in
    let vars = c.in-Some.ensures.cases.0 in
    let var_there = All-head (IsVariableAt a) var rest (subst (All (IsVariableAt a)) vars c.requires.vars) in
    let image = is_term c.image_of_term.new.self _ _ c.in_ok-term.ensures.term
    ∙ (λ i. image_term (fin.get (is_map b c.args.map _ (c.image_vars.ensures.grown _ _ c.requires.map) i)) (is_term b var _ (c.image_vars.ensures.grown _ _ var_there) i)) in
    let others = are_variables e _ _ (c.term_vars.ensures.grown _ _ (c.image_of_term.ensures.grown _ _ c.in_ok-others.ensures.set)) in
    let own = are_variables e _ _ c.in_ok-own.ensures.set ∙ ap (λ x. vars_term x set.empty) image in
    if_ok c.union_variables.result _ _
    (λ n s v w member h.
    ap (λ q. set.has q v) (are_variables c.union_variables.new.self n _ s ∙ λ i. union_of (others i) (own i))
    ∙ image_more (fin.get (map_at a c.args.map)) (variable_at a var) (each (variable_at a) rest) (variables_at b c.in_ok-others.others) v w
    (c.in_ok-others.ensures.has v w) (ap (λ xs. list_any (eq_by_cmp var_cmp w) (each (variable_at a) xs)) (sym vars) ∙ member) h)
    c.union_variables.ensures.union
