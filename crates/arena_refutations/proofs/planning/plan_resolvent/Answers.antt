-- The sets of the union stay while the others are found.
use Rattle.std.proofs.Common.{◌≡◌, ap, ◌∙◌}
use Rattle.std.specs.Prelude.{Some}
use Rattle.finite.specs.Finite as set
use Rattle.free_variables.specs.Union.{union_of}
use Rattle.free_variables.specs.Occurrence.{vars_formula}
use Rattle.lk_rules.specs.Sequents.{vars_sequent}
use Rattle.arena_cells.specs.Items.{variables}
use Rattle.arena_cells.specs.Standing.{Extends, variables_at}
use Rattle.arena_cells.proofs.Staying.{is_formula, are_variables, sequent_stays}
use Rattle.arena_refutations.proofs.planning.plan_resolvent.Goals as goal

pub returns-clause-set : goal.returns-clause-set
returns-clause-set c =
    let a = c.args.arena.now in
    let b = c.import_formula.new.self in
    let d = c.union_variables.new.self in
    let e = c.free_vars.new.self in
    let f = c.union_variables-2.new.self in
    let g = c.sequent_vars.new.self in
    let grown : Extends a f = λ n t h. c.union_variables-2.ensures.grown n t (c.free_vars.ensures.grown n t (c.union_variables.ensures.grown n t (c.import_formula.ensures.grown n t h))) in
    let first : variables_at b c.args.sets.0 ≡ variables_at a c.args.sets.0 = are_variables b _ _ (c.import_formula.ensures.grown _ _ c.requires.first) in
    let second : variables_at b c.args.sets.1 ≡ variables_at a c.args.sets.1 = are_variables b _ _ (c.import_formula.ensures.grown _ _ c.requires.second) in
    let both = are_variables e c.in_ok-both.both _ (c.free_vars.ensures.grown _ _ c.in_ok-both.ensures.union) ∙ λ i. union_of (first i) (second i) in
    let own = are_variables e c.in_ok-own.own _ c.in_ok-own.ensures.set ∙ ap (λ q. vars_formula q set.empty) (is_formula d c.in_ok-named.named _ (c.union_variables.ensures.grown _ _ c.in_ok-named.ensures.formula)) in
    let all = are_variables g c.in_ok-all.all _ (c.sequent_vars.ensures.grown _ _ c.in_ok-all.ensures.union) ∙ λ i. union_of (both i) (own i) in
    let others = are_variables g c.in_ok-others.others _ c.in_ok-others.ensures.set ∙ ap vars_sequent (sequent_stays a f grown c.args.clause c.requires.clause) in
    c.in_ok-set.ensures.union ∙ λ i. Some (variables (union_of (all i) (others i)))

pub returns-clause-named : goal.returns-clause-named
returns-clause-named c =
    c.union_variables-3.ensures.grown _ _ (c.sequent_vars.ensures.grown _ _ (
    c.union_variables-2.ensures.grown _ _ (c.free_vars.ensures.grown _ _ (c.union_variables.ensures.grown _ _ c.in_ok-named.ensures.formula))))
