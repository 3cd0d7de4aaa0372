-- The formula and the variable stay where they stand.
use Rattle.std.proofs.Common.{◌≡◌, [], ◌∷◌, ◌∙◌}
use Rattle.arena_cells.specs.Standing.{Extends}
use Rattle.arena_cells.specs.Meaning.{rule_at}
use Rattle.arena_cells.proofs.Staying.{is_variable, formula_stays, formula_there}
use Rattle.arena_cells.proofs.Facts as facts
use Rattle.building_laws.specs.Building.{strong_rule}
use Rattle.arena_building.proofs.dividing.divide_strong.Goals as goal

pub returns-clause-divided : goal.returns-clause-divided
returns-clause-divided c =
    let a = c.args.arena.now in
    let b = c.place_tree.new.arena in
    let grown : Extends a b = λ n t h. c.place_tree.ensures.grown n t (c.import_variable.ensures.grown n t h) in
    let rule : rule_at b c.strong.result ≡ strong_rule c.args.side _ c.args.variable.now =
    c.strong.ensures.rule b
    ∙ (λ i. strong_rule c.args.side (formula_stays a b grown c.args.main c.requires i) (is_variable b c.in_ok-variable.variable c.args.variable.now (c.place_tree.ensures.grown _ _ c.in_ok-variable.ensures.variable) i)) in
    λ i. record { rule = rule i; premises = (c.in_ok-child.ensures.placed i ∷ []) ∷ [] }

pub returns-clause-rule : goal.returns-clause-rule
returns-clause-rule c =
    let b = c.place_tree.new.arena in
    c.strong.ensures.parts b
    (formula_there c.args.arena.now b (λ n t h. c.place_tree.ensures.grown n t (c.import_variable.ensures.grown n t h)) c.args.main c.requires)
    (facts.variable_there b c.in_ok-variable.variable c.args.variable.now (c.place_tree.ensures.grown _ _ c.in_ok-variable.ensures.variable))

pub returns-clause-grown : goal.returns-clause-grown
returns-clause-grown c = λ n t h. c.place_tree.ensures.grown n t (c.import_variable.ensures.grown n t h)
