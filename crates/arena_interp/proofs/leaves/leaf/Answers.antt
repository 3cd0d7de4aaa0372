-- The rule stands over its part, and that of the constant over the other.
use Rattle.std.proofs.Common.{sym, subst, ◌∙◌}
use Rattle.arena_cells.specs.declared.key.Key.{Key}
use Rattle.arena_cells.specs.declared.key.RuleKey.{RuleKey}
use Rattle.arena_cells.specs.declared.key.Parts.TheVariants.{Zero}
use Rattle.arena_cells.specs.Standing.{Stands, formula_at, sequent_at}
use Rattle.arena_cells.specs.Meaning.{meaning, HasParts, HasRuleParts}
use Rattle.arena_cells.proofs.Staying.{rule_parts_there}
use Rattle.arena_interp.specs.Endings.{concluded_on}
use Rattle.arena_interp.proofs.LastInferences.{made_same}
use Rattle.arena_interp.proofs.LeafLaws.{constant_parts, constant_rule_parts, constant_there, leaf_made}
use Rattle.arena_interp.proofs.leaves.leaf.Goals as goal

pub put-requires : goal.put-requires
put-requires c = subst (λ (k : Key). HasParts c.args.arena.now k) (sym c.constant.ensures) (constant_parts c.args.arena.now c.args.side)

pub conclude_on-requires-clause-formula : goal.conclude_on-requires-clause-formula
conclude_on-requires-clause-formula c =
    constant_there c.args.arena.now c.put.new.self c.args.side c.in_ok-formula.formula (subst (λ (k : Key). Stands c.put.new.self c.in_ok-formula.formula (meaning c.args.arena.now k)) c.constant.ensures c.in_ok-formula.ensures.stands)

pub conclude_on-requires-clause-own : goal.conclude_on-requires-clause-own
conclude_on-requires-clause-own c = record { rule = rule_parts_there c.args.arena.now c.put.new.self c.put.ensures.grown c.args.rule c.requires.rule; premises = tt }

pub conclude_on-requires-clause-other : goal.conclude_on-requires-clause-other
conclude_on-requires-clause-other c = record { rule = subst (λ (k : RuleKey). HasRuleParts c.put.new.self k) (sym c.constant_rule.ensures) (constant_rule_parts c.put.new.self c.args.side); premises = tt }

pub returns-clause-made : goal.returns-clause-made
returns-clause-made c =
    let a = c.args.arena.now in
    let b = c.put.new.self in
    let stands = subst (λ (k : Key). Stands b c.in_ok-formula.formula (meaning a k)) c.constant.ensures c.in_ok-formula.ensures.stands in
    made_same c.conclude_on.result c.conclude_on.new.arena _ _
    ((λ i. concluded_on b c.args.side (sequent_at b c.args.one) (sequent_at b c.args.two) (formula_at b c.in_ok-formula.formula) (record { rule = c.args.rule; premises = Zero }) (record { rule = c.constant_rule.ensures i; premises = Zero }))
    ∙ leaf_made a b c.put.ensures.grown c.args.side c.args.rule c.args.one c.args.two c.in_ok-formula.formula c.requires.rule c.requires.one c.requires.two stands) c.conclude_on.ensures.made
