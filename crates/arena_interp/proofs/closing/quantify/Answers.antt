-- The quantified formula and its rules.
use Rattle.std.proofs.Common.{sym, subst, ◌∙◌}
use Rattle.arena_cells.specs.declared.key.Key.{Key}
use Rattle.arena_cells.specs.declared.key.Parts.TheVariants.{One}
use Rattle.arena_cells.specs.Standing.{Stands, formula_at, sequent_at}
use Rattle.arena_cells.specs.Meaning.{meaning, HasParts}
use Rattle.arena_cells.proofs.Staying.{sequent_there}
use Rattle.arena_cells.proofs.Facts as facts
use Rattle.arena_interp.specs.Endings.{IsEndingAt, concluded_on}
use Rattle.arena_interp.proofs.LastInferences.{larger, made_same}
use Rattle.arena_interp.proofs.Quantified.{quantifier_parts, quantifier_there, own_ending, other_ending, quantified_made}
use Rattle.arena_interp.proofs.closing.quantify.Goals as goal

pub put-requires : goal.put-requires
put-requires c =
    subst (λ (k : Key). HasParts c.bind.new.self k) (sym c.quantifier.ensures)
    (quantifier_parts c.bind.new.self c.args.side c.in_ok-body.body (facts.formula_there c.bind.new.self c.in_ok-body.body _ c.in_ok-body.ensures.body))

pub conclude_on-requires-clause-one : goal.conclude_on-requires-clause-one
conclude_on-requires-clause-one c = sequent_there c.args.arena.now c.put.new.self (larger _ c.bind.new.self _ c.bind.ensures.grown c.put.ensures.grown) c.args.one c.requires.one

pub conclude_on-requires-clause-two : goal.conclude_on-requires-clause-two
conclude_on-requires-clause-two c = sequent_there c.args.arena.now c.put.new.self (larger _ c.bind.new.self _ c.bind.ensures.grown c.put.ensures.grown) c.args.two c.requires.two

pub conclude_on-requires-clause-formula : goal.conclude_on-requires-clause-formula
conclude_on-requires-clause-formula c =
    let stands = subst (λ (k : Key). Stands c.put.new.self c.in_ok-formula.formula (meaning c.bind.new.self k)) c.quantifier.ensures c.in_ok-formula.ensures.stands in
    quantifier_there c.args.arena.now c.bind.new.self c.put.new.self c.bind.ensures.grown c.put.ensures.grown c.args.one c.args.two c.args.variable c.in_ok-body.body c.in_ok-formula.formula c.args.made c.requires.one c.requires.two c.requires.variable c.requires.made
    c.in_ok-body.ensures.body c.args.side stands

pub conclude_on-requires-clause-own : goal.conclude_on-requires-clause-own
conclude_on-requires-clause-own c =
    let stands = subst (λ (k : Key). Stands c.put.new.self c.in_ok-formula.formula (meaning c.bind.new.self k)) c.quantifier.ensures c.in_ok-formula.ensures.stands in
    subst (λ (P : Type 0). P) (λ i. IsEndingAt c.put.new.self (record { rule = sym c.quantifier_rules-rule.ensures.own i; premises = One (sym c.proof.ensures i) }))
    (own_ending c.args.arena.now c.bind.new.self c.put.new.self c.bind.ensures.grown c.put.ensures.grown c.args.one c.args.two c.args.variable c.in_ok-body.body c.in_ok-formula.formula c.args.made c.requires.one c.requires.two c.requires.variable c.requires.made
    c.in_ok-body.ensures.body c.args.side stands)

pub conclude_on-requires-clause-other : goal.conclude_on-requires-clause-other
conclude_on-requires-clause-other c =
    let stands = subst (λ (k : Key). Stands c.put.new.self c.in_ok-formula.formula (meaning c.bind.new.self k)) c.quantifier.ensures c.in_ok-formula.ensures.stands in
    subst (λ (P : Type 0). P) (λ i. IsEndingAt c.put.new.self (record { rule = sym c.quantifier_rules-rule.ensures.other i; premises = One (sym c.other_proof.ensures i) }))
    (other_ending c.args.arena.now c.bind.new.self c.put.new.self c.bind.ensures.grown c.put.ensures.grown c.args.one c.args.two c.args.variable c.in_ok-body.body c.in_ok-formula.formula c.args.made c.requires.one c.requires.two c.requires.variable c.requires.made
    c.in_ok-body.ensures.body c.args.side stands)

pub returns-clause-made : goal.returns-clause-made
returns-clause-made c =
    let d = c.put.new.self in
    let stands = subst (λ (k : Key). Stands c.put.new.self c.in_ok-formula.formula (meaning c.bind.new.self k)) c.quantifier.ensures c.in_ok-formula.ensures.stands in
    made_same c.conclude_on.result c.conclude_on.new.arena _ _
    ((λ i. concluded_on d c.args.side (sequent_at d c.args.one) (sequent_at d c.args.two) (formula_at d c.in_ok-formula.formula) (record { rule = c.quantifier_rules-rule.ensures.own i; premises = One (c.proof.ensures i) })
    (record { rule = c.quantifier_rules-rule.ensures.other i; premises = One (c.other_proof.ensures i) }))
    ∙ quantified_made c.args.arena.now c.bind.new.self c.put.new.self c.bind.ensures.grown c.put.ensures.grown c.args.one c.args.two c.args.variable c.in_ok-body.body c.in_ok-formula.formula c.args.made c.requires.one c.requires.two c.requires.variable c.requires.made
    c.in_ok-body.ensures.body c.args.side stands) c.conclude_on.ensures.made

pub returns-clause-grown : goal.returns-clause-grown
returns-clause-grown c = larger _ _ _ (larger _ _ _ c.bind.ensures.grown c.put.ensures.grown) c.conclude_on.ensures.grown
