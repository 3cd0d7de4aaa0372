-- The formula of both interpolants and its rules.
use Rattle.std.proofs.Common.{ℕ, sym, subst, ◌∙◌}
use Rattle.interp_laws.specs.Interpolation.{both_over}
use Rattle.arena_cells.specs.declared.key.Key.{Key}
use Rattle.arena_cells.specs.declared.key.Parts.TheVariants.{One, Two}
use Rattle.arena_cells.specs.Standing.{Stands, HasTree, formula_at, sequent_at, IsSequentAt}
use Rattle.arena_cells.specs.Meaning.{meaning, rule_at, HasParts}
use Rattle.arena_cells.proofs.Staying.{formula_there, sequent_there}
use Rattle.arena_interp.specs.Endings.{IsEndingAt, concluded_on}
use Rattle.arena_interp.specs.Partitions.{interpolation_at}
use Rattle.arena_interp.proofs.LastInferences.{larger, made_same}
use Rattle.arena_interp.proofs.Quantified.{part_there}
use Rattle.arena_interp.proofs.Joined.{connective_parts, connective_there, single_ending, split_ending, joined_made}
use Rattle.arena_interp.proofs.two_premises.join.Goals as goal

pub infer_both-requires-clause-sequent : goal.infer_both-requires-clause-sequent
infer_both-requires-clause-sequent c = subst (λ (n : ℕ). IsSequentAt c.args.arena.now n) (sym c.part_at-part.ensures) (part_there c.args.arena.now c.args.side c.args.one c.args.two c.requires.one c.requires.two)

pub put-requires : goal.put-requires
put-requires c =
    subst (λ (k : Key). HasParts c.infer_both.new.arena k) (sym c.connective.ensures)
    (connective_parts c.infer_both.new.arena c.args.side c.args.left.formula c.args.right.formula (formula_there c.args.arena.now c.infer_both.new.arena c.infer_both.ensures.grown c.args.left.formula c.requires.left.formula)
    (formula_there c.args.arena.now c.infer_both.new.arena c.infer_both.ensures.grown c.args.right.formula c.requires.right.formula))

pub conclude_on-requires-clause-one : goal.conclude_on-requires-clause-one
conclude_on-requires-clause-one c = sequent_there c.args.arena.now c.put.new.self (larger _ c.infer_both.new.arena _ c.infer_both.ensures.grown c.put.ensures.grown) c.args.one c.requires.one

pub conclude_on-requires-clause-two : goal.conclude_on-requires-clause-two
conclude_on-requires-clause-two c = sequent_there c.args.arena.now c.put.new.self (larger _ c.infer_both.new.arena _ c.infer_both.ensures.grown c.put.ensures.grown) c.args.two c.requires.two

pub conclude_on-requires-clause-formula : goal.conclude_on-requires-clause-formula
conclude_on-requires-clause-formula c =
    let stands = subst (λ (k : Key). Stands c.put.new.self c.in_ok-formula.formula (meaning c.infer_both.new.arena k)) c.connective.ensures c.in_ok-formula.ensures.stands in
    connective_there c.args.arena.now c.infer_both.new.arena c.put.new.self c.infer_both.ensures.grown c.put.ensures.grown c.args.rule c.args.one c.args.two c.in_ok-formula.formula c.in_ok-above.above c.args.left c.args.right c.requires.one c.requires.two c.requires.left c.requires.right
    c.args.side stands

pub conclude_on-requires-clause-own : goal.conclude_on-requires-clause-own
conclude_on-requires-clause-own c =
    let above = subst (λ (n : ℕ). HasTree c.infer_both.new.arena c.in_ok-above.above (both_over c.args.side (rule_at c.args.arena.now c.args.rule) (sequent_at c.args.arena.now n) (interpolation_at c.args.arena.now c.args.left) (interpolation_at c.args.arena.now c.args.right)))
    c.part_at-part.ensures c.in_ok-above.ensures.tree in
    let stands = subst (λ (k : Key). Stands c.put.new.self c.in_ok-formula.formula (meaning c.infer_both.new.arena k)) c.connective.ensures c.in_ok-formula.ensures.stands in
    subst (λ (P : Type 0). P) (λ i. IsEndingAt c.put.new.self (record { rule = sym c.connective_rules-rule.ensures.own i; premises = One c.in_ok-above.above }))
    (single_ending c.args.arena.now c.infer_both.new.arena c.put.new.self c.infer_both.ensures.grown c.put.ensures.grown c.args.rule c.args.one c.args.two c.in_ok-formula.formula c.in_ok-above.above c.args.left c.args.right c.requires.one c.requires.two c.requires.left c.requires.right
    c.args.side above stands)

pub conclude_on-requires-clause-other : goal.conclude_on-requires-clause-other
conclude_on-requires-clause-other c =
    let above = subst (λ (n : ℕ). HasTree c.infer_both.new.arena c.in_ok-above.above (both_over c.args.side (rule_at c.args.arena.now c.args.rule) (sequent_at c.args.arena.now n) (interpolation_at c.args.arena.now c.args.left) (interpolation_at c.args.arena.now c.args.right)))
    c.part_at-part.ensures c.in_ok-above.ensures.tree in
    let stands = subst (λ (k : Key). Stands c.put.new.self c.in_ok-formula.formula (meaning c.infer_both.new.arena k)) c.connective.ensures c.in_ok-formula.ensures.stands in
    subst (λ (P : Type 0). P) (λ i. IsEndingAt c.put.new.self (record { rule = sym c.connective_rules-rule.ensures.other i; premises = Two (sym c.other_proof.ensures i) (sym c.other_proof-2.ensures i) }))
    (split_ending c.args.arena.now c.infer_both.new.arena c.put.new.self c.infer_both.ensures.grown c.put.ensures.grown c.args.rule c.args.one c.args.two c.in_ok-formula.formula c.in_ok-above.above c.args.left c.args.right c.requires.one c.requires.two c.requires.left c.requires.right
    c.args.side above stands)

pub returns-clause-made : goal.returns-clause-made
returns-clause-made c =
    let d = c.put.new.self in
    let above = subst (λ (n : ℕ). HasTree c.infer_both.new.arena c.in_ok-above.above (both_over c.args.side (rule_at c.args.arena.now c.args.rule) (sequent_at c.args.arena.now n) (interpolation_at c.args.arena.now c.args.left) (interpolation_at c.args.arena.now c.args.right)))
    c.part_at-part.ensures c.in_ok-above.ensures.tree in
    let stands = subst (λ (k : Key). Stands c.put.new.self c.in_ok-formula.formula (meaning c.infer_both.new.arena k)) c.connective.ensures c.in_ok-formula.ensures.stands in
    made_same c.conclude_on.result c.conclude_on.new.arena _ _
    ((λ i. concluded_on d c.args.side (sequent_at d c.args.one) (sequent_at d c.args.two) (formula_at d c.in_ok-formula.formula) (record { rule = c.connective_rules-rule.ensures.own i; premises = One c.in_ok-above.above })
    (record { rule = c.connective_rules-rule.ensures.other i; premises = Two (c.other_proof.ensures i) (c.other_proof-2.ensures i) }))
    ∙ joined_made c.args.arena.now c.infer_both.new.arena c.put.new.self c.infer_both.ensures.grown c.put.ensures.grown c.args.rule c.args.one c.args.two c.in_ok-formula.formula c.in_ok-above.above c.args.left c.args.right c.requires.one c.requires.two c.requires.left c.requires.right
    c.args.side above stands) c.conclude_on.ensures.made

pub returns-clause-grown : goal.returns-clause-grown
returns-clause-grown c = larger _ _ _ (larger _ _ _ c.infer_both.ensures.grown c.put.ensures.grown) c.conclude_on.ensures.grown
