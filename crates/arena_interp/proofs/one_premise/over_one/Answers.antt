-- Variables are quantified where the rule has a term.
use Rattle.std.proofs.Common.{sym, ap, ◌∙◌}
use Rattle.finite.specs.Finite as set
use Rattle.free_variables.specs.Occurrence.{vars_formula}
use Rattle.interp_laws.specs.Interpolation.{part, inferred, closed_by, vars_outside}
use Rattle.arena_cells.specs.Standing.{sequent_at}
use Rattle.arena_cells.specs.Meaning.{rule_at}
use Rattle.arena_cells.proofs.Staying.{sequent_stays, formula_stays, formula_there}
use Rattle.arena_proofs.proofs.RuleParts.{named_term, no_term}
use Rattle.arena_interp.specs.Closing.{closed_outside}
use Rattle.arena_interp.specs.Partitions.{interpolation_at}
use Rattle.arena_interp.proofs.LastInferences.{made_same}
use Rattle.arena_interp.proofs.Staying.{interpolation_is, interpolation_there, has_same}
use Rattle.arena_interp.proofs.one_premise.over_one.Goals as goal

pub close-requires-clause-formula : goal.close-requires-clause-formula
close-requires-clause-formula c = formula_there c.args.arena.now c.infer.new.arena c.infer.ensures.grown c.args.made.formula c.requires.made.formula

pub close-requires-clause-made : goal.close-requires-clause-made
close-requires-clause-made c = interpolation_there c.infer.new.arena _ c.in_ok-lower.lower c.in_ok-lower.ensures.made

pub returns-in-Some-clause-made : goal.returns-in-Some-clause-made
returns-in-Some-clause-made c =
    let a = c.args.arena.now in
    let b = c.infer.new.arena in
    let grown = c.infer.ensures.grown in
    let s = sequent_at a c.args.one in
    let t = sequent_at a c.args.two in
    let i = interpolation_at a c.args.made in
    let r = rule_at a c.args.rule in
    let lower = interpolation_is b _ c.in_ok-lower.lower c.in_ok-lower.ensures.made in
    let term = named_term a c.args.rule _ c.requires.rule (sym c.rule_term.ensures ∙ c.in-Some.is) in
    made_same c.close.result c.close.new.arena _ _
    ((λ k. closed_outside c.args.side (sequent_stays a b grown c.args.one c.requires.one k) (sequent_stays a b grown c.args.two c.requires.two k) (set.listing (vars_formula (formula_stays a b grown c.args.made.formula c.requires.made.formula k) set.empty)) (lower k))
    ∙ ap (λ o. closed_by c.args.side s t (vars_outside o i.formula (part s t c.args.side)) (inferred c.args.side r s t i)) (sym term.1)) c.close.ensures.made

pub returns-in-None-clause-made : goal.returns-in-None-clause-made
returns-in-None-clause-made c =
    let a = c.args.arena.now in
    let s = sequent_at a c.args.one in
    let t = sequent_at a c.args.two in
    let i = interpolation_at a c.args.made in
    let r = rule_at a c.args.rule in
    let term = no_term a c.args.rule (sym c.rule_term.ensures ∙ c.in-None.is) in
    has_same c.infer.new.arena _ _ c.in_ok-lower.lower (ap (λ o. closed_by c.args.side s t (vars_outside o i.formula (part s t c.args.side)) (inferred c.args.side r s t i)) (sym term)) c.in_ok-lower.ensures.made
