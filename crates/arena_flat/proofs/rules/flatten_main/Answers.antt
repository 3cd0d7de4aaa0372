-- The formula at the number that the rule names.
use Rattle.std.proofs.Common.{ℕ, sym, subst}
use Rattle.std.specs.Prelude.{Option, IfSome}
use Rattle.fol.specs.Syntax.{Formula}
use Rattle.lk_rules.specs.RuleOrder.{formula_of}
use Rattle.arena_cells.specs.Standing.{HasFormula}
use Rattle.arena_cells.specs.Meaning.{rule_at}
use Rattle.arena_cells.proofs.Reading.{if_ok}
use Rattle.arena_proofs.proofs.RuleParts.{named_formula, no_formula}
use Rattle.def_laws.specs.Flat.{flat}
use Rattle.arena_flat.proofs.rules.flatten_main.Goals as goal

pub flatten_formula-requires-clause-there : goal.flatten_formula-requires-clause-there
flatten_formula-requires-clause-there c = (named_formula c.args.from.now c.args.rule c.in-Some.main c.requires.parts (sym c.in-Some.ensures)).0

pub returns-in-Some-clause-formula : goal.returns-in-Some-clause-formula
returns-in-Some-clause-formula c =
    let a = c.args.from.now in
    let b = c.flatten_formula.new.to in
    let named = named_formula a c.args.rule c.in-Some.main c.requires.parts (sym c.in-Some.ensures) in
    if_ok c.flatten_formula.result _ (λ (n : ℕ). IfSome (formula_of (rule_at a c.args.rule)) (λ x. HasFormula b n (flat x)))
    (λ n s. subst (λ (o : Option Formula). IfSome o (λ x. HasFormula b n (flat x))) (sym named.1) s) c.flatten_formula.ensures.formula

pub returns-in-None-clause-formula : goal.returns-in-None-clause-formula
returns-in-None-clause-formula c =
    subst (λ (o : Option Formula). IfSome o (λ x. HasFormula c.args.to.now 0 (flat x))) (sym (no_formula c.args.from.now c.args.rule (sym c.in-None.ensures))) tt
