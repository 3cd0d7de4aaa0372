-- The formula at the number that the rule names.
use Rattle.std.proofs.Common.{ℕ, sym, subst}
use Rattle.std.specs.Prelude.{Option, IfSome}
use Rattle.std.specs.FinMap as fin
use Rattle.fol.specs.Syntax.{Formula}
use Rattle.substitution.specs.Image.{image}
use Rattle.lk_rules.specs.RuleOrder.{formula_of}
use Rattle.arena_cells.specs.Standing.{HasFormula, map_at}
use Rattle.arena_cells.specs.Meaning.{rule_at}
use Rattle.arena_cells.proofs.Reading.{if_ok}
use Rattle.arena_proofs.proofs.RuleParts.{named_formula, no_formula}
use Rattle.arena_subst.proofs.rule_images.main_image.Goals as goal

pub image-requires-clause-formula : goal.image-requires-clause-formula
image-requires-clause-formula c = (named_formula c.args.arena.now c.args.rule c.in-Some.main c.requires.rule (sym c.in-Some.ensures)).0

pub returns-in-Some-clause-formula : goal.returns-in-Some-clause-formula
returns-in-Some-clause-formula c =
    let a = c.args.arena.now in
    let b = c.image.new.self in
    let named = named_formula a c.args.rule c.in-Some.main c.requires.rule (sym c.in-Some.ensures) in
    if_ok c.image.result _ (λ (n : ℕ). IfSome (formula_of (rule_at a c.args.rule)) (λ f. HasFormula b n (image (fin.get (map_at a c.args.map)) f)))
    (λ n s. subst (λ (o : Option Formula). IfSome o (λ f. HasFormula b n (image (fin.get (map_at a c.args.map)) f))) (sym named.1) s) c.image.ensures.formula

pub returns-in-None-clause-formula : goal.returns-in-None-clause-formula
returns-in-None-clause-formula c =
    let a = c.args.arena.now in
    subst (λ (o : Option Formula). IfSome o (λ f. HasFormula a 0 (image (fin.get (map_at a c.args.map)) f))) (sym (no_formula a c.args.rule (sym c.in-None.ensures))) tt
