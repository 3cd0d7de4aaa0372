-- The answer is that of the definition.
use Rattle.std.proofs.Common.{◌≡◌, Some, sym, ap, ◌∙◌}
use Rattle.fol.specs.declared.symbols.Var.{Var}
use Rattle.def_symbols.proofs.DefinedSymbols.{free_answer, large_answer, defined_answer, formed_answer}
use Rattle.def_symbols.proofs.defining.define.Goals as goal

pub returns-in-Some-clause-free : goal.returns-in-Some-clause-free
returns-in-Some-clause-free c v same =
    let var : c.in-Some.var ≡ v = cc in
    free_answer c.args.name c.args.vars.now c.args.body.now v (sym c.in_ok-var.ensures ∙ c.in-Some.is ∙ ap (λ (w : Var). Some w) var)

pub returns-then-not-branch-clause-large : goal.returns-then-not-branch-clause-large
returns-then-not-branch-clause-large c same =
    large_answer c.args.name c.args.vars.now c.args.body.now (sym c.in_ok-var.ensures ∙ c.in_default.is) (sym c.in_ok-is_small.ensures ∙ c.if-not-branch.true)

pub returns-clause-ok : goal.returns-clause-ok
returns-clause-ok c =
    defined_answer c.args.name c.args.vars.now c.args.body.now c.in_ok-body.body (sym c.in_ok-var.ensures ∙ c.in_default.is) (sym c.in_ok-is_small.ensures ∙ c.if-not-branch.false) c.in_ok-body.ensures.value

pub returns-clause-formed : goal.returns-clause-formed
returns-clause-formed c =
    formed_answer c.args.name c.args.vars.now c.args.body.now c.in_ok-body.body c.requires.name (c.in_ok-body.ensures.formed c.requires.body) (sym c.in_ok-var.ensures ∙ c.in_default.is) c.in_ok-body.ensures.value
