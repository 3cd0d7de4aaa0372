-- A quantifier for each variable stands around what has been bound.
use Rattle.std.proofs.Common.{◌≡◌, length, sym, subst, arith}
use Rattle.fol.specs.Formed.{IsFormed}
use Rattle.substitution.proofs.ClosingLaws.{closed_ex_is, formed_closed_ex}
use Rattle.substitution.proofs.closing.close_ex.Goals as goal

pub returns-clause-value : goal.returns-clause-value
returns-clause-value c =
    let every : length c.args.vars.now ≡ c.loop-var._var-index = omega arith in
    closed_ex_is c.args.vars.now c.loop-var._var-index c.args.formula.now c.in_ok-closed.closed c.loop-var.closed every c.in_ok-closed.ensures.value c.loop-var.invariant

pub returns-clause-formed : goal.returns-clause-formed
returns-clause-formed c h =
    let P = IsFormed in subst P (sym (returns-clause-value c)) (formed_closed_ex c.args.vars.now c.args.formula.now c.in_ok-closed.ensures.fits h)
