-- The formulas of a sequent are well formed.
use Rattle.std.proofs.Common.{sym, subst}
use Rattle.fol.specs.Syntax.{Formula}
use Rattle.fol.specs.Formed.{IsFormed}
use Rattle.step_laws.proofs.Found.{found_formed}
use Rattle.cut_intro.proofs.prenex.first_not_prenex.Goals as goal

pub returns-in-Some-clause-formed : goal.returns-in-Some-clause-formed
returns-in-Some-clause-formed c =
    subst (λ (f : Formula). IsFormed f) (sym c.in_ok-copy.ensures) (found_formed _ c.left.result.now c.in-Some.formula.now c.left.ensures.formed (sym c.in-Some.ensures))

pub returns-in_ok-copy-in-Some-first_other-clause-formed : goal.returns-in_ok-copy-in-Some-first_other-clause-formed
returns-in_ok-copy-in-Some-first_other-clause-formed c =
    subst (λ (f : Formula). IsFormed f) (sym c.in_ok-copy-in-Some-first_other.ensures)
    (found_formed _ c.right.result.now c.in-Some-first_other.formula.now c.right.ensures.formed (sym c.in-Some-first_other.ensures))
