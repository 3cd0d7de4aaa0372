-- The formulas of a set are well formed.
use Rattle.std.proofs.Common.{sym, subst}
use Rattle.fol.specs.Syntax.{Formula}
use Rattle.fol.specs.Formed.{IsFormed}
use Rattle.step_laws.proofs.Found.{found_formed}
use Rattle.lk_interp.proofs.faults.first_outside.Goals as goal

pub returns-in-Some-clause-formed : goal.returns-in-Some-clause-formed
returns-in-Some-clause-formed c =
    subst (λ (f : Formula). IsFormed f) (sym c.in_ok-copy-in-Some.ensures) (found_formed _ c.as_slice.result.now c.in-Some.formula.now c.as_slice.ensures.formed (sym c.in-Some.ensures))
