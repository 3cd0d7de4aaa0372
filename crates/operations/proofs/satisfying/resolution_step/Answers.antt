-- The atom is one that a line can tell, and so are the numbers, which fit 64 bits.
use Rattle.std.proofs.Common.{sym, subst, arith}
use Rattle.ground_laws.specs.declared.step.SatStep.{SatStep}
use Rattle.ground_laws.specs.Steps.{res_step}
use Rattle.reply_lines.specs.Shown.{IsShownStep}
use Rattle.operations.proofs.Satisfied.{HasShownAtom, step_shown}
use Rattle.operations.proofs.satisfying.resolution_step.Goals as goal

pub returns-in_ok-copy-in-Resolve-clause-shown : goal.returns-in_ok-copy-in-Resolve-clause-shown
returns-in_ok-copy-in-Resolve-clause-shown c =
    let atom = subst HasShownAtom c.in-Resolve.is c.requires in
    subst (λ (s : SatStep). IsShownStep (res_step s)) (sym c.in-Resolve.is) (omega arith, omega arith, step_shown c.in-Resolve.positive c.in-Resolve.negative c.in-Resolve.atom atom)
