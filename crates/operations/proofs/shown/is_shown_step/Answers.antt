-- A step by resolution is shown where its atom is.
use Rattle.std.proofs.Common.{arith}
use Rattle.operations.proofs.ShownParts.{resolution_shown}
use Rattle.operations.proofs.shown.is_shown_step.Goals as goal

pub returns-in-Resolve : goal.returns-in-Resolve
returns-in-Resolve c shown =
    resolution_shown c.args.step.now c.in-Resolve.positive c.in-Resolve.negative c.in-Resolve.atom c.is_shown_atom.result c.in-Resolve.is (omega arith) (omega arith)
    c.is_shown_atom.ensures shown
