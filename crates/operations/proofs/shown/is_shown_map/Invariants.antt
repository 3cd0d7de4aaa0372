-- A line can tell the bindings so far.
use Rattle.std.proofs.Common.{ℕ, ◌<◌, get_or}
use Rattle.fol.specs.declared.symbols.Var.{Var}
use Rattle.fol.specs.Syntax.{Term}
use Rattle.reply_lines.specs.Shown.{IsShownBinding}
use Rattle.operations.proofs.shown.is_shown_map.Given as goal

abbrev pub invariant-loop-var : goal.invariant-loop-var
invariant-loop-var l = (k : ℕ) (d : Var × Term) → k < l.var-index → IsShownBinding (get_or l.var-items k d)
