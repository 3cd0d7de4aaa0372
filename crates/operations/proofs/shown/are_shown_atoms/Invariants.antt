-- A line can tell the atoms so far.
use Rattle.std.proofs.Common.{take}
use Rattle.std.specs.List.{All}
use Rattle.reply_lines.specs.Shown.{IsShownFormula}
use Rattle.operations.proofs.shown.are_shown_atoms.Given as goal

abbrev pub invariant-loop-formula : goal.invariant-loop-formula
invariant-loop-formula l = All IsShownFormula (take l.formula-index l.formulas)
