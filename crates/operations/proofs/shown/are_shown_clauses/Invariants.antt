-- A line can tell the clauses so far.
use Rattle.std.proofs.Common.{take}
use Rattle.std.specs.List.{All}
use Rattle.reply_lines.specs.Shown.{IsShownClause}
use Rattle.operations.proofs.shown.are_shown_clauses.Given as goal

abbrev pub invariant-loop-clause : goal.invariant-loop-clause
invariant-loop-clause l = All IsShownClause (take l.clause-index l.clauses)
