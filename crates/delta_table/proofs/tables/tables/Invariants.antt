-- The tables so far are those of the items so far.
use Rattle.std.proofs.Common.{map, take}
use Rattle.numbered_terms.specs.Numbered.{tuples_at}
use Rattle.delta_table.specs.FoundRows.{founds, AreTables}
use Rattle.delta_table.proofs.tables.tables.Given as goal

abbrev pub invariant-loop-tuples : goal.invariant-loop-tuples
invariant-loop-tuples g l = AreTables l.terms l.tables.items (map (λ ns. founds l.width (tuples_at l.terms ns)) (take l.tuples-index l.numbers))
