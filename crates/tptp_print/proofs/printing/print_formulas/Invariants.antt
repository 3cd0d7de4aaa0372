use Rattle.std.proofs.Common.{◌≡◌, map, take}
use Rattle.tptp_print.specs.Canonical.{canonical}
use Rattle.tptp_print.proofs.printing.print_formulas.Given as goal

abbrev pub invariant-loop-formula : goal.invariant-loop-formula
invariant-loop-formula l = l.texts ≡ map canonical (take l.formula-index l.formulas)
