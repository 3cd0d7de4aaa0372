use Rattle.std.specs.List.{All}
use Rattle.fol.specs.Formed.{IsFormed}
use Rattle.line_values.specs.View.{view}
use Rattle.job_lang.specs.Formulas.{formula_of}
use Rattle.job_lang.proofs.Each.{Reads}
use Rattle.job_lang.proofs.formulas.each_formula.Given as goal

abbrev pub invariant-loop-index : goal.invariant-loop-index
invariant-loop-index l = Reads view (formula_of l.place l.key) l.values l.index l.formulas.items × All IsFormed l.formulas.items
