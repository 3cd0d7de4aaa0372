use Rattle.line_values.specs.View.{view}
use Rattle.job_lang.specs.Numbers.{number_of}
use Rattle.job_lang.proofs.Each.{Reads}
use Rattle.job_lang.proofs.numbers.numbers_of.Given as goal

abbrev pub invariant-loop-index : goal.invariant-loop-index
invariant-loop-index l = Reads view (number_of l.place l.key) l.values l.index l.numbers.items
