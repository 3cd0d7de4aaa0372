use Rattle.line_values.specs.View.{view}
use Rattle.job_lang.specs.Definitions.{used_name}
use Rattle.job_lang.proofs.Each.{Reads}
use Rattle.job_lang.proofs.definitions.used_names.Given as goal

abbrev pub invariant-loop-index : goal.invariant-loop-index
invariant-loop-index l = Reads view used_name l.values l.index l.names.items
