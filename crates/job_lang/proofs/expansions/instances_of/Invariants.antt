use Rattle.std.specs.List.{All}
use Rattle.fol.specs.Formed.{IsFormedTerm}
use Rattle.line_values.specs.View.{view}
use Rattle.job_lang.specs.Expansions.{instance_at}
use Rattle.job_lang.proofs.Each.{Reads}
use Rattle.job_lang.proofs.expansions.instances_of.Given as goal

abbrev pub invariant-loop-index : goal.invariant-loop-index
invariant-loop-index l = Reads view (instance_at l.node) l.values l.index l.items.items × All (λ i. IsFormedTerm i.0) l.items.items
