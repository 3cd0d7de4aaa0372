-- The proof that is given is the one that is noted.
use Rattle.std.proofs.Common.{Option, sym, subst}
use Rattle.std.specs.Option.{IsSomeAnd}
use Rattle.proof_graph.specs.References.{Reference}
use Rattle.cut_elim.specs.Desks.{HasElimination}
use Rattle.operations.proofs.proofs.eliminate_in.Goals as goal

pub returns-in-Ok-made-clause-noted : goal.returns-in-Ok-made-clause-noted
returns-in-Ok-made-clause-noted g c = λ done.
    subst (λ (o : Option Reference). IsSomeAnd o (λ r. HasElimination c.eliminate-made.new.pass r.number)) (sym c.in-Ok.ensures.reference) c.in-Ok-made.ensures.noted
