-- The number fits the program's, so it is below the greatest or is that.
use Rattle.proof_subst.specs.Benches.{graph_of}
use Rattle.cut_elim.specs.Desks.{bench_of}
use Rattle.cut_elim.proofs.WholeEliminations.{known_whole}
use Rattle.cut_elim.proofs.whole.answer_known.Goals as goal

pub returns-clause-whole : goal.returns-clause-whole
returns-clause-whole c = known_whole (graph_of (bench_of c.args.desk.now)) c.args.proof.now c.args.known c.see_number.ensures c.requires
