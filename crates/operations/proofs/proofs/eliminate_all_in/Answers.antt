-- Where memory runs out, the images stay and the table of eliminations grows.
use Rattle.proof_subst.specs.Benches.{graph_of}
use Rattle.cut_elim.specs.Desks.{bench_of}
use Rattle.operation_laws.specs.Given.{proof_given}
use Rattle.operation_laws.specs.Running.{to_eliminate}
use Rattle.held_values.specs.Means.{sense}
use Rattle.operations.proofs.Eliminated.{whole_lacks, lacks_at_desk}
use Rattle.operations.proofs.proofs.eliminate_all_in.Goals as goal

pub returns-in-Err-made : goal.returns-in-Err-made
returns-in-Err-made g c =
    let asked = proof_given c.args.of.now (sense c.args.value.now) in
    let made = c.eliminate_all-made.ensures in
    lacks_at_desk c.args.desk.now c.args.pass.now c.eliminate_all-made.new.pass (to_eliminate asked)
    (whole_lacks (graph_of (bench_of c.args.desk.now)) asked c.in-Ok.proof.now.tree c.in-Ok.ensures.found) made.images_stay made.eliminations_grown made.extends
