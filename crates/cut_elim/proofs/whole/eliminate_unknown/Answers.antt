-- Where the greatest budget doesn't suffice, no number of the program is that of the contractions, and the proof has a cut.
use Rattle.std.proofs.Common.{◌≤◌, ◌^◌, Err, ap, ◌∙◌, arith}
use Rattle.proof_subst.specs.Benches.{graph_of}
use Rattle.cut_elim.specs.Desks.{bench_of}
use Rattle.cut_elim.proofs.WholeEliminations.{far_beyond, not_far, within_whole}
use Rattle.cut_elim.proofs.whole.eliminate_unknown.Goals as goal

pub compute_whole-requires-clause-beyond : goal.compute_whole-requires-clause-beyond
compute_whole-requires-clause-beyond g c =
    far_beyond c.args.proof.now.tree c.args.budget c.requires.greatest (c.eliminate.ensures.budget (c.in-Err-Budget.is ∙ ap Err c.in-Err-Budget.field-0-is))

pub returns-in-Ok-clause-whole : goal.returns-in-Ok-clause-whole
returns-in-Ok-clause-whole g c =
    within_whole (graph_of (bench_of c.args.desk.now)) c.args.proof.now c.in-Ok.made c.args.budget c.ranges.budget.fits c.in-Ok.ensures.of c.in-Ok.ensures.ok

pub returns-in-Err-Budget-clause-noted : goal.returns-in-Err-Budget-clause-noted
returns-in-Err-Budget-clause-noted g c k u reaches less =
    let short = c.eliminate.ensures.budget (c.in-Err-Budget.is ∙ ap Err c.in-Err-Budget.field-0-is) in
    let more : 2 ^ 64 ≤ k = far_beyond c.args.proof.now.tree c.args.budget c.requires.greatest short k u reaches in
    absurd (omega (arith, more, less))

pub returns-in-Err-Budget-clause-untouched : goal.returns-in-Err-Budget-clause-untouched
returns-in-Err-Budget-clause-untouched g c free =
    let short = c.eliminate.ensures.budget (c.in-Err-Budget.is ∙ ap Err c.in-Err-Budget.field-0-is) in
    absurd (not_far c.args.proof.now.tree free (far_beyond c.args.proof.now.tree c.args.budget c.requires.greatest short))
