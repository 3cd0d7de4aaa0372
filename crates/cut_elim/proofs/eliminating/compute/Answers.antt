-- What elimination comes to is valid, and a proof that isn't its own elimination has a cut.
use Rattle.std.proofs.Common.{arith}
use Rattle.proof_subst.specs.Benches.{arena_in}
use Rattle.arena_cells.specs.Standing.{tree_at}
use Rattle.cut_elim.proofs.CutCounts.{counted_none}
use Rattle.cut_elim.proofs.eliminating.compute.Goals as goal

pub proof_at-answer-requires-clause-valid : goal.proof_at-answer-requires-clause-valid
proof_at-answer-requires-clause-valid g c =
    let made = c.in-Ok.made in
    c.results.ensures.valid c.args.proof.now.tree (tree_at (arena_in c.eliminate_number.new.pass) made.proof) made.reductions c.args.budget c.known.ensures.valid c.in-Ok.ensures.ok

pub returns-in-Err-clause-untouched : goal.returns-in-Err-clause-untouched
returns-in-Err-clause-untouched g c h = absurd (omega (arith, c.if-counts-eq0.false, counted_none c.args.proof.now.tree c.counts.result.cuts c.counts.ensures.cuts h))

pub returns-in-Ok-answer-clause-untouched : goal.returns-in-Ok-answer-clause-untouched
returns-in-Ok-answer-clause-untouched g c h = absurd (omega (arith, c.if-counts-eq0.false, counted_none c.args.proof.now.tree c.counts.result.cuts c.counts.ensures.cuts h))

pub returns-in-Err-answer-clause-untouched : goal.returns-in-Err-answer-clause-untouched
returns-in-Err-answer-clause-untouched g c h = absurd (omega (arith, c.if-counts-eq0.false, counted_none c.args.proof.now.tree c.counts.result.cuts c.counts.ensures.cuts h))
