use Rattle.job_gen.proofs.JobTexts.{generated-more}
use Rattle.job_gen.proofs.lines.generate.Goals as goal

pub loop-i-preserved : goal.loop-i-preserved
loop-i-preserved c =
    let more = generated-more c.loop-i.i in
    cc (c.in_ok-extend_from_slice.ensures.items, c.as_slice.ensures.value, c.in_ok-generate_line.ensures)
