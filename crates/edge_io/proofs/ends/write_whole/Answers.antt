use Rattle.std.proofs.Common.{◌∙◌, arith}
use Rattle.edge_io.proofs.Bytes.{appends_more}
use Rattle.edge_io.proofs.ends.write_whole.Goals as goal

pub loop-written-preserved : goal.loop-written-preserved
loop-written-preserved g c =
    let i = c.loop-written.invariant in (
      omega (arith, c.in-Ok.ensures.bound),
      appends_more _ _ _ c.args.bytes.now c.loop-written.written c.in-Ok.count i.1 c.in-Ok.ensures.bytes,
      c.write.ensures.flushed ∙ i.2,
      omega (arith, c.write.ensures.kept, i.3),
    )
