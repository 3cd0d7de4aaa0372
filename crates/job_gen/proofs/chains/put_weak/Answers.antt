use Rattle.json_text.proofs.Adding.{adds_then}
use Rattle.job_gen.proofs.chains.put_weak.Goals as goal

pub returns : goal.returns
returns c =
    adds_then c.begin_object.ensures (adds_then c.put_text.ensures (adds_then c.key.ensures (adds_then c.put_instances.ensures
    (adds_then c.put_text-2.ensures c.end_object.ensures))))
