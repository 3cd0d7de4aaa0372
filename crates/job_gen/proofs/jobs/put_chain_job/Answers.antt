use Rattle.json_text.proofs.Adding.{adds_then}
use Rattle.job_gen.proofs.jobs.put_chain_job.Goals as goal

pub returns : goal.returns
returns c =
    adds_then c.begin_object.ensures (adds_then c.key.ensures (adds_then c.put_name.ensures (adds_then c.put_numbers.ensures (adds_then c.key-2.ensures
    (adds_then c.put_nodes.ensures (adds_then c.put_text.ensures (adds_then c.put_numbers-2.ensures c.end_object.ensures)))))))
