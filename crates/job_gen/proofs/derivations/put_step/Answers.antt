use Rattle.json_text.proofs.Adding.{adds_then}
use Rattle.job_gen.proofs.derivations.put_step.Goals as goal

pub returns : goal.returns
returns c =
    adds_then c.begin_object.ensures (adds_then c.put_texts.ensures (adds_then c.put_text.ensures (adds_then c.put_numbers.ensures
    (adds_then c.put_texts-2.ensures (adds_then c.put_text-2.ensures c.end_object.ensures)))))
