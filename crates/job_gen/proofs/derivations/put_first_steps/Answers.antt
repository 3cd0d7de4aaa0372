use Rattle.json_text.proofs.Adding.{adds_then}
use Rattle.job_gen.proofs.derivations.put_first_steps.Goals as goal

pub returns : goal.returns
returns c =
    adds_then c.put_axiom.ensures (adds_then c.put_axiom-2.ensures (adds_then c.put_step.ensures (adds_then c.put_step-2.ensures c.put_cut.ensures)))
