use Rattle.job_gen.specs.Derivations.{first_steps, further_cuts, derivation_steps}
use Rattle.job_gen.proofs.Adding.{adds_more, adds_array}
use Rattle.job_gen.proofs.derivations.put_steps.Goals as goal

pub returns : goal.returns
returns c =
    let cuts = c.args.cuts in
    adds_array (derivation_steps cuts) c.begin_array.ensures (adds_more first_steps (further_cuts cuts) c.put_first_steps.ensures c.put_further_cuts.ensures) c.end_array.ensures
