-- By the lemmas on what isn't refused.
use Rattle.interp_laws.proofs.Faultless.{interpolation, parts, union, bodies, budget}
use Rattle.interp_laws.proofs.laws.interpolations.Goals as goal

pub returns : goal.returns
returns c = record {
  interpolation = interpolation;
  parts = λ t one two n i valid first second e. parts t one two n i e valid first second;
  union = union;
  bodies = bodies;
  budget = budget;
}
