-- By the lemmas on what isn't refused.
use Rattle.introduction_laws.proofs.Faultless.{instances, cut_free, prenex, budget, tautology, propositional}
use Rattle.introduction_laws.proofs.laws.instancings.Goals as goal

pub returns : goal.returns
returns c = record {
  instances = instances;
  cut_free = cut_free;
  prenex = prenex;
  budget = budget;
  tautology = λ t n items valid is. tautology t n items is valid;
  propositional = λ t n items valid is. propositional t n items is valid;
}
