-- The laws of instances, for the sequent that is shown.
use Rattle.std.proofs.Common.{ap}
use Rattle.herbrand_laws.specs.Herbrand.{herbrand_sequent}
use Rattle.herbrand_laws.specs.Counted.{counted}
use Rattle.operation_laws.specs.Answers.{capped}
use Rattle.operation_laws.proofs.laws.herbrand_sequents.Goals as goal

pub returns : goal.returns
returns c t n items valid is =
    let laws = c.instancings.ensures in
    let same = laws.instances t n items is in
    record {
      sequent = ap herbrand_sequent same;
      count = ap (λ i. capped (counted i)) same;
      propositional = laws.propositional t n items valid is;
      tautology = laws.tautology t n items valid is;
    }
