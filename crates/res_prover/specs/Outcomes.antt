-- What rounds come to.
use Rattle.std.specs.Prelude.{ℕ, List}
use Rattle.lk_rules.specs.declared.sequent.Sequent.{Sequent}
use Rattle.lk_rules.specs.Sequents.{empty}
use Rattle.clause_laws.specs.Rounds.{Level}
use Rattle.clause_laws.specs.Saturation.{IsSaturation}
use Rattle.res_prover.specs.declared.rounds.Outcome.{Outcome}
use Rattle.res_prover.specs.declared.rounds.Outcome.TheVariants as outcome

abbrev pub IsOutcome : List Sequent → ℕ → Outcome → Type 0
IsOutcome cs n outcome.Empty = Level cs n empty
IsOutcome cs n (outcome.Saturated ks) = IsSaturation cs n ks.items
