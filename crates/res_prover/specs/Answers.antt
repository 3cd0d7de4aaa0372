-- What a search for a refutation of the clauses cs answers after at most n rounds.
--     IsRefuted      steps that refute the clauses, whose empty clause the rounds reach
--     IsFound      these, or clauses that the rounds end with
use Rattle.std.specs.Prelude.{ℕ, List}
use Rattle.lk_rules.specs.declared.sequent.Sequent.{Sequent}
use Rattle.lk_rules.specs.Sequents.{empty}
use Rattle.refutations.specs.declared.step.ResStep.{ResStep}
use Rattle.clause_laws.specs.Rounds.{Level}
use Rattle.clause_laws.specs.Saturation.{IsSaturation}
use Rattle.res_prover.specs.declared.answer.Found.{Found}
use Rattle.res_prover.specs.declared.answer.Found.TheVariants.{Refutation, Saturated}
use Rattle.res_prover.specs.Clauses.{clauses_of}
use Rattle.res_prover.specs.Deriving.{IsRefutationOf}

pub record IsRefuted (cs : List Sequent) (n : ℕ) (steps : List ResStep) : Type 0 where
  pub reached : Level cs n empty
  pub refutation : IsRefutationOf cs steps

abbrev pub IsFound : List Sequent → ℕ → Found → Type 0
IsFound cs n (Refutation steps) = IsRefuted cs n steps.items
IsFound cs n (Saturated ks) = IsSaturation cs n (clauses_of ks.items)
