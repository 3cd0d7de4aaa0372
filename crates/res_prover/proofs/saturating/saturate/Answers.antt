-- The rounds end as the search says.
use Rattle.std.proofs.Common.{◌≡◌, ap, subst, ◌∙◌}
use Rattle.std.specs.Prelude.{Err}
use Rattle.lk_rules.specs.Sequents.{empty}
use Rattle.clause_laws.specs.Rounds.{IsClosed, Level}
use Rattle.res_prover.specs.declared.rounds.ProveFault.TheVariants.{Rounds}
use Rattle.res_prover.proofs.saturating.saturate.Goals as goal

pub returns-clause-rounds : goal.returns-clause-rounds
returns-clause-rounds c e =
    let same : c.in-Err.fault ≡ Rounds = cc in
    let n = c.args.rounds in
    subst (λ cs. (Level cs n empty → ⊥) × (IsClosed (Level cs n) → ⊥)) (c.as_slice.ensures.value ∙ c.in_ok-sequents.ensures) (c.in-Err.ensures.rounds (ap Err same))
