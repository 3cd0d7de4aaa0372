-- The laws are lemmas.
use Rattle.std.proofs.Common.{◌^◌, refl}
use Rattle.lk_rules.specs.declared.sequent.Side.TheVariants.{Left, Right}
use Rattle.interp_laws.proofs.Interpolated.{itp_works}
use Rattle.interp_laws.proofs.laws.interpolants.Goals as goal

pub returns-clause-predicates : goal.returns-clause-predicates
returns-clause-predicates c t one two h plain q e = let i = (itp_works t one two h).holds in (i.preds plain q Right e, i.preds plain q Left e)

pub returns-clause-variables : goal.returns-clause-variables
returns-clause-variables c t one two h v e = let i = itp_works t one two h in (i.vars v Right e, i.vars v Left e)

pub returns-clause-formed : goal.returns-clause-formed
returns-clause-formed c t one two h few = (itp_works t one two h).holds.formed (2 ^ 32) refl few
