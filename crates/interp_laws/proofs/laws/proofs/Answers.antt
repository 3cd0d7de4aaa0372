-- The laws are lemmas.
use Rattle.interp_laws.proofs.Interpolated.{itp_works}
use Rattle.interp_laws.proofs.laws.proofs.Goals as goal

pub returns-clause-ends : goal.returns-clause-ends
returns-clause-ends c t one two h = let i = (itp_works t one two h).holds in (i.first.end, i.second.end)

pub returns-clause-cut_free : goal.returns-clause-cut_free
returns-clause-cut_free c t one two h = let i = (itp_works t one two h).holds in (i.first.without_cuts, i.second.without_cuts)

pub returns-clause-valid : goal.returns-clause-valid
returns-clause-valid c t one two h formed = let i = (itp_works t one two h).holds in (i.first.valid formed, i.second.valid formed)
