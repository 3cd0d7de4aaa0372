-- The laws are lemmas.
use Rattle.reply_lines.proofs.Telling.{same_want, same_model, same_refutation, kept_apart}
use Rattle.reply_lines.proofs.TellingRounds.{same_ok, same_saturated, same_refuted, kept_unsaturated}
use Rattle.reply_lines.proofs.laws.certificates.Goals as goal

pub returns-clause-want : goal.returns-clause-want
returns-clause-want c = same_want

pub returns-clause-model : goal.returns-clause-model
returns-clause-model c = same_model

pub returns-clause-refutation : goal.returns-clause-refutation
returns-clause-refutation c = same_refutation

pub returns-clause-apart : goal.returns-clause-apart
returns-clause-apart c = kept_apart

pub returns-clause-ok : goal.returns-clause-ok
returns-clause-ok c = same_ok

pub returns-clause-saturated : goal.returns-clause-saturated
returns-clause-saturated c = same_saturated

pub returns-clause-refuted : goal.returns-clause-refuted
returns-clause-refuted c = same_refuted

pub returns-clause-unsaturated : goal.returns-clause-unsaturated
returns-clause-unsaturated c ks xs clauses steps = kept_unsaturated ks xs steps
