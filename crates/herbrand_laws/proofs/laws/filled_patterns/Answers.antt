-- The laws are lemmas.
use Rattle.herbrand_laws.proofs.Rows.{count-put}
use Rattle.herbrand_laws.proofs.RowForms.{put_formed}
use Rattle.herbrand_laws.proofs.laws.filled_patterns.Goals as goal

pub returns-clause-counted : goal.returns-clause-counted
returns-clause-counted c = count-put

pub returns-clause-formed : goal.returns-clause-formed
returns-clause-formed c = put_formed
