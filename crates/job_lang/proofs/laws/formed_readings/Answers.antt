-- The law is a lemma.
use Rattle.job_lang.proofs.FormedReadings.{formed_op}
use Rattle.job_lang.proofs.laws.formed_readings.Goals as goal

pub returns : goal.returns
returns c = formed_op
