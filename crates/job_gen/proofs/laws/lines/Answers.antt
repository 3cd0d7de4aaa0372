-- The laws are lemmas.
use Rattle.job_gen.proofs.LineLaws.{line_printable, length-generated_line, length-generated}
use Rattle.job_gen.proofs.ReadJobs.{line_read}
use Rattle.job_gen.proofs.laws.lines.Goals as goal

pub returns-clause-one : goal.returns-clause-one
returns-clause-one c i = line_printable i

pub returns-clause-short : goal.returns-clause-short
returns-clause-short c i = length-generated_line i

pub returns-clause-few : goal.returns-clause-few
returns-clause-few c n = length-generated n

pub returns-clause-read : goal.returns-clause-read
returns-clause-read c i = line_read i
