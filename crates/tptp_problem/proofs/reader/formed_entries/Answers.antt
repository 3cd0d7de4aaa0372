use Rattle.tptp_problem.proofs.ProblemLaws.{all_read, all_formed}
use Rattle.tptp_problem.proofs.reader.formed_entries.Goals as goal

pub returns-clause-formed : goal.returns-clause-formed
returns-clause-formed c = all_formed c.args.text.now (λ v. v.items) c.read_entries.result c.read_entries.ensures

pub returns-clause-read : goal.returns-clause-read
returns-clause-read c = all_read c.args.text.now (λ v. v.items) c.read_entries.result c.read_entries.ensures
