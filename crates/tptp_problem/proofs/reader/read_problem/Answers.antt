use Rattle.tptp_problem.proofs.ProblemLaws.{is_text, only_text, is_fault, first_fault, one_text, one_fault}
use Rattle.tptp_problem.proofs.reader.read_problem.Goals as goal

pub returns-clause-text : goal.returns-clause-text
returns-clause-text c = is_text c.args.text.now c.problem_of.result c.problem_of.ensures.value

pub returns-clause-only : goal.returns-clause-only
returns-clause-only c = only_text c.args.text.now c.problem_of.result c.problem_of.ensures.value

pub returns-clause-fault : goal.returns-clause-fault
returns-clause-fault c = is_fault c.args.text.now c.problem_of.result c.problem_of.ensures.value

pub returns-clause-first : goal.returns-clause-first
returns-clause-first c = first_fault c.args.text.now c.problem_of.result c.problem_of.ensures.value

pub returns-clause-one : goal.returns-clause-one
returns-clause-one c = one_text c.args.text.now

pub returns-clause-one_fault : goal.returns-clause-one_fault
returns-clause-one_fault c = one_fault c.args.text.now
