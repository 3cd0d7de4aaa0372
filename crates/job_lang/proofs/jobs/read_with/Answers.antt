use Rattle.line_values.specs.View.{view}
use Rattle.job_lang.proofs.JobReadings.{no_value, no_name, no_op, a_job}
use Rattle.job_lang.proofs.jobs.read_with.Goals as goal

pub returns-in-Err : goal.returns-in-Err
returns-in-Err c = no_value c.args.line.now c.in-Err.error c.error_of.result c.error_of.ensures c.in-Err.ensures

pub returns-in-Err-name_of : goal.returns-in-Err-name_of
returns-in-Err-name_of c =
    no_name c.args.line.now (view c.in-Ok.value) c.in-Err-name_of.error c.error_of-in-Err-name_of.result c.in-Ok.ensures c.error_of-in-Err-name_of.ensures c.in-Err-name_of.ensures

pub returns-in-Ok-op_of : goal.returns-in-Ok-op_of
returns-in-Ok-op_of c =
    a_job c.args.line.now (view c.in-Ok.value) (record { name = c.in-Ok-name_of.name; op = c.in-Ok-op_of.op }) c.in-Ok.ensures c.in-Ok-name_of.ensures c.in-Ok-op_of.ensures

pub returns : goal.returns
returns c =
    no_op c.args.line.now (view c.in-Ok.value) c.in-Ok-name_of.name c.in-Err-op_of.error c.error_of-in-Err-op_of.result c.in-Ok.ensures c.in-Ok-name_of.ensures c.error_of-in-Err-op_of.ensures c.in-Err-op_of.ensures
