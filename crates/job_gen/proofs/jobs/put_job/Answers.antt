use Rattle.std.proofs.Common.{◌≡◌, ◌%◌, arith}
use Rattle.job_gen.proofs.JobTexts.{adds_job}
use Rattle.job_gen.proofs.jobs.put_job.Goals as goal

pub returns-in-0 : goal.returns-in-0
returns-in-0 c = adds_job c.args.i 0 c.in-0.is c.put_derivation_job.ensures

pub returns-in-1 : goal.returns-in-1
returns-in-1 c = adds_job c.args.i 1 c.in-1.is c.put_proof_job.ensures

pub returns-in-2 : goal.returns-in-2
returns-in-2 c = adds_job c.args.i 2 c.in-2.is c.put_proof_job-in-2.ensures

pub returns-in-3 : goal.returns-in-3
returns-in-3 c = adds_job c.args.i 3 c.in-3.is c.put_building_job.ensures

pub returns-in-4 : goal.returns-in-4
returns-in-4 c = adds_job c.args.i 4 c.in-4.is c.put_chain_job.ensures

pub returns-in-5 : goal.returns-in-5
returns-in-5 c = adds_job c.args.i 5 c.in-5.is c.put_building_job-in-5.ensures

pub returns-in-6 : goal.returns-in-6
returns-in-6 c = adds_job c.args.i 6 c.in-6.is c.put_proof_job-in-6.ensures

pub returns-in_default : goal.returns-in_default
returns-in_default c =
    let is : c.args.i % 8 ≡ 7 = omega arith in
    adds_job c.args.i 7 is c.put_proof_job-in_default.ensures
