use Rattle.std.proofs.Common.{map}
use Rattle.job_gen.specs.Values.{count_data}
use Rattle.json_text.proofs.Adding.{adds_then}
use Rattle.job_gen.proofs.Adding.{adds_array, adds_elements}
use Rattle.job_gen.proofs.members.put_numbers.Goals as goal

pub returns : goal.returns
returns c =
    let l = c.loop-n in
    let numbers = c.args.numbers.now in
    adds_then c.key.ensures
    (adds_array (map count_data numbers) c.begin_array.ensures (adds_elements count_data numbers l.n-index c.loop-n-test.false l.invariant) c.end_array.ensures)
