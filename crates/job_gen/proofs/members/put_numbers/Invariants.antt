use Rattle.std.proofs.Common.{map, take}
use Rattle.job_gen.specs.Values.{count_data}
use Rattle.json_text.specs.Tokens.{Adds}
use Rattle.job_gen.specs.Tokens.{all_tokens}
use Rattle.job_gen.proofs.members.put_numbers.Given as goal

abbrev pub invariant-loop-n : goal.invariant-loop-n
invariant-loop-n l = Adds l.initial.out l.out (all_tokens (map count_data (take l.n-index l.numbers)))
