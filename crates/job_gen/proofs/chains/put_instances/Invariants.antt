use Rattle.std.proofs.Common.{map}
use Rattle.std.specs.List.{range_with_len}
use Rattle.job_gen.specs.Chains.{instance_data}
use Rattle.json_text.specs.Tokens.{Adds}
use Rattle.job_gen.specs.Tokens.{all_tokens}
use Rattle.job_gen.proofs.chains.put_instances.Given as goal

abbrev pub invariant-loop-i : goal.invariant-loop-i
invariant-loop-i l = Adds l.initial.out l.out (all_tokens (map instance_data (range_with_len 0 l.i)))
