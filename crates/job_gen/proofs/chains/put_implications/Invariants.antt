use Rattle.std.specs.List.{range_with_len, flat_map}
use Rattle.job_gen.specs.Chains.{implication_nodes}
use Rattle.json_text.specs.Tokens.{Adds}
use Rattle.job_gen.specs.Tokens.{all_tokens}
use Rattle.job_gen.proofs.chains.put_implications.Given as goal

abbrev pub invariant-loop-i : goal.invariant-loop-i
invariant-loop-i l = Adds l.initial.out l.out (all_tokens (flat_map implication_nodes (range_with_len 0 l.i)))
