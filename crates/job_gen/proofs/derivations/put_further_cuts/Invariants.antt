use Rattle.std.proofs.Common.{◌+◌, map, codes}
use Rattle.std.specs.List.{range_with_len}
use Rattle.job_gen.specs.Derivations.{cut_data}
use Rattle.json_text.specs.Tokens.{Adds}
use Rattle.job_gen.specs.Tokens.{all_tokens}
use Rattle.job_gen.proofs.derivations.put_further_cuts.Given as goal

abbrev pub invariant-loop-j : goal.invariant-loop-j
invariant-loop-j l = Adds l.initial.out l.out (all_tokens (map (λ j. cut_data (codes "p") (4 + j) 0) (range_with_len 0 l.j)))
