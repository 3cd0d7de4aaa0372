use Rattle.std.proofs.Common.{map, take}
use Rattle.serde_json.specs.Data.{string}
use Rattle.json_text.specs.Tokens.{Adds}
use Rattle.job_gen.specs.Tokens.{all_tokens}
use Rattle.job_gen.proofs.members.put_texts.Given as goal

abbrev pub invariant-loop-text : goal.invariant-loop-text
invariant-loop-text l = Adds l.initial.out l.out (all_tokens (map (λ text. string text.now) (take l.text-index l.texts)))
