use Rattle.std.proofs.Common.{◌≡◌, ℕ, map, subst, arith}
use Rattle.std.specs.List.{range_with_len}
use Rattle.job_gen.specs.Chains.{instance_data}
use Rattle.json_text.specs.Tokens.{Adds}
use Rattle.job_gen.specs.Tokens.{all_tokens}
use Rattle.job_gen.proofs.Adding.{adds_number, adds_array}
use Rattle.job_gen.proofs.chains.put_instances.Goals as goal

pub loop-i-preserved : goal.loop-i-preserved
loop-i-preserved c = adds_number instance_data 0 c.loop-i.i c.loop-i.i (omega arith) c.loop-i.invariant c.put_instance.ensures

pub returns : goal.returns
returns c =
    let l = c.loop-i in
    let all : l.i ≡ c.args.k = omega arith in
    let elements = subst (λ (n : ℕ). Adds c.begin_array.new.self l.out (all_tokens (map instance_data (range_with_len 0 n)))) all l.invariant in
    adds_array (map instance_data (range_with_len 0 c.args.k)) c.begin_array.ensures elements c.end_array.ensures
