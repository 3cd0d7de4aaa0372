use Rattle.std.proofs.Common.{◌≡◌, ◌-◌, ◌∙◌, ap, min, take, drop, length, rules, arith, sym, vec_len}
use Rattle.std.proofs.lemmas.Grind.{common_steps}
use Rattle.edge_io.proofs.Bytes.{read_at}
use Rattle.edge_io.proofs.memory.MemSourceSource.read.Goals as goal

pub returns-clause-bytes : goal.returns-clause-bytes
returns-clause-bytes c =
    let count : length c.self.inside.bytes.items ≡ vec_len c.self.inside.bytes = search rules in
    let is : c.min-count.result ≡ min c.self.inside.piece (min (length c.args.buf.now) (length c.self.inside.bytes.items - c.self.inside.at)) = first_of (omega arith, search rules, grind (arith, common_steps)) in
    let copy : c.copy_from_slice.new.self ≡ take c.min-count.result (drop c.self.inside.at c.self.inside.bytes.items) = first_of (grind (arith, common_steps), search rules) in
    let r = read_at c.self.inside.bytes.items c.copy_from_slice.new.self c.args.buf.now c.self.inside.at c.self.inside.piece c.min-count.result
    (omega arith) c.self.invariant.1 is copy in
    (ap (λ s. s.left) (sym c.self.view_is) ∙ r.0, r.1)
