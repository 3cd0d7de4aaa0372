use Rattle.std.proofs.Common.{◌≡◌, length, vec_len, refl, rules, arith}
use Rattle.sessions.proofs.Adding.{added_if}
use Rattle.sessions.proofs.parts.add.Goals as goal

pub returns-then-part-session : goal.returns-then-part-session
returns-then-part-session c =
    let count : length c.args.parts.now.items ≡ vec_len c.args.parts.now = search rules in
    added_if c.extend_from_slice.result c.args.session c.args.bytes.items c.deref.result.now c.args.parts.now.items c.loop-part.part-items
    (vec_len c.args.parts.now) c.loop-part.part-index c.part-item.result _ count c.loop-part.invariant.same (omega arith) c.if-part-session.true refl
    c.extend_from_slice.ensures.items c.deref.ensures.value c.loop-part.invariant.passed
