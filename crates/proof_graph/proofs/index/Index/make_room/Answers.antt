-- Room for one more entry changes nothing.
use Rattle.std.proofs.Common.{refl}
use Rattle.proof_graph.proofs.Growth.{indexed_same}
use Rattle.proof_graph.proofs.index.Index.make_room.Goals as goal

pub invariant_of-self : goal.invariant_of-self
invariant_of-self c = indexed_same c.self.inside _ c.self.invariant refl c.reserve.ensures.items (λ n. refl, λ n. refl) refl

pub invariant_of-self-in_err-reserve-2 : goal.invariant_of-self-in_err-reserve-2
invariant_of-self-in_err-reserve-2 c = indexed_same c.self.inside _ c.self.invariant refl c.reserve.ensures.items c.reserve-2.ensures refl

pub invariant_of-self-2 : goal.invariant_of-self-2
invariant_of-self-2 c = indexed_same c.self.inside _ c.self.invariant refl c.reserve.ensures.items c.reserve-2.ensures refl
