-- The number of a used address is among those that are marked.
use Rattle.std.proofs.Common.{◌≡◌, ◌<◌, length, sym, ◌∙◌, subst}
use Rattle.finite.specs.Finite as set
use Rattle.exp_extract.specs.Marked.{Marked, address_in, address_at}
use Rattle.exp_extract.proofs.MarkedSets.{has_at, listed_at_numbers}
use Rattle.exp_extract.proofs.marks.Marks.is_used.Goals as goal

pub returns : goal.returns
returns c =
    let bs = c.self.inside.places in
    let n = c.args.place in
    let l : n < length bs = subst (λ (m : Marked). n < length m.addresses) (sym c.self.view_is) c.requires in
    subst (λ (m : Marked). c.contains.result ≡ set.has m.state.opened (address_at m n)) c.self.view_is
    (c.contains.ensures ∙ (sym (listed_at_numbers bs c.known.ensures n l c.self.inside.used.keys c.self.invariant.used) ∙ sym (has_at bs c.self.inside.used.keys (address_in bs n))))
