-- The order of the keys of images.
use Rattle.std.specs.Cmp.{IsTotalOrder}
use Rattle.std.specs.declared.cmp.Ordering.{Ordering}
use Rattle.std.specs.Ordering.{nat_cmp, ordering_then}
use Rattle.std.proofs.lemmas.Cmp.{nat_cmp_total, on_total, then_total}
use Rattle.substitution.specs.Maps.{map_cmp, map_total}
use Rattle.proof_subst.specs.declared.known.ImageKey.{ImageKey}

-- by the number of the proof first, and then by the map
abbrev pub image_key_cmp : ImageKey → ImageKey → Ordering
image_key_cmp a b = ordering_then (nat_cmp a.proof b.proof) (map_cmp a.map b.map)

pub image_key_total : IsTotalOrder image_key_cmp
image_key_total = then_total (on_total (λ (k : ImageKey). k.proof) nat_cmp_total) (on_total (λ (k : ImageKey). k.map) map_total)
