-- What contracts see of a table's value, and what it keeps.
use Rattle.std.specs.Prelude.{◌≡◌, List, map, None}
use Rattle.std.specs.Map.{lookup, update_all}
use Rattle.std.specs.Ordering.{eq_by_cmp}
use Rattle.std.specs.BTreeMap.{is_at}
use Rattle.std.specs.declared.cmp.Ordering.{Ordering}
use Rattle.memo_table.specs.declared.rows.Pair.{Pair}
use Rattle.memo_table.specs.Pairs.{IsLegal}

-- the pairs, in the order in which they were noted, and what they are about
pub record Table (K V H : Type 0) : Type 0 where
  pub pairs : List (Pair K V)
  pub home : H

-- the pairs are legal, and a look-up finds the value of each key
pub record AreKept {K V : Type 0} (truth : K → V → Type 0) (cmp : K → K → Ordering) (entries : List (K × V)) (pairs : List (Pair K V)) : Type 0 where
  pub legal : IsLegal truth cmp pairs
  pub found : (key : K) → lookup (is_at (cmp key)) entries ≡ update_all (eq_by_cmp cmp) (λ _. None) (map (λ p. (p.key, p.val)) pairs) key
