-- Distances of numbers from a goal along links: how many links lead there at least, which is one more than the numbers in between; 0 where
-- it is not known that any lead there.
--     leads_to      links lead from one number to another by so many in between
--     reaches, spread_at      a link leads from a number to one at a distance; what a number's distance is after that is looked at
--     AreDistances      all distances up to r are known
--     AreMeasured      all distances are known that a shortest cycle through the goal has
use Rattle.std.specs.Prelude.{◌≡◌, ℕ, suc, ◌+◌, ◌<◌, ◌≤◌, Bool, true, false, ◌&&◌, List, length, nat_eq, slice_index, if◌then◌else◌}
use Rattle.std.specs.List.{list_any, range_with_len}
use Rattle.exp_check.specs.Links.{has_link}
use Rattle.expansion_laws.specs.Cycles.{leads}
use Rattle.exp_check.specs.declared.links.Link.{Link}

-- whether links between n numbers lead from y to z by k in between
abbrev pub leads_to : List Link → ℕ → ℕ → ℕ → ℕ → Bool
leads_to ls n k y z = leads (has_link ls) (range_with_len 0 n) k y z

-- whether the link leads from i to a number at the distance
abbrev pub is_step : List ℕ → ℕ → ℕ → Link → Bool
is_step ds distance i l = nat_eq l.before i && nat_eq (slice_index ds l.after) distance

abbrev pub reaches : List Link → List ℕ → ℕ → ℕ → Bool
reaches ls ds distance i = list_any (is_step ds distance i) ls

-- a distance that isn't known, and from which a link leads to one that is, is one more
abbrev pub spread_at : List Link → List ℕ → ℕ → ℕ → ℕ
spread_at ls ds distance i = if nat_eq (slice_index ds i) 0 && reaches ls ds distance i then distance + 1 else slice_index ds i

pub record AreDistances (ls : List Link) (n : ℕ) (z : ℕ) (r : ℕ) (ds : List ℕ) : Type 0 where
  pub known : (i m : ℕ) → i < n → slice_index ds i ≡ suc m → (m < r) × (leads_to ls n m i z ≡ true) × ((k : ℕ) → k < m → leads_to ls n k i z ≡ false)
  pub unknown : (i k : ℕ) → i < n → slice_index ds i ≡ 0 → k < r → leads_to ls n k i z ≡ false

pub record AreMeasured (ls : List Link) (n : ℕ) (z : ℕ) (ds : List ℕ) : Type 0 where
  pub count : length ds ≡ n
  pub rounds : ℕ
  pub few : rounds ≤ n
  pub distances : AreDistances ls n z rounds ds
  pub none : slice_index ds z ≡ 0 → (k : ℕ) → k < n → leads_to ls n k z z ≡ false
