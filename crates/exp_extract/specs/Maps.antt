-- What the fields of the maps keep.
use Rattle.std.specs.Prelude.{◌≡◌, ℕ, ◌<◌, nat_eq, List, length, IfSome}
use Rattle.std.specs.HashMap as hash
use Rattle.std.specs.FinMap as fin
use Rattle.substitution.specs.Image.{IsFormedMap}
use Rattle.substitution.specs.Maps.{Map}
use Rattle.exp_extract.specs.declared.maps.Extension.{Extension}
use Rattle.exp_extract.specs.declared.maps.Maps.TheInside.{Inside}
use Rattle.exp_extract.specs.MapList.{map_in}

abbrev pub maps_of : Inside → List Map
maps_of i = i.maps.items

-- the map of the number is made in this way
pub record IsMade (ms : List Map) (e : Extension) : Type 0 where
  pub parent : e.parent < length ms
  pub number : e.number < length ms
  pub map : map_in ms e.number ≡ fin.insert (map_in ms e.parent) e.eigenvariable e.variable

-- the maps have well-formed terms, and those that are known are made as it is said
pub record AreMaps (i : Inside) : Type 0 where
  pub formed : (n : ℕ) → n < length i.maps.items → IsFormedMap (fin.get (map_in i.maps.items n))
  pub made : (q : ℕ) → IfSome (hash.get nat_eq i.made q) (IsMade i.maps.items)
