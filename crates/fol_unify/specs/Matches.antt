-- Whether a search has found a map.
use Rattle.std.specs.Prelude.{Bool, Option, Some, None, if◌then◌else◌}
use Rattle.substitution.specs.Maps.{Map}

-- the map, if it is found
abbrev pub map_if : Bool → Map → Option Map
map_if b m = if b then Some m else None
