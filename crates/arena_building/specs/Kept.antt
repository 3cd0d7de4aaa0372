-- What stays of a list, moved or copied.
use Rattle.arena_building.specs.declared.lists.Kept.{Kept}
use Rattle.arena_building.specs.declared.lists.Kept.TheVariants.{Moved, Copied}
use Rattle.arena_building.specs.declared.lists.Rest.{Rest}

abbrev pub kept_of : Kept → Rest
kept_of (Moved r) = r
kept_of (Copied r) = r.now
