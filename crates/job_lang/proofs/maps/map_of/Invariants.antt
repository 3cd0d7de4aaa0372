use Rattle.std.proofs.Common.{◌≡◌}
use Rattle.std.specs.FinMap as fin
use Rattle.substitution.specs.Image.{IsFormedMap}
use Rattle.line_values.specs.View.{members_view, ordered_view}
use Rattle.job_lang.specs.Maps.{map_of}
use Rattle.job_lang.proofs.maps.map_of.Given as goal

-- reading the members that are left makes the whole map
abbrev pub invariant-loop-name : goal.invariant-loop-name
invariant-loop-name l =
    (map_of l.place (members_view l.members.items) fin.empty ≡ map_of l.place (ordered_view l.name-iterator) l.map) × IsFormedMap (fin.get l.map)
