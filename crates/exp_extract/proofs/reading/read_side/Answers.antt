-- The trees are arranged.
use Rattle.std.proofs.Common.{◌≡◌, map, ap, ◌∙◌}
use Rattle.std.proofs.lemmas.List.{take_all}
use Rattle.exp_extract.specs.Marked.{address_at}
use Rattle.exp_extract.specs.Reading.{tree_of}
use Rattle.exp_extract.proofs.ReadTrees.{arranged}
use Rattle.exp_extract.proofs.reading.read_side.Goals as goal

pub from_vec-requires : goal.from_vec-requires
from_vec-requires c =
    let m = c.args.marks.now in
    let all : c.loop-place.trees.items ≡ map (λ n. tree_of m (address_at m n)) c.args.places.now = c.loop-place.invariant.trees ∙ ap (map (λ n. tree_of m (address_at m n))) (take_all c.loop-place.place-index c.args.places.now c.loop-place-test.false) in
    arranged m c.args.places.now c.loop-place.trees.items all c.loop-place.invariant.formed c.requires.rises
