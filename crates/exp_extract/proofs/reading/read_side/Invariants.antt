-- The trees so far are read.
use Rattle.std.proofs.Common.{◌≡◌, true, map, take}
use Rattle.std.specs.List.{list_all}
use Rattle.expansion_laws.specs.Formed.{is_formed_exp}
use Rattle.exp_extract.specs.Marked.{address_at}
use Rattle.exp_extract.specs.Reading.{tree_of}
use Rattle.exp_extract.proofs.reading.read_side.Given as goal

abbrev pub invariant-loop-place : goal.invariant-loop-place
invariant-loop-place l = record {
  trees : l.trees.items ≡ map (λ n. tree_of l.marks (address_at l.marks n)) (take l.place-index l.places);
  formed : list_all is_formed_exp l.trees.items ≡ true;
}
