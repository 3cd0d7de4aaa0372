use Rattle.std.proofs.Common.{◌≡◌, map, take}
use Rattle.std.specs.List.{All}
use Rattle.herbrand_laws.specs.Patterns.{put}
use Rattle.cut_intro.specs.Instances.{meant, IsFormedInstance, instances_of_each}
use Rattle.cut_intro.proofs.instances.instances_at.Given as goal

abbrev pub invariant-loop-place : goal.invariant-loop-place
invariant-loop-place l = record {
  so_far : map meant l.list.items ≡ instances_of_each (take l.place l.items) (map (map (λ p. put p l.term)) (take l.place l.patterns));
  formed : All IsFormedInstance l.list.items;
}
