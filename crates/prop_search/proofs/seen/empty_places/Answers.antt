use Rattle.std.proofs.Common.{arith}
use Rattle.std.proofs.lemmas.List.Elements.{All-push}
use Rattle.prop_search.specs.Seen.{IsVisited}
use Rattle.prop_search.proofs.seen.empty_places.Goals as goal

pub loop-place-preserved : goal.loop-place-preserved
loop-place-preserved c = λ fs. rw c.in_ok-push.ensures.items (All-push (IsVisited fs) c.loop-place.places.items _ (c.loop-place.invariant fs) (λ some. absurd (omega arith)))
