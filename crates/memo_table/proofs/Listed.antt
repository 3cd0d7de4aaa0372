-- Keys in the lists that a pass sees, and what a turn adds to them.
use Rattle.std.proofs.Common.{◌≡◌, List, Result, OnOk, subst}
use Rattle.std.proofs.lemmas.Result.{on_ok_weaker}
use Rattle.std.specs.declared.cmp.Ordering.{Ordering}
use Rattle.std.specs.declared.cmp.Ordering.TheVariants.{Equal}
use mathlib.Core.List.{IsPrefix}
use Rattle.turn_log.proofs.Prefixes.{prefix_any}
use Rattle.memo_table.specs.declared.rows.Pair.{Pair}
use Rattle.memo_table.specs.Pairs.{IsIn}
use Rattle.memo_table.specs.Events.{Adds, AddsAtMost}

-- a key that stands in a beginning stands in the whole
pub in_prefix : {K V : Type 0} (cmp : K → K → Ordering) (xs ys : List (Pair K V)) (key : K) → IsPrefix xs ys → IsIn cmp xs key → IsIn cmp ys key
in_prefix {K} {V} cmp xs ys key p at = prefix_any (λ (r : Pair K V). cmp r.key key ≡ Equal) xs ys p at

-- what is added at a turn is added to what the pass sees when it takes it
pub adds_at_turn : {K V T E : Type 0} (cmp : K → K → Ordering) (seen turn pairs new after : List (Pair K V)) (key : K) (val : V) (noted : Result T E)
    → IsPrefix seen turn → pairs ≡ turn → new ≡ after → OnOk noted (Adds cmp pairs key val new) → OnOk noted (AddsAtMost cmp seen key val after)
adds_at_turn cmp seen turn pairs new after key val noted grown before then adds =
    on_ok_weaker noted (λ a. (turn, grown, subst (λ ps. Adds cmp ps key val after) before (subst (Adds cmp pairs key val) then a))) adds
