-- The list without the place, or with it.
use Rattle.std.proofs.Common.{◌≡◌, ℕ, ◌<◌, ◌≤◌, ◌∷◌, length, take, drop, subst}
use Rattle.std.specs.List.{remove}
use Rattle.std.specs.Ordering.{nat_cmp}
use Rattle.std.proofs.lemmas.Cmp.{nat_cmp_total}
use Rattle.std.proofs.lemmas.List.Elements.{All-take, All-drop}
use Rattle.finite.proofs.Places.{gap_in_range, added_at_place}
use Rattle.finite.proofs.Removed.{tie_in_range, removed_at_place}
use Rattle.arena.proofs.SetLaws.{All-append, All-cons}
use Rattle.arena_graph.specs.Changes.{differ, is_odd}
use Rattle.arena_graph.proofs.Changes.{is_odd-remove, is_odd-insert, found_is}
use Rattle.arena_graph.proofs.last_side.change_place.Goals as goal

pub remove-requires : goal.remove-requires
remove-requires c = rw (← c.deref.ensures.len) (tie_in_range nat_cmp c.args.place c.deref.result.now c.in-Ok.at c.in-Ok.ensures)

pub insert-requires : goal.insert-requires
insert-requires c = rw (← c.deref.ensures.len) (gap_in_range nat_cmp c.args.place c.deref.result.now c.in-Err.at c.in-Err.ensures)

pub returns-in-Ok-clause-rises : goal.returns-in-Ok-clause-rises
returns-in-Ok-clause-rises c =
    rw c.remove.ensures.items
    (removed_at_place nat_cmp nat_cmp_total c.args.place c.args.places.now.items c.requires _ (rw c.deref.ensures.value at c.in-Ok.ensures)).rises

pub returns-in-Ok-clause-changed : goal.returns-in-Ok-clause-changed
returns-in-Ok-clause-changed c = λ p.
    let xs = c.args.places.now.items in
    let within : c.in-Ok.at < length xs = rw c.deref.ensures.value at (tie_in_range nat_cmp c.args.place c.deref.result.now c.in-Ok.at c.in-Ok.ensures) in
    rw c.remove.ensures.items
    (subst (λ (k : ℕ). is_odd p (remove xs c.in-Ok.at) ≡ differ (p k) (is_odd p xs)) (found_is c.args.place xs c.in-Ok.at 0 (rw c.deref.ensures.value at c.in-Ok.ensures)) (is_odd-remove p xs c.in-Ok.at 0 within))

pub returns-in_ok-insert-in-Err-clause-rises : goal.returns-in_ok-insert-in-Err-clause-rises
returns-in_ok-insert-in-Err-clause-rises c =
    rw c.in_ok-insert-in-Err.ensures.items
    (added_at_place nat_cmp nat_cmp_total c.args.place c.args.places.now.items c.requires _ (rw c.deref.ensures.value at c.in-Err.ensures)).rises

pub returns-in_ok-insert-in-Err-clause-within : goal.returns-in_ok-insert-in-Err-clause-within
returns-in_ok-insert-in-Err-clause-within c = λ n below all.
    let xs = c.args.places.now.items in
    let at = c.in-Err.at in
    rw c.in_ok-insert-in-Err.ensures.items
    (All-append (λ k. k < n) (take at xs) (c.args.place ∷ drop at xs) (All-take (λ k. k < n) at xs all) (All-cons (λ k. k < n) c.args.place (drop at xs) below (All-drop (λ k. k < n) at xs all)))

pub returns-in_ok-insert-in-Err-clause-changed : goal.returns-in_ok-insert-in-Err-clause-changed
returns-in_ok-insert-in-Err-clause-changed c = λ p.
    let xs = c.args.places.now.items in
    let within : c.in-Err.at ≤ length xs = rw c.deref.ensures.value at (gap_in_range nat_cmp c.args.place c.deref.result.now c.in-Err.at c.in-Err.ensures) in
    rw c.in_ok-insert-in-Err.ensures.items (is_odd-insert p xs c.in-Err.at c.args.place within)
