-- The answers of a window's tasks, put to its jobs.
use Rattle.std.proofs.Common.{◌≡◌, ℕ, ◌+◌, ◌<◌, ◌≤◌, List, [], ◌∷◌, ◌++◌, map, length, drop, sym, ap, ◌∙◌, arith, append_assoc, length-drop, drop-drop, get_or-drop, add-zero}
use Rattle.std.proofs.lemmas.List.{map-append}
use Rattle.std.specs.Prelude.{Option, Some, option_map, slice_get, slice_index_or}
use Rattle.std.proofs.lemmas.Option.{slice_get-get_or}
use Rattle.held_values.specs.declared.held.Held.{Held}
use Rattle.reply_lines.specs.declared.replies.Outcome.{Outcome}
use Rattle.job_windows.specs.Windows.{AreInOrder, answer_by, due_by}
use Rattle.job_windows.specs.declared.seats.Asks.{Asks}
use Rattle.job_windows.specs.declared.seats.Asks.TheVariants.{Refused, Run}
use Rattle.job_windows.specs.declared.seats.Seat.{Seat}
use Rattle.job_windows.specs.declared.seats.Due.{Due}

pub order_bound : (seats : List Seat) (k n : ℕ) → AreInOrder k seats n → k ≤ n
order_bound [] k n is = omega (arith, is)
order_bound (seat ∷ seats) k n is = by_asks (λ m. order_bound seats m n) seat.asks is
  where
    by_asks : ((m : ℕ) → AreInOrder m seats n → m ≤ n) → (asks : Asks) → (elim asks as (λ x. Type 0) [ Refused outcome ↦ AreInOrder k seats n | Run place ↦ (place ≡ k) × AreInOrder (k + 1) seats n ]) → k ≤ n
    by_asks bound (Refused outcome) order = bound k order
    by_asks bound (Run place) order = let rest = bound (k + 1) order.1 in omega arith

-- a task at the front has the place k
task_order : (seat : Seat) (seats : List Seat) (k n place : ℕ) → seat.asks ≡ Run place → AreInOrder k (seat ∷ seats) n → (place ≡ k) × AreInOrder (k + 1) seats n
task_order seat seats k n place is order = by_asks seat.asks is order
  where
    by_asks : (asks : Asks) → asks ≡ Run place → (elim asks as (λ x. Type 0) [ Refused outcome ↦ AreInOrder k seats n | Run p ↦ (p ≡ k) × AreInOrder (k + 1) seats n ])
        → (place ≡ k) × AreInOrder (k + 1) seats n
    by_asks (Refused outcome) same o = cc
    by_asks (Run p) same o = let at : p ≡ place = cc in (sym at ∙ o.0, o.1)

module _ (all : List (Outcome × Held)) (k : ℕ) (seat : Seat) (seats : List Seat) (place : ℕ) (is : seat.asks ≡ Run place) (order : AreInOrder k (seat ∷ seats) (length all)) where
  within : k < length all
  within = let rest = order_bound seats (k + 1) (length all) (task_order seat seats k (length all) place is order).1 in omega arith

  -- an answer is left for it
  pub some_left : (old : List (Outcome × Held)) (len : ℕ) → old ≡ drop k all → len ≡ length old → 0 < len
  some_left old len left sized = omega (arith, sized, ap length left, length-drop k all, within)

  -- the first that is left is its own
  pub due_taken : (old new : List (Outcome × Held)) → old ≡ drop k all → new ≡ drop 1 old → (answer : Outcome × Held) → answer ≡ slice_index_or old 0 answer
      → (due_by (slice_get all) seat ≡ Some (record { name = seat.name; outcome = answer.0; held = answer.1 }))
      × ((next : ℕ) × AreInOrder next seats (length all) × (new ≡ drop next all))
  due_taken old new left rest answer first =
      let order' = task_order seat seats k (length all) place is order in
      let found : slice_get all place ≡ Some answer =
      ap (slice_get all) order'.0 ∙ slice_get-get_or all k answer within
      ∙ ap Some (sym (first ∙ ap (λ (x : List (Outcome × Held)). slice_index_or x 0 answer) left ∙ get_or-drop k all 0 answer ∙ ap (λ (n : ℕ). slice_index_or all n answer) (add-zero k))) in (
        ap (λ (asks : Asks). option_map (λ (a : Outcome × Held). record { name = seat.name; outcome = a.0; held = a.1 }) (answer_by (slice_get all) asks)) is
            ∙ ap (option_map (λ (a : Outcome × Held). record { name = seat.name; outcome = a.0; held = a.1 })) found,
        (k + 1, order'.1, rest ∙ ap (drop 1) left ∙ drop-drop 1 k all),
      )

-- The answers of the first jobs are put to them, and those of the tasks of the others are left.
pub record IsMerging (seats : List Seat) (all : List (Outcome × Held)) (rest : List Seat) (left : List (Outcome × Held)) (made : List Due) : Type 0 where
  pub next : ℕ
  pub order : AreInOrder next rest (length all)
  pub left_are : left ≡ drop next all
  pub made_are : map Some made ++ map (due_by (slice_get all)) rest ≡ map (due_by (slice_get all)) seats

-- one more is put to its job
pub merging_more : (seats : List Seat) (all : List (Outcome × Held)) (seat : Seat) (rest : List Seat) (left left' : List (Outcome × Held)) (made : List Due) (due : Due)
    → IsMerging seats all (seat ∷ rest) left made
    → ((all : List (Outcome × Held)) (k : ℕ) (seats : List Seat) → AreInOrder k (seat ∷ seats) (length all) → left ≡ drop k all
    → (due_by (slice_get all) seat ≡ Some due) × ((next : ℕ) × AreInOrder next seats (length all) × (left' ≡ drop next all)))
    → IsMerging seats all rest left' (made ++ due ∷ [])
merging_more seats all seat rest left left' made due so_far put =
    let one = put all so_far.next rest so_far.order so_far.left_are in record {
      next = one.1.0;
      order = one.1.1;
      left_are = one.1.2;
      made_are = ap (λ (x : List (Option Due)). x ++ map (due_by (slice_get all)) rest) (map-append Some made (due ∷ []))
          ∙ append_assoc (map Some made) (Some due ∷ []) (map (due_by (slice_get all)) rest)
          ∙ ap (λ (x : Option Due). map Some made ++ x ∷ map (due_by (slice_get all)) rest) (sym one.0) ∙ so_far.made_are;
    }
