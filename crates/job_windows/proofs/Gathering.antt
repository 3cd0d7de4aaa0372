-- What a window has after one more line.
use Rattle.std.proofs.Common.{◌≡◌, ◌⊎◌, ℕ, ◌+◌, List, [], ◌∷◌, ◌++◌, length, map, refl, sym, ap, ◌∙◌, subst, inl, inr, arith, length-append}
use Rattle.std.proofs.lemmas.List.{map-append, length-map, get_or_append_left}
use Rattle.std.specs.Prelude.{Option, Some, option_map, slice_get, slice_index_or}
use Rattle.std.proofs.Math.Nat.{eq-or-lt_of_le}
use Rattle.std.proofs.Math.Seq.{get_or-append_seam}
use Rattle.job_lang.specs.declared.jobs.Op.{Op}
use Rattle.job_workers.specs.declared.tasks.Task.{Task}
use Rattle.job_workers.specs.Needs.{Fits, AreWindow}
use Rattle.operation_laws.specs.Values.{Value}
use Rattle.held_values.specs.declared.held.Held.{Held}
use Rattle.held_values.specs.Means.{sense}
use Rattle.reply_lines.specs.declared.replies.Outcome.{Outcome}
use Rattle.session_laws.specs.Answers.{Past, Came, job_of, name_of, run_line, held_of, value_of}
use Rattle.job_windows.specs.Names.{Knows}
use Rattle.job_windows.specs.Running.{IsConclusion, IsUnnamed}
use Rattle.job_windows.specs.Windows.{AreInOrder, due_by, AreAnswered, IsPromised, Adds, IsAsked}
use Rattle.job_windows.specs.declared.names.Names.{Names}
use Rattle.job_windows.specs.declared.seats.Asks.{Asks}
use Rattle.job_windows.specs.declared.seats.Asks.TheVariants.{Refused, Run}
use Rattle.job_windows.specs.declared.seats.Seat.{Seat}
use Rattle.job_windows.specs.declared.seats.Due.{Due}
use Rattle.job_windows.proofs.Lists.{stays_there}
use Rattle.job_windows.proofs.OneMoreDue.{IsNext, one_more_due}

-- the tasks before one more are a window where all of them are
pub window_more : {J H : Type 0} (arity : J → ℕ) (JobFits : J → Type 0) (HeldFits : H → Type 0) (tasks : List (Task J H)) (task : Task J H)
    → AreWindow arity JobFits HeldFits tasks → Fits arity JobFits HeldFits (length tasks) task → AreWindow arity JobFits HeldFits (tasks ++ task ∷ [])
window_more arity JobFits HeldFits tasks task are fits place d within =
    elim (eq-or-lt_of_le {n = place} {m = length tasks} (omega (arith, within, length-append tasks (task ∷ [])))) [
      | inl at ↦
          subst (λ (k : ℕ). Fits arity JobFits HeldFits k (slice_index_or (tasks ++ task ∷ []) k d)) (sym at)
          (subst (Fits arity JobFits HeldFits (length tasks)) (sym (get_or-append_seam tasks task [] d)) fits)
      | inr before ↦ subst (Fits arity JobFits HeldFits place) (sym (get_or_append_left tasks (task ∷ []) d place before)) (are place d before)
    ]

-- the tasks that were there are answered where all are
pub answered_before : (done : ℕ → Option (Outcome × Held)) (old new : List (Task Op Held)) (asks : Asks) → Adds old new asks → AreAnswered done new → AreAnswered done old
answered_before done old new (Refused outcome) same all = subst (AreAnswered done) same all
answered_before done old new (Run place) adds all = λ at task there.
    all at task (subst (λ (ts : List (Task Op Held)). slice_get ts at ≡ Some task) (sym adds.1.1) (stays_there old (adds.1.0 ∷ []) at task there))

-- the tasks of one more job come after those of the others
order_more : (seats : List Seat) (seat : Seat) (k n n' : ℕ) → AreInOrder k seats n → AreInOrder n (seat ∷ []) n' → AreInOrder k (seats ++ seat ∷ []) n'
order_more [] seat k n n' at next = subst (λ (m : ℕ). AreInOrder m (seat ∷ []) n') (sym at) next
order_more (s ∷ seats) seat k n n' at next = by_asks (λ m order. order_more seats seat m n n' order next) s.asks at
  where
    by_asks : ((m : ℕ) → AreInOrder m seats n → AreInOrder m (seats ++ seat ∷ []) n') → (asks : Asks) → (elim asks as (λ x. Type 0) [ Refused outcome ↦ AreInOrder k seats n | Run place ↦ (place ≡ k) × AreInOrder (k + 1) seats n ])
        → (elim asks as (λ x. Type 0) [ Refused outcome ↦ AreInOrder k (seats ++ seat ∷ []) n' | Run place ↦ (place ≡ k) × AreInOrder (k + 1) (seats ++ seat ∷ []) n' ])
    by_asks more (Refused outcome) is = more k is
    by_asks more (Run place) is = (is.0, more (k + 1) is.1)

order_last : (old new : List (Task Op Held)) (seat : Seat) → Adds old new seat.asks → AreInOrder (length old) (seat ∷ []) (length new)
order_last old new seat adds = by_asks seat.asks adds
  where
    by_asks : (asks : Asks) → Adds old new asks
        → (elim asks as (λ x. Type 0) [ Refused outcome ↦ length old ≡ length new | Run place ↦ (place ≡ length old) × (length old + 1 ≡ length new) ])
    by_asks (Refused outcome) same = ap length (sym same)
    by_asks (Run place) is = (is.0, omega (arith, ap length is.1.1, length-append old (is.1.0 ∷ [])))

pub ordered_more : (seats : List Seat) (seat : Seat) (old new : List (Task Op Held)) → AreInOrder 0 seats (length old) → Adds old new seat.asks
    → AreInOrder 0 (seats ++ seat ∷ []) (length new)
ordered_more seats seat old new ordered adds = order_more seats seat 0 (length old) (length new) ordered (order_last old new seat adds)

-- the answer of one more job
module _ (old new : Names) (hs : List Held) (seats : List Seat) (seat : Seat) (line : List ℕ) where
  abbrev pub Learns : Type 0
  Learns = (held : List (Option Value)) (last : List Past) (job : Past) → Knows old held last → name_of job.line ≡ name_of line → length held ≡ length hs + length seats
      → Knows new (held ++ Some (value_of job.came) ∷ []) (job ∷ last)

  next_due : (dues : List Due) (answer : Outcome × Held) → seat.name ≡ name_of line → Learns → length (map sense hs ++ map (λ (d : Due). sense d.held) dues) ≡ length hs + length seats
      → ((earlier : List Past) → Knows old (map sense hs ++ map (λ (d : Due). sense d.held) dues) earlier → IsUnnamed answer.0 answer.1 ⊎ ((came : Came) × IsConclusion answer.0 answer.1 (run_line (held_of earlier) line) came))
      → (last : List Past) → Knows old (map sense hs ++ map (λ (d : Due). sense d.held) dues) last
      → IsNext old new line (record { name = seat.name; outcome = answer.0; held = answer.1 }) (map sense hs ++ map (λ (d : Due). sense d.held) dues) last
  next_due dues answer named learns sized asked last known = (
    named,
    elim (asked last known) [
      | inl unnamed ↦ inl unnamed
      | inr concluded ↦ inr (
        concluded.0,
        concluded.1,
        subst (λ (x : Option Value). Knows new ((map sense hs ++ map (λ (d : Due). sense d.held) dues) ++ x ∷ []) (job_of line concluded.0 ∷ last)) (sym concluded.1.means)
            (learns (map sense hs ++ map (λ (d : Due). sense d.held) dues) last (job_of line concluded.0) known refl sized),
      )
    ],
  )

  pub promised_more : (earlier : List Past) (lines : List (List ℕ)) (before after : List (Task Op Held))
      → seat.name ≡ name_of line → Adds before after seat.asks → IsAsked old hs seats after line seat.asks → Learns
      → ((done : ℕ → Option (Outcome × Held)) → AreAnswered done before → IsPromised done old hs earlier lines seats)
      → (done : ℕ → Option (Outcome × Held)) → AreAnswered done after → IsPromised done new hs earlier (lines ++ line ∷ []) (seats ++ seat ∷ [])
  promised_more earlier lines before after named adds asks learns promised done all =
      let so_far = promised done (answered_before done before after seat.asks adds all) in
      let asked = asks done all so_far.dues so_far.found in
      let due : Due = record { name = seat.name; outcome = asked.0.0; held = asked.0.1 } in
      let counted : length seats ≡ length so_far.dues = sym (length-map seats (due_by done)) ∙ ap length so_far.found ∙ length-map so_far.dues Some in
      let sized : length (map sense hs ++ map (λ (d : Due). sense d.held) so_far.dues) ≡ length hs + length seats =
      omega (arith, length-append (map sense hs) (map (λ (d : Due). sense d.held) so_far.dues), length-map hs sense, length-map so_far.dues (λ (d : Due). sense d.held), counted) in
      record {
        dues = so_far.dues ++ due ∷ [];
        found = map-append (due_by done) seats (seat ∷ [])
            ∙ (λ i. so_far.found i ++ ap (option_map (λ (answer : Outcome × Held). record { name = seat.name; outcome = answer.0; held = answer.1 })) asked.1 i ∷ [])
            ∙ sym (map-append Some so_far.dues (due ∷ []));
        due = one_more_due old new line due (map sense hs) earlier lines so_far.dues (next_due so_far.dues asked.0 named learns sized asked.2) so_far.due;
      }
