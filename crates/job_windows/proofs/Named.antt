-- What the names in an operation stand for, where the tasks of a window have answers.
use Rattle.std.proofs.Common.{◌≡◌, ℕ, List, [], ◌∷◌, ◌++◌, map, refl, sym, ap, ◌∙◌}
use Rattle.std.proofs.lemmas.List.{map-append}
use Rattle.std.specs.Prelude.{Option, Some, None, option_map, unwrap_or, slice_get}
use Rattle.std.specs.HashMap.{get_by_text}
use Rattle.std.proofs.lemmas.Option.{slice_get-map}
use Rattle.job_lang.specs.declared.jobs.Op.{Op}
use Rattle.job_workers.specs.declared.tasks.Need.{Need}
use Rattle.job_workers.specs.declared.tasks.Need.TheVariants.{Value as ByValue}
use Rattle.job_workers.specs.Needs.{meaning_of, AreGiven}
use Rattle.operation_laws.specs.Values.{Value}
use Rattle.operation_laws.specs.Given.{base_name, names_in}
use Rattle.held_values.specs.declared.held.Held.{Held}
use Rattle.held_values.specs.declared.held.Held.TheVariants as held
use Rattle.held_values.specs.Means.{sense}
use Rattle.reply_lines.specs.declared.replies.Outcome.{Outcome}
use Rattle.session_laws.specs.Answers.{Past, values_for, held_of}
use Rattle.job_windows.specs.Names.{Knows}
use Rattle.job_windows.specs.Windows.{need_by, needs_at, need_at, need_named, answer_by, due_by}
use Rattle.job_windows.specs.declared.names.Names.{Names}
use Rattle.job_windows.specs.declared.seats.Asks.{Asks}
use Rattle.job_windows.specs.declared.seats.Asks.TheVariants.{Refused, Run}
use Rattle.job_windows.specs.declared.seats.Seat.{Seat}
use Rattle.job_windows.specs.declared.seats.Due.{Due}
use Rattle.job_windows.proofs.Learned.{IsMeant}

-- one list of values is given
pub given_once : {A : Type 0} (xs ys : List A) → map Some xs ≡ map Some ys → xs ≡ ys
given_once [] [] same = refl
given_once [] (y ∷ ys) same = cc
given_once (x ∷ xs) [] same = cc
given_once (x ∷ xs) (y ∷ ys) same =
    let head : x ≡ y = cc in
    let tail : map Some xs ≡ map Some ys = cc in
    λ i. head i ∷ given_once xs ys tail i

module _ (done : ℕ → Option (Outcome × Held)) where
  abbrev means : Need Held → Option (Option Value)
  means need = meaning_of sense done need

  -- what is there means what it is to
  there : (o : Option (Need Held)) (x : Option (Option Value)) (d : Need Held) → option_map means o ≡ Some x → means (unwrap_or o d) ≡ x
  there None x d is = cc
  there (Some need) x d is = cc

  at_place : (needs : List (Need Held)) (values : List (Option Value)) → map means needs ≡ map Some values
      → (place : Option ℕ) (v : Option Value) → IsMeant values place v → means (need_at needs place) ≡ Some v
  at_place needs values same None None is = refl
  at_place needs values same (Some i) (Some w) is =
      let stands : slice_get values i ≡ Some (Some w) = cc in
      there (slice_get needs i) (Some (Some w)) (ByValue held.Unknown)
      (sym (slice_get-map means needs i) ∙ ap (λ (ms : List (Option (Option Value))). slice_get ms i) same ∙ slice_get-map Some values i ∙ ap (option_map Some) stands)
  at_place needs values same None (Some w) is = cc
  at_place needs values same (Some i) None is = cc

  -- an operation is given what its names stand for
  pub given_by_names : (names : Names) (needs : List (Need Held)) (values : List (Option Value)) (earlier : List Past)
      → map means needs ≡ map Some values → Knows names values earlier → (op : Op)
      → AreGiven sense done (map (λ text. need_named names needs (base_name text)) (names_in op)) (values_for (held_of earlier) op)
  given_by_names names needs values earlier same known op = by_texts (names_in op)
    where
      by_texts : (texts : List (List ℕ)) → map means (map (λ text. need_named names needs (base_name text)) texts) ≡ map Some (map (λ text. held_of earlier (base_name text)) texts)
      by_texts [] = refl
      by_texts (text ∷ texts) =
          let q = base_name text in
          λ i. at_place needs values same (get_by_text names.places q) (held_of earlier q) (known q) i ∷ by_texts texts i

  -- what an operation is given that names the job of a seat
  seat_means : (seat : Seat) (due : Due) → due_by done seat ≡ Some due → means (need_by seat.asks) ≡ Some (sense due.held)
  seat_means seat due is = by_asks seat.asks is
    where
      by_asks : (asks : Asks) → option_map (λ (answer : Outcome × Held). record { name = seat.name; outcome = answer.0; held = answer.1 }) (answer_by done asks) ≡ Some due
          → meaning_of sense done (need_by asks) ≡ Some (sense due.held)
      by_asks (Refused outcome) same = let is : held.Refused ≡ due.held = cc in ap (λ h. Some (sense h)) is
      by_asks (Run place) same = by_done (done place) same
        where
          by_done : (o : Option (Outcome × Held)) → option_map (λ (answer : Outcome × Held). record { name = seat.name; outcome = answer.0; held = answer.1 }) o ≡ Some due
              → option_map (λ (answer : Outcome × Held). sense answer.1) o ≡ Some (sense due.held)
          by_done None same = cc
          by_done (Some answer) same = let is : answer.1 ≡ due.held = cc in ap (λ h. Some (sense h)) is

  seats_mean : (seats : List Seat) (dues : List Due) → map (due_by done) seats ≡ map Some dues
      → map means (map (λ seat. need_by seat.asks) seats) ≡ map Some (map (λ (due : Due). sense due.held) dues)
  seats_mean [] [] same = refl
  seats_mean [] (due ∷ dues) same = cc
  seats_mean (seat ∷ seats) [] same = cc
  seats_mean (seat ∷ seats) (due ∷ dues) same =
      let head : due_by done seat ≡ Some due = cc in
      let tail : map (due_by done) seats ≡ map Some dues = cc in
      λ i. seat_means seat due head i ∷ seats_mean seats dues tail i

  held_mean : (hs : List Held) → map means (map ByValue hs) ≡ map Some (map sense hs)
  held_mean [] = refl
  held_mean (h ∷ hs) = λ i. Some (sense h) ∷ held_mean hs i

  -- what stands for the jobs of a session means what these hold
  pub needs_mean : (hs : List Held) (seats : List Seat) (dues : List Due) → map (due_by done) seats ≡ map Some dues
      → map means (needs_at hs seats) ≡ map Some (map sense hs ++ map (λ (due : Due). sense due.held) dues)
  needs_mean hs seats dues same =
      map-append means (map ByValue hs) (map (λ seat. need_by seat.asks) seats)
      ∙ (λ i. held_mean hs i ++ seats_mean seats dues same i)
      ∙ sym (map-append Some (map sense hs) (map (λ (due : Due). sense due.held) dues))
