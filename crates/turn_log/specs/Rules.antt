-- What holds of a log between any two steps, and what a step tells.
use Rattle.std.specs.Prelude.{◌≡◌, ◌≢◌, ℕ, ◌+◌, ◌*◌, ◌%◌, Bool, true, false, if◌then◌else◌, nat_lt, List, [], ◌∷◌, length, Option, Some, None, IfSome}
use mathlib.Core.Option.{some}
use mathlib.Core.List.{IsPrefix}
use lib.ListN.{get_elem?}
use Rattle.atomic_table.specs.Table.{State, Me, Step, rest}
use Rattle.turn_log.specs.declared.rule.View.{View}

-- the word of a log with so many entries, whose turn is out or not
abbrev pub word_of : ℕ → Bool → ℕ
word_of count held = 2 * count + (if held then 1 else 0)

-- the longer of two lists, the first where they are as long
abbrev pub longer : {E : Type 0} → List E → List E → List E
longer xs ys = if nat_lt (length xs) (length ys) then ys else xs

module _ {E O : Type 0} where
  -- what a pass knows: whether a turn of it is out, what it has seen, what a pass that it took in had seen, and the log's first value
  abbrev pub view : Bool → List E → List E → Option O → View E O
  view out seen other opening = record { is_out = out; seen = seen; other = other; opening = opening }

  -- a pass that takes another in keeps both lists
  abbrev pub joint_view : View E O → View E O → View E O
  joint_view v w = view v.is_out v.seen w.seen v.opening

  -- a pass that was taken in knows nothing
  abbrev pub spent_view : View E O
  spent_view = view false [] [] None

  -- one list is left, the longer of the two, and each of them begins it
  abbrev pub Looks : {S : Type 0} → Step S → Me S (View E O) → ℕ → Me S (View E O) → Type 0
  Looks st m r n =
      (n ≡ (view m.0.is_out (longer m.0.seen m.0.other) [] m.0.opening, m.1))
      × IsPrefix m.0.seen (longer m.0.seen m.0.other)
      × IsPrefix m.0.other (longer m.0.seen m.0.other)

  module _ {T : Type 0} (entries : T → List E) where
    -- the pass has seen the entries of the value that was put back, and has no turn out
    abbrev pub Settles : Step (Option T) → Me (Option T) (View E O) → ℕ → Me (Option T) (View E O) → Type 0
    Settles st m r n = (value : T) → m.1 ≡ (0, Some value) ∷ rest m.1 → n ≡ (view false (entries value) [] m.0.opening, rest m.1)

  module _ {T H : Type 0} (entries : T → List E) (home : T → H) (home_at : O → H) where
    -- the pass has the value, whose entries begin with those that it had seen and whose home is that of the log
    abbrev pub Takes : Me (Option T) (View E O) → Me (Option T) (View E O) → Type 0
    Takes m n =
        (value : T)
        × (n ≡ (view true (entries value) [] m.0.opening, (0, Some value) ∷ m.1))
        × IsPrefix m.0.seen (entries value)
        × IfSome m.0.opening (λ o. home value ≡ home_at o)

    -- where the word was even the turn was free and is taken, else nothing has changed
    abbrev pub Claims : Step (Option T) → Me (Option T) (View E O) → ℕ → Me (Option T) (View E O) → Type 0
    Claims st m r n = (r % 2 ≡ 0 → Takes m n) × (r % 2 ≢ 0 → n ≡ m)

    -- what a pass knows of a log: beginnings of its list, and its home; with a turn out it is the one that has the whole list
    pub record Knows (at : H) (log : List E) (held : Bool) (owner seat : ℕ) (v : View E O) : Type 0 where
      pub seen : IsPrefix v.seen log
      pub other : IsPrefix v.other log
      pub at_home : IfSome v.opening (λ o. home_at o ≡ at)
      pub out : v.is_out ≡ true → (held ≡ true) × (seat ≡ owner) × (v.seen ≡ log)

    -- there is one list of entries, whose length the word has. While no turn is out its value is in the slot
    pub record Logged (at : H) (s : State (Option T) (View E O)) : Type 0 where
      pub log : List E
      pub held : Bool
      pub owner : ℕ
      pub words : s.words ≡ word_of (length log) held ∷ []
      pub free : held ≡ false → (value : T) × (get_elem? s.homes 0 ≡ some (some (Some value))) × (home value ≡ at) × (entries value ≡ log)
      pub known : (seat : ℕ) (v : View E O) → get_elem? s.views seat ≡ some v → Knows at log held owner seat v

module _ {T E O : Type 0} where
  -- a pass holds the slot, left empty, while a turn of it is out, and else nothing
  abbrev pub Holds : Me (Option T) (View E O) → Type 0
  Holds m = (m.0.is_out ≡ false → m.1 ≡ []) × (m.0.is_out ≡ true → m.1 ≡ (0, None) ∷ [])
