-- The fields of a JSON object: reading one gives a value or a fault. Faults are met in the order of reading, and the first is named.
use Rattle.std.specs.Prelude.{◌≡◌, ℕ, suc, List, [], ◌∷◌, Option, Some, None, option_and_then, option_map, Result, Ok, Err}
use Rattle.serde_json.specs.Data.{Data, Items, no_items, item}
use Rattle.serde_json.specs.Find.{get, as_str, as_array}
use Rattle.job_lang.specs.declared.places.Place.{Place}
use Rattle.job_words.specs.declared.causes.JobCause.{JobCause}
use Rattle.job_words.specs.declared.causes.JobCause.TheVariants.{Field}
use Rattle.job_lang.specs.declared.reading.ReadError.{ReadError}
use Rattle.job_lang.specs.declared.reading.ReadError.TheVariants.{Fault, Memory}
use Rattle.job_lang.specs.Places.{path}

-- what reading gives: a value, or the first fault
abbrev pub Reading : Type 0 → Type 0
Reading A = Result A JobCause

infixl 10 ◌>>=◌
abbrev pub ◌>>=◌ : {A B : Type 0} → Reading A → (A → Reading B) → Reading B
(Ok a) >>= f = f a
(Err c) >>= f = Err c

-- a value, or this fault where there is none
abbrev pub or_fault : {A : Type 0} → JobCause → Option A → Reading A
or_fault c (Some a) = Ok a
or_fault c None = Err c

-- the items of an array
abbrev pub elements : Items → List Data
elements no_items = []
elements (item d ds) = d ∷ elements ds

-- a member that is a text
abbrev pub text_at : Place → List ℕ → Data → Reading (List ℕ)
text_at place key d = or_fault (Field (path place key None)) (option_and_then as_str (get key d))

-- the items of a member that is a list
abbrev pub items_at : List ℕ → Data → Option (List Data)
items_at key d = option_map elements (option_and_then as_array (get key d))

-- a member that is a list
abbrev pub list_at : Place → List ℕ → Data → Reading (List Data)
list_at place key d = or_fault (Field (path place key None)) (option_map elements (option_and_then as_array (get key d)))

-- what each element gives; the first of them has the number i
abbrev pub each : {A : Type 0} → (ℕ → Data → Reading A) → ℕ → List Data → Reading (List A)
each read i [] = Ok []
each read i (d ∷ ds) = read i d >>= λ a. each read (suc i) ds >>= λ rest. Ok (a ∷ rest)

-- the code's error is this fault, unless memory ran out
abbrev pub IsCause : ReadError → JobCause → Type 0
IsCause Memory c = Unit {0}
IsCause (Fault d) c = d ≡ c

-- the code fails as reading does, unless memory ran out
abbrev pub Fails : {A : Type 0} → ReadError → Reading A → Type 0
Fails Memory read = Unit {0}
Fails (Fault c) read = read ≡ Err c

-- the code answers what reading gives, seen by `view`, unless memory ran out
abbrev pub Gives : {A B : Type 0} → (A → B) → Result A ReadError → Reading B → Type 0
Gives view (Ok a) read = read ≡ Ok (view a)
Gives view (Err error) read = Fails error read
