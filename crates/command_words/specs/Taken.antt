-- The words that the command takes, without clap.
use Rattle.std.specs.Prelude.{◌≡◌, ◌≤◌, ◌⊎◌, ℕ, zero, suc, Bool, true, false, List, [], ◌∷◌, ◌++◌, Option, Some, None, codes}
use Rattle.std.specs.Fmt.{decimal}
use Rattle.std.specs.List.{All}
use Rattle.command_words.specs.declared.reading.Settings.{Settings}

-- what one option asks for: `--workers N`, `--gen N` or `--sessions`
pub data Choice : Type 0 where
  workers : ℕ → Choice
  generate : ℕ → Choice
  bundled : Choice

-- from 1 to 16 workers, from 1 to 100,000 jobs
abbrev pub IsInRange : Choice → Type 0
IsInRange (workers n) = (1 ≤ n) × (n ≤ 16)
IsInRange (generate n) = (1 ≤ n) × (n ≤ 100000)
IsInRange bundled = Unit {0}

-- the words are `--name N` or `--name=N` with N in decimal digits, and the rest
abbrev pub WriteNumber : List ℕ → ℕ → List (List ℕ) → List (List ℕ) → Type 0
WriteNumber name n rest words = (words ≡ name ∷ decimal n ∷ rest) ⊎ (words ≡ (name ++ (codes "=" ++ decimal n)) ∷ rest)

-- the words are the choice and the rest
abbrev pub WriteChoice : Choice → List (List ℕ) → List (List ℕ) → Type 0
WriteChoice (workers n) rest words = WriteNumber (codes "--workers") n rest words
WriteChoice (generate n) rest words = WriteNumber (codes "--gen") n rest words
WriteChoice bundled rest words = words ≡ codes "--sessions" ∷ rest

-- the words are the choices in a row, and perhaps `--` at the end
abbrev pub Write : List Choice → List (List ℕ) → Type 0
Write [] words = (words ≡ []) ⊎ (words ≡ codes "--" ∷ [])
Write (choice ∷ choices) words = (rest : List (List ℕ)) × Write choices rest × WriteChoice choice rest words

-- the numbers of workers among the choices
abbrev pub workers_in : List Choice → List ℕ
workers_in [] = []
workers_in (workers n ∷ choices) = n ∷ workers_in choices
workers_in (choice ∷ choices) = workers_in choices

-- the numbers of jobs to generate among the choices
abbrev pub generate_in : List Choice → List ℕ
generate_in [] = []
generate_in (generate n ∷ choices) = n ∷ generate_in choices
generate_in (choice ∷ choices) = generate_in choices

-- how often a bundle is chosen
abbrev pub bundled_in : List Choice → ℕ
bundled_in [] = 0
bundled_in (bundled ∷ choices) = suc (bundled_in choices)
bundled_in (choice ∷ choices) = bundled_in choices

-- the number of workers, chosen once at most: 4 where none is chosen
abbrev pub workers_by : List ℕ → Option ℕ
workers_by [] = Some 4
workers_by (n ∷ []) = Some n
workers_by _ = None

-- how many jobs to generate, chosen once at most
abbrev pub generate_by : List ℕ → Option (Option ℕ)
generate_by [] = Some None
generate_by (n ∷ []) = Some (Some n)
generate_by _ = None

-- whether the input is a bundle, chosen once at most
abbrev pub bundled_by : ℕ → Option Bool
bundled_by zero = Some false
bundled_by (suc zero) = Some true
bundled_by _ = None

-- settings, where all three are there, but none for jobs to generate beside a bundle
abbrev pub settings_from : Option ℕ → Option (Option ℕ) → Option Bool → Option Settings
settings_from (Some n) (Some None) (Some sessions) = Some (record { workers = n; generate = None; sessions = sessions })
settings_from (Some n) (Some (Some jobs)) (Some false) = Some (record { workers = n; generate = Some jobs; sessions = false })
settings_from _ _ _ = None

-- what the choices make, in any order
abbrev pub made_of : List Choice → Option Settings
made_of choices = settings_from (workers_by (workers_in choices)) (generate_by (generate_in choices)) (bundled_by (bundled_in choices))

-- the words ask for the settings
abbrev pub AskFor : List (List ℕ) → Settings → Type 0
AskFor words settings = (choices : List Choice) × All IsInRange choices × Write choices words × (made_of choices ≡ Some settings)
