-- A derivation with cuts, as the steps of an `lk` job. Places of steps count from 0.
use Rattle.std.specs.Prelude.{ℕ, ◌+◌, List, [], ◌∷◌, ◌++◌, map, codes}
use Rattle.std.specs.List.{range_with_len}
use Rattle.serde_json.specs.Data.{Data, string, object, member, no_members}
use Rattle.job_gen.specs.Values.{numbers_data, texts_data}

-- a step: its rule, its main formula, the places of its premises, and the two sides of its conclusion
abbrev pub step_data : List ℕ → List ℕ → List ℕ → List (List ℕ) → List (List ℕ) → Data
step_data rule main premises left right = object (member (codes "left") (texts_data left) (member (codes "main") (string main)
    (member (codes "premises") (numbers_data premises) (member (codes "right") (texts_data right) (member (codes "rule") (string rule) no_members)))))

-- an axiom: the formula on both sides
abbrev pub axiom_data : List ℕ → Data
axiom_data formula = step_data (codes "ax") formula [] (formula ∷ []) (formula ∷ [])

-- a cut on the formula with the conclusion `p, q / p`, over the steps at two places
abbrev pub cut_data : List ℕ → ℕ → ℕ → Data
cut_data formula first second = step_data (codes "cut") formula (first ∷ second ∷ []) (codes "p" ∷ codes "q" ∷ []) (codes "p" ∷ [])

-- p & q is concluded from p and q, p is concluded from p & q, and a cut on p & q joins the two
abbrev pub first_steps : List Data
first_steps = axiom_data (codes "p") ∷ axiom_data (codes "q")
    ∷ step_data (codes "andR") (codes "p & q") (0 ∷ 1 ∷ []) (codes "p" ∷ codes "q" ∷ []) (codes "p & q" ∷ [])
    ∷ step_data (codes "andL") (codes "p & q") (0 ∷ []) (codes "p & q" ∷ []) (codes "p" ∷ [])
    ∷ cut_data (codes "p & q") 2 3 ∷ []

-- m further cuts, each on p, over the step before it and the axiom of p
abbrev pub further_cuts : ℕ → List Data
further_cuts m = map (λ j. cut_data (codes "p") (4 + j) 0) (range_with_len 0 m)

abbrev pub derivation_steps : ℕ → List Data
derivation_steps m = first_steps ++ further_cuts m
