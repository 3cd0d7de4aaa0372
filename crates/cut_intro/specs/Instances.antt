-- Instances as the code has them.
--     of_tuple, meant      the instance of a formula by a tuple; what an instance means
--     claim      what it says if it doesn't make the sequent true
--     AreFormedTuples, IsFormedInstance      tuples of well-formed terms; an instance of a well-formed formula by such a tuple
--     instances_of_each      the instances of items by lists of tuples, one list for each item
use Rattle.std.specs.Prelude.{◌≡◌, true, List, [], ◌∷◌, ◌++◌, map}
use Rattle.std.specs.List.{All}
use Rattle.fol.specs.Syntax.{Terms, Formula}
use Rattle.fol.specs.Formed.{are_formed_terms_at, IsFormed}
use Rattle.lk_rules.specs.declared.sequent.Side.{Side}
use Rattle.herbrand_laws.specs.Herbrand.{Item}
use Rattle.herbrand_laws.specs.Introduction as introduction
use Rattle.herbrand_laws.specs.Introduction.{by_tuple, matrix_of, assumed}
use Rattle.cut_intro.specs.declared.instance.Instance.{Instance}

abbrev pub of_tuple : Side → Formula → Terms → Instance
of_tuple side f us = record { side = side; formula = f; tuple = us }

abbrev pub meant : Instance → introduction.Instance
meant j = record { side = j.side; formula = j.formula; tuple = j.tuple }

-- what an instance says if it doesn't make the sequent true
abbrev pub claim : Instance → Formula
claim j = assumed j.side (matrix_of (meant j))

-- the terms of each tuple are well formed
abbrev pub AreFormedTuples : List Terms → Type 0
AreFormedTuples uss = All (λ us. are_formed_terms_at 0 us ≡ true) uss

-- the formula and the terms are well formed
pub record IsFormedInstance (j : Instance) : Type 0 where
  pub formula : IsFormed j.formula
  pub terms : are_formed_terms_at 0 j.tuple ≡ true

-- the instances of each item by the tuples of the list that stands in its place
abbrev pub instances_of_each : List Item → List (List Terms) → List introduction.Instance
instances_of_each [] usss = []
instances_of_each (i ∷ items) [] = []
instances_of_each (i ∷ items) (uss ∷ usss) = map (by_tuple i) uss ++ instances_of_each items usss
