-- What the introduction of a cut into a proof comes to.
--     Answer      a shorter proof, or the proof itself
--     by_searches, with_candidate, by_candidate, by_items      the answer from what is known so far
--     introducing      the answer, or the first reason why there is none
--     has_formed_instances      the formulas of the end sequent and the terms of the instances are well formed
--     IsByBest      a proof with as many quantifier inferences as the best candidate costs
use Rattle.std.specs.Prelude.{◌≡◌, ℕ, ◌-◌, ◌^◌, ◌<◌, ◌||◌, min, nat_lt, if◌then◌else◌, List, Option, Some, None, Result, Ok, Err, Bool, ◌&&◌}
use Rattle.std.specs.List.{list_all}
use Rattle.fol.specs.Formed.{is_formed, are_formed_terms_at}
use Rattle.finite.specs.Finite as set
use Rattle.proof_trees.specs.Trees.{Tree, concl, quants}
use Rattle.search_laws.specs.Search.{Walk, visits, walk}
use Rattle.extraction_laws.specs.Extraction.{extracted as extracted_trees}
use Rattle.herbrand_laws.specs.Herbrand.{Item, items_of}
use Rattle.herbrand_laws.specs.Patterns.{TermSet}
use Rattle.herbrand_laws.specs.Candidates.{cost, best}
use Rattle.herbrand_laws.specs.Introduction.{left_search, right_search, introduced, IsProofWithCut}
use Rattle.introduction_laws.specs.declared.fault.HerbrandFault.{HerbrandFault}
use Rattle.introduction_laws.specs.declared.fault.IntroFault.{IntroFault}
use Rattle.introduction_laws.specs.declared.fault.IntroFault.TheVariants.{Budget, TooMany}
use Rattle.introduction_laws.specs.Faults.{intro_fault}
use Rattle.introduction_laws.specs.Instancing.{instancing}
use Rattle.herbrand_laws.specs.Counted.{counted}

-- a proof that takes the place of the given one, or that one
pub data Answer : Type 0 where
  shorter : Tree → Answer
  same : Answer

abbrev pub if_found : Option Tree → Answer
if_found None = same
if_found (Some u) = shorter u

-- what is made by two searches, where each visits at most n sequents
abbrev pub by_searches : ℕ → Walk → Walk → Option Tree → Result Answer IntroFault
by_searches n l r made = if nat_lt n (visits l) || nat_lt n (visits r) then Err Budget else Ok (if_found made)

-- with a candidate that costs less than the proof has quantifier inferences, the proof with the cut
abbrev pub with_candidate : ℕ → Tree → ℕ → List Item → TermSet → Result Answer IntroFault
with_candidate width t n items w =
    if nat_lt (cost width items w) (quants t)
    then by_searches n (walk (left_search width (concl t) items w)) (walk (right_search width (concl t) items w)) (introduced width (concl t) items w)
    else Ok same

abbrev pub by_candidate : ℕ → Tree → ℕ → List Item → Option TermSet → Result Answer IntroFault
by_candidate width t n items None = Ok same
by_candidate width t n items (Some w) = with_candidate width t n items w

abbrev pub by_items : ℕ → Tree → ℕ → List Item → Result Answer IntroFault
by_items width t n items =
    if nat_lt 48 (counted items) then Err (TooMany (min (counted items) (2 ^ 64 - 1))) else by_candidate width t n items (best width items)

abbrev pub from_instances : ℕ → Tree → ℕ → Result (List Item) HerbrandFault → Result Answer IntroFault
from_instances width t n (Ok items) = by_items width t n items
from_instances width t n (Err fault) = Err (intro_fault fault)

-- The proof with a cut by the best candidate, or the given proof where none costs less; or the first of the reasons why there is neither, in
-- this order: the proof has no Herbrand instances within the budget of n nodes; the formulas with quantifiers have more than 48 tuples; one of
-- the two searches visits more than n sequents.
unfoldable pub introducing : ℕ → Tree → ℕ → Result Answer IntroFault
introducing width t n = from_instances width t n (instancing t n)

-- whether the formulas of a proof's end sequent and the terms of its instances are well formed
abbrev pub has_formed_instances : Tree → Bool
has_formed_instances t =
    (list_all is_formed (set.listing (concl t).left) && list_all is_formed (set.listing (concl t).right))
    && list_all (λ i. list_all (are_formed_terms_at 0) i.tuples) (items_of (extracted_trees t))

-- the proof has a cut and as many quantifier inferences as the best candidate costs, which is fewer than the given one has
pub record IsByBest (width : ℕ) (t u : Tree) : Type 0 where
  pub values : TermSet
  pub best : best width (items_of (extracted_trees t)) ≡ Some values
  pub proof : IsProofWithCut (concl t) (cost width (items_of (extracted_trees t)) values) u
  pub cheaper : cost width (items_of (extracted_trees t)) values < quants t
