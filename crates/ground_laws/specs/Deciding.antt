-- The search for a model or a refutation: an atom is taken to be true, and where no model is found then, to be false. Two clauses that are
-- false then give one that is false before (Davis, Putnam 1960). Which atom is taken is free, so a search may take one of which the one
-- value makes a clause false at once, and it may find false what earlier parts of it derived.
--     Known, inputs, with_step      steps without fault, with their clauses
--     Partial, first_false      which atoms have a value, and a clause that is false then
--     Choice, Outcome, visit      the next atom; what a search comes to, and one turn of it
--     search_within, search, decide      the search
use Rattle.std.specs.Prelude.{◌≡◌, ℕ, zero, suc, if◌then◌else◌, not as negated, List, [], ◌∷◌, ◌++◌, length, take, filter, Option, Some, None, option_map, Ok}
use Rattle.std.specs.List.{list_any}
use Rattle.std.specs.Ordering.{eq_by_cmp}
use Rattle.fol.specs.Syntax.{Formula}
use Rattle.fol.specs.Order.{formula_cmp}
use Rattle.finite.specs.Finite as set
use Rattle.lk_rules.specs.declared.sequent.Sequent.{Sequent}
use Rattle.lk_rules.specs.declared.sequent.Side.TheVariants.{Left, Right}
use Rattle.lk_rules.specs.Formulas.{FormulaSet}
use Rattle.lk_rules.specs.Sequents.{empty, adds_to, is_subsequent}
use Rattle.refutations.specs.Refutations.{resolvent}
use Rattle.ground_laws.specs.declared.step.SatStep.{SatStep}
use Rattle.ground_laws.specs.declared.step.SatStep.TheVariants.{Input, Resolve}
use Rattle.ground_laws.specs.Models.{IsModel}
use Rattle.ground_laws.specs.Steps.{derives_all, IsRefutation}

-- steps, and the clauses that they derive, in the same order
pub record Known : Type 0 where
  pub steps : List SatStep
  pub clauses : List Sequent

-- the steps have no fault, and derive these clauses
abbrev pub IsKnown : List Sequent → Known → Type 0
IsKnown cs k = derives_all cs [] 0 k.steps ≡ Ok k.clauses

-- a step for each clause, the first with number i
abbrev pub inputs_from : ℕ → List Sequent → List SatStep
inputs_from i [] = []
inputs_from i (c ∷ cs) = Input i ∷ inputs_from (suc i) cs

-- the clauses themselves, each by a step
abbrev pub inputs : List Sequent → Known
inputs cs = record { steps = inputs_from 0 cs; clauses = cs }

-- one more step, and the clause that it derives
abbrev pub with_step : Known → SatStep → Sequent → Known
with_step k step c = record { steps = k.steps ++ step ∷ []; clauses = k.clauses ++ c ∷ [] }

-- Some atoms with values: the true ones are on the left, the false ones on the right. So a clause is false exactly where it is a
-- subsequent.
abbrev pub Partial : Type 0
Partial = Sequent

-- the number of a clause in a list with one more before it
abbrev pub one_later : ℕ × Sequent → ℕ × Sequent
one_later e = (suc e.0, e.1)

-- the first clause that is false, with its number
abbrev pub first_false : Partial → List Sequent → Option (ℕ × Sequent)
first_false r [] = None
first_false r (c ∷ cs) = if is_subsequent c r then Some (0, c) else option_map one_later (first_false r cs)

-- a choice of the next atom, by what is known, the values so far and the atoms without one
abbrev pub Choice : Type 0
Choice = Known → Partial → List Formula → Formula

-- the atom that is chosen, where it is in the list; else the first one
abbrev pub chosen : Formula → Formula → List Formula → Formula
chosen a f fs = if list_any (eq_by_cmp formula_cmp a) (f ∷ fs) then a else f

-- the list without the atom
abbrev pub others_than : Formula → List Formula → List Formula
others_than a fs = filter (λ f. negated (eq_by_cmp formula_cmp a f)) fs

-- what a search comes to: the true atoms of a model, or the number of a known clause that is false
pub data Outcome : Type 0 where
  satisfied : FormulaSet → Outcome
  conflict : Known → ℕ → Sequent → Outcome

-- After the clause c of number n was false with the atom true, clause d of number i is false with the atom false: where d has the atom,
-- both have it, and the resolvent is false without it.
abbrev pub joined : Formula → ℕ → Sequent → Known → ℕ → Sequent → Outcome
joined a n c k i d =
    if set.has d.right a
    then conflict (with_step k (Resolve i n a) (resolvent d c a)) (length k.clauses) (resolvent d c a)
    else conflict k i d

-- what comes of an atom by what came of it when it was false
abbrev pub after_false : Formula → ℕ → Sequent → Outcome → Outcome
after_false a n c (satisfied m) = satisfied m
after_false a n c (conflict k i d) = joined a n c k i d

-- what comes of an atom by what came of it when it was true: where the clause that was false then has the atom, it is taken to be false
abbrev pub after_true : Formula → (Known → Outcome) → Outcome → Outcome
after_true a go_on (satisfied m) = satisfied m
after_true a go_on (conflict k n c) = if set.has c.left a then after_false a n c (go_on k) else conflict k n c

-- both values of an atom, true first
abbrev pub branch : (Partial → List Formula → Known → Outcome) → Formula → Partial → List Formula → Known → Outcome
branch look a r rest k = after_true a (look (adds_to r Right a) rest) (look (adds_to r Left a) rest k)

-- the next atom, or the model where there is none
abbrev pub by_atoms : (Partial → List Formula → Known → Outcome) → Choice → Partial → List Formula → Known → Outcome
by_atoms look choose r [] k = satisfied r.left
by_atoms look choose r (f ∷ fs) k = let a = chosen (choose k r (f ∷ fs)) f fs in branch look a r (others_than a (f ∷ fs)) k

-- a known clause that is false ends a turn
abbrev pub by_conflict : Known → Option (ℕ × Sequent) → Outcome → Outcome
by_conflict k None otherwise = otherwise
by_conflict k (Some e) otherwise = conflict k e.0 e.1

-- one turn of a search: a known clause that is false, or else the next atom of those without a value
abbrev pub visit : (Partial → List Formula → Known → Outcome) → Choice → Partial → List Formula → Known → Outcome
visit look choose r fs k = by_conflict k (first_false r k.clauses) (by_atoms look choose r fs k)

-- the search, with fewer than n atoms without a value
unfoldable pub search_within : Choice → ℕ → Partial → List Formula → Known → Outcome
search_within choose zero r fs k = satisfied r.left
search_within choose (suc n) r fs k = visit (search_within choose n) choose r fs k

-- the search. Each turn gives a value to an atom
unfoldable pub search_from : Choice → Partial → List Formula → Known → Outcome
search_from choose r fs k = search_within choose (suc (length fs)) r fs k

-- the atoms of clauses
abbrev pub atoms_of : List Sequent → List Formula
atoms_of [] = []
atoms_of (c ∷ cs) = (set.listing c.left ++ set.listing c.right) ++ atoms_of cs

-- a model, or a refutation
pub data Answer : Type 0 where
  model : FormulaSet → Answer
  refuting : List SatStep → Answer

-- the answer is right
abbrev pub IsAnswer : List Sequent → Answer → Type 0
IsAnswer cs (model a) = IsModel a cs
IsAnswer cs (refuting steps) = IsRefutation cs steps

-- with no atom given a value, a clause that is false is empty: the steps up to its own refute the clauses
abbrev pub answer_of : Outcome → Answer
answer_of (satisfied a) = model a
answer_of (conflict k n c) = refuting (take (suc n) k.steps)

-- a model or a refutation of some clauses
unfoldable pub decide : Choice → List Sequent → Answer
decide choose cs = answer_of (search_from choose empty (atoms_of cs) (inputs cs))
