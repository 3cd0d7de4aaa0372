-- What holds of the clauses, and of a resolvent where it holds of both its parents, holds of each clause that steps derive. So a model of the
-- clauses satisfies all of these, and no clause has other atoms.
use Rattle.std.proofs.Common.{◌≡◌, ℕ, zero, suc, ◌-◌, inl, inr, Bool, true, false, ◌||◌, ◌&&◌, if◌then◌else◌, List, [], ◌∷◌, ◌++◌, length, refl, sym, ap, subst, ◌∙◌}
use Rattle.std.specs.Prelude.{Option, Some, None, slice_get, Result, Ok, Err}
use Rattle.std.specs.List.{list_all, list_any}
use Rattle.std.specs.Ordering.{eq_by_cmp}
use Rattle.std.proofs.lemmas.Bool.{both_ways, and_parts}
use Rattle.fol.specs.Syntax.{Formula}
use Rattle.fol.specs.Order.{formula_cmp}
use Rattle.finite.specs.Finite as set
use Rattle.lk_rules.specs.declared.sequent.Sequent.{Sequent}
use Rattle.lk_rules.specs.Formulas.{FormulaSet}
use Rattle.lk_rules.specs.Sequents.{empty, same_sequents}
use Rattle.lk_rules.proofs.Subsequents.{sequents_equality_same}
use Rattle.proof_trees.proofs.Booleans.{or_first, or_second, either}
use Rattle.refutations.specs.declared.step.ResCause.{ResCause}
use Rattle.refutations.specs.declared.step.ResCause.TheVariants.{AtomMissing, NotEmpty}
use Rattle.proof_trees.specs.FormulaSets.{without}
use Rattle.refutations.specs.Refutations.{resolvent}
use Rattle.proof_trees.proofs.FormulaSets.{equal, in_either}
use Rattle.ground_laws.specs.declared.step.SatStep.{SatStep}
use Rattle.ground_laws.specs.declared.step.SatStep.TheVariants.{Input, Resolve}
use Rattle.ground_laws.specs.Models.{satisfies, occurs, IsModel}
use Rattle.ground_laws.specs.Steps.{referred, resolved_on, derives, and_on, derives_all, concluded, last_of, refuted, IsRefutation, names}
use Rattle.ground_laws.specs.Deciding.{Choice, model, refuting, IsAnswer, decide}
use Rattle.ground_laws.proofs.Clauses.{kept, empty_fails, resolvent_holds}
use Rattle.ground_laws.proofs.Derived.{old_or_new}
use Rattle.ground_laws.proofs.Decided.{occurs_at, answered}

abbrev pub Each : (Sequent → Type 0) → List Sequent → Type 0
Each P ds = (j : ℕ) (c : Sequent) → slice_get ds j ≡ Some c → P c

each_pushed : (P : Sequent → Type 0) (ds : List Sequent) (d : Sequent) → Each P ds → P d → Each P (ds ++ d ∷ [])
each_pushed P ds d h new j c at = elim (old_or_new ds d j c at) [
  | inl old ↦ h j c old
  | inr same ↦ subst P same new
]

module _ (cs : List Sequent) (P : Sequent → Type 0) (inputs : Each P cs)
    (resolvents : (a : Formula) (p n : Sequent) → set.has p.right a ≡ true → set.has n.left a ≡ true → P p → P n → P (resolvent p n a))
  where
    by_input : (i : ℕ) (o : Option Sequent) (d : Sequent) → slice_get cs i ≡ o → referred o (λ c. Ok c) ≡ Ok d → P d
    by_input i None d at is = cc
    by_input i (Some c) d at is = let same : c ≡ d = cc in subst P same (inputs i c at)

    by_test : (a : Formula) (p n d : Sequent) → P p → P n → (b : Bool) → (set.has p.right a && set.has n.left a) ≡ b → (if b then Ok (resolvent p n a) else Err AtomMissing) ≡ Ok d → P d
    by_test a p n d first second true e is =
        let parts = and_parts (set.has p.right a) (set.has n.left a) e in
        let same : resolvent p n a ≡ d = cc in
        subst P same (resolvents a p n parts.0 parts.1 first second)
    by_test a p n d first second false e is = cc

    by_resolution : (ds : List Sequent) → Each P ds → (i j : ℕ) (a : Formula) (o q : Option Sequent) (d : Sequent) → slice_get ds i ≡ o → slice_get ds j ≡ q
        → referred o (λ p. referred q (λ n. resolved_on a p n)) ≡ Ok d → P d
    by_resolution ds h i j a None q d first second is = cc
    by_resolution ds h i j a (Some p) None d first second is = cc
    by_resolution ds h i j a (Some p) (Some n) d first second is = by_test a p n d (h i p first) (h j n second) (set.has p.right a && set.has n.left a) refl is

    of_step : (ds : List Sequent) → Each P ds → (step : SatStep) (d : Sequent) → derives cs ds step ≡ Ok d → P d
    of_step ds h (Input i) d is = by_input i (slice_get cs i) d refl is
    of_step ds h (Resolve i j a) d is = by_resolution ds h i j a (slice_get ds i) (slice_get ds j) d refl refl is

    by_outcome : (ds : List Sequent) → Each P ds → (i : ℕ) (step : SatStep) (rest : List SatStep) (out : List Sequent)
        → ((d : Sequent) → Each P (ds ++ d ∷ []) → derives_all cs (ds ++ d ∷ []) (suc i) rest ≡ Ok out → Each P out)
        → (r : Result Sequent ResCause) → derives cs ds step ≡ r → and_on i r (λ d. derives_all cs (ds ++ d ∷ []) (suc i) rest) ≡ Ok out → Each P out
    by_outcome ds h i step rest out go_on (Ok d) given is = go_on d (each_pushed P ds d h (of_step ds h step d given)) is
    by_outcome ds h i step rest out go_on (Err cause) given is = cc

    pub of_steps : (ds : List Sequent) → Each P ds → (i : ℕ) (steps : List SatStep) (out : List Sequent) → derives_all cs ds i steps ≡ Ok out → Each P out
    of_steps ds h i [] out is = let same : ds ≡ out = cc in subst (Each P) same h
    of_steps ds h i (step ∷ rest) out is = by_outcome ds h i step rest out (λ d more. of_steps (ds ++ d ∷ []) more (suc i) rest out) (derives cs ds step) refl is

-- what a refutation derives, the empty clause at the end
pub record Derivation (cs : List Sequent) (steps : List SatStep) : Type 0 where
  pub clauses : List Sequent
  pub derived : derives_all cs [] 0 steps ≡ Ok clauses
  pub last : slice_get clauses (length steps - 1) ≡ Some empty

module _ (cs : List Sequent) (steps : List SatStep) where
  empty_last : (d : Sequent) (b : Bool) → b ≡ same_sequents d empty → if◌then◌else◌ {A = Result (Unit {0}) (ℕ × ResCause)} b (Ok tt) (Err (length steps - 1, NotEmpty)) ≡ Ok tt → d ≡ empty
  empty_last d true same is = (sequents_equality_same d empty true same).0 refl
  empty_last d false same is = cc

  by_last : (ds : List Sequent) → derives_all cs [] 0 steps ≡ Ok ds → (o : Option Sequent) → slice_get ds (length steps - 1) ≡ o → concluded (length steps) o ≡ Ok tt → Derivation cs steps
  by_last ds given None at is = cc
  by_last ds given (Some d) at is = record { clauses = ds; derived = given; last = at ∙ ap Some (empty_last d (same_sequents d empty) refl is) }

  by_derived : (r : Result (List Sequent) (ℕ × ResCause)) → derives_all cs [] 0 steps ≡ r → last_of (length steps) r ≡ Ok tt → Derivation cs steps
  by_derived (Ok ds) given is = by_last ds given (slice_get ds (length steps - 1)) refl is
  by_derived (Err fault) given is = cc

  pub derivation : IsRefutation cs steps → Derivation cs steps
  unfolding refuted
  derivation is = by_derived (derives_all cs [] 0 steps) refl is

nothing_yet : (P : Sequent → Type 0) → Each P []
nothing_yet P j c at = cc

-- a model satisfies each derived clause, and so not the empty one

holds_each : (a : FormulaSet) (cs : List Sequent) → list_all (satisfies a) cs ≡ true → Each (λ c. satisfies a c ≡ true) cs
holds_each a [] all j c at = cc
holds_each a (d ∷ ds) all zero c at = let same : d ≡ c = cc in ap (satisfies a) (sym same) ∙ (and_parts (satisfies a d) (list_all (satisfies a) ds) all).0
holds_each a (d ∷ ds) all (suc j) c at = holds_each a ds (and_parts (satisfies a d) (list_all (satisfies a) ds) all).1 j c at

pub never_refuted : (a : FormulaSet) (cs : List Sequent) (steps : List SatStep) → list_all (satisfies a) cs ≡ true → IsRefutation cs steps → ⊥
never_refuted a cs steps all is =
    let d = derivation cs steps is in
    both_ways (satisfies a empty) (empty_fails a)
    (of_steps cs (λ c. satisfies a c ≡ true) (holds_each a cs all) (λ x p n _ _. resolvent_holds a p n x) [] (nothing_yet (λ c. satisfies a c ≡ true)) 0 steps d.clauses d.derived (length steps - 1) empty d.last)

pub never_both : (a : FormulaSet) (cs : List Sequent) (steps : List SatStep) → IsModel a cs → IsRefutation cs steps → ⊥
never_both a cs steps m = never_refuted a cs steps m.satisfied

-- so a search comes to the one that there is

pub model_found : (choose : Choice) (cs : List Sequent) (a : FormulaSet) → list_all (satisfies a) cs ≡ true → (b : FormulaSet) × (decide choose cs ≡ model b)
model_found choose cs a all = elim (decide choose cs) as (λ r. IsAnswer cs r → (b : FormulaSet) × (r ≡ model b)) [
  | model b ↦ λ _. (b, refl)
  | refuting steps ↦ λ is. absurd (never_refuted a cs steps all is)
] (answered choose cs)

pub refutation_found : (choose : Choice) (cs : List Sequent) (steps : List SatStep) → IsRefutation cs steps → (found : List SatStep) × (decide choose cs ≡ refuting found)
refutation_found choose cs steps is = elim (decide choose cs) as (λ r. IsAnswer cs r → (found : List SatStep) × (r ≡ refuting found)) [
  | model a ↦ λ m. absurd (never_both a cs steps m is)
  | refuting found ↦ λ _. (found, refl)
] (answered choose cs)

-- the atoms of a derived clause stand in the clauses

abbrev pub IsOwn : List Sequent → Sequent → Type 0
IsOwn cs c = (f : Formula) → (set.has c.left f || set.has c.right f) ≡ true → occurs cs f ≡ true

own_resolvent : (cs : List Sequent) (p n : Sequent) (a : Formula) → IsOwn cs p → IsOwn cs n → IsOwn cs (resolvent p n a)
own_resolvent cs p n a first second f = either (set.has (resolvent p n a).left f) (set.has (resolvent p n a).right f)
    (in_either p.left (without n.left a) f
    (λ m. first f (or_first (set.has p.left f) (set.has p.right f) m))
    (λ m. second f (or_first (set.has n.left f) (set.has n.right f) (kept n.left a f m).1)))
    (in_either (without p.right a) n.right f
    (λ m. first f (or_second (set.has p.left f) (set.has p.right f) (kept p.right a f m).1))
    (λ m. second f (or_second (set.has n.left f) (set.has n.right f) m)))

module _ (cs : List Sequent) (f : Formula) where
  own_step : (ds : List Sequent) → Each (IsOwn cs) ds → (step : SatStep) (d : Sequent) → derives cs ds step ≡ Ok d → IsOwn cs d
  own_step ds h step d is = of_step cs (IsOwn cs) (λ j c at g. occurs_at cs j c g at) (λ a p n _ _. own_resolvent cs p n a) ds h step d is

  by_parents : (ds : List Sequent) → Each (IsOwn cs) ds → (i j : ℕ) (a : Formula) (o q : Option Sequent) (d : Sequent) → slice_get ds i ≡ o
      → referred o (λ p. referred q (λ n. resolved_on a p n)) ≡ Ok d → eq_by_cmp formula_cmp f a ≡ true → occurs cs f ≡ true
  by_parents ds h i j a None q d first is same = cc
  by_parents ds h i j a (Some p) None d first is same = cc
  by_parents ds h i j a (Some p) (Some n) d first is same =
      elim (set.has p.right a && set.has n.left a) as (λ b. (set.has p.right a && set.has n.left a) ≡ b → (if b then Ok (resolvent p n a) else Err AtomMissing) ≡ Ok d → occurs cs f ≡ true) [
        | true ↦ λ e _. ap (occurs cs) (equal f a same) ∙ h i p first a (or_second (set.has p.left a) (set.has p.right a) (and_parts (set.has p.right a) (set.has n.left a) e).0)
        | false ↦ λ e no. cc
      ] refl is

  named_step : (ds : List Sequent) → Each (IsOwn cs) ds → (step : SatStep) (d : Sequent) → derives cs ds step ≡ Ok d → names f step ≡ true → occurs cs f ≡ true
  named_step ds h (Input i) d is named = cc
  named_step ds h (Resolve i j a) d is named = by_parents ds h i j a (slice_get ds i) (slice_get ds j) d refl is named

  named_more : (ds : List Sequent) → Each (IsOwn cs) ds → (i : ℕ) (step : SatStep) (rest : List SatStep) (out : List Sequent)
      → ((d : Sequent) → Each (IsOwn cs) (ds ++ d ∷ []) → derives_all cs (ds ++ d ∷ []) (suc i) rest ≡ Ok out → list_any (names f) rest ≡ true → occurs cs f ≡ true)
      → (r : Result Sequent ResCause) → derives cs ds step ≡ r → and_on i r (λ d. derives_all cs (ds ++ d ∷ []) (suc i) rest) ≡ Ok out → (names f step || list_any (names f) rest) ≡ true → occurs cs f ≡ true
  named_more ds h i step rest out later (Ok d) given is named =
      either (names f step) (list_any (names f) rest) (named_step ds h step d given) (later d (each_pushed (IsOwn cs) ds d h (own_step ds h step d given)) is) named
  named_more ds h i step rest out later (Err cause) given is named = cc

  named : (ds : List Sequent) → Each (IsOwn cs) ds → (i : ℕ) (steps : List SatStep) (out : List Sequent) → derives_all cs ds i steps ≡ Ok out → list_any (names f) steps ≡ true → occurs cs f ≡ true
  named ds h i [] out is one = cc
  named ds h i (step ∷ rest) out is one = named_more ds h i step rest out (λ d more. named (ds ++ d ∷ []) more (suc i) rest out) (derives cs ds step) refl is one

  -- a refutation resolves on atoms of the clauses alone
  pub own_atoms : (steps : List SatStep) → IsRefutation cs steps → list_any (names f) steps ≡ true → occurs cs f ≡ true
  own_atoms steps is one = let d = derivation cs steps is in named [] (nothing_yet (IsOwn cs)) 0 steps d.clauses d.derived one
