-- What a step derives, by the numbers of the clauses before it.
use Rattle.std.proofs.Common.{◌≡◌, ℕ, zero, suc, Bool, true, false, List, [], ◌∷◌, map, length, get_or, nat_eq, ◌<◌, refl, sym, ap, subst, ◌∙◌, arith}
use Rattle.std.specs.Prelude.{Option, Some, None, slice_get, Result, Ok}
use Rattle.std.specs.FinMap as fin
use Rattle.std.proofs.lemmas.Bool.Decides.{nat_tests}
use Rattle.std.proofs.lemmas.Option.{slice_get-get_or}
use Rattle.fol.specs.Syntax.{Formula}
use Rattle.substitution.specs.Maps.{Map}
use Rattle.lk_rules.specs.declared.sequent.Sequent.{Sequent}
use Rattle.lk_rules.specs.Sequents.{empty, same_sequents, image_sequent}
use Rattle.lk_rules.proofs.Subsequents.{sequents_equality_same}
use Rattle.arena_cells.specs.Items.{Item, sequent}
use Rattle.arena_cells.specs.Standing.{HasSequent, sequent_at, IsDistinct}
use Rattle.arena_cells.proofs.Staying.{is_sequent}
use Rattle.refutations.specs.declared.clause.Clause.{Clause}
use Rattle.refutations.specs.declared.step.ResStep.TheVariants.{Subst, Resolve}
use Rattle.refutations.specs.DerivedSteps.{image_of}
use Rattle.refutations.specs.Refutations.{Derived, referred, of_resolution, derives}
use Rattle.arena_refutations.specs.declared.faults.StepFault.{StepFault}
use Rattle.arena_refutations.specs.Importing.{FindsClause}

-- an element is found at its place
pub found : {X : Type 0} (xs : List X) (i : ℕ) (x : X) → i < length xs → x ≡ get_or xs i x → slice_get xs i ≡ Some x
found xs i x within is = slice_get-get_or xs i x within ∙ ap Some (sym is)

-- an earlier clause
pub record IsEarlier (ds : List Derived) (k : ℕ) (s : Sequent) : Type 0 where
  pub derived : Derived
  pub at : slice_get ds k ≡ Some derived
  pub clause : derived.clause ≡ s

module _ (f : ℕ → Sequent) where
  pub earlier : (ns : List ℕ) (ds : List Derived) (k n : ℕ) → map f ns ≡ map (λ d. d.clause) ds → slice_get ns k ≡ Some n → IsEarlier ds k (f n)
  earlier [] ds k n same at = cc
  earlier (m ∷ ns) [] k n same at = cc
  earlier (m ∷ ns) (d ∷ ds) zero n same at = record { derived = d; at = refl; clause = cc }
  earlier (m ∷ ns) (d ∷ ds) (suc k) n same at = let rest : map f ns ≡ map (λ e. e.clause) ds = cc in let w = earlier ns ds k n rest at in record { derived = w.derived; at = w.at; clause = w.clause }

  pub no_earlier : (ns : List ℕ) (ds : List Derived) (k : ℕ) → map f ns ≡ map (λ d. d.clause) ds → slice_get ns k ≡ None → slice_get ds k ≡ None
  no_earlier [] [] k same at = refl
  no_earlier [] (d ∷ ds) k same at = cc
  no_earlier (m ∷ ns) [] k same at = cc
  no_earlier (m ∷ ns) (d ∷ ds) zero same at = cc
  no_earlier (m ∷ ns) (d ∷ ds) (suc k) same at = let rest : map f ns ≡ map (λ e. e.clause) ds = cc in no_earlier ns ds k rest at

module _ (a : List Item) (cs : List Clause) (g : Sequent) (ds : List Derived) (s : Sequent) where
  -- the image of an earlier clause
  pub image_found : (k : ℕ) (m : Map) (n : ℕ) → IsEarlier ds k s → HasSequent a n (image_sequent (fin.get m) s) → FindsClause a (Ok n) (derives cs g ds (Subst k m))
  image_found k m n w h =
      subst (λ (o : Option Derived). FindsClause a (Ok n) (referred o (λ d. Ok (image_of m d)))) (sym w.at)
      (subst (λ (t : Sequent). HasSequent a n (image_sequent (fin.get m) t)) (sym w.clause) h)

  -- the resolvent of earlier clauses
  pub resolvent_found : (t : Sequent) (j k : ℕ) (b : Formula) (r : Result ℕ StepFault) → IsEarlier ds j s → IsEarlier ds k t
      → ((p n : Derived) → p.clause ≡ s → n.clause ≡ t → FindsClause a r (of_resolution g p n b)) → FindsClause a r (derives cs g ds (Resolve j k b))
  resolvent_found t j k b r first second h =
      subst (λ (o : Option Derived). FindsClause a r (referred o (λ p. referred (slice_get ds k) (λ n. of_resolution g p n b)))) (sym first.at)
      (subst (λ (o : Option Derived). FindsClause a r (referred o (λ n. of_resolution g first.derived n b))) (sym second.at) (h first.derived second.derived first.clause second.clause))

-- two numbers are equal exactly where a test says so
number_test : (m n : ℕ) (b : Bool) → (b ≡ true → m ≡ n) → (m ≡ n → b ≡ true) → nat_eq m n ≡ b
number_test m n true f g = let same : m ≡ n = f refl in grind (arith, nat_tests)
number_test m n false f g = let apart : m ≡ n → ⊥ = λ e. let is : false ≡ true = g e in cc in grind (arith, nat_tests, apart)

pub nothing_tested : (a : List Item) → IsDistinct a → (m n : ℕ) (s : Sequent) → HasSequent a m s → HasSequent a n empty → nat_eq m n ≡ same_sequents s empty
nothing_tested a distinct m n s first second =
    let tested = sequents_equality_same s empty (same_sequents s empty) refl in
    number_test m n (same_sequents s empty) (λ e. distinct m n (sequent empty) (first ∙ ap (λ t. Some (sequent t)) (tested.0 e)) second)
    (λ e. tested.1 (sym (is_sequent a m s first) ∙ ap (sequent_at a) e ∙ is_sequent a n empty second))
