-- What the unifier of some atoms is, and that there is none only where there is none.
use Rattle.std.proofs.Common.{◌≡◌, Bool, true, false, if◌then◌else◌, List, [], ◌∷◌, Option, Some, None, refl, sym, ap, subst, ◌∙◌}
use Rattle.std.specs.List.{list_all}
use Rattle.std.specs.Ordering.{eq_by_cmp}
use Rattle.std.specs.FinMap as fin
use Rattle.std.proofs.lemmas.Bool.{false≢true}
use Rattle.fol.specs.Syntax.{Term, app, Pred, pred_symbol, Formula, atom}
use Rattle.fol.specs.Order.{pred_cmp, formula_cmp}
use Rattle.fol.proofs.OrderTies.{pred_equality_same}
use Rattle.substitution.specs.Image.{image_term, image_terms, image}
use Rattle.substitution.specs.Maps.{Map}
use Rattle.substitution.proofs.ImageLaws.{image-empty_term}
use Rattle.proof_trees.specs.FormulaSets.{is_atom}
use Rattle.proof_trees.proofs.Booleans.{or_first, or_second, either}
use Rattle.proof_trees.proofs.FormulaSets.{equal, tied}
use Rattle.unify_laws.specs.Unification.{mgu}
use Rattle.unify_laws.proofs.EachSide.{Solves}
use Rattle.unify_laws.proofs.Unified.{most_general, none_there}
use Rattle.substitution.proofs.Booleans.{and_both, and_left, and_right}
use Rattle.clause_laws.specs.Unifiers.{term_of, same_predicate, equations, unifier}
use Rattle.clause_laws.proofs.Sets.{Replacing, is_in}

pub same_pred : (p q : Pred) → eq_by_cmp pred_cmp p q ≡ true → p ≡ q
same_pred p q = (pred_equality_same p q (eq_by_cmp pred_cmp p q) refl).0

-- two atoms

one_predicate : (h : Replacing) (f g : Formula) → is_atom f ≡ true → image h f ≡ image h g → same_predicate f g ≡ true
one_predicate h (atom p ts) (atom q us) is e = let same : p ≡ q = cc in (pred_equality_same p q (eq_by_cmp pred_cmp p q) refl).1 same
one_predicate h (atom p ts) g is e = cc
one_predicate h f g is e = cc

equal_terms : (h : Replacing) (f g : Formula) → same_predicate f g ≡ true → image h f ≡ image h g → image_term h (term_of f) ≡ image_term h (term_of g)
equal_terms h (atom p ts) (atom q us) one e =
    let same : p ≡ q = cc in
    let arguments : image_terms h ts ≡ image_terms h us = cc in
    λ i. app (pred_symbol (same i)) (arguments i)
equal_terms h (atom p ts) g one e = cc
equal_terms h f g one e = cc

equal_atoms : (h : Replacing) (f g : Formula) → same_predicate f g ≡ true → image_term h (term_of f) ≡ image_term h (term_of g) → image h f ≡ image h g
equal_atoms h (atom p ts) (atom q us) one e =
    let same : p ≡ q = same_pred p q one in
    let arguments : image_terms h ts ≡ image_terms h us = cc in
    λ i. atom (same i) (arguments i)
equal_atoms h (atom p ts) g one e = cc
equal_atoms h f g one e = cc

-- an atom and those of a list

one_predicate_each : (h : Replacing) (f : Formula) → is_atom f ≡ true → (gs : List Formula) → ((g : Formula) → is_in gs g ≡ true → image h f ≡ image h g) → list_all (same_predicate f) gs ≡ true
one_predicate_each h f is [] each = refl
one_predicate_each h f is (g ∷ gs) each =
    and_both (same_predicate f g) (list_all (same_predicate f) gs)
    (one_predicate h f g is (each g (or_first (eq_by_cmp formula_cmp g g) (is_in gs g) (tied g g refl))))
    (one_predicate_each h f is gs (λ k later. each k (or_second (eq_by_cmp formula_cmp k g) (is_in gs k) later)))

equal_terms_each : (h : Replacing) (f : Formula) (gs : List Formula) → list_all (same_predicate f) gs ≡ true → ((g : Formula) → is_in gs g ≡ true → image h f ≡ image h g) → Solves h (equations f gs)
equal_terms_each h f [] one each = tt
equal_terms_each h f (g ∷ gs) one each = (
  equal_terms h f g (and_left _ _ one) (each g (or_first (eq_by_cmp formula_cmp g g) (is_in gs g) (tied g g refl))),
  equal_terms_each h f gs (and_right (same_predicate f g) _ one) (λ k later. each k (or_second (eq_by_cmp formula_cmp k g) (is_in gs k) later)),
)

equal_atoms_each : (h : Replacing) (f : Formula) (gs : List Formula) → list_all (same_predicate f) gs ≡ true → Solves h (equations f gs) → (g : Formula) → is_in gs g ≡ true → image h f ≡ image h g
equal_atoms_each h f [] one all g e = cc
equal_atoms_each h f (k ∷ gs) one all g e =
    either (eq_by_cmp formula_cmp g k) (is_in gs g)
    (λ here. equal_atoms h f k (and_left _ _ one) all.0 ∙ ap (image h) (sym (equal g k here)))
    (equal_atoms_each h f gs (and_right (same_predicate f k) _ one) all.1 g)
    e

-- a map that makes each formula of a list the same one
abbrev pub MakesEach : Replacing → List Formula → Formula → Type 0
MakesEach h fs b = (f : Formula) → is_in fs f ≡ true → image h f ≡ b

pub record IsUnifierOf (fs : List Formula) (m : Map) : Type 0 where
  pub one : (f g : Formula) → is_in fs f ≡ true → is_in fs g ≡ true → image (fin.get m) f ≡ image (fin.get m) g
  pub general : (h : Replacing) (b : Formula) → MakesEach h fs b → (t : Term) → image_term h (image_term (fin.get m) t) ≡ image_term h t

abbrev pub IsRight : List Formula → Option Map → Type 0
IsRight fs None = (h : Replacing) (b : Formula) → MakesEach h fs b → ⊥
IsRight fs (Some m) = IsUnifierOf fs m

module _ (f : Formula) (gs : List Formula) where
  first_in : is_in (f ∷ gs) f ≡ true
  first_in = or_first (eq_by_cmp formula_cmp f f) (is_in gs f) (tied f f refl)

  later_in : (g : Formula) → is_in gs g ≡ true → is_in (f ∷ gs) g ≡ true
  later_in g e = or_second (eq_by_cmp formula_cmp g f) (is_in gs g) e

  with_first : (h : Replacing) (b : Formula) → MakesEach h (f ∷ gs) b → (g : Formula) → is_in gs g ≡ true → image h f ≡ image h g
  with_first h b each g e = each f first_in ∙ sym (each g (later_in g e))

  -- what all later ones equal, all do
  as_first : (h : Replacing) → ((g : Formula) → is_in gs g ≡ true → image h f ≡ image h g) → (g : Formula) → is_in (f ∷ gs) g ≡ true → image h f ≡ image h g
  as_first h each g e = either (eq_by_cmp formula_cmp g f) (is_in gs g) (λ here. ap (image h) (sym (equal g f here))) (each g) e

  by_mgu : list_all (same_predicate f) gs ≡ true → (o : Option Map) → mgu (equations f gs) ≡ o → IsRight (f ∷ gs) o
  by_mgu one None is = λ h b each. none_there (equations f gs) is h (equal_terms_each h f gs one (with_first h b each))
  by_mgu one (Some m) is =
      let right = most_general (equations f gs) m is in
      let same = equal_atoms_each (fin.get m) f gs one right.unifies in
      record {
        one = λ k g e d. sym (as_first (fin.get m) same k e) ∙ as_first (fin.get m) same g d;
        general = λ h b each. right.general h (equal_terms_each h f gs one (with_first h b each));
      }

  by_predicates : is_atom f ≡ true → (b : Bool) → list_all (same_predicate f) gs ≡ b → IsRight (f ∷ gs) (if b then mgu (equations f gs) else None)
  by_predicates is true one = by_mgu one (mgu (equations f gs)) refl
  by_predicates is false apart = λ h b each. false≢true (sym apart ∙ one_predicate_each h f is gs (with_first h b each))

pub unifier_right : (fs : List Formula) → ((f : Formula) → is_in fs f ≡ true → is_atom f ≡ true) → IsRight fs (unifier fs)
unifier_right [] atoms = record { one = λ f g e d. cc; general = λ h b each t. ap (image_term h) (image-empty_term t) }
unifier_right (f ∷ gs) atoms = by_predicates f gs (atoms f (first_in f gs)) (list_all (same_predicate f) gs) refl

-- the clauses of it

pub unifier_of : (fs : List Formula) → ((f : Formula) → is_in fs f ≡ true → is_atom f ≡ true) → (m : Map) → unifier fs ≡ Some m → IsUnifierOf fs m
unifier_of fs atoms m is = subst (IsRight fs) is (unifier_right fs atoms)

pub none_unifies : (fs : List Formula) → ((f : Formula) → is_in fs f ≡ true → is_atom f ≡ true) → unifier fs ≡ None → (h : Replacing) (b : Formula) → MakesEach h fs b → ⊥
none_unifies fs atoms is = subst (IsRight fs) is (unifier_right fs atoms)

-- where some map makes all one, a unifier is found
pub record IsUnified (fs : List Formula) : Type 0 where
  pub map : Map
  pub is : unifier fs ≡ Some map
  pub right : IsUnifierOf fs map

pub unified : (fs : List Formula) → ((f : Formula) → is_in fs f ≡ true → is_atom f ≡ true) → (h : Replacing) (b : Formula) → MakesEach h fs b → IsUnified fs
unified fs atoms h b each =
    elim (unifier fs) as (λ o. unifier fs ≡ o → IsRight fs o → IsUnified fs) [
      | None ↦ λ is none. absurd (none h b each)
      | Some m ↦ λ is right. record { map = m; is = is; right = right }
    ] refl (unifier_right fs atoms)
