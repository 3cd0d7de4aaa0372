-- Full resolvents of clauses that are subsumed, and of tautologies.
use Rattle.std.proofs.Common.{◌≡◌, true, false, sym, ap, subst, ◌∙◌, ◌⊎◌, inl, inr}
use Rattle.std.specs.Ordering.{eq_by_cmp}
use Rattle.fol.specs.Syntax.{Formula}
use Rattle.fol.specs.Order.{formula_cmp}
use Rattle.finite.specs.Finite as set
use Rattle.finite.proofs.Finite.{has-empty}
use Rattle.std.proofs.lemmas.Bool.{false≢true}
use Rattle.substitution.specs.Image.{image}
use Rattle.lk_rules.specs.declared.sequent.Sequent.{Sequent}
use Rattle.lk_rules.specs.Formulas.{FormulaSet, image_set}
use Rattle.lk_rules.specs.Sequents.{empty, IsSubsequent, image_sequent}
use Rattle.proof_trees.specs.FormulaSets.{is_atom}
use Rattle.proof_trees.proofs.FormulaSets.{equal, same_sets}
use Rattle.proof_trees.proofs.Members.{image_member}
use Rattle.refutations.specs.Refutations.{resolvent}
use Rattle.unify_laws.proofs.Images.{split}
use Rattle.clause_laws.specs.Subsumption.{Subsumes, IsVariant, IsTautology}
use Rattle.clause_laws.specs.Apart.{first_apart, second_apart, on_each}
use Rattle.clause_laws.specs.Resolvents.{IsFullResolvent, SubsumedByPair}
use Rattle.clause_laws.proofs.Sets.{Replacing}
use Rattle.clause_laws.proofs.Sequents.{left_of_first, left_of_second, right_of_first, right_of_second}
use Rattle.clause_laws.proofs.Subsuming.{subsumes_image, subsumes_more, subsumes_itself, subsumes_both, tautology_subsumed, variant_subsumed, variant_subsumes}
use Rattle.clause_laws.proofs.RenamedApart.{first_variant, second_variant, apart, image_first, image_second}
use Rattle.clause_laws.proofs.Lifting.{ByResolvent, by_cases}

-- of clauses renamed apart, as of the clauses
as_full : (c d r : Sequent) → Subsumes (image_sequent first_apart c) r ⊎ (Subsumes (image_sequent second_apart d) r ⊎ ByResolvent (image_sequent first_apart c) (image_sequent second_apart d) r) → SubsumedByPair c d r
as_full c d r (inl h) = inl (subsumes_both c (image_sequent first_apart c) r (subsumes_image first_apart c) h)
as_full c d r (inr (inl h)) = inr (inl (subsumes_both d (image_sequent second_apart d) r (subsumes_image second_apart d) h))
as_full c d r (inr (inr h)) = inr (inr (record {
  resolvent = h.resolvent;
  full = record {
    first = image_sequent first_apart c;
    second = image_sequent second_apart d;
    first_variant = first_variant c;
    second_variant = second_variant d;
    apart = apart c d;
    resolves = h.resolves;
  };
  subsumes = h.subsumes;
}))

-- the map from a clause renamed apart
from_apart : (c p x : Sequent) → IsVariant c p → Subsumes c x → Subsumes p x
from_apart c p x v h = subsumes_both p c x (variant_subsumes c p v) h

pub lifted : (c d x y : Sequent) (a : Formula) → is_atom a ≡ true → Subsumes c x → Subsumes d y → SubsumedByPair c d (resolvent x y a)
lifted c d x y a is one two =
    let p = image_sequent first_apart c in
    let n = image_sequent second_apart d in
    let first = from_apart c p x (first_variant c) one in
    let second = from_apart d n y (second_variant d) two in
    as_full c d (resolvent x y a)
    (by_cases (on_each p first.map second.map) p n x y a is
    (subst (λ (s : Sequent). IsSubsequent s x) (sym (image_first p first.map second.map)) first.within)
    (subst (λ (s : Sequent). IsSubsequent s y) (sym (image_second p first.map second.map n (apart c d))) second.within))

-- the parts of a full resolvent

module _ (c d r : Sequent) (h : IsFullResolvent c d r) where
  abbrev pub first_part : Sequent
  first_part = image_sequent h.resolves.unifier h.first

  abbrev pub second_part : Sequent
  second_part = image_sequent h.resolves.unifier h.second

  pub subsumes_first : (e : Sequent) → Subsumes e c → Subsumes e first_part
  subsumes_first e g = subsumes_both e c first_part g (subsumes_both c h.first first_part (variant_subsumed c h.first h.first_variant) (subsumes_image h.resolves.unifier h.first))

  pub subsumes_second : (e : Sequent) → Subsumes e d → Subsumes e second_part
  subsumes_second e g = subsumes_both e d second_part g (subsumes_both d h.second second_part (variant_subsumed d h.second h.second_variant) (subsumes_image h.resolves.unifier h.second))

pub central : (c d e f r : Sequent) → Subsumes d c → Subsumes e f → IsFullResolvent c f r → SubsumedByPair d e r
central c d e f r one two h =
    subst (SubsumedByPair d e) (sym h.resolves.is)
    (lifted d e (first_part c f r h) (second_part c f r h) h.resolves.atom h.resolves.of_atoms (subsumes_first c f r h d one) (subsumes_second c f r h e two))

-- tautologies

member_or_other : {P : Type 0} (a q : Formula) → (a ≡ q → P) → (eq_by_cmp formula_cmp a q ≡ false → P) → P
member_or_other a q same other = split (eq_by_cmp formula_cmp a q) (λ e. same (equal a q e)) other

pub first_tautology : (x y : Sequent) (a : Formula) → IsTautology x → IsTautology (resolvent x y a) ⊎ IsSubsequent y (resolvent x y a)
first_tautology x y a t =
    member_or_other a t.atom
    (λ same. inr (record {
      left = λ q e. member_or_other a q
          (λ here. left_of_first x y a q (ap (set.has x.left) (sym here ∙ same) ∙ t.on_left))
          (left_of_second x y a q e);
      right = λ q e. right_of_second x y a q e;
    }))
    (λ other. inl (record { atom = t.atom; on_left = left_of_first x y a t.atom t.on_left; on_right = right_of_first x y a t.atom t.on_right other }))

pub second_tautology : (x y : Sequent) (a : Formula) → IsTautology y → IsTautology (resolvent x y a) ⊎ IsSubsequent x (resolvent x y a)
second_tautology x y a t =
    member_or_other a t.atom
    (λ same. inr (record {
      left = λ q e. left_of_first x y a q e;
      right = λ q e. member_or_other a q
          (λ here. right_of_second x y a q (ap (set.has y.right) (sym here ∙ same) ∙ t.on_right))
          (right_of_first x y a q e);
    }))
    (λ other. inl (record { atom = t.atom; on_left = left_of_second x y a t.atom t.on_left other; on_right = right_of_second x y a t.atom t.on_right }))

either_of : {A B C : Type 0} → (B → C) → A ⊎ B → A ⊎ C
either_of f (inl a) = inl a
either_of f (inr b) = inr (f b)

pub full_first_tautology : (c d r : Sequent) → IsTautology c → IsFullResolvent c d r → IsTautology r ⊎ Subsumes d r
full_first_tautology c d r t h =
    let x = first_part c d r h in
    let y = second_part c d r h in
    subst (λ (s : Sequent). IsTautology s ⊎ Subsumes d s) (sym h.resolves.is)
    (either_of (subsumes_more d y (resolvent x y h.resolves.atom) (subsumes_second c d r h d (subsumes_itself d)))
    (first_tautology x y h.resolves.atom (tautology_subsumed c x (subsumes_first c d r h c (subsumes_itself c)) t)))

pub full_second_tautology : (c d r : Sequent) → IsTautology d → IsFullResolvent c d r → IsTautology r ⊎ Subsumes c r
full_second_tautology c d r t h =
    let x = first_part c d r h in
    let y = second_part c d r h in
    subst (λ (s : Sequent). IsTautology s ⊎ Subsumes c s) (sym h.resolves.is)
    (either_of (subsumes_more c x (resolvent x y h.resolves.atom) (subsumes_first c d r h c (subsumes_itself c)))
    (second_tautology x y h.resolves.atom (tautology_subsumed d y (subsumes_second c d r h d (subsumes_itself d)) t)))

-- the empty clause is subsumed by itself alone, and is no tautology

empty_from : (m : Replacing) (s : FormulaSet) → set.IsSubset (image_set m s) set.empty → s ≡ set.empty
empty_from m s within =
    same_sets s set.empty
    (λ q e. absurd (false≢true (sym (has-empty formula_cmp (image m q)) ∙ within (image m q) (image_member m s q e))))
    (λ q e. absurd (false≢true (sym (has-empty formula_cmp q) ∙ e)))

pub subsumes_empty : (c : Sequent) → Subsumes c empty → c ≡ empty
subsumes_empty c h = λ i. record { left = empty_from h.map c.left h.within.left i; right = empty_from h.map c.right h.within.right i }

pub empty_not_tautology : IsTautology empty → ⊥
empty_not_tautology t = false≢true (sym (has-empty formula_cmp t.atom) ∙ t.on_left)
