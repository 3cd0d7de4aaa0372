-- The first formula that is in just one of two sequents, and what it means that there is none.
use Rattle.std.proofs.Common.{◌≡◌, Bool, true, false, ◌&&◌, ◌||◌, not, List, None, refl, sym, ap, ◌∙◌}
use Rattle.std.specs.Prelude.{◌↔◌}
use Rattle.std.specs.List.{list_any}
use Rattle.std.specs.Ordering.{eq_by_cmp}
use Rattle.fol.specs.Syntax.{Formula}
use Rattle.fol.specs.Order.{formula_cmp}
use Rattle.fol.specs.OrderLaws.{formula_total}
use Rattle.fol.proofs.OrderTies.{formula_ties}
use Rattle.finite.specs.Finite as set
use Rattle.finite.proofs.Finite.{has-listing, same_members}
use Rattle.free_variables.specs.Union.{union_of}
use Rattle.lk_rules.specs.declared.sequent.Sequent.{Sequent}
use Rattle.lk_rules.specs.Formulas.{FormulaSet}
use Rattle.step_laws.specs.Faults.{on_sides}
use Rattle.step_laws.proofs.Found.{find_none, none_found, sides_none}
use Rattle.proof_trees.proofs.Passing.{passes, one_passes}
use Rattle.proof_trees.proofs.FormulaSets.{has-union}
use Rattle.interp_laws.specs.Interpolating.{first_outside, first_difference}

module _ (a b : FormulaSet) where
  abbrev outside : Formula → Bool
  outside f = not (set.has a f && set.has b f)

  among_union : (f : Formula) → list_any (eq_by_cmp formula_cmp f) (set.listing (union_of a b)) ≡ (set.has a f || set.has b f)
  among_union f = sym (has-listing (union_of a b) f) ∙ has-union a b f

  in_both : first_outside a b ≡ None → (f : Formula) → (set.has a f || set.has b f) ≡ true → (set.has a f && set.has b f) ≡ true
  in_both none f h =
      elim (set.has a f && set.has b f) as (λ v. (set.has a f && set.has b f) ≡ v → v ≡ true) [
        | true ↦ λ e. refl
        | false ↦ λ e.
            let out : outside f ≡ true = ap not e in
            let some = passes formula_total formula_ties outside f (set.listing (union_of a b)) (among_union f ∙ h) out in
            let nothing = find_none outside (set.listing (union_of a b)) none in
            absurd (cc)
      ] refl

  alike : (x y : Bool) → ((x || y) ≡ true → (x && y) ≡ true) → x ≡ y
  alike true true h = refl
  alike true false h = sym (h refl)
  alike false true h = h refl
  alike false false h = refl

  pub same_where_none : first_outside a b ≡ None → a ≡ b
  same_where_none none = same_members formula_total formula_ties a b (λ f. alike (set.has a f) (set.has b f) (in_both none f))

-- no formula is in just one of two equal sets
one_of_two : (x : Bool) → (x || x) ≡ true → not (x && x) ≡ false
one_of_two true h = refl
one_of_two false h = cc

none_outside : (a : FormulaSet) → first_outside a a ≡ None
none_outside a =
    none_found (outside a a) fs (
    elim (list_any (outside a a) fs) as (λ v. list_any (outside a a) fs ≡ v → v ≡ false) [
      | true ↦ λ e.
          let one = one_passes formula_total formula_ties (outside a a) fs e in
          let inside = one_of_two (set.has a one.0) (sym (among_union a a one.0) ∙ one.1) in
          let out = one.2 in
          absurd (cc)
      | false ↦ λ e. refl
    ] refl)
  where
    fs : List Formula
    fs = set.listing (union_of a a)

-- nothing is found exactly where two sequents are equal
pub equal_found : (s t : Sequent) → (first_difference s t ≡ None) ↔ (s ≡ t)
equal_found s t = (
  λ h. let both = sides_none (first_outside s.left t.left) (first_outside s.right t.right) h in
      λ i. record { left = same_where_none s.left t.left both.0 i; right = same_where_none s.right t.right both.1 i },
  λ e. ap (λ (u : Sequent). first_difference s u) (sym e) ∙ λ i. on_sides (none_outside s.left i) (none_outside s.right i),
)
