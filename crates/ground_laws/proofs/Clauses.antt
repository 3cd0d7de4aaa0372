-- Which clauses hold where some atoms are true, and resolvents among them.
use Rattle.std.proofs.Common.{◌≡◌, Bool, true, false, not as negated, ◌||◌, ◌&&◌, List, [], ◌∷◌, filter, refl, sym, ap, ◌∙◌}
use Rattle.std.specs.List.{list_any}
use Rattle.std.specs.Ordering.{eq_by_cmp}
use Rattle.std.proofs.lemmas.Bool.{both_ways, or_parts, or_from, and_parts, not_from_true, true_from_ne_false}
use Rattle.std.proofs.lemmas.Map.Views.{any-filter_same}
use Rattle.fol.specs.Syntax.{Formula}
use Rattle.fol.specs.Order.{formula_cmp}
use Rattle.fol.specs.OrderLaws.{formula_total}
use Rattle.finite.specs.Finite as set
use Rattle.finite.proofs.Finite.{has-listing, has-empty, has-adds, has-adds_each}
use Rattle.lk_rules.specs.declared.sequent.Sequent.{Sequent}
use Rattle.lk_rules.specs.declared.sequent.Side.TheVariants.{Left, Right}
use Rattle.lk_rules.specs.Formulas.{FormulaSet}
use Rattle.lk_rules.specs.Sequents.{empty, adds_to, is_subsequent, IsSubsequent}
use Rattle.lk_rules.proofs.Subsequents.{is_subsequent_of}
use Rattle.proof_trees.proofs.Booleans.{or_first, or_second, either}
use Rattle.proof_trees.specs.FormulaSets.{without}
use Rattle.refutations.specs.Refutations.{resolvent}
use Rattle.proof_trees.proofs.FormulaSets.{equal, tied, same_sets, in_first, in_second, in_either, without_member}
use Rattle.ground_laws.specs.Models.{satisfies}

pub split : {P : Type 0} (b : Bool) → (b ≡ true → P) → (b ≡ false → P) → P
split true f g = f refl
split false f g = g refl

-- lists of which no formula passes

abbrev pub among : List Formula → Formula → Bool
among fs f = list_any (eq_by_cmp formula_cmp f) fs

one_fails : (p : Formula → Bool) (fs : List Formula) (f : Formula) → list_any p fs ≡ false → among fs f ≡ true → p f ≡ false
one_fails p [] f none m = cc
one_fails p (g ∷ gs) f none m =
    let parts = or_parts (p g) (list_any p gs) none in
    either (eq_by_cmp formula_cmp f g) (among gs f) (λ e. ap p (equal f g e) ∙ parts.0) (one_fails p gs f parts.1) m

none_pass : (p : Formula → Bool) (fs : List Formula) → ((f : Formula) → among fs f ≡ true → p f ≡ false) → list_any p fs ≡ false
none_pass p [] each = refl
none_pass p (f ∷ fs) each =
    or_from (p f) (list_any p fs) (each f (or_first (eq_by_cmp formula_cmp f f) (among fs f) (tied f f refl)))
    (none_pass p fs (λ g m. each g (or_second (eq_by_cmp formula_cmp g f) (among fs g) m)))

-- a clause that does not hold has true atoms alone on the left, and false ones alone on the right
pub record IsFalse (a : FormulaSet) (c : Sequent) : Type 0 where
  pub left : (f : Formula) → set.has c.left f ≡ true → set.has a f ≡ true
  pub right : (f : Formula) → set.has c.right f ≡ true → set.has a f ≡ false

not_false : (b : Bool) → negated b ≡ false → b ≡ true
not_false true e = refl
not_false false e = cc

pub false_of : (a : FormulaSet) (c : Sequent) → satisfies a c ≡ false → IsFalse a c
false_of a c e =
    let parts = or_parts (list_any (λ f. negated (set.has a f)) (set.listing c.left)) (list_any (set.has a) (set.listing c.right)) e in
    record {
      left = λ f m. not_false (set.has a f) (one_fails (λ g. negated (set.has a g)) (set.listing c.left) f parts.0 (sym (has-listing c.left f) ∙ m));
      right = λ f m. one_fails (set.has a) (set.listing c.right) f parts.1 (sym (has-listing c.right f) ∙ m);
    }

pub of_false : (a : FormulaSet) (c : Sequent) → IsFalse a c → satisfies a c ≡ false
of_false a c h =
    or_from (list_any (λ f. negated (set.has a f)) (set.listing c.left)) (list_any (set.has a) (set.listing c.right))
    (none_pass (λ g. negated (set.has a g)) (set.listing c.left) (λ f m. not_from_true (set.has a f) (h.left f (has-listing c.left f ∙ m))))
    (none_pass (set.has a) (set.listing c.right) (λ f m. h.right f (has-listing c.right f ∙ m)))

-- the empty clause holds nowhere
pub empty_fails : (a : FormulaSet) → satisfies a empty ≡ false
empty_fails a = of_false a empty (record {
  left = λ f m. absurd (both_ways (set.has (set.empty {R = formula_cmp}) f) (has-empty formula_cmp f) m);
  right = λ f m. absurd (both_ways (set.has (set.empty {R = formula_cmp}) f) (has-empty formula_cmp f) m);
})

-- a set without a formula

-- what stays was a member, and is another formula
pub kept : (s : FormulaSet) (a f : Formula) → set.has (without s a) f ≡ true → (negated (eq_by_cmp formula_cmp a f) ≡ true) × (set.has s f ≡ true)
kept s a f m =
    let others = filter (λ g. negated (eq_by_cmp formula_cmp a g)) (set.listing s) in
    let both : (negated (eq_by_cmp formula_cmp a f) && among (set.listing s) f) ≡ true =
    sym (any-filter_same (eq_by_cmp formula_cmp f) (λ g. negated (eq_by_cmp formula_cmp a g)) (negated (eq_by_cmp formula_cmp a f)) (λ g e. ap (λ h. negated (eq_by_cmp formula_cmp a h)) (sym (equal f g e))) (set.listing s))
    ∙ sym (ap (λ b. b || among others f) (has-empty formula_cmp f)) ∙ sym (has-adds_each formula_total set.empty others f) ∙ m in
    let parts = and_parts (negated (eq_by_cmp formula_cmp a f)) (among (set.listing s) f) both in
    (parts.0, has-listing s f ∙ parts.1)

-- where a resolvent is false, so is one of the two clauses, by the value of the atom
module _ (a : FormulaSet) (p n : Sequent) (x : Formula) (h : IsFalse a (resolvent p n x)) where
  positive_false : set.has a x ≡ false → IsFalse a p
  positive_false out = record {
    left = λ f m. h.left f (in_first p.left (without n.left x) f m);
    right = λ f m. split (eq_by_cmp formula_cmp x f)
        (λ e. ap (set.has a) (sym (equal x f e)) ∙ out)
        (λ e. h.right f (in_first (without p.right x) n.right f (without_member p.right x f m e)));
  }

  negative_false : set.has a x ≡ true → IsFalse a n
  negative_false is = record {
    left = λ f m. split (eq_by_cmp formula_cmp x f)
        (λ e. ap (set.has a) (sym (equal x f e)) ∙ is)
        (λ e. h.left f (in_second p.left (without n.left x) f (without_member n.left x f m e)));
    right = λ f m. h.right f (in_second (without p.right x) n.right f m);
  }

-- so it holds where both do
pub resolvent_holds : (a : FormulaSet) (p n : Sequent) (x : Formula) → satisfies a p ≡ true → satisfies a n ≡ true → satisfies a (resolvent p n x) ≡ true
resolvent_holds a p n x first second = true_from_ne_false (satisfies a (resolvent p n x)) (λ e.
    let h = false_of a (resolvent p n x) e in
    split (set.has a x)
    (λ is. both_ways (satisfies a n) (of_false a n (negative_false a p n x h is)) second)
    (λ out. both_ways (satisfies a p) (of_false a p (positive_false a p n x h out)) first))

-- clauses that are false where some atoms have values

-- a member of a set with one more
old_member : (s : FormulaSet) (x f : Formula) → set.has (set.adds s x) f ≡ true → negated (eq_by_cmp formula_cmp x f) ≡ true → set.has s f ≡ true
old_member s x f m apart = either (eq_by_cmp formula_cmp f x) (set.has s f)
    (λ e. absurd (both_ways (negated (eq_by_cmp formula_cmp x f)) (not_from_true (eq_by_cmp formula_cmp x f) (tied x f (sym (equal f x e)))) apart))
    (λ m. m)
    (sym (has-adds formula_total s x f) ∙ m)

module _ (r : Sequent) (x : Formula) where
  -- the resolvent of clauses of which the one is false with the atom true, the other with the atom false
  pub resolvent_false : (p n : Sequent) → IsSubsequent n (adds_to r Left x) → IsSubsequent p (adds_to r Right x) → IsSubsequent (resolvent p n x) r
  resolvent_false p n h g = record {
    left = λ f. in_either p.left (without n.left x) f (g.left f) (λ m. let k = kept n.left x f m in old_member r.left x f (h.left f k.1) k.0);
    right = λ f. in_either (without p.right x) n.right f (λ m. let k = kept p.right x f m in old_member r.right x f (g.right f k.1) k.0) (h.right f);
  }

  apart_from : (s : FormulaSet) (f : Formula) → set.has s x ≡ false → set.has s f ≡ true → negated (eq_by_cmp formula_cmp x f) ≡ true
  apart_from s f out m = split (eq_by_cmp formula_cmp x f)
      (λ e. absurd (both_ways (set.has s x) out (ap (set.has s) (equal x f e) ∙ m)))
      (λ e. ap negated e)

  -- a clause without the atom on that side is false before
  pub false_without_left : (c : Sequent) → IsSubsequent c (adds_to r Left x) → set.has c.left x ≡ false → IsSubsequent c r
  false_without_left c h out = record { left = λ f m. old_member r.left x f (h.left f m) (apart_from c.left f out m); right = h.right }

  pub false_without_right : (c : Sequent) → IsSubsequent c (adds_to r Right x) → set.has c.right x ≡ false → IsSubsequent c r
  false_without_right c h out = record { left = h.left; right = λ f m. old_member r.right x f (h.right f m) (apart_from c.right f out m) }

-- a clause that is false where no atom has a value is empty
pub false_at_start : (c : Sequent) → IsSubsequent c empty → c ≡ empty
false_at_start c h = λ i. record {
  left = same_sets c.left set.empty h.left (λ f m. absurd (both_ways (set.has (set.empty {R = formula_cmp}) f) (has-empty formula_cmp f) m)) i;
  right = same_sets c.right set.empty h.right (λ f m. absurd (both_ways (set.has (set.empty {R = formula_cmp}) f) (has-empty formula_cmp f) m)) i;
}

-- a clause whose positive atoms have values holds with just the true atoms, unless it is false
pub holds_unless_false : (r c : Sequent) → is_subsequent c r ≡ false → ((f : Formula) → set.has c.right f ≡ true → (set.has r.left f || set.has r.right f) ≡ true) → satisfies r.left c ≡ true
holds_unless_false r c other valued = true_from_ne_false (satisfies r.left c) (λ e.
    let h = false_of r.left c e in
    both_ways (is_subsequent c r) other (is_subsequent_of c r (record {
      left = h.left;
      right = λ f m. either (set.has r.left f) (set.has r.right f) (λ is. absurd (both_ways (set.has r.left f) (h.right f m) is)) (λ is. is) (valued f m);
    })))
