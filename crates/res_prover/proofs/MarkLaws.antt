-- A clause has the marks of each clause that subsumes it.
use Rattle.std.proofs.Common.{◌≡◌, ◌==◌, ℕ, ◌-◌, Bool, true, false, if◌then◌else◌, List, [], ◌∷◌, refl, sym, ap, subst, ◌∙◌}
use Rattle.std.specs.Prelude.{bit_or, Option}
use Rattle.fol.specs.declared.symbols.Var.{Var}
use Rattle.fol.specs.Syntax.{Term, free, bound, app, Terms, nil, cons, Formula, atom, top, bot, not, and, or, imp, all, ex}
use Rattle.fol.specs.Mixing.{mixed}
use Rattle.fol.specs.Facts.{is_open, sym_fingerprint, pred_fingerprint, formula_fingerprint}
use Rattle.finite.specs.Finite as set
use Rattle.finite.proofs.Finite.{has-listing}
use Rattle.substitution.specs.Image.{image_term, image_terms, image}
use Rattle.substitution.proofs.Shut.{image-shut}
use Rattle.lk_rules.specs.declared.sequent.Sequent.{Sequent}
use Rattle.lk_rules.specs.Formulas.{FormulaSet, image_set}
use Rattle.std.specs.Ordering.{eq_by_cmp}
use Rattle.fol.specs.Order.{formula_cmp}
use Rattle.std.proofs.lemmas.Bool.{eq-eqb}
use Rattle.substitution.proofs.Booleans.{and_both}
use Rattle.proof_trees.proofs.Booleans.{or_first, or_second, either}
use Rattle.proof_trees.proofs.FormulaSets.{equal}
use Rattle.proof_trees.proofs.Members.{image_member}
use Rattle.clause_laws.specs.Subsumption.{Subsumes}
use Rattle.clause_laws.proofs.Sets.{is_in}
use Rattle.clause_laws.proofs.UnifiedSteps.{first_in}
use Rattle.res_prover.specs.Marks.{IsMaskWithin, bit_of, term_marks, terms_marks, whole_mark, atom_marks, side_marks, predicate_mark, is_marked_within, within_some, each_within_some}
use Rattle.res_prover.proofs.Masks.{mask_itself, mask_transitive, no_mask, within_left, within_right, both_within, alike_within}

abbrev Replacing : Type 0
Replacing = Var → Option Term

module _ (m : Replacing) where
  below_within : (b : Bool) (k x y : ℕ) → IsMaskWithin x y → IsMaskWithin (if b then k else bit_or k x) (if b then k else bit_or k y)
  below_within true k x y h = mask_itself k
  below_within false k x y h = alike_within k x k y (mask_itself k) h

  mutual
    term-image : (n h : ℕ) (t : Term) → IsMaskWithin (term_marks n h t) (term_marks n h (image_term m t))
    term-image n h (free v) = no_mask (term_marks n h (image_term m (free v)))
    term-image n h (bound i) = no_mask 0
    term-image n h (app s ts) =
        let k = mixed h (sym_fingerprint s) in
        let all = terms_marks (n - 1) k ts in
        let more = terms_marks (n - 1) k (image_terms m ts) in
        below_within (n == 0) (bit_of k) all more (terms-image (n - 1) k ts)

    terms-image : (n h : ℕ) (ts : Terms) → IsMaskWithin (terms_marks n h ts) (terms_marks n h (image_terms m ts))
    terms-image n h nil = no_mask 0
    terms-image n h (cons t ts) =
        alike_within (term_marks n h t) (terms_marks n (mixed h 0) ts) (term_marks n h (image_term m t)) (terms_marks n (mixed h 0) (image_terms m ts)) (term-image n h t) (terms-image n (mixed h 0) ts)

  whole_if : (f : Formula) (b : Bool) → is_open f ≡ b → IsMaskWithin (if b then 0 else bit_of (formula_fingerprint f)) (whole_mark (image m f))
  whole_if f true e = no_mask (whole_mark (image m f))
  whole_if f false e =
      let same : whole_mark (image m f) ≡ bit_of (formula_fingerprint f) = ap whole_mark (image-shut m f e) ∙ ap (λ b. if b then 0 else bit_of (formula_fingerprint f)) e in
      subst (IsMaskWithin (bit_of (formula_fingerprint f))) (sym same) (mask_itself (bit_of (formula_fingerprint f)))

  whole-image : (f : Formula) → IsMaskWithin (whole_mark f) (whole_mark (image m f))
  whole-image f = whole_if f (is_open f) refl

  atom-image : (f : Formula) → IsMaskWithin (atom_marks f) (atom_marks (image m f))
  atom-image (atom p ts) =
      alike_within (bit_of (pred_fingerprint p)) (bit_or (terms_marks 4 (pred_fingerprint p) ts) (whole_mark (atom p ts))) (bit_of (pred_fingerprint p)) (bit_or (terms_marks 4 (pred_fingerprint p) (image_terms m ts)) (whole_mark (atom p (image_terms m ts))))
      (mask_itself (bit_of (pred_fingerprint p)))
      (alike_within (terms_marks 4 (pred_fingerprint p) ts) (whole_mark (atom p ts)) (terms_marks 4 (pred_fingerprint p) (image_terms m ts)) (whole_mark (atom p (image_terms m ts))) (terms-image 4 (pred_fingerprint p) ts) (whole-image (atom p ts)))
  atom-image top = no_mask 0
  atom-image bot = no_mask 0
  atom-image (not f) = no_mask 0
  atom-image (and f g) = no_mask 0
  atom-image (or f g) = no_mask 0
  atom-image (imp f g) = no_mask 0
  atom-image (all f) = no_mask 0
  atom-image (ex f) = no_mask 0

-- a side has the marks of each member
member_marks : (fs : List Formula) (f : Formula) → is_in fs f ≡ true → IsMaskWithin (atom_marks f) (side_marks fs)
member_marks [] f e = cc
member_marks (g ∷ fs) f e =
    either (eq_by_cmp formula_cmp f g) (is_in fs f)
    (λ here. within_left (atom_marks f) (atom_marks g) (side_marks fs) (subst (λ h. IsMaskWithin (atom_marks f) (atom_marks h)) (equal f g here) (mask_itself (atom_marks f))))
    (λ later. within_right (atom_marks f) (atom_marks g) (side_marks fs) (member_marks fs f later))
    e

within_side : (m : Replacing) (fs gs : List Formula) → ((f : Formula) → is_in fs f ≡ true → is_in gs (image m f) ≡ true) → IsMaskWithin (side_marks fs) (side_marks gs)
within_side m [] gs within = no_mask (side_marks gs)
within_side m (f ∷ fs) gs within =
    both_within (atom_marks f) (side_marks fs) (side_marks gs)
    (mask_transitive (atom_marks f) (atom_marks (image m f)) (side_marks gs) (atom-image m f) (member_marks gs (image m f) (within f (first_in f fs))))
    (within_side m fs gs (λ g e. within g (or_second (eq_by_cmp formula_cmp g f) (is_in fs g) e)))

-- each member has its marks within those of its image

predicate-image : (m : Replacing) (f : Formula) → predicate_mark f ≡ predicate_mark (image m f)
predicate-image m (atom p ts) = refl
predicate-image m top = refl
predicate-image m bot = refl
predicate-image m (not f) = refl
predicate-image m (and f g) = refl
predicate-image m (or f g) = refl
predicate-image m (imp f g) = refl
predicate-image m (all f) = refl
predicate-image m (ex f) = refl

marked_image : (m : Replacing) (f : Formula) → is_marked_within f (image m f) ≡ true
marked_image m f =
    let k = image m f in
    and_both (predicate_mark f == predicate_mark k) (bit_or (atom_marks f) (atom_marks k) == atom_marks k)
    (eq-eqb (predicate_mark f) (predicate_mark k) (predicate-image m f))
    (eq-eqb (bit_or (atom_marks f) (atom_marks k)) (atom_marks k) (atom-image m f))

pub image_within : (m : Replacing) (f g : Formula) → image m f ≡ g → is_marked_within f g ≡ true
image_within m f g e = subst (λ h. is_marked_within f h ≡ true) e (marked_image m f)

has_some : (gs : List Formula) (f g : Formula) → is_in gs g ≡ true → is_marked_within f g ≡ true → within_some gs f ≡ true
has_some [] f g e h = cc
has_some (k ∷ gs) f g e h =
    either (eq_by_cmp formula_cmp g k) (is_in gs g)
    (λ here. or_first (is_marked_within f k) (within_some gs f) (subst (λ j. is_marked_within f j ≡ true) (equal g k here) h))
    (λ later. or_second (is_marked_within f k) (within_some gs f) (has_some gs f g later h))
    e

each_within : (m : Replacing) (fs gs : List Formula) → ((f : Formula) → is_in fs f ≡ true → is_in gs (image m f) ≡ true) → each_within_some gs fs ≡ true
each_within m [] gs within = refl
each_within m (f ∷ fs) gs within =
    and_both (within_some gs f) (each_within_some gs fs)
    (has_some gs f (image m f) (within f (first_in f fs)) (image_within m f (image m f) refl))
    (each_within m fs gs (λ g e. within g (or_second (eq_by_cmp formula_cmp g f) (is_in fs g) e)))

pub members_sent : (m : Replacing) (s t : FormulaSet) → set.IsSubset (image_set m s) t → (f : Formula) → is_in (set.listing s) f ≡ true → is_in (set.listing t) (image m f) ≡ true
members_sent m s t within f e = sym (has-listing t (image m f)) ∙ within (image m f) (image_member m s f (has-listing s f ∙ e))

within_set : (m : Replacing) (s t : FormulaSet) → set.IsSubset (image_set m s) t → IsMaskWithin (side_marks (set.listing s)) (side_marks (set.listing t))
within_set m s t within = within_side m (set.listing s) (set.listing t) (members_sent m s t within)

pub marks_left : (c d : Sequent) → Subsumes c d → IsMaskWithin (side_marks (set.listing c.left)) (side_marks (set.listing d.left))
marks_left c d h = within_set h.map c.left d.left h.within.left

pub marks_right : (c d : Sequent) → Subsumes c d → IsMaskWithin (side_marks (set.listing c.right)) (side_marks (set.listing d.right))
marks_right c d h = within_set h.map c.right d.right h.within.right

pub each_left : (c d : Sequent) → Subsumes c d → each_within_some (set.listing d.left) (set.listing c.left) ≡ true
each_left c d h = each_within h.map (set.listing c.left) (set.listing d.left) (members_sent h.map c.left d.left h.within.left)

pub each_right : (c d : Sequent) → Subsumes c d → each_within_some (set.listing d.right) (set.listing c.right) ≡ true
each_right c d h = each_within h.map (set.listing c.right) (set.listing d.right) (members_sent h.map c.right d.right h.within.right)
