-- A clause has the links of each clause that subsumes it.
use Rattle.std.proofs.Common.{◌≡◌, ◌⊎◌, ⊎_elim, inl, inr, ◌==◌, ◌&&◌, ℕ, Bool, true, false, not as negated, if◌then◌else◌, List, [], ◌∷◌, ◌++◌, refl, sym, ap, subst}
use Rattle.std.specs.Prelude.{bit_or, Option}
use Rattle.std.specs.Ordering.{eq_by_cmp}
use Rattle.std.proofs.lemmas.Bool.{eq-eqb, eqb-true}
use Rattle.fol.specs.declared.symbols.Var.{Var}
use Rattle.fol.specs.declared.symbols.Var.TheVariants.{Num}
use Rattle.fol.specs.Syntax.{Term, free, Terms, nil, cons, Formula, atom}
use Rattle.fol.specs.Order.{formula_cmp}
use Rattle.fol.specs.Mixing.{mixed}
use Rattle.fol.specs.Facts.{term_fingerprint, pred_fingerprint}
use Rattle.finite.specs.Finite as set
use Rattle.substitution.specs.Image.{image_term, image_terms, image}
use Rattle.substitution.proofs.Booleans.{and_left, and_right, and_both}
use Rattle.lk_rules.specs.declared.sequent.Sequent.{Sequent}
use Rattle.proof_trees.proofs.Booleans.{or_second, either}
use Rattle.proof_trees.proofs.FormulaSets.{equal}
use Rattle.clause_laws.specs.Subsumption.{Subsumes}
use Rattle.clause_laws.proofs.Sets.{is_in}
use Rattle.clause_laws.proofs.UnifiedSteps.{first_in}
use Rattle.res_prover.specs.declared.links.Place.{Place}
use Rattle.res_prover.specs.Marks.{IsMaskWithin}
use Rattle.res_prover.specs.Links.{variable_number, place_of, argument_places, atom_places, side_places, clause_places, link, is_one_number, is_one_variable, needs_at, needs_of, offers_at, offers_of}
use Rattle.res_prover.proofs.Masks.{mask_itself, no_mask, within_left, within_right, both_within}
use Rattle.res_prover.proofs.MarkLaws.{members_sent}

abbrev Replacing : Type 0
Replacing = Var → Option Term

-- members of a list of places

abbrev IsIn : List Place → Place → Type 0
IsIn [] p = ⊥
IsIn (q ∷ qs) p = (p ≡ q) ⊎ IsIn qs p

in_first : (ps qs : List Place) (p : Place) → IsIn ps p → IsIn (ps ++ qs) p
in_first [] qs p i = absurd i
in_first (r ∷ ps) qs p i = ⊎_elim {C = IsIn (r ∷ (ps ++ qs)) p} inl (λ later. inr (in_first ps qs p later)) i

in_second : (ps qs : List Place) (p : Place) → IsIn qs p → IsIn (ps ++ qs) p
in_second [] qs p i = i
in_second (r ∷ ps) qs p i = inr (in_second ps qs p i)

in_either : {P : Type 0} (ps qs : List Place) (p : Place) → (IsIn ps p → P) → (IsIn qs p → P) → IsIn (ps ++ qs) p → P
in_either [] qs p f g i = g i
in_either (r ∷ ps) qs p f g i = ⊎_elim (λ here. f (inl here)) (λ later. in_either ps qs p (λ j. f (inr j)) g later) i

-- what is offered

abbrev are_linked : Place → Place → Bool
are_linked p q = negated (p.number == q.number) && (p.fingerprint == q.fingerprint)

here_within : (b : Bool) (k x : ℕ) → b ≡ true → IsMaskWithin k (if b then bit_or k x else x)
here_within true k x e = within_left k k x (mask_itself k)
here_within false k x e = cc

later_within : (b : Bool) (a k x : ℕ) → IsMaskWithin a x → IsMaskWithin a (if b then bit_or k x else x)
later_within true a k x h = within_right a k x h
later_within false a k x h = h

offered_at : (p q : Place) (qs : List Place) → are_linked p q ≡ true → IsIn qs q → IsMaskWithin (link p q) (offers_at p qs)
offered_at p q [] e i = absurd i
offered_at p q (r ∷ qs) e i =
    ⊎_elim
    (λ here. subst (λ s. IsMaskWithin (link p q) (if are_linked p s then bit_or (link p s) (offers_at p qs) else offers_at p qs)) here (here_within (are_linked p q) (link p q) (offers_at p qs) e))
    (λ later. later_within (are_linked p r) (link p q) (link p r) (offers_at p qs) (offered_at p q qs e later))
    i

offered : (p q : Place) (ps qs : List Place) → are_linked p q ≡ true → IsIn ps p → IsIn qs q → IsMaskWithin (link p q) (offers_of ps qs)
offered p q [] qs e i j = absurd i
offered p q (r ∷ ps) qs e i j =
    ⊎_elim
    (λ here. within_left (link p q) (offers_at r qs) (offers_of ps qs) (subst (λ s. IsMaskWithin (link p q) (offers_at s qs)) here (offered_at p q qs e j)))
    (λ later. within_right (link p q) (offers_at r qs) (offers_of ps qs) (offered p q ps qs e later j))
    i

-- what is needed

abbrev are_needed : Place → Place → Bool
are_needed p q = negated (p.number == q.number) && is_one_variable p q

if_within : (b : Bool) (k x a : ℕ) → (b ≡ true → IsMaskWithin k a) → IsMaskWithin x a → IsMaskWithin (if b then bit_or k x else x) a
if_within true k x a f h = both_within k x a (f refl) h
if_within false k x a f h = h

needed_at : (p : Place) (qs : List Place) (a : ℕ) → ((q : Place) → IsIn qs q → are_needed p q ≡ true → IsMaskWithin (link p q) a) → IsMaskWithin (needs_at p qs) a
needed_at p [] a each = no_mask a
needed_at p (q ∷ qs) a each = if_within (are_needed p q) (link p q) (needs_at p qs) a (each q (inl refl)) (needed_at p qs a (λ r i. each r (inr i)))

needed : (ps qs : List Place) (a : ℕ) → ((p q : Place) → IsIn ps p → IsIn qs q → are_needed p q ≡ true → IsMaskWithin (link p q) a) → IsMaskWithin (needs_of ps qs) a
needed [] qs a each = no_mask a
needed (p ∷ ps) qs a each = both_within (needs_at p qs) (needs_of ps qs) a (needed_at p qs a (λ q. each p q (inl refl))) (needed ps qs a (λ r q i. each r q (inr i)))

one_variable : (t u : Term) → is_one_number (variable_number t) (variable_number u) ≡ true → t ≡ u
one_variable (free (Num m)) (free (Num n)) e = ap (λ k. free (Num k)) (eqb-true m n e)
one_variable (free (Num m)) u e = cc
one_variable t u e = cc

module _ (m : Replacing) (qs : List Place) where
  -- a place, and the place of the image among others
  record IsSent (p : Place) : Type 0 where
    pub number : ℕ
    pub term : Term
    pub is : place_of number term ≡ p
    pub there : IsIn qs (place_of number (image_term m term))

  linked : (p q : Place) (s : IsSent p) (r : IsSent q) → are_needed (place_of s.number s.term) (place_of r.number r.term) ≡ true → IsMaskWithin (link (place_of s.number s.term) (place_of r.number r.term)) (offers_of qs qs)
  linked p q s r e =
      let apart = negated (s.number == r.number) in
      let one = is_one_number (variable_number s.term) (variable_number r.term) in
      let x = image_term m s.term in
      let y = image_term m r.term in
      let same = ap (λ t. term_fingerprint (image_term m t)) (one_variable s.term r.term (and_right apart one e)) in
      offered (place_of s.number x) (place_of r.number y) qs qs
      (and_both apart (term_fingerprint x == term_fingerprint y) (and_left apart one e) (eq-eqb (term_fingerprint x) (term_fingerprint y) same))
      s.there r.there

  linked_places : (p q : Place) → IsSent p → IsSent q → are_needed p q ≡ true → IsMaskWithin (link p q) (offers_of qs qs)
  linked_places p q s r =
      subst (λ x. are_needed x q ≡ true → IsMaskWithin (link x q) (offers_of qs qs)) s.is
      (subst (λ y. are_needed (place_of s.number s.term) y ≡ true → IsMaskWithin (link (place_of s.number s.term) y) (offers_of qs qs)) r.is (linked p q s r))

  arguments_sent : (h : ℕ) (ts : Terms) → ((q : Place) → IsIn (argument_places h (image_terms m ts)) q → IsIn qs q) → (p : Place) → IsIn (argument_places h ts) p → IsSent p
  arguments_sent h nil within p i = absurd i
  arguments_sent h (cons t ts) within p i =
      ⊎_elim
      (λ here. record { number = h; term = t; is = sym here; there = within (place_of h (image_term m t)) (inl refl) })
      (λ later. arguments_sent (mixed h 0) ts (λ q j. within q (inr j)) p later)
      i

  atom_sent : (h : ℕ) (f : Formula) → ((q : Place) → IsIn (atom_places h (image m f)) q → IsIn qs q) → (p : Place) → IsIn (atom_places h f) p → IsSent p
  atom_sent h (atom s ts) within p i = arguments_sent (mixed (pred_fingerprint s) h) ts within p i
  atom_sent h f within p i = absurd i

  member_places : (h : ℕ) (gs : List Formula) (g : Formula) (q : Place) → is_in gs g ≡ true → IsIn (atom_places h g) q → IsIn (side_places h gs) q
  member_places h [] g q e i = cc
  member_places h (k ∷ gs) g q e i =
      either (eq_by_cmp formula_cmp g k) (is_in gs g)
      (λ here. in_first (atom_places h k) (side_places h gs) q (subst (λ f. IsIn (atom_places h f) q) (equal g k here) i))
      (λ later. in_second (atom_places h k) (side_places h gs) q (member_places h gs g q later i))
      e

  side_sent :
      (h : ℕ) (fs gs : List Formula)
      → ((f : Formula) → is_in fs f ≡ true → is_in gs (image m f) ≡ true)
      → ((q : Place) → IsIn (side_places h gs) q → IsIn qs q)
      → (p : Place) → IsIn (side_places h fs) p → IsSent p
  side_sent h [] gs sent within p i = absurd i
  side_sent h (f ∷ fs) gs sent within p i =
      in_either (atom_places h f) (side_places h fs) p
      (λ here. atom_sent h f (λ q j. within q (member_places h gs (image m f) q (sent f (first_in f fs)) j)) p here)
      (λ later. side_sent h fs gs (λ g e. sent g (or_second (eq_by_cmp formula_cmp g f) (is_in fs g) e)) within p later)
      i

clause_sent : (c d : Sequent) (h : Subsumes c d) (p : Place) → IsIn (clause_places c) p → IsSent h.map (clause_places d) p
clause_sent c d h p i =
    let left = side_places 1 (set.listing d.left) in
    let right = side_places 2 (set.listing d.right) in
    in_either (side_places 1 (set.listing c.left)) (side_places 2 (set.listing c.right)) p
    (λ here. side_sent h.map (clause_places d) 1 (set.listing c.left) (set.listing d.left) (members_sent h.map c.left d.left h.within.left) (in_first left right) p here)
    (λ later. side_sent h.map (clause_places d) 2 (set.listing c.right) (set.listing d.right) (members_sent h.map c.right d.right h.within.right) (in_second left right) p later)
    i

pub links_within : (c d : Sequent) → Subsumes c d → IsMaskWithin (needs_of (clause_places c) (clause_places c)) (offers_of (clause_places d) (clause_places d))
links_within c d h =
    needed (clause_places c) (clause_places c) (offers_of (clause_places d) (clause_places d))
    (λ p q i j. linked_places h.map (clause_places d) p q (clause_sent c d h p i) (clause_sent c d h q j))
