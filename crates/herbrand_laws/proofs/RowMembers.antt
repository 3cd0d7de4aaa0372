-- Which rows, sets of values and patterns there are.
use Rattle.std.proofs.Common.{◌≡◌, ◌⊎◌, inl, inr, ◌↔◌, ℕ, suc, ◌<◌, Bool, true, false, ◌||◌, ◌&&◌, cond, List, [], ◌∷◌, ◌++◌, map, Option, Some, None, nat_lt, length, refl, sym, ap, subst, ◌∙◌, arith}
use Rattle.std.specs.List.{All, Contains, list_any, filter, filter_map, cons_option, flat_map}
use Rattle.std.specs.Ordering.{eq_by_cmp}
use Rattle.std.specs.Cmp.Lexicographic.{pointwise}
use Rattle.std.proofs.lemmas.List.Elements.{All-nil, All-cons, All-weaker, All-contains}
use borrow.Author.Tests.{ltb-true, lt-ltb}
use Rattle.fol.specs.Syntax.{Term, Terms}
use Rattle.fol.specs.Order.{term_cmp, terms_cmp}
use Rattle.fol.specs.OrderLaws.{terms_total}
use Rattle.fol.proofs.OrderTies.{term_equality_same, terms_equality_same}
use Rattle.finite.specs.Finite as set
use Rattle.finite.proofs.Finite.{has-adds_each, has-empty, has-listing, of_rising-listing}
use Rattle.lk_rules.proofs.Subsequents.{and_left, and_right, and_both}
use Rattle.proof_trees.proofs.Booleans.{or_first, or_second, either}
use Rattle.search_laws.proofs.Tests.{clash}
use Rattle.herbrand_laws.specs.Herbrand.{Item}
use Rattle.herbrand_laws.specs.Patterns.{TermSet, Row, delta}
use Rattle.herbrand_laws.specs.Candidates.{sublists, IsSublist, rows_of, IsRowOf, same_terms, occurring, patterns}
use Rattle.herbrand_laws.proofs.Patterns.{same_lists}

-- x is one of a list
abbrev In : {A : Type 0} → A → List A → Type 0
In x [] = ⊥
In x (y ∷ ys) = (y ≡ x) ⊎ In x ys

module _ {A : Type 0} where
  all_in : (xs : List A) → All (λ z. In z xs) xs
  all_in [] = All-nil _
  all_in (x ∷ xs) = All-cons (λ z. In z (x ∷ xs)) x xs (inl refl) (All-weaker (λ z. In z xs) (λ z. In z (x ∷ xs)) (λ z. inr) xs (all_in xs))

  contained : (x : A) (xs : List A) → Contains xs x → In x xs
  contained x xs = All-contains (λ z. In z xs) xs x (all_in xs)

  containing : (x : A) (xs : List A) → In x xs → Contains xs x
  containing x [] h = absurd h
  containing x (y ∷ ys) (inl e) = (0, omega arith, e)
  containing x (y ∷ ys) (inr h) = let later = containing x ys h in (suc later.0, (let low : later.0 < length ys = later.1 in omega arith), later.2)

  -- two lists one after the other

  in_first : (x : A) (xs ys : List A) → In x xs → In x (xs ++ ys)
  in_first x [] ys h = absurd h
  in_first x (z ∷ zs) ys (inl e) = inl e
  in_first x (z ∷ zs) ys (inr h) = inr (in_first x zs ys h)

  in_second : (x : A) (xs ys : List A) → In x ys → In x (xs ++ ys)
  in_second x [] ys h = h
  in_second x (z ∷ zs) ys h = inr (in_second x zs ys h)

  in_either : {P : Type 0} (x : A) (xs ys : List A) → (In x xs → P) → (In x ys → P) → In x (xs ++ ys) → P
  in_either x [] ys f g h = g h
  in_either x (z ∷ zs) ys f g (inl e) = f (inl e)
  in_either x (z ∷ zs) ys f g (inr h) = in_either x zs ys (λ m. f (inr m)) g h

  -- the elements that pass a test

  in_filter : (p : A → Bool) (x : A) (xs : List A) → p x ≡ true → In x xs → In x (filter p xs)
  in_filter p x [] e h = h
  in_filter p x (y ∷ ys) e h = kept (p y) refl h (in_filter p x ys e)
    where
      kept : (b : Bool) → p y ≡ b → In x (y ∷ ys) → (In x ys → In x (filter p ys)) → In x (cond b (y ∷ filter p ys) (filter p ys))
      kept true d (inl same) f = inl same
      kept true d (inr m) f = inr (f m)
      kept false d (inl same) f = clash (p x) e (ap p (sym same) ∙ d)
      kept false d (inr m) f = f m

  from_filter : (p : A → Bool) (x : A) (xs : List A) → In x (filter p xs) → In x xs × (p x ≡ true)
  from_filter p x [] h = absurd h
  from_filter p x (y ∷ ys) h = by_test (p y) refl h (from_filter p x ys)
    where
      by_test : (b : Bool) → p y ≡ b → In x (cond b (y ∷ filter p ys) (filter p ys)) → (In x (filter p ys) → In x ys × (p x ≡ true)) → In x (y ∷ ys) × (p x ≡ true)
      by_test true d (inl same) f = (inl same, ap p (sym same) ∙ d)
      by_test true d (inr m) f = let later = f m in (inr later.0, later.1)
      by_test false d m f = let later = f m in (inr later.0, later.1)

module _ {A B : Type 0} where
  in_map : (f : A → B) (x : A) (xs : List A) → In x xs → In (f x) (map f xs)
  in_map f x [] h = h
  in_map f x (y ∷ ys) (inl e) = inl (ap f e)
  in_map f x (y ∷ ys) (inr h) = inr (in_map f x ys h)

  from_map : (f : A → B) (z : B) (xs : List A) → In z (map f xs) → (x : A) × In x xs × (f x ≡ z)
  from_map f z [] h = absurd h
  from_map f z (y ∷ ys) (inl e) = (y, inl refl, e)
  from_map f z (y ∷ ys) (inr h) = let later = from_map f z ys h in (later.0, inr later.1, later.2)

  in_filter_map : (f : A → Option B) (x : A) (z : B) (xs : List A) → f x ≡ Some z → In x xs → In z (filter_map f xs)
  in_filter_map f x z [] e h = absurd h
  in_filter_map f x z (y ∷ ys) e (inl same) = subst (λ o. In z (cons_option o (filter_map f ys))) (sym (ap f same ∙ e)) (inl refl)
  in_filter_map f x z (y ∷ ys) e (inr h) = kept (f y) (in_filter_map f x z ys e h)
    where
      kept : (o : Option B) → In z (filter_map f ys) → In z (cons_option o (filter_map f ys))
      kept None m = m
      kept (Some w) m = inr m

  from_filter_map : (f : A → Option B) (z : B) (xs : List A) → In z (filter_map f xs) → (x : A) × In x xs × (f x ≡ Some z)
  from_filter_map f z [] h = absurd h
  from_filter_map f z (y ∷ ys) h = by_value (f y) refl h (from_filter_map f z ys)
    where
      by_value : (o : Option B) → f y ≡ o → In z (cons_option o (filter_map f ys)) → (In z (filter_map f ys) → (x : A) × In x ys × (f x ≡ Some z)) → (x : A) × In x (y ∷ ys) × (f x ≡ Some z)
      by_value None e m g = let later = g m in (later.0, inr later.1, later.2)
      by_value (Some w) e (inl same) g = (y, inl refl, e ∙ ap Some same)
      by_value (Some w) e (inr m) g = let later = g m in (later.0, inr later.1, later.2)

  in_flat_map : (f : A → List B) (x : A) (z : B) (xs : List A) → In z (f x) → In x xs → In z (flat_map f xs)
  in_flat_map f x z [] m h = absurd h
  in_flat_map f x z (y ∷ ys) m (inl e) = in_first z (f y) (flat_map f ys) (subst (λ w. In z (f w)) (sym e) m)
  in_flat_map f x z (y ∷ ys) m (inr h) = in_second z (f y) (flat_map f ys) (in_flat_map f x z ys m h)

  from_flat_map : (f : A → List B) (z : B) (xs : List A) → In z (flat_map f xs) → (x : A) × In x xs × In z (f x)
  from_flat_map f z [] h = absurd h
  from_flat_map f z (y ∷ ys) h =
      in_either {P = (x : A) × In x (y ∷ ys) × In z (f x)} z (f y) (flat_map f ys) (λ m. (y, inl refl, m)) (λ m. let later = from_flat_map f z ys m in (later.0, inr later.1, later.2)) h

-- sublists

in_sublists : {A : Type 0} (ys xs : List A) → IsSublist ys xs → In ys (sublists xs)
in_sublists ys [] h = inl (sym h)
in_sublists ys (x ∷ xs) (inl h) = in_second ys (map (λ zs. x ∷ zs) (sublists xs)) (sublists xs) (in_sublists ys xs h)
in_sublists ys (x ∷ xs) (inr h) =
    in_first ys (map (λ zs. x ∷ zs) (sublists xs)) (sublists xs) (subst (λ zs. In zs (map (λ zs. x ∷ zs) (sublists xs))) (sym h.1) (in_map (λ zs. x ∷ zs) h.0 (sublists xs) (in_sublists h.0 xs h.2)))

from_sublists : {A : Type 0} (ys xs : List A) → In ys (sublists xs) → IsSublist ys xs
from_sublists ys [] (inl e) = sym e
from_sublists ys [] (inr h) = absurd h
from_sublists ys (x ∷ xs) h =
    in_either {P = IsSublist ys (x ∷ xs)} ys (map (λ zs. x ∷ zs) (sublists xs)) (sublists xs)
    (λ m. let with_x = from_map (λ zs. x ∷ zs) ys (sublists xs) m in inr (with_x.0, sym with_x.2, from_sublists with_x.0 xs with_x.1))
    (λ m. inl (from_sublists ys xs m))
    h

module _ (width : ℕ) (i : Item) (r : Row) where
  abbrev has_right_length : List Terms → Bool
  has_right_length uss = nat_lt 1 (length uss) && nat_lt (length uss) (suc width)

  from_rows : In r (rows_of width i) → IsRowOf width i r
  from_rows m =
      let found = from_filter_map delta r (filter has_right_length (sublists i.tuples)) m in
      let kept = from_filter has_right_length found.0 (sublists i.tuples) found.1 in
      record {
        tuples = found.0;
        sublist = from_sublists found.0 i.tuples kept.0;
        several = let more : 1 < length found.0 = ltb-true 1 (length found.0) (and_left _ (nat_lt (length found.0) (suc width)) kept.1) in omega arith;
        few = let less : length found.0 < suc width = ltb-true (length found.0) (suc width) (and_right (nat_lt 1 (length found.0)) _ kept.1) in omega arith;
        row = found.2;
      }

  in_rows : IsRowOf width i r → In r (rows_of width i)
  in_rows h =
      let several = h.several in
      let few = h.few in
      let more : 1 < length h.tuples = omega arith in
      let less : length h.tuples < suc width = omega arith in
      in_filter_map delta h.tuples r (filter has_right_length (sublists i.tuples)) h.row
      (in_filter has_right_length h.tuples (sublists i.tuples) (and_both _ _ (lt-ltb 1 (length h.tuples) more) (lt-ltb (length h.tuples) (suc width) less)) (in_sublists h.tuples i.tuples h.sublist))

  -- the rows are those of sublists
  pub rows_are : Contains (rows_of width i) r ↔ IsRowOf width i r
  rows_are = (λ m. from_rows (contained r (rows_of width i) m), λ h. containing r (rows_of width i) (in_rows h))

-- the candidates are the sets of values of rows
pub candidates_are : (width : ℕ) (items : List Item) (w : TermSet) → Contains (occurring width items) w ↔ ((i : Item) × (r : Row) × Contains items i × Contains (rows_of width i) r × (r.values ≡ w))
candidates_are width items w = (
  λ m.
      let one = from_flat_map (λ i. map (λ r. r.values) (rows_of width i)) w items (contained w (occurring width items) m) in
      let row = from_map (λ (r : Row). r.values) w (rows_of width one.0) one.2 in
      (one.0, row.0, containing one.0 items one.1, containing row.0 (rows_of width one.0) row.1, row.2),
  λ h.
      containing w (occurring width items)
      (in_flat_map (λ i. map (λ r. r.values) (rows_of width i)) h.0 w items
      (subst (λ v. In v (map (λ r. r.values) (rows_of width h.0))) h.4 (in_map (λ r. r.values) h.1 (rows_of width h.0) (contained h.1 (rows_of width h.0) h.3)))
      (contained h.0 items h.2)),
)

-- the patterns of a candidate

same_sets : (v w : TermSet) → same_terms v w ≡ true → v ≡ w
same_sets v w e = sym (of_rising-listing v) ∙ (ap set.of_rising (same_lists (set.listing v) (set.listing w) e) ∙ of_rising-listing w)

pointwise_itself : (vs : List Term) → pointwise (eq_by_cmp term_cmp) vs vs ≡ true
pointwise_itself [] = refl
pointwise_itself (v ∷ vs) = and_both _ _ ((term_equality_same v v _ refl).1 refl) (pointwise_itself vs)

equal_sets : (v w : TermSet) → v ≡ w → same_terms v w ≡ true
equal_sets v w e = ap (λ x. pointwise (eq_by_cmp term_cmp) (set.listing v) (set.listing x)) (sym e) ∙ pointwise_itself (set.listing v)

in_among : (p : Terms) (ps : List Terms) → In p ps → list_any (eq_by_cmp terms_cmp p) ps ≡ true
in_among p [] h = absurd h
in_among p (q ∷ qs) (inl e) = or_first (eq_by_cmp terms_cmp p q) (list_any (eq_by_cmp terms_cmp p) qs) ((terms_equality_same p q _ refl).1 (sym e))
in_among p (q ∷ qs) (inr h) = or_second (eq_by_cmp terms_cmp p q) _ (in_among p qs h)

among_in : (p : Terms) (ps : List Terms) → list_any (eq_by_cmp terms_cmp p) ps ≡ true → In p ps
among_in p [] h = cc
among_in p (q ∷ qs) h =
    either {P = In p (q ∷ qs)} (eq_by_cmp terms_cmp p q) (list_any (eq_by_cmp terms_cmp p) qs)
    (λ e. inl (sym ((terms_equality_same p q _ refl).0 e)))
    (λ m. inr (among_in p qs m))
    h

listed : (ps : List Terms) (p : Terms) → list_any (eq_by_cmp terms_cmp p) (set.listing (set.adds_each (set.empty {R = terms_cmp}) ps)) ≡ list_any (eq_by_cmp terms_cmp p) ps
listed ps p =
    sym (has-listing (set.adds_each (set.empty {R = terms_cmp}) ps) p)
    ∙ (has-adds_each terms_total set.empty ps p ∙ ap (λ b. b || list_any (eq_by_cmp terms_cmp p) ps) (has-empty terms_cmp p))

pub patterns_are : (width : ℕ) (w : TermSet) (i : Item) (p : Terms) → Contains (patterns width w i) p ↔ ((r : Row) × Contains (rows_of width i) r × (r.values ≡ w) × (r.pattern ≡ p))
patterns_are width w i p =
    let test = λ (r : Row). same_terms r.values w in
    let those = filter test (rows_of width i) in
    let ps = map (λ (r : Row). r.pattern) those in (
      λ m.
          let row = from_map (λ (r : Row). r.pattern) p those (among_in p ps (sym (listed ps p) ∙ in_among p (patterns width w i) (contained p (patterns width w i) m))) in
          let kept = from_filter test row.0 (rows_of width i) row.1 in
          (row.0, containing row.0 (rows_of width i) kept.0, same_sets row.0.values w kept.1, row.2),
      λ h.
          containing p (patterns width w i)
          (among_in p (patterns width w i)
          (listed ps p ∙ in_among p ps (subst (λ q. In q ps) h.3 (in_map (λ (r : Row). r.pattern) h.0 those (in_filter test h.0 (rows_of width i) (equal_sets h.0.values w h.2) (contained h.0 (rows_of width i) h.1)))))),
    )
