-- Rows of different tuples: there are as many values.
use Rattle.std.proofs.Common.{◌≡◌, ◌⊎◌, inl, inr, suc, ◌+◌, true, false, if◌then◌else◌, cond, List, [], ◌∷◌, map, Option, Some, None, option_map, option_and_then, IfSome, length, refl, sym, ap, subst, ◌∙◌, arith}
use Rattle.std.specs.List.{All, AllByRecursion, IsDistinct, list_all}
use Rattle.std.specs.Ordering.{eq_by_cmp}
use Rattle.std.specs.FinMap as fin
use Rattle.std.proofs.lemmas.List.{length-map}
use Rattle.std.proofs.lemmas.List.Elements.{All-from_recursion, recursion_from_All}
use Rattle.fol.specs.Syntax.{Term, free, bound, app, Terms, nil, cons}
use Rattle.fol.specs.Order.{term_cmp, terms_cmp}
use Rattle.fol.specs.OrderLaws.{term_total}
use Rattle.fol.specs.Formed.{are_formed_terms_at}
use Rattle.fol.proofs.OrderTies.{term_equality_same, terms_equality_same}
use Rattle.finite.specs.Finite as set
use Rattle.finite.proofs.Finite.{has-adds, has-empty, of_rising-empty, listing-of_rising}
use Rattle.lk_rules.proofs.Subsequents.{and_both}
use Rattle.search_laws.proofs.Tests.{clash, fails, neither}
use Rattle.herbrand_laws.specs.Patterns.{put, TermSet, Pattern, constant, variable_for, arguments, separated, are_empty, joined_patterns, applied, pattern_of_terms, pattern_of_tuples, Row, row_with, row_of, delta, IsRow}
use Rattle.herbrand_laws.proofs.Patterns.{Gives, IsTuplePattern, firsts, others, tuples_pattern}
use Rattle.herbrand_laws.proofs.Rows.{delta_row, closed_terms_of}

-- a value differs from those that give other tuples
apart : (p : Terms) (v : Term) (us : Terms) → put p v ≡ us → (vs : List Term) (uss : List Terms) → map (put p) vs ≡ uss → AllByRecursion (λ ts. eq_by_cmp terms_cmp us ts ≡ false) uss → AllByRecursion (λ w. eq_by_cmp term_cmp v w ≡ false) vs
apart p v us e [] uss g h = tt
apart p v us e (w ∷ vs) [] g h = cc
apart p v us e (w ∷ vs) (ts ∷ uss) g h =
    let here : put p w ≡ ts = cc in
    let later : map (put p) vs ≡ uss = cc in (
      fails (eq_by_cmp term_cmp v w) (λ same. clash (eq_by_cmp terms_cmp us ts) ((terms_equality_same us ts _ refl).1 (sym e ∙ (ap (put p) ((term_equality_same v w _ refl).0 same) ∙ here))) h.0),
      apart p v us e vs uss later h.1,
    )

distinct_values : (p : Terms) (vs : List Term) (uss : List Terms) → map (put p) vs ≡ uss → IsDistinct (eq_by_cmp terms_cmp) uss → IsDistinct (eq_by_cmp term_cmp) vs
unfolding IsDistinct
distinct_values p [] uss g h = tt
distinct_values p (v ∷ vs) [] g h = cc
distinct_values p (v ∷ vs) (us ∷ uss) g h =
    let first : put p v ≡ us = cc in
    let later : map (put p) vs ≡ uss = cc in
    (apart p v us first vs uss later h.0, distinct_values p vs uss later h.1)

-- a set has as many terms as are added that it doesn't have

added_out : (s : TermSet) (k : Term) (ks : List Term) → AllByRecursion (λ q. set.has s q ≡ false) ks → AllByRecursion (λ q. eq_by_cmp term_cmp k q ≡ false) ks → AllByRecursion (λ q. set.has (set.adds s k) q ≡ false) ks
added_out s k [] h g = tt
added_out s k (q ∷ qs) h g =
    let other : eq_by_cmp term_cmp q k ≡ false = fails (eq_by_cmp term_cmp q k) (λ e. clash (eq_by_cmp term_cmp k q) ((term_equality_same k q _ refl).1 (sym ((term_equality_same q k _ refl).0 e))) g.0) in
    (has-adds term_total s k q ∙ neither _ _ other h.0, added_out s k qs h.1 g.1)

counted : (s : TermSet) (ks : List Term) → AllByRecursion (λ q. set.has s q ≡ false) ks → IsDistinct (eq_by_cmp term_cmp) ks → fin.len (set.adds_each s ks) ≡ fin.len s + length ks
unfolding IsDistinct
counted s [] h g = omega arith
counted s (k ∷ ks) h g =
    let one : fin.len (set.adds s k) ≡ fin.len s + 1 = fin.len-insert term_total s k tt ∙ ap (λ b. cond b (fin.len s) (fin.len s + 1)) h.0 in
    let later = counted (set.adds s k) ks (added_out s k ks h.1 g.0) g.1 in
    omega arith

none_has : (ks : List Term) → AllByRecursion (λ q. set.has (set.empty {R = term_cmp}) q ≡ false) ks
none_has [] = tt
none_has (k ∷ ks) = (has-empty term_cmp k, none_has ks)

sized : (s : TermSet) → length (set.listing s) ≡ fin.len s
sized s = length-map (fin.entries s) (λ e. e.0) ∙ sym (fin.len-entries s)

all_different : (ks : List Term) → IsDistinct (eq_by_cmp term_cmp) ks → length (set.listing (set.adds_each (set.empty {R = term_cmp}) ks)) ≡ length ks
all_different ks d =
    let nothing : length (set.listing (set.empty {R = term_cmp})) ≡ 0 = ap length (ap set.listing (sym (of_rising-empty term_cmp)) ∙ listing-of_rising term_cmp [] tt) in
    let before = sized set.empty in
    let after = sized (set.adds_each (set.empty {R = term_cmp}) ks) in
    let between = counted set.empty ks (none_has ks) d in
    omega arith

-- the row of different tuples has as many values as there are tuples
row_different : (uss : List Terms) → IsDistinct (eq_by_cmp terms_cmp) uss → (r : Row) → IsRow uss r → length (set.listing r.values) ≡ length uss
row_different uss d r h =
    ap (λ v. length (set.listing v)) h.values
    ∙ (all_different h.list (distinct_values r.pattern h.list uss h.gives d)
    ∙ (sym (length-map h.list (put r.pattern)) ∙ ap length h.gives))

pub delta_different : (us : Terms) (uss : List Terms) → are_formed_terms_at 0 us ≡ true → IsDistinct (eq_by_cmp terms_cmp) (us ∷ uss) → (r : Row) → delta (us ∷ uss) ≡ Some r → length (set.listing r.values) ≡ suc (length uss)
delta_different us uss f d r e = row_different (us ∷ uss) d r (subst (λ o. IfSome o (IsRow (us ∷ uss))) e (delta_row us uss f))

-- tuples that have a pattern and no row are equal

each_same : (us vs : Terms) → vs ≡ us → (uss : List Terms) → AllByRecursion (λ ts. vs ≡ ts) uss → AllByRecursion (λ ts. us ≡ ts) uss
each_same us vs e [] h = tt
each_same us vs e (ts ∷ uss) h = (sym e ∙ h.0, each_same us vs e uss h.1)

no_values : (p : Terms) (vs : Option (List Term)) (us : Terms) (uss : List Terms) → Gives (put p) vs (us ∷ uss) → row_with p vs ≡ None → AllByRecursion (λ ts. us ≡ ts) uss
no_values p (Some vs) us uss g e = cc
no_values p None us uss g e = each_same us (put p (bound 0)) (g (bound 0)).0 uss (g (bound 0)).1

by_pattern : (us : Terms) (uss : List Terms) (o : Option (Pattern Terms)) → IfSome o (λ p. IsTuplePattern p (us ∷ uss)) → row_of o ≡ None → (o ≡ None) ⊎ All (λ ts. us ≡ ts) uss
by_pattern us uss None h e = inl refl
by_pattern us uss (Some p) h e = inr (All-from_recursion (λ ts. us ≡ ts) uss (no_values p.pattern p.values us uss h.gives e))

pub no_row : (us : Terms) (uss : List Terms) → are_formed_terms_at 0 us ≡ true → delta (us ∷ uss) ≡ None → (pattern_of_tuples us uss ≡ None) ⊎ All (λ ts. us ≡ ts) uss
no_row us uss f = by_pattern us uss (pattern_of_tuples us uss) (tuples_pattern us (closed_terms_of us f) uss)

-- equal tuples give themselves

all_equal : (t : Term) (ts : List Term) → AllByRecursion (λ u. t ≡ u) ts → list_all (eq_by_cmp term_cmp t) ts ≡ true
all_equal t [] h = refl
all_equal t (u ∷ us) h = and_both _ _ ((term_equality_same t u _ refl).1 h.0) (all_equal t us h.1)

equal_terms : (t : Term) (ts : List Term) → AllByRecursion (λ u. t ≡ u) ts → pattern_of_terms t ts ≡ constant t
equal_terms (free v) ts h = ap (λ b. if b then constant (free v) else variable_for (free v) ts) (all_equal (free v) ts h)
equal_terms (bound i) ts h = ap (λ b. if b then constant (bound i) else variable_for (bound i) ts) (all_equal (bound i) ts h)
equal_terms (app s us) ts h =
    ap (λ b. if b then constant (app s us) else applied s (option_and_then (pattern_of_tuples us) (arguments s ts)) (app s us) ts) (all_equal (app s us) ts h)

-- so many tuples that are equal
abbrev copies : {A : Type 0} → A → List Terms → List A
copies x [] = []
copies x (us ∷ uss) = x ∷ copies x uss

equal_separated : (t : Term) (us : Terms) (uss : List Terms) → AllByRecursion (λ vs. cons t us ≡ vs) uss → separated uss ≡ Some (copies (t, us) uss)
equal_separated t us [] h = refl
equal_separated t us (vs ∷ uss) h = (λ i. separated (sym h.0 i ∷ uss)) ∙ ap (option_map (λ rest. (t, us) ∷ rest)) (equal_separated t us uss h.1)

first_copies : (t : Term) (us : Terms) (uss : List Terms) → AllByRecursion (λ u. t ≡ u) (firsts (copies (t, us) uss))
first_copies t us [] = tt
first_copies t us (vs ∷ uss) = (refl, first_copies t us uss)

other_copies : (t : Term) (us : Terms) (uss : List Terms) → AllByRecursion (λ vs. us ≡ vs) (others (copies (t, us) uss))
other_copies t us [] = tt
other_copies t us (vs ∷ uss) = (refl, other_copies t us uss)

all_empty : (uss : List Terms) → AllByRecursion (λ vs. nil ≡ vs) uss → are_empty uss ≡ true
all_empty [] h = refl
all_empty (vs ∷ uss) h = (λ i. are_empty (sym h.0 i ∷ uss)) ∙ all_empty uss h.1

equal_tuples : (us : Terms) (uss : List Terms) → AllByRecursion (λ vs. us ≡ vs) uss → pattern_of_tuples us uss ≡ Some (record { pattern = us; values = None })
equal_tuples nil uss h = ap (λ b. if b then Some (record { pattern = nil; values = None }) else None) (all_empty uss h)
equal_tuples (cons t us) uss h =
    let ps = copies (t, us) uss in
    ap (option_and_then (λ qs. joined_patterns (pattern_of_terms t (firsts qs)) (pattern_of_tuples us (others qs)))) (equal_separated t us uss h)
    ∙ (λ i. joined_patterns (equal_terms t (firsts ps) (first_copies t us uss) i) (equal_tuples us (others ps) (other_copies t us uss) i))

pub has_no_row : (us : Terms) (uss : List Terms) → (pattern_of_tuples us uss ≡ None) ⊎ All (λ ts. us ≡ ts) uss → delta (us ∷ uss) ≡ None
has_no_row us uss (inl e) = ap row_of e
has_no_row us uss (inr h) = ap row_of (equal_tuples us uss (recursion_from_All (λ ts. us ≡ ts) uss h))
