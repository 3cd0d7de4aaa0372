-- What a set of values has of an item: as many patterns as rows, and of its tuples those that aren't in these rows are left.
use Rattle.std.proofs.Common.{◌≡◌, ℕ, zero, suc, ◌+◌, ◌*◌, ◌<◌, Bool, true, false, not, ◌||◌, ◌&&◌, ◌==◌, cond, if◌then◌else◌, List, [], ◌∷◌, map, length, get_or, fold, Some, option_map, IfSome, refl, sym, ap, subst, ◌∙◌, arith}
use Rattle.std.specs.List.{All, AllByRecursion, IsDistinct, list_any, filter, filter_map, cons_option}
use Rattle.std.specs.declared.cmp.Ordering.TheVariants.{Less}
use Rattle.std.specs.Ordering.{eq_by_cmp, is_eq, ordering_reverse}
use Rattle.std.specs.List.Sorted.{IsStrictlySortedBy}
use Rattle.std.proofs.Math.Bool.{or_assoc}
use Rattle.std.proofs.lemmas.Bool.{eqb-true}
use Rattle.std.proofs.lemmas.List.{length-map}
use Rattle.std.proofs.lemmas.List.Elements.{All-cons, All-head, All-tail, All-filter, filter_passes, All-from_recursion, recursion_from_All}
use Rattle.fol.specs.Syntax.{Term, Terms, nil}
use Rattle.fol.specs.Order.{terms_cmp}
use Rattle.fol.specs.OrderLaws.{term_total, terms_total}
use Rattle.fol.proofs.OrderTies.{term_ties, terms_ties, terms_equality_same}
use Rattle.fol.specs.Formed.{are_formed_terms_at}
use Rattle.finite.specs.Finite as set
use Rattle.finite.proofs.Finite.{same_members, has-of_rising, listing-of_rising}
use Rattle.free_variables.proofs.RisingLists.{rising_of_strict, strict_of_rising}
use Rattle.proof_trees.proofs.Booleans.{or_first}
use Rattle.search_laws.proofs.Tests.{fails}
use Rattle.herbrand_laws.specs.Herbrand.{Item, quantifiers}
use Rattle.herbrand_laws.specs.Patterns.{put, TermSet, Row, delta, IsRow}
use Rattle.herbrand_laws.specs.Candidates.{same_terms, patterns, is_covered, uncovered, rest}
use Rattle.herbrand_laws.proofs.Lists.{any-map}
use Rattle.herbrand_laws.proofs.Rows.{delta_row}
use Rattle.delta_table.specs.declared.tallies.Tally.{Tally}
use Rattle.delta_table.specs.Places.{has_place, lacks_place, kept_at}
use Rattle.delta_table.specs.FoundRows.{PlacedRow, founds, noted, nothing, tally_of}
use Rattle.delta_table.specs.Chosen.{pattern_of_places, patterns_found, made_patterns, made_rest, rest_item, share}
use Rattle.delta_table.proofs.PlaceSets.{has-or}
use Rattle.delta_rows.proofs.ValueTies.{same_sets}
use Rattle.numbered_terms.proofs.Members.{equal_of, any_set, all_different}
use Rattle.delta_table.proofs.Entries.{Entry, entries, found_of, map_twice, founds_are, rows_are, none_in_zero, IsEntry, all_entries, Differ, differ_filter, entries_differ}

-- lists that pass a test

pub filter-mapped : {X Y : Type 0} (p : Y → Bool) (f : X → Y) (xs : List X) → filter p (map f xs) ≡ map f (filter (λ x. p (f x)) xs)
filter-mapped p f [] = refl
filter-mapped p f (x ∷ xs) = elim (p (f x)) as (λ b. cond b (f x ∷ filter p (map f xs)) (filter p (map f xs)) ≡ map f (cond b (x ∷ filter (λ y. p (f y)) xs) (filter (λ y. p (f y)) xs))) [
  | true ↦ ap (λ ys. f x ∷ ys) (filter-mapped p f xs)
  | false ↦ filter-mapped p f xs
]

any-filter : {X : Type 0} (q p : X → Bool) (xs : List X) → list_any q (filter p xs) ≡ list_any (λ x. p x && q x) xs
any-filter q p [] = refl
any-filter q p (x ∷ xs) = elim (p x) as (λ b. list_any q (cond b (x ∷ filter p xs) (filter p xs)) ≡ (b && q x || list_any (λ y. p y && q y) xs)) [
  | true ↦ ap (λ b. q x || b) (any-filter q p xs)
  | false ↦ any-filter q p xs
]

any_alike : {X : Type 0} (P : X → Type 0) (p q : X → Bool) (xs : List X) → ((x : X) → P x → p x ≡ q x) → AllByRecursion P xs → list_any p xs ≡ list_any q xs
any_alike P p q [] f h = refl
any_alike P p q (x ∷ xs) f h = λ i. f x h.0 i || any_alike P p q xs f h.1 i

and_alike : (b x y : Bool) → (b ≡ true → x ≡ y) → (b && x) ≡ (b && y)
and_alike true x y f = f refl
and_alike false x y f = refl

no_product : (q m n : ℕ) → q ≡ 0 → q * m ≡ q * n
no_product zero m n e = omega arith
no_product (suc q) m n e = absurd (omega arith)

false_or : (b : Bool) → (b || false) ≡ b
false_or true = refl
false_or false = refl

-- elements at places

module _ {A : Type 0} (p : ℕ → Bool) where
  all_kept : (P : A → Type 0) (k : ℕ) (xs : List A) → All P xs → All P (kept_at p k xs)
  all_kept P k [] h = h
  all_kept P k (x ∷ xs) h =
      let later = all_kept P (k + 1) xs (All-tail P x xs h) in
      elim (p k) as (λ b. All P (if b then x ∷ kept_at p (k + 1) xs else kept_at p (k + 1) xs)) [
        | true ↦ All-cons P x (kept_at p (k + 1) xs) (All-head P x xs h) later
        | false ↦ later
      ]

  each_kept : (P : A → Type 0) (k : ℕ) (xs : List A) → AllByRecursion P xs → AllByRecursion P (kept_at p k xs)
  each_kept P k [] h = tt
  each_kept P k (x ∷ xs) h =
      let later = each_kept P (k + 1) xs h.1 in
      elim (p k) as (λ b. AllByRecursion P (if b then x ∷ kept_at p (k + 1) xs else kept_at p (k + 1) xs)) [
        | true ↦ (h.0, later)
        | false ↦ later
      ]

sorted_kept : (p : ℕ → Bool) (k : ℕ) (xs : List Terms) → IsStrictlySortedBy terms_cmp xs → IsStrictlySortedBy terms_cmp (kept_at p k xs)
unfolding IsStrictlySortedBy
sorted_kept p k [] h = tt
sorted_kept p k (x ∷ xs) h =
    let later = sorted_kept p (k + 1) xs h.1 in
    let below = each_kept p (λ y. terms_cmp x y ≡ Less) (k + 1) xs h.0 in
    elim (p k) as (λ b. IsStrictlySortedBy terms_cmp (if b then x ∷ kept_at p (k + 1) xs else kept_at p (k + 1) xs)) [
      | true ↦ (below, later)
      | false ↦ later
    ]

pub rising_kept : (p : ℕ → Bool) (k : ℕ) (xs : List Terms) → set.IsRising terms_cmp xs → set.IsRising terms_cmp (kept_at p k xs)
rising_kept p k xs h = rising_of_strict terms_cmp (kept_at p k xs) (sorted_kept p k xs (strict_of_rising terms_cmp xs h))

pub formed_kept : (p : ℕ → Bool) (k : ℕ) (xs : List Terms) → All (λ us. are_formed_terms_at 0 us ≡ true) xs → All (λ us. are_formed_terms_at 0 us ≡ true) (kept_at p k xs)
formed_kept p k xs h = all_kept p (λ us. are_formed_terms_at 0 us ≡ true) k xs h

-- whether an element of a rising list is kept

not_above : (x y : Terms) → terms_cmp x y ≡ Less → eq_by_cmp terms_cmp x y ≡ false
not_above x y e = ap is_eq e

not_below : (x y : Terms) → terms_cmp x y ≡ Less → eq_by_cmp terms_cmp y x ≡ false
not_below x y e = ap is_eq (terms_total.antisymm y x ∙ ap ordering_reverse e)

none_equal : (x : Terms) (ys : List Terms) → AllByRecursion (λ y. terms_cmp x y ≡ Less) ys → list_any (λ z. eq_by_cmp terms_cmp z x) ys ≡ false
none_equal x [] h = refl
none_equal x (y ∷ ys) h = λ i. not_below x y h.0 i || none_equal x ys h.1 i

less_at : (x : Terms) (ys : List Terms) (k : ℕ) → k < length ys → AllByRecursion (λ y. terms_cmp x y ≡ Less) ys → terms_cmp x (get_or ys k nil) ≡ Less
less_at x ys k l h = All-from_recursion (λ y. terms_cmp x y ≡ Less) ys h k nil l

kept_member : (p : ℕ → Bool) (xs : List Terms) → IsStrictlySortedBy terms_cmp xs → (j k m : ℕ) → m ≡ j + k → k < length xs → list_any (λ z. eq_by_cmp terms_cmp z (get_or xs k nil)) (kept_at p j xs) ≡ p m
unfolding IsStrictlySortedBy
kept_member p [] h j k m e l = absurd (omega arith)
kept_member p (x ∷ xs) h j zero m e l =
    let here : m ≡ j = omega arith in
    let others = kept_at p (j + 1) xs in
    elim (p j) as (λ b. p j ≡ b → list_any (λ z. eq_by_cmp terms_cmp z x) (if b then x ∷ others else others) ≡ p m) [
      | true ↦ λ d. or_first (eq_by_cmp terms_cmp x x) (list_any (λ z. eq_by_cmp terms_cmp z x) others) ((terms_equality_same x x _ refl).1 refl) ∙ (sym d ∙ ap p (sym here))
      | false ↦ λ d. none_equal x others (each_kept p (λ y. terms_cmp x y ≡ Less) (j + 1) xs h.0) ∙ (sym d ∙ ap p (sym here))
    ] refl
kept_member p (x ∷ xs) h j (suc k) m e l =
    let others = kept_at p (j + 1) xs in
    let us = get_or xs k nil in
    let later = kept_member p xs h.1 (j + 1) k m (omega arith) (omega arith) in
    elim (p j) as (λ b. list_any (λ z. eq_by_cmp terms_cmp z us) (if b then x ∷ others else others) ≡ p m) [
      | true ↦ ap (λ b. b || list_any (λ z. eq_by_cmp terms_cmp z us) others) (not_above x us (less_at x xs k (omega arith) h.0)) ∙ later
      | false ↦ later
    ]

-- a test of elements that is one of places keeps the same
filter_kept : (q : Terms → Bool) (p : ℕ → Bool) (j : ℕ) (xs : List Terms) → ((k : ℕ) → k < length xs → q (get_or xs k nil) ≡ p (j + k)) → filter q xs ≡ kept_at p j xs
filter_kept q p j [] h = refl
filter_kept q p j (x ∷ xs) h =
    let first : j + 0 ≡ j = omega arith in
    let here : q x ≡ p j = h 0 (omega arith) ∙ ap p first in
    let later = filter_kept q p (j + 1) xs (λ k l. h (suc k) (omega arith) ∙ ap p (omega arith)) in
    λ i. cond (here i) (x ∷ later i) (later i)

-- entries of one item

row_is : (uss : List Terms) → All (λ us. are_formed_terms_at 0 us ≡ true) uss → (r : Row) → delta uss ≡ Some r → IsRow uss r
row_is [] h r e = cc
row_is (us ∷ uss) h r e = subst (λ o. IfSome o (IsRow (us ∷ uss))) e (delta_row us uss (All-head (λ vs. are_formed_terms_at 0 vs ≡ true) us uss h))

-- a test of a row's tuples is one of its values
tuple_tests : (e : Entry) → IsRow e.tuples e.row → (p : Terms → Bool) → list_any p e.tuples ≡ list_any (λ t. p (put e.row.pattern t)) (set.listing e.row.values)
tuple_tests e h p =
    let test = λ (t : Term). p (put e.row.pattern t) in
    ap (list_any p) (sym h.gives)
    ∙ (any-map p (put e.row.pattern) h.list
    ∙ (sym (any_set term_total term_ties test h.list)
    ∙ ap (λ v. list_any test (set.listing v)) (sym h.values)))

module _ (width : ℕ) (i : Item) (formed : All (λ us. are_formed_terms_at 0 us ≡ true) i.tuples) (rises : set.IsRising terms_cmp i.tuples) where
  entry_row : (e : Entry) → IsEntry i.tuples e → IsRow e.tuples e.row
  entry_row e h =
      row_is e.tuples (subst (All (λ us. are_formed_terms_at 0 us ≡ true)) h.picked (formed_kept (has_place e.places) 0 i.tuples formed)) e.row h.row

  entry_rises : (e : Entry) → IsEntry i.tuples e → set.IsRising terms_cmp e.tuples
  entry_rises e h = subst (set.IsRising terms_cmp) h.picked (rising_kept (has_place e.places) 0 i.tuples rises)

  -- a pattern with its values is that of one list of tuples
  same_tuples : (e f : Entry) → IsEntry i.tuples e → IsEntry i.tuples f → e.row.values ≡ f.row.values → e.row.pattern ≡ f.row.pattern → e.tuples ≡ f.tuples
  same_tuples e f h g values pattern =
      let alike = λ (q : Terms).
      tuple_tests e (entry_row e h) (eq_by_cmp terms_cmp q)
      ∙ ((λ k. list_any (λ t. eq_by_cmp terms_cmp q (put (pattern k) t)) (set.listing (values k)))
      ∙ sym (tuple_tests f (entry_row f g) (eq_by_cmp terms_cmp q))) in
      sym (listing-of_rising terms_cmp e.tuples (entry_rises e h))
      ∙ (ap set.listing (same_members terms_total terms_ties (set.of_rising e.tuples) (set.of_rising f.tuples)
      (λ q. has-of_rising terms_cmp e.tuples (entry_rises e h) q ∙ (alike q ∙ sym (has-of_rising terms_cmp f.tuples (entry_rises f g) q))))
      ∙ listing-of_rising terms_cmp f.tuples (entry_rises f g))

  module _ (w : TermSet) where
    abbrev has_values : Entry → Bool
    has_values e = same_terms e.row.values w

    -- the entries with these values
    abbrev chosen : List Entry
    chosen = filter has_values (entries width i.tuples)

    record IsChosen (e : Entry) : Type 0 where
      entry : IsEntry i.tuples e
      values : e.row.values ≡ w

    all_chosen : AllByRecursion IsChosen chosen
    all_chosen =
        recursion_from_All IsChosen chosen (λ k d l. record {
          entry = All-filter has_values (IsEntry i.tuples) (entries width i.tuples) (all_entries width i.tuples) k d l;
          values = same_sets _ w (filter_passes has_values (entries width i.tuples) k d l);
        })

    -- the patterns of different entries with these values differ

    pattern_apart : (e : Entry) → IsChosen e → (es : List Entry) → AllByRecursion IsChosen es → AllByRecursion (λ f. e.tuples ≡ f.tuples → ⊥) es → AllByRecursion (λ q. eq_by_cmp terms_cmp e.row.pattern q ≡ false) (map (λ f. f.row.pattern) es)
    pattern_apart e h [] g d = tt
    pattern_apart e h (f ∷ es) g d = (
      fails (eq_by_cmp terms_cmp e.row.pattern f.row.pattern) (λ tie. absurd (d.0 (same_tuples e f h.entry g.0.entry (h.values ∙ sym g.0.values) (equal_of terms_total terms_ties e.row.pattern f.row.pattern tie)))),
      pattern_apart e h es g.1 d.1,
    )

    patterns_apart : (es : List Entry) → AllByRecursion IsChosen es → Differ (λ (e : Entry). e.tuples) es → IsDistinct (eq_by_cmp terms_cmp) (map (λ e. e.row.pattern) es)
    unfolding IsDistinct
    patterns_apart [] g d = tt
    patterns_apart (e ∷ es) g d = (pattern_apart e g.0 es g.1 d.0, patterns_apart es g.1 d.1)

    -- the patterns are those of the chosen entries
    patterns_chosen : patterns width w i ≡ set.listing (set.adds_each (set.empty {R = terms_cmp}) (map (λ e. e.row.pattern) chosen))
    patterns_chosen =
        ap (λ rs. set.listing (set.adds_each (set.empty {R = terms_cmp}) (map (λ (r : Row). r.pattern) (filter (λ (r : Row). same_terms r.values w) rs)))) (rows_are width i)
        ∙ ap (λ ps. set.listing (set.adds_each (set.empty {R = terms_cmp}) ps))
        (ap (map (λ (r : Row). r.pattern)) (filter-mapped (λ (r : Row). same_terms r.values w) (λ (e : Entry). e.row) (entries width i.tuples))
        ∙ map_twice (λ (r : Row). r.pattern) (λ (e : Entry). e.row) chosen)

    patterns_counted : length (patterns width w i) ≡ length chosen
    patterns_counted =
        ap length patterns_chosen
        ∙ (all_different terms_total terms_ties (map (λ e. e.row.pattern) chosen)
        (patterns_apart chosen all_chosen (differ_filter (λ (e : Entry). e.tuples) has_values (entries width i.tuples) (entries_differ width i.tuples (strict_of_rising terms_cmp i.tuples rises))))
        ∙ length-map chosen (λ e. e.row.pattern))

    -- the tally of the rows

    abbrev step : Tally → PlacedRow → Tally
    step t f = if same_terms f.values w then noted f.places t else t

    rows_counted : (es : List Entry) (t : Tally) → (fold step t (map found_of es)).rows ≡ t.rows + length (filter has_values es)
    rows_counted [] t = omega arith
    rows_counted (e ∷ es) t = elim (same_terms e.row.values w) as (λ b. (fold step (if b then noted e.places t else t) (map found_of es)).rows ≡ t.rows + length (cond b (e ∷ filter has_values es) (filter has_values es))) [
      | true ↦ let later = rows_counted es (noted e.places t) in omega arith
      | false ↦ rows_counted es t
    ]

    places_noted : (k : ℕ) (es : List Entry) (t : Tally) → has_place (fold step t (map found_of es)).places k ≡ (has_place t.places k || list_any (λ e. has_values e && has_place e.places k) es)
    places_noted k [] t = sym (false_or (has_place t.places k))
    places_noted k (e ∷ es) t =
        let others = list_any (λ f. has_values f && has_place f.places k) es in
        elim (same_terms e.row.values w) as (λ b. has_place (fold step (if b then noted e.places t else t) (map found_of es)).places k ≡ (has_place t.places k || (b && has_place e.places k || others))) [
          | true ↦ places_noted k es (noted e.places t) ∙ (ap (λ b. b || others) (has-or t.places e.places k) ∙ or_assoc (has_place t.places k) (has_place e.places k) others)
          | false ↦ places_noted k es t
        ]

    abbrev tally : Tally
    tally = tally_of w (founds width i.tuples)

    tally_rows : tally.rows ≡ length (patterns width w i)
    tally_rows =
        ap (λ fs. (tally_of w fs).rows) (founds_are width i.tuples)
        ∙ (rows_counted (entries width i.tuples) nothing ∙ ((let none : 0 + length chosen ≡ length chosen = omega arith in none) ∙ sym patterns_counted))

    -- a tuple is covered just where its place is in the tally
    covered : (k : ℕ) → k < length i.tuples → is_covered (patterns width w i) w (get_or i.tuples k nil) ≡ has_place tally.places k
    covered k l =
        let us = get_or i.tuples k nil in
        let test = λ (p : Terms). list_any (λ t. eq_by_cmp terms_cmp (put p t) us) (set.listing w) in
        let sorted = strict_of_rising terms_cmp i.tuples rises in
        let own = λ (e : Entry) (h : IsEntry i.tuples e) (same : has_values e ≡ true).
        ap (λ v. list_any (λ t. eq_by_cmp terms_cmp (put e.row.pattern t) us) (set.listing v)) (sym (same_sets e.row.values w same))
        ∙ (sym (tuple_tests e (entry_row e h) (λ z. eq_by_cmp terms_cmp z us))
        ∙ (ap (list_any (λ z. eq_by_cmp terms_cmp z us)) (sym h.picked)
        ∙ kept_member (has_place e.places) i.tuples sorted 0 k k (omega arith) l)) in
        ap (list_any test) patterns_chosen
        ∙ (any_set terms_total terms_ties test (map (λ e. e.row.pattern) chosen)
        ∙ (any-map test (λ (e : Entry). e.row.pattern) chosen
        ∙ (any-filter (λ (e : Entry). test e.row.pattern) has_values (entries width i.tuples)
        ∙ (any_alike (IsEntry i.tuples) (λ e. has_values e && test e.row.pattern) (λ e. has_values e && has_place e.places k) (entries width i.tuples)
        (λ e h. and_alike (has_values e) (test e.row.pattern) (has_place e.places k) (own e h)) (recursion_from_All (IsEntry i.tuples) (entries width i.tuples) (all_entries width i.tuples))
        ∙ (ap (λ b. b || list_any (λ e. has_values e && has_place e.places k) (entries width i.tuples)) (sym (none_in_zero k))
        ∙ (sym (places_noted k (entries width i.tuples) nothing)
        ∙ ap (λ fs. has_place (tally_of w fs).places k) (sym (founds_are width i.tuples))))))))

    -- what isn't covered are the tuples at the other places
    uncovered_kept : uncovered width w i ≡ kept_at (lacks_place tally.places) 0 i.tuples
    unfolding lacks_place
    uncovered_kept =
        filter_kept (λ us. not (is_covered (patterns width w i) w us)) (lacks_place tally.places) 0 i.tuples
        (λ k l. ap not (covered k l) ∙ ap (lacks_place tally.places) (omega arith))

    pub rest_made : made_rest w i (founds width i.tuples) ≡ rest_item width w i
    rest_made = λ k. record { side = i.side; formula = i.formula; tuples = if quantifiers i == 0 then [] else sym uncovered_kept k }

    -- what the item costs: nothing, where its formula has no quantifier
    pub share_counted : quantifiers i * (length (patterns width w i) + length (rest width w i)) ≡ share i tally
    share_counted = go (quantifiers i == 0) refl ∙ λ k. quantifiers i * (sym tally_rows k + length (uncovered_kept k))
      where
        go : (b : Bool) → (quantifiers i == 0) ≡ b
            → quantifiers i * (length (patterns width w i) + length (if b then [] else uncovered width w i)) ≡ quantifiers i * (length (patterns width w i) + length (uncovered width w i))
        go true e = no_product (quantifiers i) _ _ (eqb-true (quantifiers i) 0 e)
        go false e = refl

    -- the patterns of the rows with these values
    found_patterns : (es : List Entry) → AllByRecursion IsChosen es → filter_map (λ (f : PlacedRow). pattern_of_places i.tuples f.places) (map found_of es) ≡ map (λ e. e.row.pattern) es
    found_patterns [] h = refl
    found_patterns (e ∷ es) h =
        (λ k. cons_option (option_map (λ (r : Row). r.pattern) (delta (h.0.entry.picked k))) (filter_map (λ (f : PlacedRow). pattern_of_places i.tuples f.places) (map found_of es)))
        ∙ λ k. cons_option (option_map (λ (r : Row). r.pattern) (h.0.entry.row k)) (found_patterns es h.1 k)

    pub patterns_made : made_patterns w i (founds width i.tuples) ≡ patterns width w i
    patterns_made =
        ap (λ ps. set.listing (set.adds_each (set.empty {R = terms_cmp}) ps))
        (ap (patterns_found i.tuples w) (founds_are width i.tuples)
        ∙ (ap (filter_map (λ (f : PlacedRow). pattern_of_places i.tuples f.places)) (filter-mapped (λ (f : PlacedRow). same_terms f.values w) found_of (entries width i.tuples))
        ∙ found_patterns chosen all_chosen))
        ∙ sym patterns_chosen
