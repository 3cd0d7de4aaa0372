-- The candidate that is found is the best one.
use Rattle.std.proofs.Common.{◌≡◌, ℕ, ◌+◌, ◌*◌, ◌≤◌, Bool, true, false, ◌==◌, if◌then◌else◌, List, [], ◌∷◌, ◌++◌, map, length, sum, refl, sym, ap, subst, ◌∙◌, arith}
use Rattle.std.specs.List.{All, Contains, list_any, sum_by}
use Rattle.std.specs.Ordering.{eq_by_cmp}
use Rattle.std.specs.List.Sorted.{IsStrictlySortedBy}
use Rattle.std.specs.declared.cmp.Ordering.TheVariants.{Less, Equal}
use Rattle.std.proofs.lemmas.Bool.{eqb-true}
use Rattle.std.proofs.lemmas.List.Elements.{All-nil, All-cons, All-head, All-tail, All-contains, All-contains_itself}
use Rattle.std.proofs.lemmas.List.Sums.{sum_by-cons}
use Rattle.fol.specs.Syntax.{Terms, nil, cons}
use Rattle.fol.specs.Order.{terms_cmp}
use Rattle.fol.specs.Formed.{count_terms}
use Rattle.finite.specs.Finite as set
use Rattle.free_variables.proofs.RisingLists.{strict_of_rising}
use Rattle.herbrand_laws.specs.Herbrand.{Item, quantifiers}
use Rattle.herbrand_laws.specs.Patterns.{TermSet, Row}
use Rattle.herbrand_laws.specs.Candidates.{rows_of, occurring, patterns, rest, cost, candidate_cmp, least, best}
use Rattle.herbrand_laws.proofs.Lists.{from_any}
use Rattle.herbrand_laws.proofs.Least.{candidates_total, candidates_tie, least_same}
use Rattle.delta_table.specs.Items.{IsItem}
use Rattle.herbrand_laws.specs.Counted.{counted, counted_tuples}
use Rattle.delta_table.specs.FoundRows.{PlacedRow, founds, tally_of, values_in, all_values, tables_of}
use Rattle.delta_rows.specs.ValueOrder.{values_cmp, values_total, by_cost}
use Rattle.delta_table.specs.Chosen.{zipped, share, made_cost, made_patterns, made_rest, rest_item}
use Rattle.delta_table.proofs.ItemFacts.{formed_tuples, counted_tuples as tuples_counted}
use Rattle.delta_rows.proofs.ValueTies.{values_tie}
use Rattle.numbered_terms.proofs.Members.{equal_of, itself_among}
use Rattle.delta_table.proofs.Entries.{Entry, entries, found_of, map_twice, founds_are, rows_are}
use Rattle.delta_table.proofs.Shares.{share_counted, patterns_made, rest_made}

-- the sets of values that are found are those that occur

module _ (width : ℕ) where
  values_are : (i : Item) → values_in (founds width i.tuples) ≡ map (λ (r : Row). r.values) (rows_of width i)
  values_are i =
      ap values_in (founds_are width i.tuples)
      ∙ (map_twice (λ (f : PlacedRow). f.values) found_of (entries width i.tuples)
      ∙ (sym (map_twice (λ (r : Row). r.values) (λ (e : Entry). e.row) (entries width i.tuples))
      ∙ ap (map (λ (r : Row). r.values)) (sym (rows_are width i))))

  all_values_are : (items : List Item) → all_values (tables_of width items) ≡ occurring width items
  all_values_are [] = refl
  all_values_are (i ∷ items) = λ k. values_are i k ++ all_values_are items k

-- elements by the test and as contained

contained : (w : TermSet) (ws : List TermSet) → list_any (eq_by_cmp values_cmp w) ws ≡ true → Contains ws w
contained w ws = from_any (Contains ws) (eq_by_cmp values_cmp w) ws (All-contains_itself ws) (λ v c e. subst (Contains ws) (sym (equal_of values_total values_tie w v e)) c)

among : (w : TermSet) (ws : List TermSet) → Contains ws w → list_any (eq_by_cmp values_cmp w) ws ≡ true
among w ws c = All-contains (λ v. list_any (eq_by_cmp values_cmp v) ws ≡ true) ws w (itself_among values_total values_tie ws) c

-- what each item gives, where items are as they are always

module _ (width : ℕ) (w : TermSet) where
  pub patterns_of_all : (items : List Item) → All IsItem items → zipped (made_patterns w) items (tables_of width items) ≡ map (patterns width w) items
  patterns_of_all [] h = refl
  patterns_of_all (i ∷ items) h =
      let item = All-head IsItem i items h in
      λ k. patterns_made width i (formed_tuples i item) item.rises w k ∷ patterns_of_all items (All-tail IsItem i items h) k

  pub rests_of_all : (items : List Item) → All IsItem items → zipped (made_rest w) items (tables_of width items) ≡ map (rest_item width w) items
  rests_of_all [] h = refl
  rests_of_all (i ∷ items) h =
      let item = All-head IsItem i items h in
      λ k. rest_made width i (formed_tuples i item) item.rises w k ∷ rests_of_all items (All-tail IsItem i items h) k

  shares_of_all : (items : List Item) → All IsItem items → sum (zipped (λ i fs. share i (tally_of w fs)) items (tables_of width items)) ≡ sum_by (λ i. quantifiers i * (length (patterns width w i) + length (rest width w i))) items
  shares_of_all [] h = refl
  shares_of_all (i ∷ items) h =
      let item = All-head IsItem i items h in
      let shares = λ (j : Item) (fs : List PlacedRow). share j (tally_of w fs) in
      let here = share_counted width i (formed_tuples i item) item.rises w in
      let later = shares_of_all items (All-tail IsItem i items h) in
      let first = sum_by-cons (λ n. n) (shares i (founds width i.tuples)) (zipped shares items (tables_of width items)) in
      let second = sum_by-cons (λ j. quantifiers j * (length (patterns width w j) + length (rest width w j))) i items in
      omega arith

  pub cost_of_all : (items : List Item) → All IsItem items → made_cost w items (tables_of width items) ≡ cost width items w
  cost_of_all items h = ap (λ n. 1 + length (set.listing w) + n) (shares_of_all items h)

-- the least of the keys is the best candidate
pub best_of_keys : (width : ℕ) (items : List Item) (keys : List TermSet) → All IsItem items
    → ((w : TermSet) → list_any (eq_by_cmp values_cmp w) keys ≡ list_any (eq_by_cmp values_cmp w) (all_values (tables_of width items)))
    → least (by_cost (λ w. made_cost w items (tables_of width items))) keys ≡ best width items
best_of_keys width items keys h same =
    let found : (w : TermSet) → list_any (eq_by_cmp values_cmp w) keys ≡ list_any (eq_by_cmp values_cmp w) (occurring width items) =
    λ w. same w ∙ ap (list_any (eq_by_cmp values_cmp w)) (all_values_are width items) in
    (λ k. least (by_cost (λ w. cost_of_all width w items h k)) keys)
    ∙ least_same (candidate_cmp width items) (candidates_total width items) (candidates_tie width items) keys (occurring width items)
    (λ w c. contained w (occurring width items) (sym (found w) ∙ among w keys c))
    (λ w c. contained w keys (found w ∙ among w (occurring width items) c))

-- no item has many tuples

one_nil : (us : Terms) → count_terms us ≡ 0 → us ≡ nil
one_nil nil e = refl
one_nil (cons t us) e = absurd (omega arith)

no_two : (us vs : Terms) → count_terms us ≡ 0 → count_terms vs ≡ 0 → terms_cmp us vs ≡ Less → ⊥
no_two us vs e f h = different ((λ k. terms_cmp (sym (one_nil us e) k) (sym (one_nil vs f) k)) ∙ h)
  where
    different : Equal ≡ Less → ⊥
    different p = cc

single : (uss : List Terms) → All (λ us. count_terms us ≡ 0) uss → IsStrictlySortedBy terms_cmp uss → length uss ≤ 1
unfolding IsStrictlySortedBy
single [] h s = omega arith
single (us ∷ []) h s = omega arith
single (us ∷ vs ∷ uss) h s =
    absurd (no_two us vs (All-head (λ ts. count_terms ts ≡ 0) us (vs ∷ uss) h) (All-head (λ ts. count_terms ts ≡ 0) vs uss (All-tail (λ ts. count_terms ts ≡ 0) us (vs ∷ uss) h)) s.0.0)

few_of_item : (i : Item) → IsItem i → (b : Bool) → (quantifiers i == 0) ≡ b → (if b then 0 else length i.tuples) ≤ 48 → length i.tuples ≤ 64
few_of_item i h true e l =
    let none : quantifiers i ≡ 0 = eqb-true (quantifiers i) 0 e in
    let one = single i.tuples (subst (λ n. All (λ us. count_terms us ≡ n) i.tuples) none (tuples_counted i h)) (strict_of_rising terms_cmp i.tuples h.rises) in
    omega arith
few_of_item i h false e l = omega arith

pub few_tuples : (items : List Item) → All IsItem items → counted items ≤ 48 → All (λ (i : Item). length i.tuples ≤ 64) items
few_tuples [] h l = All-nil _
few_tuples (i ∷ items) h l =
    let both = sum_by-cons counted_tuples i items in
    let here : counted_tuples i ≤ 48 = omega arith in
    All-cons (λ (j : Item). length j.tuples ≤ 64) i items (few_of_item i (All-head IsItem i items h) (quantifiers i == 0) refl here)
    (few_tuples items (All-tail IsItem i items h) (omega arith))
