-- What is made of rows by numbers is what is made of the rows that they mean.
use Rattle.std.proofs.Common.{◌≡◌, ℕ, Bool, true, false, ◌||◌, cond, if◌then◌else◌, List, [], ◌∷◌, ◌++◌, map, sum, fold, refl, sym, ap, subst, ◌∙◌, arith}
use Rattle.std.specs.List.{All, list_any, filter, filter_map}
use Rattle.std.specs.Ordering.{eq_by_cmp}
use Rattle.std.proofs.lemmas.List.{map-append}
use Rattle.std.proofs.lemmas.List.Elements.{All-nil, All-cons, All-head, All-tail, All-append, All-weaker}
use Rattle.fol.specs.Syntax.{Terms}
use Rattle.search_laws.proofs.Tests.{same_truth}
use Rattle.herbrand_laws.specs.Herbrand.{Item}
use Rattle.herbrand_laws.specs.Patterns.{TermSet}
use Rattle.herbrand_laws.specs.Candidates.{same_terms}
use Rattle.herbrand_laws.proofs.Lists.{any-map, from_any}
use Rattle.number_hash.specs.Codes.{same_by_decides}
use Rattle.arena_cells.specs.Items.{Item as Thing}
use Rattle.arena_cells.specs.Standing.{IsDistinct}
use Rattle.numbered_terms.specs.NumberSets.{coded_numbers, same_numbers}
use Rattle.numbered_terms.specs.Numbered.{set_at, IsTermSet}
use Rattle.numbered_terms.proofs.TermSets.{one_set, set_size}
use Rattle.delta_table.specs.declared.founds.Found.{Found}
use Rattle.delta_table.specs.declared.tallies.Tally.{Tally}
use Rattle.delta_rows.specs.ValueOrder.{values_cmp}
use Rattle.delta_table.specs.FoundRows.{PlacedRow, noted, nothing, tally_of, tally_at, all_values, values_in, numbers_in, all_numbers, row_at}
use Rattle.delta_table.specs.Chosen.{zipped, share, pattern_of_places, in_order, rest_outside, patterns_found, made_patterns, made_rest, made_cost, patterns_at, patterns_by_numbers, rest_at, cost_at}
use Rattle.delta_rows.proofs.ValueTies.{same_sets, equal_sets}
use Rattle.delta_table.proofs.FoundRows.{filter_map-map}
use Rattle.delta_table.proofs.Shares.{filter-mapped}

module _ (a : List Thing) (distinct : IsDistinct a) where
  -- sets are compared by their numbers
  sets_test : (ns ms : List ℕ) → IsTermSet a ns → IsTermSet a ms → same_numbers ns ms ≡ same_terms (set_at a ns) (set_at a ms)
  sets_test ns ms h g =
      same_truth (same_numbers ns ms) (same_terms (set_at a ns) (set_at a ms))
      (λ e. equal_sets (set_at a ns) (set_at a ms) (ap (set_at a) ((same_by_decides coded_numbers ns ms).0 e)))
      (λ e. (same_by_decides coded_numbers ns ms).1 (one_set a distinct ns ms h g (same_sets (set_at a ns) (set_at a ms) e)))

  module _ (k : List ℕ) (key : IsTermSet a k) where
    abbrev w : TermSet
    w = set_at a k

    abbrev AreSets : List Found → Type 0
    AreSets rows = All (λ f. IsTermSet a f.values) rows

    tallied : (rows : List Found) → AreSets rows → (t : Tally)
        → fold (λ t f. if same_numbers f.values k then noted f.places t else t) t rows ≡ fold (λ t (f : PlacedRow). if same_terms f.values w then noted f.places t else t) t (map (row_at a) rows)
    tallied [] h t = refl
    tallied (f ∷ fs) h t =
        let test = sets_test f.values k (All-head (λ (g : Found). IsTermSet a g.values) f fs h) key in
        tallied fs (All-tail (λ (g : Found). IsTermSet a g.values) f fs h) (if same_numbers f.values k then noted f.places t else t)
        ∙ λ i. fold (λ t (f : PlacedRow). if same_terms f.values w then noted f.places t else t) (if test i then noted f.places t else t) (map (row_at a) fs)

    tally_shown : (rows : List Found) → AreSets rows → tally_at k rows ≡ tally_of w (map (row_at a) rows)
    tally_shown rows h = tallied rows h nothing

    chosen_shown : (rows : List Found) → AreSets rows → filter (λ f. same_numbers f.values k) rows ≡ filter (λ f. same_terms (row_at a f).values w) rows
    chosen_shown [] h = refl
    chosen_shown (f ∷ fs) h =
        let test = sets_test f.values k (All-head (λ (g : Found). IsTermSet a g.values) f fs h) key in
        let later = chosen_shown fs (All-tail (λ (g : Found). IsTermSet a g.values) f fs h) in
        λ i. cond (test i) (f ∷ later i) (later i)

    patterns_shown : (tuples : List Terms) (rows : List Found) → AreSets rows → patterns_at tuples k rows ≡ patterns_found tuples w (map (row_at a) rows)
    patterns_shown tuples rows h =
        ap (filter_map (λ (f : Found). pattern_of_places tuples f.places)) (chosen_shown rows h)
        ∙ (sym (filter_map-map (λ (f : PlacedRow). pattern_of_places tuples f.places) (row_at a) (filter (λ f. same_terms (row_at a f).values w) rows))
        ∙ ap (filter_map (λ (f : PlacedRow). pattern_of_places tuples f.places)) (sym (filter-mapped (λ (f : PlacedRow). same_terms f.values w) (row_at a) rows)))

    -- of each item

    zipped_shown : {C : Type 0} (f : Item → List Found → C) (g : Item → List PlacedRow → C) → ((i : Item) (rows : List Found) → AreSets rows → f i rows ≡ g i (map (row_at a) rows))
        → (items : List Item) (tables : List (List Found)) → All AreSets tables → zipped f items tables ≡ zipped g items (map (map (row_at a)) tables)
    zipped_shown f g same [] tables h = refl
    zipped_shown f g same (i ∷ items) [] h = refl
    zipped_shown f g same (i ∷ items) (rows ∷ tables) h =
        λ j. same i rows (All-head AreSets rows tables h) j ∷ zipped_shown f g same items tables (All-tail AreSets rows tables h) j

    pub patterns_of_items : (items : List Item) (tables : List (List Found)) → All AreSets tables → zipped (patterns_by_numbers k) items tables ≡ zipped (made_patterns w) items (map (map (row_at a)) tables)
    patterns_of_items = zipped_shown (patterns_by_numbers k) (made_patterns w) (λ i rows h. ap in_order (patterns_shown i.tuples rows h))

    pub rests_of_items : (items : List Item) (tables : List (List Found)) → All AreSets tables → zipped (rest_at k) items tables ≡ zipped (made_rest w) items (map (map (row_at a)) tables)
    rests_of_items = zipped_shown (rest_at k) (made_rest w) (λ i rows h. ap (λ (t : Tally). rest_outside t.places i) (tally_shown rows h))

    pub cost_shown : (items : List Item) (tables : List (List Found)) → All AreSets tables → cost_at k items tables ≡ made_cost w items (map (map (row_at a)) tables)
    cost_shown items tables h =
        let size = set_size a distinct k key in
        let shares = ap sum (zipped_shown (λ i rows. share i (tally_at k rows)) (λ i fs. share i (tally_of w fs)) (λ i rows g. ap (share i) (tally_shown rows g)) items tables h) in
        omega arith

  -- the costs of all sets
  pub costs_shown : (keys : List (List ℕ)) → All (IsTermSet a) keys → (items : List Item) (tables : List (List Found)) → All (All (λ (f : Found). IsTermSet a f.values)) tables
      → map (λ k. cost_at k items tables) keys ≡ map (λ w. made_cost w items (map (map (row_at a)) tables)) (map (set_at a) keys)
  costs_shown [] h items tables g = refl
  costs_shown (k ∷ ks) h items tables g =
      λ i. cost_shown k (All-head (IsTermSet a) k ks h) items tables g i ∷ costs_shown ks (All-tail (IsTermSet a) k ks h) items tables g i

module _ (a : List Thing) where
  values_shown : (rows : List Found) → map (set_at a) (numbers_in rows) ≡ values_in (map (row_at a) rows)
  values_shown [] = refl
  values_shown (f ∷ fs) = ap (λ ws. set_at a f.values ∷ ws) (values_shown fs)

  all_shown : (tables : List (List Found)) → map (set_at a) (all_numbers tables) ≡ all_values (map (map (row_at a)) tables)
  all_shown [] = refl
  all_shown (rows ∷ tables) =
      map-append (set_at a) (numbers_in rows) (all_numbers tables) ∙ λ i. values_shown rows i ++ all_shown tables i

  -- the sets that are put are those of the rows
  pub keys_shown : (keys : List (List ℕ)) (tables : List (List Found)) → ((p : List ℕ → Bool) → list_any p keys ≡ list_any p (all_numbers tables))
      → (v : TermSet) → list_any (eq_by_cmp values_cmp v) (map (set_at a) keys) ≡ list_any (eq_by_cmp values_cmp v) (all_values (map (map (row_at a)) tables))
  keys_shown keys tables same v =
      any-map (eq_by_cmp values_cmp v) (set_at a) keys
      ∙ (same (λ k. eq_by_cmp values_cmp v (set_at a k))
      ∙ (sym (any-map (eq_by_cmp values_cmp v) (set_at a) (all_numbers tables)) ∙ ap (list_any (eq_by_cmp values_cmp v)) (all_shown tables)))

  -- and have numbers of terms

  row_sets : (rows : List Found) → All (λ f. IsTermSet a f.values) rows → All (IsTermSet a) (numbers_in rows)
  row_sets [] h = All-nil _
  row_sets (f ∷ fs) h = All-cons (IsTermSet a) f.values (numbers_in fs) (All-head (λ (g : Found). IsTermSet a g.values) f fs h) (row_sets fs (All-tail (λ (g : Found). IsTermSet a g.values) f fs h))

  table_sets : (tables : List (List Found)) → All (All (λ (f : Found). IsTermSet a f.values)) tables → All (IsTermSet a) (all_numbers tables)
  table_sets [] h = All-nil _
  table_sets (rows ∷ tables) h =
      All-append (IsTermSet a) (numbers_in rows) (all_numbers tables) (row_sets rows (All-head (All (λ (f : Found). IsTermSet a f.values)) rows tables h)) (table_sets tables (All-tail (All (λ (f : Found). IsTermSet a f.values)) rows tables h))

  among : (keys : List (List ℕ)) → All (λ k. list_any (same_numbers k) keys ≡ true) keys
  among [] = All-nil _
  among (k ∷ ks) =
      All-cons (λ j. list_any (same_numbers j) (k ∷ ks) ≡ true) k ks
      (ap (λ b. b || list_any (same_numbers k) ks) ((same_by_decides coded_numbers k k).1 refl))
      (All-weaker (λ j. list_any (same_numbers j) ks ≡ true) (λ j. list_any (same_numbers j) (k ∷ ks) ≡ true) (λ j e. ap (λ b. same_numbers j k || b) e ∙ or_true (same_numbers j k)) ks (among ks))
    where
      or_true : (b : Bool) → (b || true) ≡ true
      or_true true = refl
      or_true false = refl

  pub key_sets : (keys : List (List ℕ)) (tables : List (List Found)) → ((p : List ℕ → Bool) → list_any p keys ≡ list_any p (all_numbers tables)) → All (All (λ (f : Found). IsTermSet a f.values)) tables → All (IsTermSet a) keys
  key_sets keys tables same h =
      All-weaker (λ k. list_any (same_numbers k) keys ≡ true) (IsTermSet a)
      (λ k e. from_any (IsTermSet a) (same_numbers k) (all_numbers tables) (table_sets tables h)
      (λ j g t. subst (IsTermSet a) (sym ((same_by_decides coded_numbers k j).0 t)) g)
      (sym (same (same_numbers k)) ∙ e))
      keys (among keys)
