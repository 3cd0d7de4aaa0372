-- The candidate that is found in a table is the best one.
use Rattle.std.proofs.Common.{◌≡◌, ℕ, ◌<◌, List, [], map, length, get_or, Option, Some, None, option_map, IfSome, refl, sym, ap, subst, ◌∙◌}
use Rattle.std.specs.List.{All, list_any}
use Rattle.std.specs.Ordering.{eq_by_cmp}
use Rattle.std.proofs.lemmas.List.{length-map, get_or-map, get_or_default}
use Rattle.finite.specs.Finite as set
use Rattle.herbrand_laws.specs.Herbrand.{Item}
use Rattle.herbrand_laws.specs.Patterns.{TermSet}
use Rattle.herbrand_laws.specs.Candidates.{least, best}
use Rattle.numbered_terms.specs.Numbered.{set_at, IsTermSet}
use Rattle.delta_table.specs.declared.tables.Table.{Table}
use Rattle.delta_table.specs.Items.{IsItem}
use Rattle.delta_table.specs.FoundRows.{founds, all_values, tables_of, row_at}
use Rattle.delta_rows.specs.ValueOrder.{values_cmp, by_cost}
use Rattle.delta_table.specs.Chosen.{zipped, made_patterns, made_rest, made_cost, cost_at, made_candidate, candidate_of}
use Rattle.delta_table.specs.Tables.{IsTable}
use Rattle.delta_table.proofs.Entries.{map_twice}
use Rattle.delta_table.proofs.BestRow.{patterns_of_all, rests_of_all, cost_of_all, best_of_keys}
use Rattle.delta_table.proofs.SetRows.{patterns_of_items, rests_of_items, cost_shown, costs_shown, keys_shown}

module _ (width : ℕ) (items : List Item) (h : All IsItem items) (t : Table) (made : IsTable width items t) where
  abbrev shown : TermSet → ℕ
  shown w = made_cost w items (tables_of width items)

  priced : map (λ k. cost_at k items t.rows.items) t.keys ≡ map (λ k. shown (set_at t.cells k)) t.keys
  priced =
      costs_shown t.cells made.distinct t.keys made.sets items t.rows.items made.rows.sets
      ∙ (map_twice (λ w. made_cost w items (map (map (row_at t.cells)) t.rows.items)) (set_at t.cells) t.keys
      ∙ λ j. map (λ k. made_cost (set_at t.cells k) items (made.rows.shown j)) t.keys)

  -- the least key by its costs is the best set of values
  found_best : (costs : List ℕ) (o : Option TermSet) → costs ≡ map (λ k. cost_at k items t.rows.items) t.keys
      → ((c : TermSet → ℕ) → costs ≡ map (λ k. c (set_at t.cells k)) t.keys → o ≡ least (by_cost c) (map (set_at t.cells) t.keys))
      → o ≡ best width items
  found_best costs o e value =
      value shown (e ∙ priced)
      ∙ best_of_keys width items (map (set_at t.cells) t.keys) h
      (λ w. keys_shown t.cells t.keys t.rows.items made.keys w ∙ ap (λ fss. list_any (eq_by_cmp values_cmp w) (all_values fss)) made.rows.shown)

  -- the key at the place that is found
  pub best_found : (keys : List (List ℕ)) (costs prices : List ℕ) (o : Option ℕ) → keys ≡ t.keys → prices ≡ costs → costs ≡ map (λ k. cost_at k items t.rows.items) t.keys → IfSome o (λ k. k < length keys)
      → ((c : TermSet → ℕ) → prices ≡ map (λ k. c (set_at t.cells k)) keys → option_map (λ k. get_or (map (set_at t.cells) keys) k set.empty) o ≡ least (by_cost c) (map (set_at t.cells) keys))
      → option_map (λ k. set_at t.cells (get_or t.keys k [])) o ≡ best width items
  best_found keys costs prices o same paid e within value =
      let least_one : (c : TermSet → ℕ) → costs ≡ map (λ k. c (set_at t.cells k)) t.keys → option_map (λ k. get_or (map (set_at t.cells) keys) k set.empty) o ≡ least (by_cost c) (map (set_at t.cells) t.keys) =
      λ c g. value c (paid ∙ (g ∙ ap (map (λ k. c (set_at t.cells k))) (sym same))) ∙ ap (λ ks. least (by_cost c) (map (set_at t.cells) ks)) same in
      by_place o within ∙ found_best costs (option_map (λ k. get_or (map (set_at t.cells) keys) k set.empty) o) e least_one
    where
      by_place : (p : Option ℕ) → IfSome p (λ k. k < length keys) → option_map (λ k. set_at t.cells (get_or t.keys k [])) p ≡ option_map (λ k. get_or (map (set_at t.cells) keys) k set.empty) p
      by_place None w = refl
      by_place (Some k) w = ap Some (ap (λ ks. set_at t.cells (get_or ks k [])) (sym same) ∙ sym (get_or-map (set_at t.cells) keys k [] set.empty w))

  -- and what is made of it is the candidate
  candidate_made : (k : List ℕ) (n : ℕ) → IsTermSet t.cells k → n ≡ cost_at k items t.rows.items → made_candidate t k items n ≡ candidate_of width items (set_at t.cells k)
  candidate_made k n key c =
      let w = set_at t.cells k in
      let first = patterns_of_items t.cells made.distinct k key items t.rows.items made.rows.sets ∙ (ap (zipped (made_patterns w) items) made.rows.shown ∙ patterns_of_all width w items h) in
      let second = rests_of_items t.cells made.distinct k key items t.rows.items made.rows.sets ∙ (ap (zipped (made_rest w) items) made.rows.shown ∙ rests_of_all width w items h) in
      let third = c ∙ (cost_shown t.cells made.distinct k key items t.rows.items made.rows.sets ∙ (ap (made_cost w items) made.rows.shown ∙ cost_of_all width w items h)) in
      λ j. record { values = w; patterns = first j; rest = second j; cost = third j }

  pub candidate_found : (keys : List (List ℕ)) (costs : List ℕ) (at : ℕ) (key : List ℕ) (n : ℕ) → keys ≡ t.keys → costs ≡ map (λ k. cost_at k items t.rows.items) t.keys → at < length keys
      → key ≡ get_or keys at key → n ≡ get_or costs at n → made_candidate t key items n ≡ candidate_of width items (set_at t.cells (get_or t.keys at []))
  candidate_found keys costs at key n same e l k c =
      let within : at < length t.keys = subst (λ ks. at < length ks) same l in
      let own : key ≡ get_or t.keys at [] = k ∙ (ap (λ ks. get_or ks at key) same ∙ get_or_default t.keys at key [] within) in
      let cost : n ≡ cost_at (get_or t.keys at []) items t.rows.items = c ∙ (ap (λ ns. get_or ns at n) e ∙ get_or-map (λ j. cost_at j items t.rows.items) t.keys at [] n within) in
      ap (λ j. made_candidate t j items n) own ∙ candidate_made (get_or t.keys at []) n (made.sets at [] within) cost

  -- each item has its rows
  pub rows_counted : length t.rows.items ≡ length items
  rows_counted =
      sym (length-map t.rows.items (map (row_at t.cells)))
      ∙ (ap length made.rows.shown ∙ length-map items (λ (i : Item). founds width i.tuples))
