-- Listings, with one more tree too.
use Rattle.std.proofs.Common.{◌≡◌, ◌↔◌, ◌<◌, ℕ, suc, Bool, true, false, cond, nat_eq, List, [], ◌∷◌, ◌++◌, map, length, get_or, refl, sym, ap, ◌∙◌, subst, inl, inr}
use Rattle.std.specs.Prelude.{Option, Some, None, option_map, slice_get, slice_index}
use Rattle.std.specs.Cmp.{unsigned_Decides}
use Rattle.std.specs.List.{All}
use Rattle.std.specs.HashMap as hash
use Rattle.std.specs.HashMap.{HashMap, Updates}
use Rattle.std.proofs.lemmas.List.{map-append, length-map}
use Rattle.std.proofs.lemmas.List.Elements.{All-push}
use Rattle.std.proofs.lemmas.Option.{slice_get-map, slice_get_within, slice_get_read}
use Rattle.boxcar.specs.Table.{Shelves}
use Rattle.number_hash.specs.Codes.{same_by_decides}
use Rattle.proof_trees.specs.Trees.{Tree, Trees, rule_of, concl, below}
use Rattle.proof_graph.specs.declared.node.Node.{Node}
use Rattle.proof_graph.specs.Keys.{coded_node, same_node}
use Rattle.proof_steps.specs.declared.listing.Entry.{Entry}
use Rattle.step_laws.specs.Subtrees.{subtrees, appended_each}
use Rattle.step_laws.specs.Places.{step_in}
use Rattle.proof_steps.specs.Listed.{IsIn, AllIn, ArePlaces, AreDistinct, IsClosed, key_in, GivesPlaces}
use Rattle.proof_steps.specs.Kept.{trees_in, numbers_in, entry_step, IsListingOf}
use Rattle.proof_steps.proofs.Standing.{get_left, get_last, get_cases, step_left, key_left, key_back, some_same, places_are, places_within, all_in_places}
use Rattle.proof_steps.proofs.Appending.{distinct_more, closed_more, subtrees_known}

-- keys that a map gives the places of
module _ {K S : Type 0} (same : K → K → Bool) (m n : HashMap K ℕ S) (ks : List K) (gives : GivesPlaces same m ks) where
  distinct_keys : AreDistinct ks
  distinct_keys i j k at_i at_j = some_same i j (sym (gives.found i k at_i) ∙ gives.found j k at_j)

  absent_key : (k : K) → hash.get same m k ≡ None → IsIn ks k → ⊥
  absent_key k none there = let given = gives.found there.0 k there.1 in absurd (cc)

  places_same : ((k : K) → hash.get same n k ≡ hash.get same m k) → GivesPlaces same n ks
  places_same alike = record {
    found = λ i k there. alike k ∙ gives.found i k there;
    listed = λ k i there. gives.listed k i (sym (alike k) ∙ there);
  }

  gives_more : (key : K) → ((x y : K) → (same x y ≡ true) ↔ (x ≡ y)) → Updates same m n key (Some (length ks)) → (IsIn ks key → ⊥) → GivesPlaces same n (ks ++ key ∷ [])
  gives_more key decides updates new = record {
    found = λ i k there. elim (get_cases ks key i k there) [
      | inl old ↦ found_old i k old (same key k) refl
      | inr last ↦ value k true ((decides key k).1 last.1) ∙ ap Some (sym last.0)
    ];
    listed = λ k i there. by_test k i there (same key k) refl;
  }
    where
      value : (k : K) (b : Bool) → same key k ≡ b → hash.get same n k ≡ cond b (Some (length ks)) (hash.get same m k)
      value k b is = updates.0 k ∙ ap (λ c. cond c (Some (length ks)) (hash.get same m k)) is

      found_old : (i : ℕ) (k : K) → slice_get ks i ≡ Some k → (b : Bool) → same key k ≡ b → hash.get same n k ≡ Some i
      found_old i k old true is = absurd (new (i, old ∙ ap Some (sym ((decides key k).0 is))))
      found_old i k old false is = value k false is ∙ gives.found i k old

      by_test : (k : K) (i : ℕ) → hash.get same n k ≡ Some i → (b : Bool) → same key k ≡ b → slice_get (ks ++ key ∷ []) i ≡ Some k
      by_test k i there true is =
          let here : length ks ≡ i = some_same (length ks) i (sym (value k true is) ∙ there) in
          ap (slice_get (ks ++ key ∷ [])) (sym here) ∙ get_last ks key ∙ ap Some ((decides key k).0 is)
      by_test k i there false is = get_left ks (key ∷ []) i k (gives.listed k i (sym (value k false is) ∙ there))

map_same : {Y : Type 0} (f g : Tree → Y) (zs : List Tree) → ((t : Tree) → IsIn zs t → f t ≡ g t) → map f zs ≡ map g zs
map_same f g [] h = refl
map_same f g (z ∷ zs) h = λ i. h z (0, refl) i ∷ map_same f g zs (λ t there. h t (suc there.0, there.1)) i

mapped_more : {Y : Type 0} (f g : Tree → Y) (xs : List Tree) (t : Tree) (y : Y) → ((u : Tree) → IsIn xs u → g u ≡ f u) → g t ≡ y → map g (xs ++ t ∷ []) ≡ map f xs ++ y ∷ []
mapped_more f g xs t y old new = map-append g xs (t ∷ []) ∙ (λ i. map_same g f xs old i ++ new i ∷ [])

as_many : (es : List Entry) → length (numbers_in es) ≡ length (trees_in es)
as_many es = length-map es (λ (e : Entry). e.proof.number) ∙ sym (length-map es (λ (e : Entry). e.proof.tree))

key_decides : (m n : Node) → (same_node m n ≡ true) ↔ (m ≡ n)
key_decides = same_by_decides coded_node

-- a key at a place, and the tree there
tree_at : {Y : Type 0} (f : Tree → Y) (i : ℕ) (y : Y) (o : Option Tree) → option_map f o ≡ Some y → (t : Tree) × (o ≡ Some t) × (f t ≡ y)
tree_at f i y None h = cc
tree_at f i y (Some t) h = (t, refl, some_same (f t) y h)

module _ {S T : Type 0} (graph : Shelves) (entries : List Entry) (keys : HashMap Node ℕ S) (seen : HashMap ℕ ℕ T) (h : IsListingOf graph entries keys seen) where
  abbrev xs : List Tree
  xs = trees_in entries

  abbrev ns : List ℕ
  ns = numbers_in entries

  -- a tree is at the place of its key
  at_key : (t : Tree) (key : Node) (i : ℕ) → AllIn xs (below t) → key ≡ key_in xs ns t → slice_get (map (key_in xs ns) xs) i ≡ Some key → slice_get xs i ≡ Some t
  at_key t key i premises is there =
      let found = tree_at (key_in xs ns) i key (slice_get xs i) (sym (slice_get-map (key_in xs ns) xs i) ∙ there) in
      let distinct = distinct_keys nat_eq seen seen ns h.noted in
      found.1 ∙ ap Some (key_back xs ns (as_many entries) distinct found.0 t (h.closed found.0 (i, found.1)) premises (found.2 ∙ is))

  pub found_tree : (key : Node) (i : ℕ) → hash.get same_node keys key ≡ Some i → (t : Tree) → key ≡ key_in xs ns t → AllIn xs (below t) → slice_get xs i ≡ Some t
  found_tree key i there t is premises = at_key t key i premises is (h.keyed.listed key i there)

  pub absent_tree : (key : Node) → hash.get same_node keys key ≡ None → (t : Tree) → key ≡ key_in xs ns t → IsIn xs t → ⊥
  absent_tree key none t is there =
      let stands : slice_get (map (key_in xs ns) xs) there.0 ≡ Some key = slice_get-map (key_in xs ns) xs there.0 ∙ ap (option_map (key_in xs ns)) there.1 ∙ ap Some (sym is) in
      absent_key same_node keys keys (map (key_in xs ns) xs) h.keyed key none (there.0, stands)

  pub places_inside : (is : List ℕ) (ts : Trees) → ArePlaces xs is ts → All (λ i. i < length entries) is
  places_inside is ts there = subst (λ (n : ℕ). All (λ i. i < n) is) (length-map entries (λ (s : Entry). s.proof.tree)) (places_within xs is ts there)

  -- the key of a tree whose premises' trees stand at these places
  pub key_by : (t : Tree) (is : List ℕ) (key : Node) → ArePlaces xs is (below t) → key ≡ record { rule = rule_of t; end = concl t; premises = map (slice_index ns) is } → key ≡ key_in xs ns t
  key_by t is key premises same = same ∙ (λ i. record { rule = rule_of t; end = concl t; premises = map (slice_index ns) (places_are xs h.distinct is (below t) premises i) })

  pub seen_within : (q i : ℕ) → hash.get nat_eq seen q ≡ Some i → i < length entries
  seen_within q i there = rw (sym (length-map entries (λ (s : Entry). s.proof.number))) (slice_get_within ns i q (h.noted.listed q i there))

  -- the reference that stands at the place of a number
  pub seen_entry : (q i : ℕ) (e : Entry) → hash.get nat_eq seen q ≡ Some i → e ≡ get_or entries i e → (e.proof.home ≡ graph) × (slice_get xs i ≡ Some e.proof.tree)
  seen_entry q i e there is =
      let inside = seen_within q i there in (
        ap (λ (s : Entry). s.proof.home) is ∙ h.home i e inside,
        slice_get-map (λ (s : Entry). s.proof.tree) entries i ∙ ap (option_map (λ (s : Entry). s.proof.tree)) (slice_get_read entries (length entries) i e refl inside is),
      )

  -- a tree at a place with those of its premises changes nothing
  pub known_at : (t : Tree) (i : ℕ) → slice_get xs i ≡ Some t → appended_each xs (subtrees t) ≡ xs
  known_at t i there = subtrees_known xs h.closed t (i, there)

  -- the same listing with other room
  pub listing_same : (others : List Entry) (kept : HashMap Node ℕ S) (noted : HashMap ℕ ℕ T) → others ≡ entries → ((k : Node) → hash.get same_node kept k ≡ hash.get same_node keys k)
      → ((q : ℕ) → hash.get nat_eq noted q ≡ hash.get nat_eq seen q) → IsListingOf graph others kept noted
  listing_same others kept noted items alike as_seen = subst (λ (es : List Entry). IsListingOf graph es kept noted) (sym items) (record {
    home = h.home;
    distinct = h.distinct;
    closed = h.closed;
    steps = h.steps;
    keyed = places_same same_node keys kept (map (key_in xs ns) xs) h.keyed alike;
    noted = places_same nat_eq seen noted ns h.noted as_seen;
  })

  -- one more tree, which stands nowhere yet and whose premises' trees do
  pub listing_more : (grown : HashMap Node ℕ S) (noted : HashMap ℕ ℕ T) (e : Entry) (key : Node) (place : ℕ) → e.proof.home ≡ graph → key ≡ key_in xs ns e.proof.tree
      → ArePlaces xs e.premises (below e.proof.tree) → (IsIn xs e.proof.tree → ⊥) → hash.get nat_eq seen e.proof.number ≡ None → place ≡ length entries
      → Updates same_node keys grown key (Some place) → Updates nat_eq seen noted e.proof.number (Some place) → IsListingOf graph (entries ++ e ∷ []) grown noted
  listing_more grown noted e key place home is premises new unseen placed key_updates number_updates =
      let t = e.proof.tree in
      let below_in = all_in_places xs e.premises (below t) premises in
      let longer : trees_in (entries ++ e ∷ []) ≡ xs ++ t ∷ [] = map-append (λ (s : Entry). s.proof.tree) entries (e ∷ []) in
      let longer_numbers : numbers_in (entries ++ e ∷ []) ≡ ns ++ e.proof.number ∷ [] = map-append (λ (s : Entry). s.proof.number) entries (e ∷ []) in
      let step : entry_step e ≡ step_in xs t = λ i. record { rule = rule_of t; premises = places_are xs h.distinct e.premises (below t) premises i; end = concl t } in
      let steps = mapped_more (step_in xs) (step_in (xs ++ t ∷ [])) xs t (entry_step e) (λ u there. step_left xs (t ∷ []) u (h.closed u there)) (step_left xs (t ∷ []) t below_in ∙ sym step) in
      let keys_now = mapped_more (key_in xs ns) (key_in (xs ++ t ∷ []) (ns ++ e.proof.number ∷ [])) xs t key
      (λ u there. key_left xs ns (as_many entries) (t ∷ []) (e.proof.number ∷ []) u (h.closed u there)) (key_left xs ns (as_many entries) (t ∷ []) (e.proof.number ∷ []) t below_in ∙ sym is) in
      let key_place : place ≡ length (map (key_in xs ns) xs) = placed ∙ sym (length-map xs (key_in xs ns) ∙ length-map entries (λ (s : Entry). s.proof.tree)) in
      let number_place : place ≡ length ns = placed ∙ sym (length-map entries (λ (s : Entry). s.proof.number)) in
      let keyed = gives_more same_node keys grown (map (key_in xs ns) xs) h.keyed key key_decides (subst (λ (n : ℕ). Updates same_node keys grown key (Some n)) key_place key_updates)
      (λ there. new (there.0, at_key t key there.0 below_in is there.1)) in
      let seen_now = gives_more nat_eq seen noted ns h.noted e.proof.number unsigned_Decides (subst (λ (n : ℕ). Updates nat_eq seen noted e.proof.number (Some n)) number_place number_updates) (absent_key nat_eq seen seen ns h.noted e.proof.number unseen) in
      record {
        home = All-push (λ s. s.proof.home ≡ graph) entries e h.home home;
        distinct = subst (λ (ys : List Tree). AreDistinct ys) (sym longer) (distinct_more xs t h.distinct new);
        closed = subst IsClosed (sym longer) (closed_more xs t h.closed below_in);
        steps = map-append entry_step entries (e ∷ []) ∙ (λ i. h.steps i ++ entry_step e ∷ []) ∙ sym steps ∙ sym (λ i. map (step_in (longer i)) (longer i));
        keyed = subst (GivesPlaces same_node grown) (sym keys_now ∙ sym (λ i. map (key_in (longer i) (longer_numbers i)) (longer i))) keyed;
        noted = subst (GivesPlaces nat_eq noted) (sym longer_numbers) seen_now;
      }
