-- An index with one more reference.
use Rattle.std.proofs.Common.{◌≡◌, ◌≢◌, ℕ, ◌+◌, ◌<◌, ◌≤◌, ◌⊎◌, Bool, true, false, List, [], ◌∷◌, ◌++◌, length, get_or, refl, sym, ap, ◌∙◌, subst, arith, inl, inr, length-append}
use Rattle.std.specs.Prelude.{Option, Some, IsSome, nat_eq}
use Rattle.std.specs.Bool.{Decides}
use Rattle.std.specs.Cmp.{unsigned_Decides}
use Rattle.std.specs.List.{All, AllPairs}
use Rattle.std.specs.HashMap as hash
use Rattle.std.specs.HashMap.{HashMap, Updates}
use Rattle.std.proofs.lemmas.Bool.{cases_lt}
use Rattle.std.proofs.lemmas.List.{get_or_append_left, get_or_at}
use Rattle.std.proofs.lemmas.List.Elements.{All-push, All-weaker}
use Rattle.std.proofs.lemmas.List.Quantifiers.{all_pairs_push}
use Rattle.proof_trees.specs.Trees.{IsValid}
use Rattle.proof_graph.specs.declared.node.Node.{Node}
use Rattle.proof_graph.specs.declared.index.Index.TheInside.{Inside}
use Rattle.proof_graph.specs.declared.places.Places.{Places}
use Rattle.number_hash.specs.Codes.{same_by_decides}
use Rattle.proof_graph.specs.Keys.{coded_node, same_node, node_fingerprint}
use Rattle.proof_graph.specs.Places.{first_at, other_at, IsFoundAt, AreSame, Notes}
use Rattle.proof_graph.specs.References.{Reference, key_of}
use Rattle.proof_graph.specs.History.{IsAbsent}
use Rattle.proof_graph.specs.Indexed.{IsIndexed}
use Rattle.proof_graph.proofs.Entries.{some_same}

-- a place among the old references, or the new one
at_place : (rs : List Reference) (r : Reference) (k : ℕ) (d : Reference) → k < length (rs ++ r ∷ [])
    → ((k < length rs) × (get_or (rs ++ r ∷ []) k d ≡ get_or rs k d)) ⊎ ((k ≡ length rs) × (get_or (rs ++ r ∷ []) k d ≡ r))
at_place rs r k d within = elim (split k (length rs) (omega (arith, length-append rs (r ∷ [])))) [
  | inl before ↦ inl (before, get_or_append_left rs (r ∷ []) d k before)
  | inr here ↦ inr (here, get_or_at rs r [] d k (sym here))
]
  where
    split : (m n : ℕ) → m < n + 1 → (m < n) ⊎ (m ≡ n)
    split m n h = elim (cases_lt m n) [
      | inl below ↦ inl below
      | inr past ↦ inr (omega arith)
    ]

-- the new map at a key
module _ {K S : Type 0} (eq : K → K → Bool) (decides : (x y : K) → Decides (eq x y) (x ≡ y)) (old new : HashMap K ℕ S) (key : K) (place : ℕ) (updates : Updates eq old new key (Some place)) where
  at_key : hash.get eq new key ≡ Some place
  at_key = updates.1

  elsewhere_at : (n : K) (b : Bool) → eq key n ≡ b → (key ≡ n → ⊥) → hash.get eq new n ≡ hash.get eq old n
  elsewhere_at n true is apart = absurd (apart ((decides key n).0 is))
  elsewhere_at n false is apart = updates.2 n is

  elsewhere : (n : K) → (key ≡ n → ⊥) → hash.get eq new n ≡ hash.get eq old n
  elsewhere n apart = elsewhere_at n (eq key n) refl apart

  -- what the new map gives is the new place or what the old map gave
  given_at : (n : K) (k : ℕ) (b : Bool) → eq key n ≡ b → hash.get eq new n ≡ Some k → ((key ≡ n) × (k ≡ place)) ⊎ (hash.get eq old n ≡ Some k)
  given_at n k true is h =
      let same : key ≡ n = (decides key n).0 is in
      inl (same, some_same k place (sym h ∙ ap (hash.get eq new) (sym same) ∙ at_key))
  given_at n k false is h = inr (sym (updates.2 n is) ∙ h)

  given : (n : K) (k : ℕ) → hash.get eq new n ≡ Some k → ((key ≡ n) × (k ≡ place)) ⊎ (hash.get eq old n ≡ Some k)
  given n k h = given_at n k (eq key n) refl h

-- the places of keys after one more was noted
module _ (p q : Places) (key : Node) (place : ℕ) (notes : Notes p key place q) where
  -- the key is found at its place
  is_found : IsFoundAt q key place
  is_found = elim notes [
    | inl first ↦ inl (at_key nat_eq unsigned_Decides p.firsts q.firsts (node_fingerprint key) place first.1)
    | inr other ↦ inr (
      subst (λ (o : Option ℕ). IsSome o) (sym (other.1 (node_fingerprint key))) other.0,
      at_key same_node (same_by_decides coded_node) p.others q.others key place other.2,
    )
  ]

  -- a key that was found is found there still
  stays_found : (n : Node) (k : ℕ) → (key ≡ n → ⊥) → IsFoundAt p n k → IsFoundAt q n k
  stays_found n k apart found = elim notes [
    | inl first ↦
        let same_print : node_fingerprint key ≡ node_fingerprint n → IsSome (first_at p (node_fingerprint n)) → ⊥ = λ same some. cc (ap (first_at p) same, first.0, some) in
        let stays : IsSome (first_at p (node_fingerprint n)) → first_at q (node_fingerprint n) ≡ first_at p (node_fingerprint n) =
        λ some. elsewhere nat_eq unsigned_Decides p.firsts q.firsts (node_fingerprint key) place first.1 (node_fingerprint n) (λ same. same_print same some) in
        elim found [
          | inl here ↦ inl (stays (cc here) ∙ here)
          | inr there ↦ inr (subst (λ (o : Option ℕ). IsSome o) (sym (stays there.0)) there.0, first.2 n ∙ there.1)
        ]
    | inr other ↦ elim found [
      | inl here ↦ inl (other.1 (node_fingerprint n) ∙ here)
      | inr there ↦ inr (
        subst (λ (o : Option ℕ). IsSome o) (sym (other.1 (node_fingerprint n))) there.0,
        elsewhere same_node (same_by_decides coded_node) p.others q.others key place other.2 n apart ∙ there.1,
      )
    ]
  ]

  -- what is given now is the new place or what was given before
  first_given : (fingerprint k : ℕ) → first_at q fingerprint ≡ Some k → (k ≡ place) ⊎ (first_at p fingerprint ≡ Some k)
  first_given fingerprint k h = elim notes [
    | inl first ↦ elim (given nat_eq unsigned_Decides p.firsts q.firsts (node_fingerprint key) place first.1 fingerprint k h) [
      | inl new ↦ inl new.1
      | inr old ↦ inr old
    ]
    | inr other ↦ inr (sym (other.1 fingerprint) ∙ h)
  ]

  other_given : (n : Node) (k : ℕ) → other_at q n ≡ Some k → ((key ≡ n) × (k ≡ place)) ⊎ (other_at p n ≡ Some k)
  other_given n k h = elim notes [
    | inl first ↦ inr (sym (first.2 n) ∙ h)
    | inr other ↦ given same_node (same_by_decides coded_node) p.others q.others key place other.2 n k h
  ]

-- one more reference of another key and another number
pub indexed_more : (i j : Inside) (r : Reference) (key : Node) (place : ℕ) → IsIndexed i → j.home.value ≡ i.home.value → j.refs.items ≡ i.refs.items ++ r ∷ []
    → place ≡ length i.refs.items → Notes i.places key place j.places → i.top ≤ j.top → r.number ≤ j.top
    → r.home ≡ i.home.value → IsValid r.tree → key_of r ≡ key → IsAbsent i.refs.items key → All (λ s. s.number ≢ r.number) i.refs.items → IsIndexed j
indexed_more i j r key place h homes items placed changes tops top home valid is others apart =
    let rs = i.refs.items in
    let notes : Notes i.places key (length i.refs.items) j.places = subst (λ (n : ℕ). Notes i.places key n j.places) placed changes in
    let Of : List Reference → Type 0 = λ xs. All (λ s. s.home ≡ j.home.value) xs in
    record {
      home = subst Of (sym items) (All-push (λ s. s.home ≡ j.home.value) rs r (All-weaker (λ s. s.home ≡ i.home.value) (λ s. s.home ≡ j.home.value) (λ s e. e ∙ sym homes) rs h.home) (home ∙ sym homes));
      valid = subst (All (λ s. IsValid s.tree)) (sym items) (All-push (λ s. IsValid s.tree) rs r h.valid valid);
      top = subst (All (λ s. s.number ≤ j.top)) (sym items) (All-push (λ s. s.number ≤ j.top) rs r (All-weaker (λ s. s.number ≤ i.top) (λ s. s.number ≤ j.top) (λ s e. omega arith) rs h.top) top);
      keys = subst (AllPairs (λ s t. key_of s ≢ key_of t)) (sym items) (all_pairs_push (λ s t. key_of s ≢ key_of t) rs r h.keys (λ k d within same. others k d within (same ∙ is)));
      numbers = subst (AllPairs (λ s t. s.number ≢ t.number)) (sym items) (all_pairs_push (λ s t. s.number ≢ t.number) rs r h.numbers (λ k d within. apart k d within));
      found = found_more i j r key h items notes is others;
      first = first_more i j r key h items notes;
      other = other_more i j r key h items notes is;
    }
  where
    longer : (i j : Inside) (r : Reference) → j.refs.items ≡ i.refs.items ++ r ∷ [] → length j.refs.items ≡ length i.refs.items + 1
    longer i j r items = ap length items ∙ length-append i.refs.items (r ∷ [])

    found_more : (i j : Inside) (r : Reference) (key : Node) → IsIndexed i → j.refs.items ≡ i.refs.items ++ r ∷ [] → Notes i.places key (length i.refs.items) j.places
        → key_of r ≡ key → All (λ s. key_of s ≢ key) i.refs.items → (k : ℕ) (d : Reference) → k < length j.refs.items
        → IsFoundAt j.places (key_of (get_or j.refs.items k d)) k
    found_more i j r key h items notes is others k d within =
        let inside : k < length (i.refs.items ++ r ∷ []) = subst (λ (xs : List Reference). k < length xs) items within in
        let read : get_or j.refs.items k d ≡ get_or (i.refs.items ++ r ∷ []) k d = ap (λ (xs : List Reference). get_or xs k d) items in
        elim (at_place i.refs.items r k d inside) [
          | inl old ↦
              let same : get_or j.refs.items k d ≡ get_or i.refs.items k d = read ∙ old.1 in
              subst (λ (s : Reference). IsFoundAt j.places (key_of s) k) (sym same)
              (stays_found i.places j.places key (length i.refs.items) notes (key_of (get_or i.refs.items k d)) k (λ e. others k d old.0 (sym e)) (h.found k d old.0))
          | inr new ↦
              let same : key ≡ key_of (get_or j.refs.items k d) = sym (ap key_of (read ∙ new.1) ∙ is) in
              subst (λ (n : Node). IsFoundAt j.places n k) same
              (subst (λ (m : ℕ). IsFoundAt j.places key m) (sym new.0) (is_found i.places j.places key (length i.refs.items) notes))
        ]

    first_more : (i j : Inside) (r : Reference) (key : Node) → IsIndexed i → j.refs.items ≡ i.refs.items ++ r ∷ [] → Notes i.places key (length i.refs.items) j.places
        → (fingerprint k : ℕ) → first_at j.places fingerprint ≡ Some k → k < length j.refs.items
    first_more i j r key h items notes fingerprint k there =
        let more = longer i j r items in
        elim (first_given i.places j.places key (length i.refs.items) notes fingerprint k there) [
          | inl new ↦ omega arith
          | inr old ↦ omega (arith, h.first fingerprint k old)
        ]

    other_more : (i j : Inside) (r : Reference) (key : Node) → IsIndexed i → j.refs.items ≡ i.refs.items ++ r ∷ [] → Notes i.places key (length i.refs.items) j.places
        → key_of r ≡ key → (n : Node) (k : ℕ) → other_at j.places n ≡ Some k → (k < length j.refs.items) × ((d : Reference) → key_of (get_or j.refs.items k d) ≡ n)
    other_more i j r key h items notes is n k there =
        let more = longer i j r items in
        elim (other_given i.places j.places key (length i.refs.items) notes n k there) [
          | inl new ↦ (
            omega arith,
            λ d.
                ap (λ (xs : List Reference). key_of (get_or xs k d)) items ∙ ap key_of (get_or_at i.refs.items r [] d k (sym new.1)) ∙ is ∙ new.0,
          )
          | inr old ↦
              let before = h.other n k old in (
                omega arith,
                λ d.
                    ap (λ (xs : List Reference). key_of (get_or xs k d)) items ∙ ap key_of (get_or_append_left i.refs.items (r ∷ []) d k before.0) ∙ before.1 d,
              )
        ]

-- an index with other room for the same references and the same places
pub indexed_same : (i j : Inside) → IsIndexed i → j.home.value ≡ i.home.value → j.refs.items ≡ i.refs.items → AreSame i.places j.places → j.top ≡ i.top → IsIndexed j
indexed_same i j h homes items places tops = record {
  home = subst (All (λ s. s.home ≡ j.home.value)) (sym items) (subst (λ v. All (λ s. s.home ≡ v) i.refs.items) (sym homes) h.home);
  valid = subst (All (λ s. IsValid s.tree)) (sym items) h.valid;
  top = subst (All (λ s. s.number ≤ j.top)) (sym items) (subst (λ (n : ℕ). All (λ s. s.number ≤ n) i.refs.items) (sym tops) h.top);
  keys = subst (AllPairs (λ s t. key_of s ≢ key_of t)) (sym items) h.keys;
  numbers = subst (AllPairs (λ s t. s.number ≢ t.number)) (sym items) h.numbers;
  found =
      subst (λ (xs : List Reference). (k : ℕ) (d : Reference) → k < length xs → IsFoundAt j.places (key_of (get_or xs k d)) k) (sym items)
      (λ k d within. found_same i.places j.places places (key_of (get_or i.refs.items k d)) k (h.found k d within));
  first = λ fingerprint k there. subst (λ (xs : List Reference). k < length xs) (sym items) (h.first fingerprint k (sym (places.0 fingerprint) ∙ there));
  other =
      subst (λ (xs : List Reference). (n : Node) (k : ℕ) → other_at j.places n ≡ Some k → (k < length xs) × ((d : Reference) → key_of (get_or xs k d) ≡ n)) (sym items)
      (λ n k there. h.other n k (sym (places.1 n) ∙ there));
}
  where
    found_same : (p q : Places) → AreSame p q → (n : Node) (k : ℕ) → IsFoundAt p n k → IsFoundAt q n k
    found_same p q same n k found = elim found [
      | inl here ↦ inl (same.0 (node_fingerprint n) ∙ here)
      | inr there ↦ inr (subst (λ (o : Option ℕ). IsSome o) (sym (same.0 (node_fingerprint n))) there.0, same.1 n ∙ there.1)
    ]
