-- Cells with one more, whose item stands nowhere yet.
use Rattle.std.proofs.Common.{◌≡◌, ℕ, zero, suc, ◌+◌, ◌<◌, ◌≤◌, ◌^◌, ◌⊎◌, Bool, true, false, not, cond, List, [], ◌∷◌, ◌++◌, length, get_or, is_some, refl, sym, ap, ◌∙◌, subst, arith, inl, inr, length-append}
use Rattle.std.specs.Prelude.{Option, Some, None, slice_get, position, if◌then◌else◌}
use Rattle.std.specs.List.{position_or_len}
use Rattle.std.specs.Map.{keys_of, lookup}
use Rattle.std.proofs.lemmas.List.{length_push, length-map, get_or-map}
use Rattle.std.proofs.lemmas.List.Quantifiers.{position-Some}
use Rattle.std.proofs.lemmas.Option.{slice_get-get_or, slice_get_within}
use Rattle.indexmap.specs.IndexMap.{insert_entry}
use Rattle.arena_cells.specs.declared.key.Key.{Key}
use Rattle.arena_cells.specs.declared.cells.Stored.{Stored}
use Rattle.arena_cells.specs.declared.cells.Stored.TheVariants.{Nothing}
use Rattle.arena_cells.specs.declared.cells.Cells.TheInside.{Inside}
use Rattle.number_hash.specs.Codes.{same_by_decides}
use Rattle.arena_cells.specs.Keys.{coded_key, same_key}
use Rattle.arena_cells.specs.Items.{Item}
use Rattle.arena_cells.specs.Standing.{Stands, Extends, IsDistinct}
use Rattle.arena_cells.specs.Meaning.{meaning, HasParts, AreBelow}
use Rattle.arena_cells.specs.Cells.{stored_of, Cell, items_from, items_of, IsCellAt, IsIndexed}
use Rattle.arena_cells.proofs.Reading.{some_same, get_old, get_new, get_split}
use Rattle.arena_cells.proofs.Staying.{meaning_stays, parts_there, parts_below}
use Rattle.arena_cells.proofs.OneKey.{one_key}

pub items_from-push : (a : List Item) (cs : List Cell) (c : Cell) → items_from a (cs ++ c ∷ []) ≡ items_from a cs ++ meaning (items_from a cs) c.0 ∷ []
items_from-push a [] c = refl
items_from-push a (d ∷ cs) c = items_from-push (a ++ meaning a d.0 ∷ []) cs c

pub items_from-length : (a : List Item) (cs : List Cell) → length (items_from a cs) ≡ length a + length cs
items_from-length a [] = omega arith
items_from-length a (c ∷ cs) = omega (arith, items_from-length (a ++ meaning a c.0 ∷ []) cs, length-append a (meaning a c.0 ∷ []))

pub items-length : (i : Inside) → length (items_of i) ≡ length i.cells.entries
items-length i = omega (arith, items_from-length [] i.cells.entries)

-- the cell at the number of a thing
pub cell_at : (i : Inside) (n : ℕ) (t : Item) → IsIndexed i → Stands (items_of i) n t → (c : Cell) × (slice_get i.cells.entries n ≡ Some c) × (meaning (items_of i) c.0 ≡ t)
cell_at i n t h stands =
    let inside : n < length i.cells.entries = omega (arith, slice_get_within (items_of i) n t stands, items-length i) in
    pick i.cells.entries n inside refl
  where
    here : (c : Cell) → slice_get i.cells.entries n ≡ Some c → (c : Cell) × (slice_get i.cells.entries n ≡ Some c) × (meaning (items_of i) c.0 ≡ t)
    here c is = (c, is, some_same _ _ (sym (h.cells n c is).key.stands ∙ stands))

    pick : (cs : List Cell) (m : ℕ) → m < length cs → slice_get cs m ≡ slice_get i.cells.entries n → (c : Cell) × (slice_get i.cells.entries n ≡ Some c) × (meaning (items_of i) c.0 ≡ t)
    pick [] m lt same = absurd (omega arith)
    pick (c ∷ cs) m lt same = here (get_or (c ∷ cs) m c) (sym same ∙ slice_get-get_or (c ∷ cs) m c lt)

-- where an item stands nowhere, no cell has its key
apart : (i : Inside) (k : Key) → IsIndexed i → ((n : ℕ) → Stands (items_of i) n (meaning (items_of i) k) → ⊥)
    → (n : ℕ) (c : Cell) → slice_get i.cells.entries n ≡ Some c → k ≡ c.0 → ⊥
apart i k h absent n c is same = absent n ((h.cells n c is).key.stands ∙ ap (λ l. Some (meaning (items_of i) l)) (sym same))

-- a key that no cell has goes last
insert_new : (cs : List Cell) (k : Key) (s : Stored) → ((n : ℕ) (c : Cell) → slice_get cs n ≡ Some c → k ≡ c.0 → ⊥) → insert_entry same_key cs k s ≡ cs ++ (k, s) ∷ []
insert_new [] k s other = refl
insert_new (c ∷ cs) k s other = by (same_key k c.0) refl (insert_new cs k s (λ n d there. other (suc n) d there))
  where
    by : (b : Bool) → same_key k c.0 ≡ b → insert_entry same_key cs k s ≡ cs ++ (k, s) ∷ [] → insert_entry same_key (c ∷ cs) k s ≡ c ∷ (cs ++ (k, s) ∷ [])
    by true is rest = absurd (other 0 c refl ((same_by_decides coded_key k c.0).0 is))
    by false is rest = ap (λ b. if b then (c.0, s) ∷ cs else c ∷ insert_entry same_key cs k s) is ∙ ap (λ ds. c ∷ ds) rest

-- so the table has one more cell
pub one_more : (i : Inside) (cs : List Cell) (k : Key) (s : Stored) → IsIndexed i → ((n : ℕ) → Stands (items_of i) n (meaning (items_of i) k) → ⊥)
    → cs ≡ insert_entry same_key i.cells.entries k s → cs ≡ i.cells.entries ++ (k, s) ∷ []
one_more i cs k s h absent inserted = inserted ∙ insert_new i.cells.entries k s (apart i k h absent)

-- the cell whose key is found
cell_found : (cs : List Cell) (k : Key) (n : ℕ) → position (same_key k) (keys_of cs) ≡ Some n → (c : Cell) × (slice_get cs n ≡ Some c) × (c.0 ≡ k)
cell_found cs k n is =
    let none : Cell = (k, Nothing) in
    let found = position-Some (same_key k) (keys_of cs) n k is in
    let within : n < length cs = omega (arith, found.0, length-map cs (λ (c : Cell). c.0)) in
    let here : get_or (keys_of cs) n k ≡ (get_or cs n none).0 = get_or-map (λ (c : Cell). c.0) cs n none k within in
    (get_or cs n none, slice_get-get_or cs n none within, sym here ∙ sym ((same_by_decides coded_key k _).0 found.1))

one_and : (n : ℕ) → 1 + n ≡ suc n
one_and n = omega arith

none_some : {X : Type 0} {x : X} → None ≡ Some x → ⊥
none_some e = cc

-- the cell of a key that is looked up stands at its place
abbrev IsKept : List Cell → Key → Stored → ℕ → Type 0
IsKept cs k s n = (c : Cell) × (slice_get cs n ≡ Some c) × (c.0 ≡ k) × (c.1 ≡ s)

cell_kept : (cs : List Cell) (k : Key) (s : Stored) → lookup (same_key k) cs ≡ Some s → IsKept cs k s (position_or_len (same_key k) (keys_of cs))
cell_kept [] k s is = cc
cell_kept (d ∷ cs) k s is = by (same_key k d.0) refl (λ found. cell_kept cs k s found)
  where
    by : (b : Bool) → same_key k d.0 ≡ b → (lookup (same_key k) cs ≡ Some s → IsKept cs k s (position_or_len (same_key k) (keys_of cs))) → IsKept (d ∷ cs) k s (position_or_len (same_key k) (keys_of (d ∷ cs)))
    by true e rest =
        subst (IsKept (d ∷ cs) k s) (sym (ap (λ b. cond (not b) (1 + position_or_len (same_key k) (keys_of cs)) 0) e))
        (d, refl, sym ((same_by_decides coded_key k d.0).0 e), some_same d.1 s (sym (ap (λ b. cond b (Some d.1) (lookup (same_key k) cs)) e) ∙ is))
    by false e rest =
        subst (IsKept (d ∷ cs) k s) (sym (ap (λ b. cond (not b) (1 + position_or_len (same_key k) (keys_of cs)) 0) e ∙ one_and _))
        (rest (sym (ap (λ b. cond b (Some d.1) (lookup (same_key k) cs)) e) ∙ is))

-- the place of a key that no cell has
place_new : (cs : List Cell) (k : Key) → lookup (same_key k) cs ≡ None → position_or_len (same_key k) (keys_of cs) ≡ length cs
place_new [] k is = refl
place_new (d ∷ cs) k is = by (same_key k d.0) refl (λ missing. place_new cs k missing)
  where
    by : (b : Bool) → same_key k d.0 ≡ b → (lookup (same_key k) cs ≡ None → position_or_len (same_key k) (keys_of cs) ≡ length cs) → position_or_len (same_key k) (keys_of (d ∷ cs)) ≡ length (d ∷ cs)
    by true e rest = absurd (none_some (sym is ∙ ap (λ b. cond b (Some d.1) (lookup (same_key k) cs)) e))
    by false e rest =
        ap (λ b. cond (not b) (1 + position_or_len (same_key k) (keys_of cs)) 0) e ∙ one_and _
        ∙ ap suc (rest (sym (ap (λ b. cond b (Some d.1) (lookup (same_key k) cs)) e) ∙ is))

-- where the same is stored again, the cells stay
insert_same : (cs : List Cell) (k : Key) (s : Stored) → lookup (same_key k) cs ≡ Some s → insert_entry same_key cs k s ≡ cs
insert_same [] k s is = cc
insert_same (d ∷ cs) k s is = by (same_key k d.0) refl (λ found. insert_same cs k s found)
  where
    by : (b : Bool) → same_key k d.0 ≡ b → (lookup (same_key k) cs ≡ Some s → insert_entry same_key cs k s ≡ cs) → insert_entry same_key (d ∷ cs) k s ≡ d ∷ cs
    by true e rest =
        ap (λ b. if b then (d.0, s) ∷ cs else d ∷ insert_entry same_key cs k s) e
        ∙ ap (λ t. (d.0, t) ∷ cs) (sym (some_same d.1 s (sym (ap (λ b. cond b (Some d.1) (lookup (same_key k) cs)) e) ∙ is)))
    by false e rest =
        ap (λ b. if b then (d.0, s) ∷ cs else d ∷ insert_entry same_key cs k s) e
        ∙ ap (λ ds. d ∷ ds) (rest (sym (ap (λ b. cond b (Some d.1) (lookup (same_key k) cs)) e) ∙ is))

-- a key that a cell has is found
key_found : (cs : List Cell) (k : Key) (n : ℕ) (c : Cell) → slice_get cs n ≡ Some c → c.0 ≡ k → is_some (lookup (same_key k) cs) ≡ true
key_found [] k n c there is = cc
key_found (d ∷ cs) k zero c there is = ap (λ b. is_some (cond b (Some d.1) (lookup (same_key k) cs))) ((same_by_decides coded_key k d.0).1 (sym is ∙ sym (ap (λ (e : Cell). e.0) (some_same d c there))))
key_found (d ∷ cs) k (suc n) c there is = by (same_key k d.0) refl (key_found cs k n c there is)
  where
    by : (b : Bool) → same_key k d.0 ≡ b → is_some (lookup (same_key k) cs) ≡ true → is_some (lookup (same_key k) (d ∷ cs)) ≡ true
    by true here rest = ap (λ b. is_some (cond b (Some d.1) (lookup (same_key k) cs))) here
    by false here rest = ap (λ b. is_some (cond b (Some d.1) (lookup (same_key k) cs))) here ∙ rest

-- one more cell
module _ (i j : Inside) (c : Cell) (h : IsIndexed i) (items : j.cells.entries ≡ i.cells.entries ++ c ∷ []) where
  abbrev a : List Item
  a = items_of i

  abbrev t : Item
  t = meaning a c.0

  pub items_more : items_of j ≡ a ++ t ∷ []
  items_more = ap (items_from []) items ∙ items_from-push [] i.cells.entries c

  pub grown_more : Extends a (items_of j)
  grown_more n u stands = ap (λ (xs : List Item). slice_get xs n) items_more ∙ get_old a (t ∷ []) n u stands

  pub stands_more : Stands (items_of j) (length i.cells.entries) t
  stands_more = ap (λ (xs : List Item). slice_get xs (length i.cells.entries)) items_more ∙ ap (slice_get (a ++ t ∷ [])) (sym (items-length i)) ∙ get_new a t

  split_more : (n : ℕ) (u : Item) → Stands (items_of j) n u → Stands a n u ⊎ ((n ≡ length i.cells.entries) × (t ≡ u))
  split_more n u stands = elim (get_split a t u n (ap (λ (xs : List Item). slice_get xs n) (sym items_more) ∙ stands)) [
    | inl old ↦ inl old
    | inr new ↦ inr (new.0 ∙ items-length i, new.1)
  ]

  split_cells : (n : ℕ) (d : Cell) → slice_get j.cells.entries n ≡ Some d → (slice_get i.cells.entries n ≡ Some d) ⊎ ((n ≡ length i.cells.entries) × (c ≡ d))
  split_cells n d is = get_split i.cells.entries c d n (ap (λ (xs : List Cell). slice_get xs n) (sym items) ∙ is)

  cell_stays : (n : ℕ) (d : Cell) → IsCellAt a n d → IsCellAt (items_of j) n d
  cell_stays n d old =
      let same : meaning (items_of j) d.0 ≡ meaning a d.0 = meaning_stays a (items_of j) grown_more d.0 old.key.parts in
      record {
        key = record {
          stands = grown_more n (meaning a d.0) old.key.stands ∙ ap Some (sym same);
          parts = parts_there a (items_of j) grown_more d.0 old.key.parts;
          below = old.key.below;
        };
        stored = old.stored ∙ ap stored_of (sym same);
      }

  module _ (parts : HasParts a c.0) (stored : c.1 ≡ stored_of t) (absent : (n : ℕ) → Stands a n t → ⊥) (room : length i.cells.entries < 2 ^ 32) where
    new_cell : IsCellAt (items_of j) (length i.cells.entries) c
    new_cell =
        let same : meaning (items_of j) c.0 ≡ t = meaning_stays a (items_of j) grown_more c.0 parts in
        record {
          key = record {
            stands = stands_more ∙ ap Some (sym same);
            parts = parts_there a (items_of j) grown_more c.0 parts;
            below = subst (λ (n : ℕ). AreBelow n c.0) (items-length i) (parts_below a c.0 parts);
          };
          stored = stored ∙ ap stored_of (sym same);
        }

    pub indexed_more : IsIndexed j
    indexed_more = record {
      cells = λ n d is. elim (split_cells n d is) [
        | inl old ↦ cell_stays n d (h.cells n d old)
        | inr new ↦ subst (λ (m : ℕ). IsCellAt (items_of j) m d) (sym new.0) (subst (λ (e : Cell). IsCellAt (items_of j) (length i.cells.entries) e) new.1 new_cell)
      ];
      distinct = λ m n u first second. elim (split_more m u first) [
        | inl old ↦ elim (split_more n u second) [
          | inl older ↦ h.distinct m n u old older
          | inr new ↦ absurd (absent m (old ∙ ap Some (sym new.1)))
        ]
        | inr new ↦ elim (split_more n u second) [
          | inl old ↦ absurd (absent n (old ∙ ap Some (sym new.1)))
          | inr newer ↦ new.0 ∙ sym newer.0
        ]
      ];
      few =
          let longer = length_push i.cells.entries c in
          let same = ap length items in
          omega (arith, longer, same, room);
    }

-- cells with other room for the same
pub indexed_same : (i j : Inside) → IsIndexed i → j.cells.entries ≡ i.cells.entries → IsIndexed j
indexed_same i j h items =
    let same : items_of j ≡ items_of i = ap (items_from []) items in
    record {
      cells = λ n c is. subst (λ (a : List Item). IsCellAt a n c) (sym same) (h.cells n c (ap (λ (xs : List Cell). slice_get xs n) (sym items) ∙ is));
      distinct = subst IsDistinct (sym same) h.distinct;
      few = subst (λ (cs : List Cell). length cs ≤ 2 ^ 32) (sym items) h.few;
    }

-- an item stands where its key is found
pub found_item : (i : Inside) → IsIndexed i → (k : Key) (n : ℕ) → position (same_key k) (keys_of i.cells.entries) ≡ Some n → Stands (items_of i) n (meaning (items_of i) k)
found_item i h k n is =
    let cell = cell_found i.cells.entries k n is in
    subst (λ (l : Key). Stands (items_of i) n (meaning (items_of i) l)) cell.2 (h.cells n cell.0 cell.1).key.stands

-- a key that isn't found is that of no cell, and its item stands nowhere
pub absent_item : (i : Inside) → IsIndexed i → (k : Key) → HasParts (items_of i) k → is_some (lookup (same_key k) i.cells.entries) ≡ false
    → (n : ℕ) → Stands (items_of i) n (meaning (items_of i) k) → ⊥
absent_item i h k parts missing n stands =
    let cell = cell_at i n (meaning (items_of i) k) h stands in
    let same : cell.0.0 ≡ k = one_key (items_of i) h.distinct cell.0.0 k (h.cells n cell.0 cell.1).key.parts parts cell.2 in
    let there : is_some (lookup (same_key k) i.cells.entries) ≡ true = key_found i.cells.entries k n cell.0 cell.1 same in
    absurd (cc)

-- what comes of a key of whose item nothing is stored: its item stands at the place, and nothing else has changed
pub record IsPut (i j : Inside) (k : Key) (n : ℕ) : Type 0 where
  pub indexed : IsIndexed j
  pub stands : Stands (items_of j) n (meaning (items_of i) k)
  pub grown : Extends (items_of i) (items_of j)

put_old : (i j : Inside) (k : Key) (s : Stored) → IsIndexed i → ((a : List Item) → stored_of (meaning a k) ≡ Nothing) → lookup (same_key k) i.cells.entries ≡ Some s
    → j.cells.entries ≡ insert_entry same_key i.cells.entries k Nothing → IsPut i j k (position_or_len (same_key k) (keys_of i.cells.entries))
put_old i j k s h plain found inserted =
    let cell = cell_kept i.cells.entries k s found in
    let place : ℕ = position_or_len (same_key k) (keys_of i.cells.entries) in
    let at : IsCellAt (items_of i) place cell.0 = h.cells place cell.0 cell.1 in
    let nothing : s ≡ Nothing = sym cell.3 ∙ at.stored ∙ ap (λ l. stored_of (meaning (items_of i) l)) cell.2 ∙ plain (items_of i) in
    let same : j.cells.entries ≡ i.cells.entries = inserted ∙ insert_same i.cells.entries k Nothing (found ∙ ap Some nothing) in
    let items : items_of j ≡ items_of i = ap (items_from []) same in
    let stands : Stands (items_of i) place (meaning (items_of i) k) = subst (λ (l : Key). Stands (items_of i) place (meaning (items_of i) l)) cell.2 at.key.stands in
    record {
      indexed = indexed_same i j h same;
      stands = ap (λ (xs : List Item). slice_get xs place) items ∙ stands;
      grown = λ n u there. ap (λ (xs : List Item). slice_get xs n) items ∙ there;
    }

put_new : (i j : Inside) (k : Key) → IsIndexed i → HasParts (items_of i) k → ((a : List Item) → stored_of (meaning a k) ≡ Nothing) → length i.cells.entries < 2 ^ 32
    → lookup (same_key k) i.cells.entries ≡ None → j.cells.entries ≡ insert_entry same_key i.cells.entries k Nothing → IsPut i j k (position_or_len (same_key k) (keys_of i.cells.entries))
put_new i j k h parts plain room missing inserted =
    let absent = absent_item i h k parts (ap is_some missing) in
    let cell : Cell = (k, Nothing) in
    let more = one_more i j.cells.entries k Nothing h absent inserted in
    record {
      indexed = indexed_more i j cell h more parts (sym (plain (items_of i))) absent room;
      stands = subst (λ (n : ℕ). Stands (items_of j) n (meaning (items_of i) k)) (sym (place_new i.cells.entries k missing)) (stands_more i j cell h more);
      grown = grown_more i j cell h more;
    }

pub put_plain : (i j : Inside) (k : Key) → IsIndexed i → HasParts (items_of i) k → ((a : List Item) → stored_of (meaning a k) ≡ Nothing) → length i.cells.entries < 2 ^ 32
    → j.cells.entries ≡ insert_entry same_key i.cells.entries k Nothing → IsPut i j k (position_or_len (same_key k) (keys_of i.cells.entries))
put_plain i j k h parts plain room inserted = by (lookup (same_key k) i.cells.entries) refl
  where
    by : (o : Option Stored) → lookup (same_key k) i.cells.entries ≡ o → IsPut i j k (position_or_len (same_key k) (keys_of i.cells.entries))
    by None missing = put_new i j k h parts plain room missing inserted
    by (Some s) found = put_old i j k s h plain found inserted
