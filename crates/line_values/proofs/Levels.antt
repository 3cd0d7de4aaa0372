-- Values level by level, and lists of members that grow at their end.
use Rattle.std.proofs.Common.{◌≡◌, ℕ, List, [], ◌∷◌, ◌++◌, Some, Vec, Global, Bor, Ordering, Less, Equal, Greater, true, false, map, nat_cmp, bytes_eq, true≢false, refl, sym, ap, ◌∙◌, rules}
use Rattle.std.proofs.lemmas.Slice.Eq.{bytes_eq-Decides}
use Rattle.std.specs.Cmp.Lexicographic.{slice_cmp}
use Rattle.std.specs.Ordering.{match_ordering}
use Rattle.std.specs.BTreeMap.{insert_entry}
use Rattle.serde_json.specs.Data.{array, object, Members, no_members, put}
use Rattle.serde_json.specs.Find.{get_member}
use Rattle.serde_json.proofs.Views.{get_member-put, get_member-put_other}
use Rattle.line_values.specs.View.{view, items_view, put_each, members_view, ordered_view}
use Rattle.line_values.specs.declared.values.Value.{Value, Array, Object, the_lemmas}

-- a member as it stands in a list
abbrev pub Entry : Type 0
Entry = Bor (List ℕ) × Value

pub view-Array : (v : Vec Value Global) → view (Array v) ≡ array (items_view v.items)
view-Array v = search (rules, the_lemmas)

pub view-Object : (m : Vec Entry Global) → view (Object m) ≡ object (members_view m.items)
view-Object m = search (rules, the_lemmas)

put_last : (found : Members) (ms : List Entry) (m : Entry)
    → put_each found (map (λ (e : Entry). (e.0, view e.1)) (ms ++ m ∷ [])) ≡ put m.0.now (view m.1) (put_each found (map (λ (e : Entry). (e.0, view e.1)) ms))
put_last found [] m = refl
put_last found (e ∷ ms) m = put_last (put e.0.now (view e.1) found) ms m

-- one member more at the end is put last
pub members_view-push : (ms : List Entry) (m : Entry) → members_view (ms ++ m ∷ []) ≡ put m.0.now (view m.1) (members_view ms)
members_view-push ms m = put_last no_members ms m

-- the last member is the one of its key
pub found_last : (key : List ℕ) (ms : List Entry) (m : Entry) → bytes_eq m.0.now key ≡ true → get_member key (members_view (ms ++ m ∷ [])) ≡ Some (view m.1)
found_last key ms m same =
    let is = (bytes_eq-Decides m.0.now key).0 same in
    ap (get_member key) (members_view-push ms m) ∙ ap (λ k. get_member k (put m.0.now (view m.1) (members_view ms))) (sym is) ∙ get_member-put m.0.now (view m.1) (members_view ms)

-- a member of another key is passed over
pub found_before : (key : List ℕ) (ms : List Entry) (m : Entry) → bytes_eq m.0.now key ≡ false → get_member key (members_view (ms ++ m ∷ [])) ≡ get_member key (members_view ms)
found_before key ms m other =
    let apart : key ≡ m.0.now → ⊥ = λ is. true≢false (sym ((bytes_eq-Decides m.0.now key).1 (sym is)) ∙ other) in
    ap (get_member key) (members_view-push ms m) ∙ get_member-put_other key m.0.now (view m.1) (members_view ms) apart

ordered_view-match_ordering : (o : Ordering) (a b c : List (Bor (List ℕ) × Bor Value)) → ordered_view (match_ordering o a b c) ≡ match_ordering o (ordered_view a) (ordered_view b) (ordered_view c)
ordered_view-match_ordering Less a b c = refl
ordered_view-match_ordering Equal a b c = refl
ordered_view-match_ordering Greater a b c = refl

-- an insert into a map puts the member
pub ordered_view-insert_entry : (es : List (Bor (List ℕ) × Bor Value)) (k : Bor (List ℕ)) (v : Bor Value)
    → ordered_view (insert_entry (λ (x y : Bor (List ℕ)). slice_cmp nat_cmp x.now y.now) es k v) ≡ put k.now (view v.now) (ordered_view es)
ordered_view-insert_entry [] k v = refl
ordered_view-insert_entry (e ∷ es) k v = ordered_view-match_ordering (slice_cmp nat_cmp k.now e.0.now) _ _ _ ∙ rw (ordered_view-insert_entry es k v)
