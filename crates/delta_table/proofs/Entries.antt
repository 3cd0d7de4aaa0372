-- The rows of an item with their tuples and the places of these.
use Rattle.std.proofs.Common.{◌≡◌, ◌≢◌, ℕ, ◌+◌, ◌^◌, ◌<◌, ◌≤◌, Bool, true, false, ◌||◌, ◌==◌, cond, if◌then◌else◌, List, [], ◌∷◌, ◌++◌, map, length, Option, Some, None, option_map, IfSome, bit_or, refl, sym, ap, subst, ◌∙◌, arith}
use Rattle.std.specs.List.{All, AllByRecursion, filter, filter_map, cons_option}
use Rattle.std.specs.Int.Bits.{or_zero_l}
use Rattle.std.specs.declared.cmp.Ordering.TheVariants.{Less, Equal}
use Rattle.std.specs.Cmp.{tied_itself}
use Rattle.std.specs.List.Sorted.{IsStrictlySortedBy}
use Rattle.std.proofs.lemmas.Nat.Bits.{bit_at-zero, bit_at-pow_same, bit_at-pow_other}
use Rattle.std.proofs.lemmas.List.{map-append}
use Rattle.std.proofs.lemmas.List.Elements.{All-nil, All-cons, All-append, All-map, All-weaker}
use Rattle.fol.specs.Syntax.{Terms}
use Rattle.fol.specs.Order.{terms_cmp}
use Rattle.fol.specs.OrderLaws.{terms_total}
use Rattle.herbrand_laws.specs.Herbrand.{Item}
use Rattle.herbrand_laws.specs.Patterns.{Row, delta}
use Rattle.herbrand_laws.specs.Candidates.{sublists, rows_of}
use Rattle.herbrand_laws.proofs.Lists.{all-filter_map}
use Rattle.delta_table.specs.Places.{has_place, kept_at, placed}
use Rattle.delta_table.specs.FoundRows.{PlacedRow, is_few, few_row, found_row, founds}
use Rattle.delta_table.proofs.PlaceSets.{has-or}
use Rattle.delta_table.proofs.FoundRows.{filter_map-map, with_head}

-- a row with its tuples and their places
pub record Entry : Type 0 where
  pub tuples : List Terms
  pub places : ℕ
  pub row : Row

abbrev pub entry_of : List Terms × ℕ → Row → Entry
entry_of s r = record { tuples = s.0; places = s.1; row = r }

abbrev pub entry_at : ℕ → List Terms × ℕ → Option Entry
entry_at width s = option_map (entry_of s) (few_row width s.0)

abbrev pub entries : ℕ → List Terms → List Entry
entries width tuples = filter_map (entry_at width) (placed 0 tuples)

abbrev pub found_of : Entry → PlacedRow
found_of e = record { values = e.row.values; places = e.places }

-- lists of what a map gives

map_cons : {Y Z : Type 0} (g : Y → Z) (o : Option Y) (ys : List Y) → map g (cons_option o ys) ≡ cons_option (option_map g o) (map g ys)
map_cons g None ys = refl
map_cons g (Some y) ys = refl

map-filter_map : {X Y Z : Type 0} (g : Y → Z) (h : X → Option Y) (xs : List X) → map g (filter_map h xs) ≡ filter_map (λ x. option_map g (h x)) xs
map-filter_map g h [] = refl
map-filter_map g h (x ∷ xs) = map_cons g (h x) (filter_map h xs) ∙ ap (cons_option (option_map g (h x))) (map-filter_map g h xs)

filter_map-filter : {X Y : Type 0} (h : X → Option Y) (p : X → Bool) (xs : List X) → filter_map h (filter p xs) ≡ filter_map (λ x. if p x then h x else None) xs
filter_map-filter h p [] = refl
filter_map-filter h p (x ∷ xs) =
    elim (p x) as (λ b. filter_map h (cond b (x ∷ filter p xs) (filter p xs)) ≡ cons_option (if b then h x else None) (filter_map (λ x. if p x then h x else None) xs)) [
      | true ↦ ap (cons_option (h x)) (filter_map-filter h p xs)
      | false ↦ filter_map-filter h p xs
    ]

pub map_twice : {X Y Z : Type 0} (g : Y → Z) (f : X → Y) (xs : List X) → map g (map f xs) ≡ map (λ x. g (f x)) xs
map_twice g f [] = refl
map_twice g f (x ∷ xs) = ap (λ zs. g (f x) ∷ zs) (map_twice g f xs)

-- the sublists with places are the sublists
placed_lists : (k : ℕ) (xs : List Terms) → map (λ s. s.0) (placed k xs) ≡ sublists xs
placed_lists k [] = refl
placed_lists k (x ∷ xs) =
    let more = with_head k x in
    let ps = placed (k + 1) xs in
    map-append (λ s. s.0) (map more ps) ps
    ∙ λ i. (map_twice (λ s. s.0) more ps ∙ (sym (map_twice (λ ys. x ∷ ys) (λ (s : List Terms × ℕ). s.0) ps) ∙ ap (map (λ ys. x ∷ ys)) (placed_lists (k + 1) xs))) i ++ placed_lists (k + 1) xs i

module _ (width : ℕ) where
  found_through : (s : List Terms × ℕ) (o : Option Row) → option_map (found_row s.1) o ≡ option_map found_of (option_map (entry_of s) o)
  found_through s None = refl
  found_through s (Some r) = refl

  row_through : (s : List Terms × ℕ) (o : Option Row) → o ≡ option_map (λ (e : Entry). e.row) (option_map (entry_of s) o)
  row_through s None = refl
  row_through s (Some r) = refl

  -- what is found are the entries with their values and places
  pub founds_are : (tuples : List Terms) → founds width tuples ≡ map found_of (entries width tuples)
  founds_are tuples =
      (λ i. filter_map (λ (s : List Terms × ℕ). option_map (found_row (or_zero_l s.1 i)) (few_row width s.0)) (placed 0 tuples))
      ∙ ((λ i. filter_map (λ s. found_through s (few_row width s.0) i) (placed 0 tuples))
      ∙ sym (map-filter_map found_of (entry_at width) (placed 0 tuples)))

  -- the rows are those of the entries
  pub rows_are : (i : Item) → rows_of width i ≡ map (λ e. e.row) (entries width i.tuples)
  rows_are i =
      filter_map-filter delta (λ uss. is_few width (length uss)) (sublists i.tuples)
      ∙ (ap (filter_map (few_row width)) (sym (placed_lists 0 i.tuples))
      ∙ (filter_map-map (few_row width) (λ (s : List Terms × ℕ). s.0) (placed 0 i.tuples)
      ∙ ((λ k. filter_map (λ s. row_through s (few_row width s.0) k) (placed 0 i.tuples))
      ∙ sym (map-filter_map (λ (e : Entry). e.row) (entry_at width) (placed 0 i.tuples)))))

-- places

-- the places are those of the sublist's elements, and none is below k
record IsPlaced (k : ℕ) (xs : List Terms) (s : List Terms × ℕ) : Type 0 where
  picked : kept_at (has_place s.1) k xs ≡ s.0
  low : (j : ℕ) → j < k → has_place s.1 j ≡ false

kept_same : (p q : ℕ → Bool) (k : ℕ) (xs : List Terms) → ((j : ℕ) → k ≤ j → p j ≡ q j) → kept_at p k xs ≡ kept_at q k xs
kept_same p q k [] h = refl
kept_same p q k (x ∷ xs) h =
    let later = kept_same p q (k + 1) xs (λ j l. h j (omega arith)) in
    λ i. if h k (omega arith) i then x ∷ later i else later i

pub none_in_zero : (j : ℕ) → has_place 0 j ≡ false
unfolding has_place
none_in_zero j = ap (λ n. n == 1) (bit_at-zero j)

own_place : (k : ℕ) → has_place (2 ^ k) k ≡ true
unfolding has_place
own_place k = ap (λ n. n == 1) (bit_at-pow_same k)

other_place : (k j : ℕ) → j ≢ k → has_place (2 ^ k) j ≡ false
unfolding has_place
other_place k j h = ap (λ n. n == 1) (bit_at-pow_other k j h)

with_first : (k : ℕ) (x : Terms) (xs : List Terms) (s : List Terms × ℕ) → IsPlaced (k + 1) xs s → IsPlaced k (x ∷ xs) (with_head k x s)
with_first k x xs s h =
    let here : has_place (bit_or (2 ^ k) s.1) k ≡ true = has-or (2 ^ k) s.1 k ∙ ap (λ b. b || has_place s.1 k) (own_place k) in
    let there : (j : ℕ) → j ≢ k → has_place (bit_or (2 ^ k) s.1) j ≡ has_place s.1 j = λ j ne. has-or (2 ^ k) s.1 j ∙ ap (λ b. b || has_place s.1 j) (other_place k j ne) in
    let others : kept_at (has_place (bit_or (2 ^ k) s.1)) (k + 1) xs ≡ s.0 =
    kept_same (has_place (bit_or (2 ^ k) s.1)) (has_place s.1) (k + 1) xs (λ j l. there j (λ e. omega arith)) ∙ h.picked in
    record {
      picked = λ i. if here i then x ∷ others i else others i;
      low = λ j l. there j (λ e. omega arith) ∙ h.low j (omega arith);
    }

without_first : (k : ℕ) (x : Terms) (xs : List Terms) (s : List Terms × ℕ) → IsPlaced (k + 1) xs s → IsPlaced k (x ∷ xs) s
without_first k x xs s h = record {
  picked = (λ i. if h.low k (omega arith) i then x ∷ kept_at (has_place s.1) (k + 1) xs else kept_at (has_place s.1) (k + 1) xs) ∙ h.picked;
  low = λ j l. h.low j (omega arith);
}

all_placed : (k : ℕ) (xs : List Terms) → All (IsPlaced k xs) (placed k xs)
all_placed k [] = All-cons (IsPlaced k []) ([], 0) [] (record { picked = refl; low = λ j l. none_in_zero j }) (All-nil _)
all_placed k (x ∷ xs) =
    let more = with_head k x in
    let ps = placed (k + 1) xs in
    let later = all_placed (k + 1) xs in
    All-append (IsPlaced k (x ∷ xs)) (map more ps) ps
    (All-map (IsPlaced k (x ∷ xs)) more ps (All-weaker (IsPlaced (k + 1) xs) (λ s. IsPlaced k (x ∷ xs) (more s)) (with_first k x xs) ps later))
    (All-weaker (IsPlaced (k + 1) xs) (IsPlaced k (x ∷ xs)) (without_first k x xs) ps later)

-- an entry's tuples are those at its places, and have its row
pub record IsEntry (tuples : List Terms) (e : Entry) : Type 0 where
  pub picked : kept_at (has_place e.places) 0 tuples ≡ e.tuples
  pub row : delta e.tuples ≡ Some e.row

module _ (width : ℕ) (tuples : List Terms) where
  by_row : (s : List Terms × ℕ) → IsPlaced 0 tuples s → (o : Option Row) → delta s.0 ≡ o → IfSome (option_map (entry_of s) o) (IsEntry tuples)
  by_row s h None e = tt
  by_row s h (Some r) e = record { picked = h.picked; row = e }

  by_count : (s : List Terms × ℕ) → IsPlaced 0 tuples s → (b : Bool) → IfSome (option_map (entry_of s) (if b then delta s.0 else None)) (IsEntry tuples)
  by_count s h true = by_row s h (delta s.0) refl
  by_count s h false = tt

  pub all_entries : All (IsEntry tuples) (entries width tuples)
  all_entries =
      all-filter_map (IsEntry tuples) (entry_at width) (placed 0 tuples)
      (All-weaker (IsPlaced 0 tuples) (λ s. IfSome (entry_at width s) (IsEntry tuples)) (λ s h. by_count s h (is_few width (length s.0))) (placed 0 tuples) (all_placed 0 tuples))

-- different elements by a key

abbrev pub Differ : {A B : Type 0} → (A → B) → List A → Type 0
Differ key [] = Unit {0}
Differ key (x ∷ xs) = AllByRecursion (λ y. key x ≡ key y → ⊥) xs × Differ key xs

each_appended : {A : Type 0} (P : A → Type 0) (xs ys : List A) → AllByRecursion P xs → AllByRecursion P ys → AllByRecursion P (xs ++ ys)
each_appended P [] ys h g = g
each_appended P (x ∷ xs) ys h g = (h.0, each_appended P xs ys h.1 g)

differ_appended : {A B : Type 0} (key : A → B) (xs ys : List A) → Differ key xs → Differ key ys → AllByRecursion (λ x. AllByRecursion (λ y. key x ≡ key y → ⊥) ys) xs → Differ key (xs ++ ys)
differ_appended key [] ys h g f = g
differ_appended key (x ∷ xs) ys h g f = (each_appended (λ y. key x ≡ key y → ⊥) xs ys h.0 f.0, differ_appended key xs ys h.1 g f.1)

module _ {X Y B : Type 0} (key : X → B) (after : Y → B) (h : X → Option Y) (keeps : (x : X) → IfSome (h x) (λ y. after y ≡ key x)) where
  apart_one : (b : B) (x : X) (o : Option Y) (ys : List Y) → IfSome o (λ y. after y ≡ key x) → (b ≡ key x → ⊥) → AllByRecursion (λ y. b ≡ after y → ⊥) ys → AllByRecursion (λ y. b ≡ after y → ⊥) (cons_option o ys)
  apart_one b x None ys k f g = g
  apart_one b x (Some y) ys k f g = (λ e. f (e ∙ k), g)

  apart_others : (b : B) (xs : List X) → AllByRecursion (λ x. b ≡ key x → ⊥) xs → AllByRecursion (λ y. b ≡ after y → ⊥) (filter_map h xs)
  apart_others b [] g = tt
  apart_others b (x ∷ xs) g = apart_one b x (h x) (filter_map h xs) (keeps x) g.0 (apart_others b xs g.1)

  differ_one : (x : X) (o : Option Y) (xs : List X) → IfSome o (λ y. after y ≡ key x) → AllByRecursion (λ z. key x ≡ key z → ⊥) xs → Differ after (filter_map h xs) → Differ after (cons_option o (filter_map h xs))
  differ_one x None xs k g d = d
  differ_one x (Some y) xs k g d = (subst (λ b. AllByRecursion (λ z. b ≡ after z → ⊥) (filter_map h xs)) (sym k) (apart_others (key x) xs g), d)

  pub differ_filter_map : (xs : List X) → Differ key xs → Differ after (filter_map h xs)
  differ_filter_map [] d = tt
  differ_filter_map (x ∷ xs) d = differ_one x (h x) xs (keeps x) d.0 (differ_filter_map xs d.1)

module _ {A B : Type 0} (key : A → B) (p : A → Bool) where
  apart_kept : (b : B) (xs : List A) → AllByRecursion (λ x. b ≡ key x → ⊥) xs → AllByRecursion (λ x. b ≡ key x → ⊥) (filter p xs)
  apart_kept b [] g = tt
  apart_kept b (x ∷ xs) g = elim (p x) as (λ t. AllByRecursion (λ x. b ≡ key x → ⊥) (cond t (x ∷ filter p xs) (filter p xs))) [
    | true ↦ (g.0, apart_kept b xs g.1)
    | false ↦ apart_kept b xs g.1
  ]

  pub differ_filter : (xs : List A) → Differ key xs → Differ key (filter p xs)
  differ_filter [] d = tt
  differ_filter (x ∷ xs) d = elim (p x) as (λ t. Differ key (cond t (x ∷ filter p xs) (filter p xs))) [
    | true ↦ (apart_kept (key x) xs d.0, differ_filter xs d.1)
    | false ↦ differ_filter xs d.1
  ]

-- the sublists of a list of different elements are different

each_more : (P : Terms → Type 0) (x : Terms) (k : ℕ) (ps : List (List Terms × ℕ)) → P x → AllByRecursion (λ s. AllByRecursion P s.0) ps → AllByRecursion (λ s. AllByRecursion P s.0) (map (with_head k x) ps)
each_more P x k [] here h = tt
each_more P x k (s ∷ ps) here h = ((here, h.0), each_more P x k ps here h.1)

placed_each : (P : Terms → Type 0) (k : ℕ) (xs : List Terms) → AllByRecursion P xs → AllByRecursion (λ s. AllByRecursion P s.0) (placed k xs)
placed_each P k [] h = (tt, tt)
placed_each P k (x ∷ xs) h =
    let ps = placed (k + 1) xs in
    let later = placed_each P (k + 1) xs h.1 in
    each_appended (λ (s : List Terms × ℕ). AllByRecursion P s.0) (map (with_head k x) ps) ps (each_more P x k ps h.0 later) later

not_below_itself : (x : Terms) → terms_cmp x x ≡ Less → ⊥
not_below_itself x e = different (sym e ∙ tied_itself terms_total x)
  where
    different : Less ≡ Equal → ⊥
    different p = cc

without_it : (x : Terms) (ys : List Terms) (ps : List (List Terms × ℕ)) → AllByRecursion (λ s. AllByRecursion (λ y. terms_cmp x y ≡ Less) s.0) ps → AllByRecursion (λ s. x ∷ ys ≡ s.0 → ⊥) ps
without_it x ys [] h = tt
without_it x ys (s ∷ ps) h =
    (λ e. not_below_itself x (subst (λ zs. AllByRecursion (λ y. terms_cmp x y ≡ Less) zs) (sym e) h.0).0, without_it x ys ps h.1)

all_without : (x : Terms) (k : ℕ) (qs ps : List (List Terms × ℕ)) → AllByRecursion (λ s. AllByRecursion (λ y. terms_cmp x y ≡ Less) s.0) ps
    → AllByRecursion (λ (s : List Terms × ℕ). AllByRecursion (λ (r : List Terms × ℕ). s.0 ≡ r.0 → ⊥) ps) (map (with_head k x) qs)
all_without x k [] ps h = tt
all_without x k (q ∷ qs) ps h = (without_it x q.0 ps h, all_without x k qs ps h)

apart_more : (x : Terms) (k : ℕ) (ys : List Terms) (ps : List (List Terms × ℕ)) → AllByRecursion (λ s. ys ≡ s.0 → ⊥) ps → AllByRecursion (λ s. x ∷ ys ≡ s.0 → ⊥) (map (with_head k x) ps)
apart_more x k ys [] h = tt
apart_more x k ys (s ∷ ps) h = (λ e. h.0 (let rest : ys ≡ s.0 = cc in rest), apart_more x k ys ps h.1)

differ_more : (x : Terms) (k : ℕ) (ps : List (List Terms × ℕ)) → Differ (λ (s : List Terms × ℕ). s.0) ps → Differ (λ (s : List Terms × ℕ). s.0) (map (with_head k x) ps)
differ_more x k [] d = tt
differ_more x k (s ∷ ps) d = (apart_more x k s.0 ps d.0, differ_more x k ps d.1)

placed_differ : (k : ℕ) (xs : List Terms) → IsStrictlySortedBy terms_cmp xs → Differ (λ (s : List Terms × ℕ). s.0) (placed k xs)
unfolding IsStrictlySortedBy
placed_differ k [] h = (tt, tt)
placed_differ k (x ∷ xs) h =
    let ps = placed (k + 1) xs in
    let later = placed_differ (k + 1) xs h.1 in
    differ_appended (λ (s : List Terms × ℕ). s.0) (map (with_head k x) ps) ps (differ_more x k ps later) later
    (all_without x k ps ps (placed_each (λ y. terms_cmp x y ≡ Less) (k + 1) xs h.0))

-- the entries have different lists of tuples
pub entries_differ : (width : ℕ) (tuples : List Terms) → IsStrictlySortedBy terms_cmp tuples → Differ (λ (e : Entry). e.tuples) (entries width tuples)
entries_differ width tuples h =
    differ_filter_map (λ (s : List Terms × ℕ). s.0) (λ (e : Entry). e.tuples) (entry_at width)
    (λ s. own s (few_row width s.0)) (placed 0 tuples) (placed_differ 0 tuples h)
  where
    own : (s : List Terms × ℕ) (o : Option Row) → IfSome (option_map (entry_of s) o) (λ e. e.tuples ≡ s.0)
    own s None = tt
    own s (Some r) = refl
