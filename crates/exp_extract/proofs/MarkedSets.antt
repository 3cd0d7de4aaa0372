-- Marks at the addresses of numbers.
use Rattle.std.proofs.Common.{◌≡◌, ℕ, suc, ◌+◌, ◌<◌, Bool, true, false, ◌||◌, ◌&&◌, cond, List, [], ◌∷◌, ◌++◌, map, length, Option, Some, None, is_some, Result, Ok, Err, OnOk, OnErr, refl, sym, ap, ◌∙◌, subst, arith}
use Rattle.std.specs.Prelude.{nat_eq, if◌then◌else◌, not}
use Rattle.std.specs.BTreeMap.{BTreeMap, get, keys, is_at, IsOrdered}
use Rattle.std.specs.List.{list_any, position_or_len, filter, AllByRecursion}
use Rattle.std.specs.List.Sorted.{IsStrictlySortedBy}
use Rattle.std.specs.declared.cmp.Ordering.TheVariants.{Less}
use Rattle.std.specs.Ordering.{eq_by_cmp}
use Rattle.std.proofs.lemmas.Bool.{eq-eqb, eqb-true, eqb-false}
use Rattle.std.proofs.lemmas.List.{length_push, map-append}
use Rattle.std.proofs.lemmas.List.Folds.{list_any-append}
use Rattle.std.proofs.lemmas.Map.Keys.{sorted_head, sorted_tail}
use Rattle.std.proofs.lemmas.Map.Made.{is_some-lookup}
use Rattle.fol.specs.Syntax.{Term}
use Rattle.fol.specs.Order.{term_cmp}
use Rattle.fol.specs.OrderLaws.{term_total}
use Rattle.fol.proofs.OrderTies.{term_ties}
use Rattle.finite.specs.Finite as set
use Rattle.finite.proofs.Finite.{has-adds, has-adds_each, has-empty, same_members, listing-of_rising, has-of_rising, listing_rises}
use Rattle.finite.proofs.Rising.{both, is_less, IsBelow}
use Rattle.proof_trees.proofs.Booleans.{or_first, or_second, either}
use Rattle.search_laws.proofs.Tests.{split, clash, same_truth}
use Rattle.extraction_laws.specs.Addresses.{Address, via, address_cmp, address_total, same_address, is_listed}
use Rattle.extraction_laws.specs.States.{State, instantiated, with_address, place_of, terms_of, terms_at}
use Rattle.extraction_laws.proofs.Helping.{terms-marked}
use Rattle.extraction_laws.proofs.Equal.{address_ties, equal_addresses, tied_addresses}
use Rattle.exp_extract.specs.Marked.{Marked, address_in}
use Rattle.exp_extract.specs.Entries.{AreDistinct, FindsChild}
use Rattle.exp_extract.specs.Quantifiers.{is_instance, IsWeakAt, Grows, AreWithin}
use Rattle.exp_extract.specs.Marks.{set_at, instances_in}
use Rattle.exp_extract.proofs.AddressLists.{listed_at, in_front, apart, listed_more}

or-false : (a : Bool) → (a || false) ≡ a
or-false true = refl
or-false false = refl

any_map : {X Y : Type 0} (p : Y → Bool) (f : X → Y) (xs : List X) → list_any p (map f xs) ≡ list_any (λ x. p (f x)) xs
any_map p f [] = refl
any_map p f (x ∷ xs) = ap (λ t. p (f x) || t) (any_map p f xs)

-- what is within a list of numbers

within_head : (bs : List Address) (n : ℕ) (ns : List ℕ) → AreWithin bs (n ∷ ns) → n < length bs
within_head bs n ns h = h n (or_first (nat_eq n n) _ (eq-eqb n n refl))

within_tail : (bs : List Address) (n : ℕ) (ns : List ℕ) → AreWithin bs (n ∷ ns) → AreWithin bs ns
within_tail bs n ns h q e = h q (or_second (nat_eq q n) _ e)

-- numbers and their addresses
module _ (bs : List Address) (distinct : AreDistinct bs) (n : ℕ) (l : n < length bs) where
  same_at : (m : ℕ) → m < length bs → same_address (address_in bs n) (address_in bs m) ≡ nat_eq n m
  same_at m k =
      split (nat_eq n m)
      (λ e. tied_addresses _ _ (ap (address_in bs) (eqb-true n m e)) ∙ sym e)
      (λ e. apart _ _ (λ same. eqb-false n m e (distinct n m l k same)) ∙ sym e)

  pub listed_at_numbers : (ns : List ℕ) → AreWithin bs ns → is_listed (address_in bs n) (map (address_in bs) ns) ≡ list_any (nat_eq n) ns
  listed_at_numbers [] h = refl
  listed_at_numbers (m ∷ ns) h = λ i. same_at m (within_head bs m ns h) i || listed_at_numbers ns (within_tail bs m ns h) i

  pub place_at_numbers : (ns : List ℕ) → AreWithin bs ns → place_of (address_in bs n) (map (address_in bs) ns) ≡ position_or_len (nat_eq n) ns
  place_at_numbers [] h = refl
  place_at_numbers (m ∷ ns) h =
      let later = place_at_numbers ns (within_tail bs m ns h) in
      let head = same_at m (within_head bs m ns h) in
      elim (nat_eq n m) as (λ b. nat_eq n m ≡ b → (if same_address (address_in bs n) (address_in bs m) then 0 else suc (place_of (address_in bs n) (map (address_in bs) ns))) ≡ cond (not b) (1 + position_or_len (nat_eq n) ns) 0) [
        | true ↦ λ e. ap (λ t. if t then 0 else suc (place_of (address_in bs n) (map (address_in bs) ns))) (head ∙ e)
        | false ↦ λ e. ap (λ t. if t then 0 else suc (place_of (address_in bs n) (map (address_in bs) ns))) (head ∙ e) ∙ omega arith
      ] refl

  -- one more number, unless it is there
  pub named_at_numbers : (ns : List ℕ) → AreWithin bs ns → map (address_in bs) (if list_any (nat_eq n) ns then ns else ns ++ n ∷ []) ≡ with_address (map (address_in bs) ns) (address_in bs n)
  named_at_numbers ns h =
      let head = listed_at_numbers ns h in
      elim (list_any (nat_eq n) ns) as (λ b. is_listed (address_in bs n) (map (address_in bs) ns) ≡ b → map (address_in bs) (if b then ns else ns ++ n ∷ []) ≡ with_address (map (address_in bs) ns) (address_in bs n)) [
        | true ↦ λ e. sym (ap (λ t. if t then map (address_in bs) ns else map (address_in bs) ns ++ (address_in bs n ∷ [])) e)
        | false ↦ λ e. map-append (address_in bs) ns (n ∷ []) ∙ sym (ap (λ t. if t then map (address_in bs) ns else map (address_in bs) ns ++ (address_in bs n ∷ [])) e)
      ] head

-- sets at numbers

pub has_at : (bs : List Address) (ns : List ℕ) (b : Address) → set.has (set_at bs ns) b ≡ is_listed b (map (address_in bs) ns)
has_at bs ns b = has-adds_each address_total set.empty (map (address_in bs) ns) b ∙ ap (λ t. t || is_listed b (map (address_in bs) ns)) (has-empty address_cmp b)

-- a test that some member passes
one_passes : (p : ℕ → Bool) (ns : List ℕ) → list_any p ns ≡ true → (q : ℕ) × ((list_any (nat_eq q) ns ≡ true) × (p q ≡ true))
one_passes p [] h = absurd (cc)
one_passes p (n ∷ ns) h =
    split (p n)
    (λ e. (n, (or_first (nat_eq n n) _ (eq-eqb n n refl), e)))
    (λ e. let later = one_passes p ns (sym (ap (λ t. t || list_any p ns) e) ∙ h) in (later.0, (or_second (nat_eq later.0 n) _ later.1.0, later.1.1)))

member_passes : (p : ℕ → Bool) (q : ℕ) (ns : List ℕ) → list_any (nat_eq q) ns ≡ true → p q ≡ true → list_any p ns ≡ true
member_passes p q [] there h = cc
member_passes p q (n ∷ ns) there h =
    either (nat_eq q n) (list_any (nat_eq q) ns)
    (λ e. or_first (p n) _ (ap p (sym (eqb-true q n e)) ∙ h))
    (λ e. or_second (p n) _ (member_passes p q ns e h)) there

-- the numbers ks are those of ns with n
abbrev pub IsWith : ℕ → List ℕ → List ℕ → Type 0
IsWith n ns ks = (q : ℕ) → list_any (nat_eq q) ks ≡ cond (nat_eq n q) true (list_any (nat_eq q) ns)

any_with : (p : ℕ → Bool) (n : ℕ) (ns ks : List ℕ) → IsWith n ns ks → list_any p ks ≡ (p n || list_any p ns)
any_with p n ns ks with_n =
    same_truth (list_any p ks) (p n || list_any p ns)
    (λ h. let one = one_passes p ks h in
    split (nat_eq n one.0)
    (λ e. or_first (p n) _ (ap p (eqb-true n one.0 e) ∙ one.1.1))
    (λ e. or_second (p n) _ (member_passes p one.0 ns (sym (with_n one.0 ∙ ap (λ t. cond t true (list_any (nat_eq one.0) ns)) e) ∙ one.1.0) one.1.1)))
    (λ h. either (p n) (list_any p ns)
    (λ e. member_passes p n ks (with_n n ∙ ap (λ t. cond t true (list_any (nat_eq n) ns)) (eq-eqb n n refl)) e)
    (λ e. let one = one_passes p ns e in
    member_passes p one.0 ks (with_n one.0 ∙ split (nat_eq n one.0)
    (λ s. ap (λ t. cond t true (list_any (nat_eq one.0) ns)) s)
    (λ s. ap (λ t. cond t true (list_any (nat_eq one.0) ns)) s ∙ one.1.0)) one.1.1)
    h)

pub opened_at : (bs : List Address) (n : ℕ) (ns ks : List ℕ) → IsWith n ns ks → set_at bs ks ≡ set.adds (set_at bs ns) (address_in bs n)
opened_at bs n ns ks with_n =
    same_members address_total address_ties (set_at bs ks) (set.adds (set_at bs ns) (address_in bs n)) (λ b.
    has_at bs ks b ∙ (any_map (same_address b) (address_in bs) ks
    ∙ (any_with (λ q. same_address b (address_in bs q)) n ns ks with_n
    ∙ (ap (λ t. same_address b (address_in bs n) || t) (sym (any_map (same_address b) (address_in bs) ns) ∙ sym (has_at bs ns b))
    ∙ sym (has-adds address_total (set_at bs ns) (address_in bs n) b)))))

-- the names with one more
pub within_named : (bs : List Address) (n : ℕ) (ns : List ℕ) → n < length bs → AreWithin bs ns → AreWithin bs (if list_any (nat_eq n) ns then ns else ns ++ n ∷ [])
within_named bs n ns l h =
    elim (list_any (nat_eq n) ns) as (λ b. AreWithin bs (if b then ns else ns ++ n ∷ [])) [
      | true ↦ h
      | false ↦ λ q e. either (list_any (nat_eq q) ns) (nat_eq q n || false) (h q) (λ s. subst (λ m. m < length bs) (sym (eqb-true q n (sym (or-false (nat_eq q n)) ∙ s))) l) (sym (list_any-append (nat_eq q) ns (n ∷ [])) ∙ e)
    ]

-- while addresses grow

module _ (bs cs : List Address) (grown : Grows bs cs) where
  pub within_grown : (ns : List ℕ) → AreWithin bs ns → AreWithin cs ns
  within_grown ns h q e = (grown q (h q e)).0

  pub map_grown : (ns : List ℕ) → AreWithin bs ns → map (address_in cs) ns ≡ map (address_in bs) ns
  map_grown [] h = refl
  map_grown (n ∷ ns) h = λ i. (grown n (within_head bs n ns h)).1 i ∷ map_grown ns (within_tail bs n ns h) i

  pub set_grown : (ns : List ℕ) → AreWithin bs ns → set_at cs ns ≡ set_at bs ns
  set_grown ns h = ap set.of_list (map_grown ns h)

pub grows_push : (bs : List Address) (a : Address) → Grows bs (bs ++ a ∷ [])
grows_push bs a n l = (omega (arith, length_push bs a), in_front bs (a ∷ []) n l)

pub grows_with : (bs : List Address) (a : Address) → Grows bs (with_address bs a)
grows_with bs a =
    elim (is_listed a bs) as (λ t. Grows bs (if t then bs else bs ++ (a ∷ []))) [
      | true ↦ λ n l. (l, refl)
      | false ↦ grows_push bs a
    ]

-- instances

and_cases : (s x : Bool) {p : Bool} → (s ≡ true → p ≡ true) → (s || (x && p)) ≡ ((s || x) && p)
and_cases true x f = sym (f refl)
and_cases false x f = refl

and_none : (s x : Bool) {p : Bool} → (s ≡ true → p ≡ false) → (x && p) ≡ ((s || x) && p)
and_none true x f = (λ i. x && f refl i) ∙ (and-false x ∙ sym (f refl))
  where
    and-false : (a : Bool) → (a && false) ≡ false
    and-false true = refl
    and-false false = refl
and_none false x f = refl

listed_instances : (b : Address) (bs : List Address) → is_listed b (filter is_instance bs) ≡ (is_listed b bs && is_instance b)
listed_instances b [] = refl
listed_instances b (x ∷ bs) =
    elim (is_instance x) as (λ t. is_instance x ≡ t → is_listed b (cond t (x ∷ filter is_instance bs) (filter is_instance bs)) ≡ ((same_address b x || is_listed b bs) && is_instance b)) [
      | true ↦ λ e. ap (λ t. same_address b x || t) (listed_instances b bs) ∙ and_cases (same_address b x) (is_listed b bs) (λ s. ap is_instance (equal_addresses b x s) ∙ e)
      | false ↦ λ e. listed_instances b bs ∙ and_none (same_address b x) (is_listed b bs) (λ s. ap is_instance (equal_addresses b x s) ∙ e)
    ] refl

pub has_instances : (bs : List Address) (b : Address) → set.has (instances_in bs) b ≡ (is_listed b bs && is_instance b)
has_instances bs b =
    has-adds_each address_total set.empty (filter is_instance bs) b ∙ (ap (λ t. t || is_listed b (filter is_instance bs)) (has-empty address_cmp b) ∙ listed_instances b bs)

listed_with : (bs : List Address) (a b : Address) → is_listed b (with_address bs a) ≡ (same_address b a || is_listed b bs)
listed_with bs a b =
    split (is_listed a bs)
    (λ there. ap (λ t. is_listed b (if t then bs else bs ++ (a ∷ []))) there
    ∙ split (same_address b a)
    (λ s. ap (λ x. is_listed x bs) (equal_addresses b a s) ∙ (there ∙ sym (ap (λ t. t || is_listed b bs) s)))
    (λ s. sym (ap (λ t. t || is_listed b bs) s)))
    (λ absent. ap (λ t. is_listed b (if t then bs else bs ++ (a ∷ []))) absent ∙ (listed_more bs a b ∙ swap (is_listed b bs) (same_address b a)))
  where
    swap : (x y : Bool) → (x || y) ≡ (y || x)
    swap true true = refl
    swap true false = refl
    swap false true = refl
    swap false false = refl

pub instances_stay : (bs : List Address) (a : Address) → is_instance a ≡ false → instances_in (with_address bs a) ≡ instances_in bs
instances_stay bs a none =
    same_members address_total address_ties _ _ (λ b.
    has_instances (with_address bs a) b ∙ (ap (λ t. t && is_instance b) (listed_with bs a b)
    ∙ (sym (and_none (same_address b a) (is_listed b bs) (λ s. ap is_instance (equal_addresses b a s) ∙ none)) ∙ sym (has_instances bs b))))

pub instances_more : (bs : List Address) (a : Address) → is_instance a ≡ true → instances_in (with_address bs a) ≡ set.adds (instances_in bs) a
instances_more bs a is =
    same_members address_total address_ties _ _ (λ b.
    has_instances (with_address bs a) b ∙ (ap (λ t. t && is_instance b) (listed_with bs a b)
    ∙ (sym (and_cases (same_address b a) (is_listed b bs) (λ s. ap is_instance (equal_addresses b a s) ∙ is))
    ∙ (ap (λ t. same_address b a || t) (sym (has_instances bs b)) ∙ sym (has-adds address_total (instances_in bs) a b)))))

pub instances_push : (bs : List Address) (a : Address) → is_listed a bs ≡ false → is_instance a ≡ false → instances_in (bs ++ a ∷ []) ≡ instances_in bs
instances_push bs a absent none = sym (ap instances_in (ap (λ t. if t then bs else bs ++ (a ∷ [])) absent)) ∙ instances_stay bs a none

-- an address without a number isn't that of a number
unlisted_numbers : (bs : List Address) (b : Address) (ns : List ℕ) → is_listed b bs ≡ false → AreWithin bs ns → is_listed b (map (address_in bs) ns) ≡ false
unlisted_numbers bs b [] absent h = refl
unlisted_numbers bs b (n ∷ ns) absent h =
    let differ : same_address b (address_in bs n) ≡ false = apart b (address_in bs n) (λ e. clash (is_listed b bs) (ap (λ x. is_listed x bs) e ∙ listed_at bs n (within_head bs n ns h)) absent) in
    λ i. differ i || unlisted_numbers bs b ns absent (within_tail bs n ns h) i

pub not_opened : (bs : List Address) (b : Address) (ns : List ℕ) → is_listed b bs ≡ false → AreWithin bs ns → set.has (set_at bs ns) b ≡ false
not_opened bs b ns absent h = has_at bs ns b ∙ unlisted_numbers bs b ns absent h

-- states at numbers

abbrev pub state_at : List Address → List ℕ → List ℕ → State
state_at bs used named = record { opened = set_at bs used; instances = instances_in bs; names = map (address_in bs) named }

pub state_grown : (bs cs : List Address) (used named : List ℕ) → Grows bs cs → AreWithin bs used → AreWithin bs named → instances_in cs ≡ instances_in bs → state_at cs used named ≡ state_at bs used named
state_grown bs cs used named grown h g same = λ i. record { opened = set_grown bs cs grown used h i; instances = same i; names = map_grown bs cs grown named g i }

pub state_instance : (bs : List Address) (a : Address) (t : Term) (used named : List ℕ) → AreWithin bs used → AreWithin bs named → is_instance (via a t) ≡ true → state_at (with_address bs (via a t)) used named ≡ instantiated a t (state_at bs used named)
state_instance bs a t used named h g weak =
    let cs : List Address = with_address bs (via a t) in
    λ i. record { opened = set_grown bs cs (grows_with bs (via a t)) used h i; instances = instances_more bs (via a t) weak i; names = map_grown bs cs (grows_with bs (via a t)) named g i }

-- after a call that may fail

pub on_ok : {X E : Type 0} (r : Result X E) {P Q : Type 0} → (P → Q) → OnOk r P → OnOk r Q
on_ok (Ok x) f h = f h
on_ok (Err e) f h = tt

pub either_way : {X E : Type 0} (r : Result X E) {P Q R : Type 0} → (P → R) → (Q → R) → OnOk r P → OnErr r Q → R
either_way (Ok x) f g h e = f h
either_way (Err x) f g h e = g e

pub grown_itself : (bs cs : List Address) → cs ≡ bs → Grows bs cs
grown_itself bs cs e = subst (λ (ds : List Address). Grows bs ds) (sym e) (λ n l. (l, refl))

pub grown_to : (bs cs ds : List Address) → cs ≡ ds → Grows bs ds → Grows bs cs
grown_to bs cs ds e h = subst (λ (es : List Address). Grows bs es) (sym e) h

-- terms

and-true : (a : Bool) → (a && true) ≡ a
and-true true = refl
and-true false = refl

-- rising lists of terms with the same members are equal
same_terms : (ts us : List Term) → set.IsRising term_cmp ts → set.IsRising term_cmp us → ((t : Term) → list_any (eq_by_cmp term_cmp t) ts ≡ list_any (eq_by_cmp term_cmp t) us) → ts ≡ us
same_terms ts us up also same =
    sym (listing-of_rising term_cmp ts up)
    ∙ (ap set.listing (same_members term_total term_ties (set.of_rising ts) (set.of_rising us) (λ t. has-of_rising term_cmp ts up t ∙ (same t ∙ sym (has-of_rising term_cmp us also t))))
    ∙ listing-of_rising term_cmp us also)

-- a list that is strictly sorted rises
rises : (ts : List Term) → IsStrictlySortedBy term_cmp ts → set.IsRising term_cmp ts
rises [] h = tt
rises (t ∷ ts) h = both _ _ (below ts (sorted_head term_cmp t ts h)) (rises ts (sorted_tail term_cmp t ts h))
  where
    below : (us : List Term) → AllByRecursion (λ u. term_cmp t u ≡ Less) us → IsBelow term_cmp t us
    below [] h = tt
    below (u ∷ us) h = both _ _ (is_less _ h.0) (below us h.1)

-- whether the number of an address is found
found_listed : (bs : List Address) (b : Address) (o : Option ℕ) → FindsChild bs b o → is_some o ≡ is_listed b bs
found_listed bs b None h = sym h
found_listed bs b (Some n) h = sym (ap (λ x. is_listed x bs) (sym h.1) ∙ listed_at bs n h.0)

-- the terms of the map of instances are those that are marked
pub terms_found : (m : Marked) (a : Address) (ms : BTreeMap Term ℕ) → m.state.instances ≡ instances_in m.addresses → IsWeakAt a → IsOrdered term_cmp ms
    → ((t : Term) → FindsChild m.addresses (via a t) (get term_cmp ms t)) → keys ms ≡ terms_at m.state a
terms_found m a ms is weak ordered finds =
    same_terms (keys ms) (terms_at m.state a) (rises (keys ms) ordered) (listing_rises (set.of_list (terms_of a (set.listing m.state.instances)))) (λ t.
    sym (is_some-lookup (is_at (term_cmp t)) ms.entries) ∙ (found_listed m.addresses (via a t) (get term_cmp ms t) (finds t)
    ∙ sym (terms-marked m.state a t ∙ (ap (λ s. set.has s (via a t)) is ∙ (has_instances m.addresses (via a t) ∙ (ap (λ b. is_listed (via a t) m.addresses && b) weak ∙ and-true (is_listed (via a t) m.addresses)))))))
