-- Marks stay while a state grows.
use Rattle.std.proofs.Common.{◌≡◌, suc, ◌<◌, true, false, ◌||◌, if◌then◌else◌, List, [], ◌∷◌, ◌++◌, length, refl, sym, ap, ◌∙◌, arith}
use Rattle.std.proofs.lemmas.List.Folds.{list_any-append}
use Rattle.fol.specs.Syntax.{Term}
use Rattle.finite.specs.Finite as set
use Rattle.finite.proofs.Finite.{has-adds, same_members}
use Rattle.proof_trees.proofs.Booleans.{or_first, or_second, either}
use Rattle.search_laws.proofs.Tests.{split, clash}
use Rattle.extraction_laws.specs.Addresses.{Address, via, AddressSet, address_total, same_address, is_listed}
use Rattle.extraction_laws.specs.States.{State, with_address, opened, instantiated, named, place_of, Includes}
use Rattle.extraction_laws.proofs.Equal.{address_ties, equal_addresses, tied_address}

-- lists

old_in_longer : (a : Address) (xs ys : List Address) → is_listed a xs ≡ true → is_listed a (xs ++ ys) ≡ true
old_in_longer a xs ys h = list_any-append (same_address a) xs ys ∙ or_first _ _ h

pub stays_listed : (a b : Address) (xs : List Address) → is_listed a xs ≡ true → is_listed a (with_address xs b) ≡ true
stays_listed a b xs h =
    elim (is_listed b xs) as (λ t. is_listed a (if t then xs else xs ++ (b ∷ [])) ≡ true) [
      | true ↦ h
      | false ↦ old_in_longer a xs (b ∷ []) h
    ]

pub is_there : (a : Address) (xs : List Address) → is_listed a (with_address xs a) ≡ true
is_there a xs =
    elim (is_listed a xs) as (λ t. is_listed a xs ≡ t → is_listed a (if t then xs else xs ++ (a ∷ [])) ≡ true) [
      | true ↦ λ h. h
      | false ↦ λ h. list_any-append (same_address a) xs (a ∷ []) ∙ or_second (is_listed a xs) _ (or_first _ false (tied_address a))
    ] refl

-- what is in the longer list is in the list or is the address
pub old_or_new : {P : Type 0} (a b : Address) (xs : List Address) → (is_listed a xs ≡ true → P) → (a ≡ b → P) → is_listed a (with_address xs b) ≡ true → P
old_or_new {P} a b xs old new =
    elim (is_listed b xs) as (λ t. is_listed a (if t then xs else xs ++ (b ∷ [])) ≡ true → P) [
      | true ↦ old
      | false ↦ λ h. either (is_listed a xs) (same_address a b || false) old
          (either (same_address a b) false (λ e. new (equal_addresses a b e)) (λ e. cc))
          (sym (list_any-append (same_address a) xs (b ∷ [])) ∙ h)
    ]

pub already_there : (a : Address) (xs : List Address) → is_listed a xs ≡ true → with_address xs a ≡ xs
already_there a xs h = ap (λ t. if t then xs else xs ++ (a ∷ [])) h

-- places

place_in_longer : (a : Address) (xs ys : List Address) → is_listed a xs ≡ true → place_of a (xs ++ ys) ≡ place_of a xs
place_in_longer a [] ys h = cc
place_in_longer a (x ∷ xs) ys h =
    elim (same_address a x) as (λ t. (t || is_listed a xs) ≡ true → (if t then 0 else suc (place_of a (xs ++ ys))) ≡ (if t then 0 else suc (place_of a xs))) [
      | true ↦ λ e. refl
      | false ↦ λ e. ap suc (place_in_longer a xs ys e)
    ] h

pub place_stays : (a b : Address) (xs : List Address) → is_listed a xs ≡ true → place_of a (with_address xs b) ≡ place_of a xs
place_stays a b xs h =
    elim (is_listed b xs) as (λ t. place_of a (if t then xs else xs ++ (b ∷ [])) ≡ place_of a xs) [
      | true ↦ refl
      | false ↦ place_in_longer a xs (b ∷ []) h
    ]

place_at_end : (a : Address) (xs : List Address) → is_listed a xs ≡ false → place_of a (xs ++ (a ∷ [])) ≡ place_of a xs
place_at_end a [] h = ap (λ t. if t then 0 else 1) (tied_address a)
place_at_end a (x ∷ xs) h =
    elim (same_address a x) as (λ t. (t || is_listed a xs) ≡ false → (if t then 0 else suc (place_of a (xs ++ (a ∷ [])))) ≡ (if t then 0 else suc (place_of a xs))) [
      | true ↦ λ e. cc
      | false ↦ λ e. ap suc (place_at_end a xs e)
    ] h

-- an address that isn't in the list has the place that it gets there
pub own_place : (a : Address) (xs : List Address) → place_of a (with_address xs a) ≡ place_of a xs
own_place a xs =
    elim (is_listed a xs) as (λ t. is_listed a xs ≡ t → place_of a (if t then xs else xs ++ (a ∷ [])) ≡ place_of a xs) [
      | true ↦ λ h. refl
      | false ↦ λ h. place_at_end a xs h
    ] refl

pub place_below : (a : Address) (xs : List Address) → is_listed a xs ≡ true → place_of a xs < length xs
place_below a [] h = cc
place_below a (x ∷ xs) h =
    elim (same_address a x) as (λ t. (t || is_listed a xs) ≡ true → (if t then 0 else suc (place_of a xs)) < length (x ∷ xs)) [
      | true ↦ λ e. omega arith
      | false ↦ λ e. let lower = place_below a xs e in omega arith
    ] h

pub place_outside : (a : Address) (xs : List Address) → is_listed a xs ≡ false → place_of a xs ≡ length xs
place_outside a [] h = refl
place_outside a (x ∷ xs) h =
    elim (same_address a x) as (λ t. (t || is_listed a xs) ≡ false → (if t then 0 else suc (place_of a xs)) ≡ length (x ∷ xs)) [
      | true ↦ λ e. cc
      | false ↦ λ e. let same = place_outside a xs e in omega arith
    ] h

-- two addresses in a list with one place are equal
pub one_place : (a b : Address) (xs : List Address) → is_listed a xs ≡ true → place_of a xs ≡ place_of b xs → a ≡ b
one_place a b [] h e = cc
one_place a b (x ∷ xs) h e =
    split (same_address a x)
    (λ here. split (same_address b x)
    (λ there. equal_addresses a x here ∙ sym (equal_addresses b x there))
    (λ later.
    let first : place_of a (x ∷ xs) ≡ 0 = ap (λ t. if t then 0 else suc (place_of a xs)) here in
    let second : place_of b (x ∷ xs) ≡ suc (place_of b xs) = ap (λ t. if t then 0 else suc (place_of b xs)) later in
    absurd (omega arith)))
    (λ away. split (same_address b x)
    (λ there.
    let first : place_of a (x ∷ xs) ≡ suc (place_of a xs) = ap (λ t. if t then 0 else suc (place_of a xs)) away in
    let second : place_of b (x ∷ xs) ≡ 0 = ap (λ t. if t then 0 else suc (place_of b xs)) there in
    absurd (omega arith))
    (λ later.
    let first : place_of a (x ∷ xs) ≡ suc (place_of a xs) = ap (λ t. if t then 0 else suc (place_of a xs)) away in
    let second : place_of b (x ∷ xs) ≡ suc (place_of b xs) = ap (λ t. if t then 0 else suc (place_of b xs)) later in
    one_place a b xs (either (same_address a x) (is_listed a xs) (λ t. clash (same_address a x) t away) (λ t. t) h) (omega arith)))

-- sets

pub marked : (s : AddressSet) (a : Address) → set.has (set.adds s a) a ≡ true
marked s a = has-adds address_total s a a ∙ or_first (same_address a a) (set.has s a) (tied_address a)

pub stays_marked : (s : AddressSet) (a b : Address) → set.has s a ≡ true → set.has (set.adds s b) a ≡ true
stays_marked s a b h = has-adds address_total s b a ∙ or_second (same_address a b) (set.has s a) h

pub old_or_marked : {P : Type 0} (s : AddressSet) (a b : Address) → (set.has s a ≡ true → P) → (a ≡ b → P) → set.has (set.adds s b) a ≡ true → P
old_or_marked s a b old new h = either (same_address a b) (set.has s a) (λ e. new (equal_addresses a b e)) old (sym (has-adds address_total s b a) ∙ h)

pub marked_already : (s : AddressSet) (a : Address) → set.has s a ≡ true → set.adds s a ≡ s
marked_already s a h =
    same_members address_total address_ties (set.adds s a) s (λ b.
    has-adds address_total s a b
    ∙ split (same_address b a)
    (λ e. ap (λ t. t || set.has s b) e ∙ sym (ap (set.has s) (equal_addresses b a e) ∙ h))
    (λ e. ap (λ t. t || set.has s b) e))

-- states

pub itself : (x : State) → Includes x x
itself x = record { used = λ a h. h; instances = λ a h. h; names = λ a h. h; places = λ a h. refl }

pub next : {x y z : State} → Includes x y → Includes y z → Includes x z
next h g = record {
  used = λ a e. g.used a (h.used a e);
  instances = λ a e. g.instances a (h.instances a e);
  names = λ a e. g.names a (h.names a e);
  places = λ a e. g.places a (h.names a e) ∙ h.places a e;
}

pub includes-opened : (a : Address) (x : State) → Includes x (opened a x)
includes-opened a x = record { used = λ b h. stays_marked x.opened b a h; instances = λ b h. h; names = λ b h. h; places = λ b h. refl }

pub includes-instantiated : (a : Address) (t : Term) (x : State) → Includes x (instantiated a t x)
includes-instantiated a t x = record { used = λ b h. h; instances = λ b h. stays_marked x.instances b (via a t) h; names = λ b h. h; places = λ b h. refl }

pub includes-named : (a : Address) (x : State) → Includes x (named a x)
includes-named a x = record { used = λ b h. h; instances = λ b h. h; names = λ b h. stays_listed b a x.names h; places = λ b h. place_stays b a x.names h }
