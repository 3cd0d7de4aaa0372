-- Maps between numbers, with one more pair and with fewer.
use Rattle.std.proofs.Common.{◌≡◌, ℕ, suc, ◌+◌, ◌<◌, ◌≤◌, Bool, true, false, ◌||◌, cond, List, [], ◌∷◌, ◌++◌, length, take, drop, get_or, Option, Some, None, Result, Ok, Err, nat_eq, refl, sym, ap, ◌∙◌, subst, arith}
use Rattle.std.specs.Int.{from_bool}
use Rattle.std.specs.declared.cmp.Ordering.TheVariants.{Less, Equal, Greater}
use Rattle.std.specs.List.{All, list_any, insert}
use Rattle.std.specs.Ordering.{nat_cmp, eq_by_cmp, is_eq, is_lt}
use Rattle.std.specs.Cmp.{Equal-is}
use Rattle.std.proofs.lemmas.Bool.Decides.{nat_tests}
use Rattle.std.proofs.lemmas.List.{take_more, length-take, length-append}
use Rattle.std.proofs.lemmas.Cmp.{nat_cmp_total}
use Rattle.std.proofs.lemmas.List.Elements.{All-head, All-tail, All-set, All-append, All-cons, All-take, All-drop}
use Rattle.std.specs.FinMap as fin
use Rattle.finite.specs.Finite as set
use Rattle.finite.specs.Place.{place, place_by, later}
use Rattle.finite.proofs.Places.{added_at_place}
use Rattle.finite.proofs.Rising.{IsBelow, first, second, both, head_below, tail_rises, below_none}
use Rattle.std.specs.FinMap.Entries.{below_all}
use Rattle.arena.specs.Pairs.{number_in, keys_with, values_with, keys_kept, values_kept}
use Rattle.arena.specs.Lists.{HasSameMembers}
use Rattle.arena.proofs.Members.{added_members}
use Rattle.proof_trees.proofs.Passing.{itself}

-- two choices change places where they can't both be made
cond_swap : {X : Type 0} (b c : Bool) (x y z : X) → (b ≡ true → c ≡ true → ⊥) → cond b x (cond c y z) ≡ cond c y (cond b x z)
cond_swap true true x y z apart = absurd (apart refl refl)
cond_swap true false x y z apart = refl
cond_swap false c x y z apart = refl

cond_again : {X : Type 0} (b : Bool) (x y z : X) → cond b x z ≡ cond b x (cond b y z)
cond_again true x y z = refl
cond_again false x y z = refl

-- two numbers to which one is equal are equal
both_same : (n k l : ℕ) → eq_by_cmp nat_cmp n k ≡ true → eq_by_cmp nat_cmp n l ≡ true → k ≡ l
both_same n k l e f = sym (fin.nat_cmp-IsAntisymmetric n k ((Equal-is (nat_cmp n k)).0 e)) ∙ fin.nat_cmp-IsAntisymmetric n l ((Equal-is (nat_cmp n l)).0 f)

not_below : (k l : ℕ) → nat_cmp k l ≡ Less → k ≡ l → ⊥
not_below k l below same =
    let tied : nat_cmp k k ≡ Less = subst (λ (n : ℕ). nat_cmp k n ≡ Less) (sym same) below in
    let here : eq_by_cmp nat_cmp k k ≡ true = itself nat_cmp_total fin.nat_cmp-IsAntisymmetric k in
    let there : eq_by_cmp nat_cmp k k ≡ false = ap is_eq tied in
    absurd (cc)

after_lower : (k v l w : ℕ) (ks vs : List ℕ) (n : ℕ) (r : Result ℕ ℕ) → nat_cmp l k ≡ Less
    → number_in (keys_with k ks r) (values_with v vs r) n ≡ cond (eq_by_cmp nat_cmp n k) (Some v) (number_in ks vs n)
    → number_in (keys_with k (l ∷ ks) (later r)) (values_with v (w ∷ vs) (later r)) n ≡ cond (eq_by_cmp nat_cmp n k) (Some v) (number_in (l ∷ ks) (w ∷ vs) n)
after_lower k v l w ks vs n (Ok j) below rest =
    ap (cond (eq_by_cmp nat_cmp n l) (Some w)) rest
    ∙ cond_swap (eq_by_cmp nat_cmp n l) (eq_by_cmp nat_cmp n k) (Some w) (Some v) (number_in ks vs n) (λ e f. not_below l k below (both_same n l k e f))
after_lower k v l w ks vs n (Err j) below rest =
    ap (cond (eq_by_cmp nat_cmp n l) (Some w)) rest
    ∙ cond_swap (eq_by_cmp nat_cmp n l) (eq_by_cmp nat_cmp n k) (Some w) (Some v) (number_in ks vs n) (λ e f. not_below l k below (both_same n l k e f))

-- the lists with one more pair have its value at its key
pub number_with : (k v : ℕ) (ks vs : List ℕ) (n : ℕ) → length ks ≡ length vs
    → number_in (keys_with k ks (place nat_cmp k ks)) (values_with v vs (place nat_cmp k ks)) n ≡ cond (eq_by_cmp nat_cmp n k) (Some v) (number_in ks vs n)
number_with k v [] [] n h = refl
number_with k v [] (w ∷ vs) n h = absurd (omega arith)
number_with k v (l ∷ ks) [] n h = absurd (omega arith)
number_with k v (l ∷ ks) (w ∷ vs) n h =
    elim (nat_cmp l k) as (λ r. nat_cmp l k ≡ r
    → number_in (keys_with k (l ∷ ks) (place_by r (place nat_cmp k ks))) (values_with v (w ∷ vs) (place_by r (place nat_cmp k ks))) n
    ≡ cond (eq_by_cmp nat_cmp n k) (Some v) (number_in (l ∷ ks) (w ∷ vs) n)) [
      | Less ↦ λ below. after_lower k v l w ks vs n (place nat_cmp k ks) below (number_with k v ks vs n (omega arith))
      | Equal ↦ λ tied.
          let same : l ≡ k = fin.nat_cmp-IsAntisymmetric l k tied in
          ap (λ (m : ℕ). cond (eq_by_cmp nat_cmp n m) (Some v) (number_in ks vs n)) same
          ∙ cond_again (eq_by_cmp nat_cmp n k) (Some v) (Some w) (number_in ks vs n)
          ∙ ap (λ (m : ℕ). cond (eq_by_cmp nat_cmp n k) (Some v) (cond (eq_by_cmp nat_cmp n m) (Some w) (number_in ks vs n))) (sym same)
      | Greater ↦ λ above. refl
    ] refl

pub keys_with_rise : (k : ℕ) (ks : List ℕ) → set.IsRising nat_cmp ks → set.IsRising nat_cmp (keys_with k ks (place nat_cmp k ks))
keys_with_rise k ks up = placed_rise (place nat_cmp k ks) refl
  where
    placed_rise : (r : Result ℕ ℕ) → r ≡ place nat_cmp k ks → set.IsRising nat_cmp (keys_with k ks r)
    placed_rise (Ok i) e = (added_at_place nat_cmp nat_cmp_total k ks up (Ok i) e).rises
    placed_rise (Err i) e = (added_at_place nat_cmp nat_cmp_total k ks up (Err i) e).rises

insert_all : (P : ℕ → Type 0) (xs : List ℕ) (i x : ℕ) → P x → All P xs → All P (insert xs i x)
insert_all P xs i x p h = All-append P (take i xs) (x ∷ drop i xs) (All-take P i xs h) (All-cons P x (drop i xs) p (All-drop P i xs h))

pub keys_with_all : (P : ℕ → Type 0) (k : ℕ) (ks : List ℕ) (r : Result ℕ ℕ) → P k → All P ks → All P (keys_with k ks r)
keys_with_all P k ks (Ok i) p h = h
keys_with_all P k ks (Err i) p h = insert_all P ks i k p h

pub values_with_all : (P : ℕ → Type 0) (v : ℕ) (vs : List ℕ) (r : Result ℕ ℕ) → P v → All P vs → All P (values_with v vs r)
values_with_all P v vs (Ok i) p h = All-set P vs i v p h
values_with_all P v vs (Err i) p h = insert_all P vs i v p h

pub with_lengths : (k v : ℕ) (ks vs : List ℕ) → length ks ≡ length vs → length (keys_with k ks (place nat_cmp k ks)) ≡ length (values_with v vs (place nat_cmp k ks))
with_lengths k v [] [] h = refl
with_lengths k v [] (w ∷ vs) h = absurd (omega arith)
with_lengths k v (l ∷ ks) [] h = absurd (omega arith)
with_lengths k v (l ∷ ks) (w ∷ vs) h =
    elim (nat_cmp l k) as (λ r. length (keys_with k (l ∷ ks) (place_by r (place nat_cmp k ks))) ≡ length (values_with v (w ∷ vs) (place_by r (place nat_cmp k ks)))) [
      | Less ↦ after (place nat_cmp k ks) (with_lengths k v ks vs (omega arith))
      | Equal ↦ h
      | Greater ↦ ap suc h
    ]
  where
    after : (r : Result ℕ ℕ) → length (keys_with k ks r) ≡ length (values_with v vs r) → length (keys_with k (l ∷ ks) (later r)) ≡ length (values_with v (w ∷ vs) (later r))
    after (Ok j) e = ap suc e
    after (Err j) e = ap suc e

-- what a test lets through
abbrev pub kept_by : (ℕ → ℕ → Bool) → ℕ → Option ℕ → Option ℕ
kept_by p n None = None
kept_by p n (Some v) = cond (p n v) (Some v) None

no_number : (ks vs : List ℕ) (n : ℕ) → list_any (eq_by_cmp nat_cmp n) ks ≡ false → number_in ks vs n ≡ None
no_number [] vs n h = refl
no_number (k ∷ ks) [] n h = refl
no_number (k ∷ ks) (v ∷ vs) n h =
    elim (eq_by_cmp nat_cmp n k) as (λ b. (b || list_any (eq_by_cmp nat_cmp n) ks) ≡ false → cond b (Some v) (number_in ks vs n) ≡ None) [
      | true ↦ λ e. cc
      | false ↦ λ e. no_number ks vs n e
    ] h

pub number_kept : (p : ℕ → ℕ → Bool) (ks vs : List ℕ) (n : ℕ) → set.IsRising nat_cmp ks → number_in (keys_kept p ks vs) (values_kept p ks vs) n ≡ kept_by p n (number_in ks vs n)
number_kept p [] vs n up = refl
number_kept p (k ∷ ks) [] n up = refl
number_kept p (k ∷ ks) (v ∷ vs) n up =
    elim (p k v) as (λ b. p k v ≡ b
    → number_in (cond b (k ∷ keys_kept p ks vs) (keys_kept p ks vs)) (cond b (v ∷ values_kept p ks vs) (values_kept p ks vs)) n
    ≡ kept_by p n (cond (eq_by_cmp nat_cmp n k) (Some v) (number_in ks vs n))) [
      | true ↦ λ pass.
          elim (eq_by_cmp nat_cmp n k) as (λ b. eq_by_cmp nat_cmp n k ≡ b → cond b (Some v) (number_in (keys_kept p ks vs) (values_kept p ks vs) n) ≡ kept_by p n (cond b (Some v) (number_in ks vs n))) [
            | true ↦ λ e.
                let same : n ≡ k = fin.nat_cmp-IsAntisymmetric n k ((Equal-is (nat_cmp n k)).0 e) in
                ap (λ b. cond b (Some v) None) (sym pass ∙ ap (λ (m : ℕ). p m v) (sym same))
            | false ↦ λ e. number_kept p ks vs n (tail_rises nat_cmp k ks up)
          ] refl
      | false ↦ λ pass.
          number_kept p ks vs n (tail_rises nat_cmp k ks up)
          ∙ elim (eq_by_cmp nat_cmp n k) as (λ b. eq_by_cmp nat_cmp n k ≡ b → kept_by p n (number_in ks vs n) ≡ kept_by p n (cond b (Some v) (number_in ks vs n))) [
            | true ↦ λ e.
                let same : n ≡ k = fin.nat_cmp-IsAntisymmetric n k ((Equal-is (nat_cmp n k)).0 e) in
                let gone : list_any (eq_by_cmp nat_cmp n) ks ≡ false = subst (λ (m : ℕ). list_any (eq_by_cmp nat_cmp m) ks ≡ false) (sym same) (below_none nat_cmp k ks (head_below nat_cmp k ks up)) in
                ap (kept_by p n) (no_number ks vs n gone) ∙ ap (λ b. cond b (Some v) None) (sym (ap (λ (m : ℕ). p m v) same ∙ pass))
            | false ↦ λ e. refl
          ] refl
    ] refl

-- an element below all is below those that are kept
kept_below : (p : ℕ → ℕ → Bool) (x : ℕ) (ks vs : List ℕ) → IsBelow nat_cmp x ks → IsBelow nat_cmp x (keys_kept p ks vs)
kept_below p x [] vs h = tt
kept_below p x (k ∷ ks) [] h = tt
kept_below p x (k ∷ ks) (v ∷ vs) h =
    let rest : IsBelow nat_cmp x (keys_kept p ks vs) = kept_below p x ks vs (second (is_lt (nat_cmp x k)) _ h) in
    elim (p k v) as (λ b. IsBelow nat_cmp x (cond b (k ∷ keys_kept p ks vs) (keys_kept p ks vs))) [
      | true ↦ both (is_lt (nat_cmp x k)) _ (first (is_lt (nat_cmp x k)) _ h) rest
      | false ↦ rest
    ]

pub keys_kept_rise : (p : ℕ → ℕ → Bool) (ks vs : List ℕ) → set.IsRising nat_cmp ks → set.IsRising nat_cmp (keys_kept p ks vs)
keys_kept_rise p [] vs h = tt
keys_kept_rise p (k ∷ ks) [] h = tt
keys_kept_rise p (k ∷ ks) (v ∷ vs) h =
    let rest : set.IsRising nat_cmp (keys_kept p ks vs) = keys_kept_rise p ks vs (tail_rises nat_cmp k ks h) in
    elim (p k v) as (λ b. set.IsRising nat_cmp (cond b (k ∷ keys_kept p ks vs) (keys_kept p ks vs))) [
      | true ↦ both (below_all nat_cmp k (set.marked (keys_kept p ks vs))) _ (kept_below p k ks vs (head_below nat_cmp k ks h)) rest
      | false ↦ rest
    ]

pub keys_kept_all : (p : ℕ → ℕ → Bool) (P : ℕ → Type 0) (ks vs : List ℕ) → All P ks → All P (keys_kept p ks vs)
keys_kept_all p P [] vs h = h
keys_kept_all p P (k ∷ ks) [] h = λ i d within. absurd (omega arith)
keys_kept_all p P (k ∷ ks) (v ∷ vs) h =
    let rest = keys_kept_all p P ks vs (All-tail P k ks h) in
    elim (p k v) as (λ b. All P (cond b (k ∷ keys_kept p ks vs) (keys_kept p ks vs))) [
      | true ↦ All-cons P k (keys_kept p ks vs) (All-head P k ks h) rest
      | false ↦ rest
    ]

pub values_kept_all : (p : ℕ → ℕ → Bool) (P : ℕ → Type 0) (ks vs : List ℕ) → All P vs → All P (values_kept p ks vs)
values_kept_all p P [] vs h = λ i d within. absurd (omega arith)
values_kept_all p P (k ∷ ks) [] h = h
values_kept_all p P (k ∷ ks) (v ∷ vs) h =
    let rest = values_kept_all p P ks vs (All-tail P v vs h) in
    elim (p k v) as (λ b. All P (cond b (v ∷ values_kept p ks vs) (values_kept p ks vs))) [
      | true ↦ All-cons P v (values_kept p ks vs) (All-head P v vs h) rest
      | false ↦ rest
    ]

pub kept_lengths : (p : ℕ → ℕ → Bool) (ks vs : List ℕ) → length (keys_kept p ks vs) ≡ length (values_kept p ks vs)
kept_lengths p [] vs = refl
kept_lengths p (k ∷ ks) [] = refl
kept_lengths p (k ∷ ks) (v ∷ vs) =
    elim (p k v) as (λ b. length (cond b (k ∷ keys_kept p ks vs) (keys_kept p ks vs)) ≡ length (cond b (v ∷ values_kept p ks vs) (values_kept p ks vs))) [
      | true ↦ ap suc (kept_lengths p ks vs)
      | false ↦ kept_lengths p ks vs
    ]

-- how many pairs are kept
few_kept : (p : ℕ → ℕ → Bool) (ks vs : List ℕ) → length (keys_kept p ks vs) ≤ length ks
few_kept p [] vs = omega arith
few_kept p (k ∷ ks) [] = omega arith
few_kept p (k ∷ ks) (v ∷ vs) =
    let rest : length (keys_kept p ks vs) ≤ length ks = few_kept p ks vs in
    elim (p k v) as (λ b. length (cond b (k ∷ keys_kept p ks vs) (keys_kept p ks vs)) ≤ suc (length ks)) [
      | true ↦ omega arith
      | false ↦ omega arith
    ]

-- where as many are kept as there are, all are
pub all_kept : (p : ℕ → ℕ → Bool) (ks vs : List ℕ) → length ks ≡ length vs → length (keys_kept p ks vs) ≡ length ks → (keys_kept p ks vs ≡ ks) × (values_kept p ks vs ≡ vs)
all_kept p [] [] same h = (refl, refl)
all_kept p [] (v ∷ vs) same h = absurd (omega arith)
all_kept p (k ∷ ks) [] same h = absurd (omega arith)
all_kept p (k ∷ ks) (v ∷ vs) same h =
    elim (p k v) as (λ b. length (cond b (k ∷ keys_kept p ks vs) (keys_kept p ks vs)) ≡ suc (length ks)
    → (cond b (k ∷ keys_kept p ks vs) (keys_kept p ks vs) ≡ k ∷ ks) × (cond b (v ∷ values_kept p ks vs) (values_kept p ks vs) ≡ v ∷ vs)) [
      | true ↦ λ e.
          let rest = all_kept p ks vs (omega arith) (omega arith) in
          (ap (λ (xs : List ℕ). k ∷ xs) rest.0, ap (λ (xs : List ℕ). v ∷ xs) rest.1)
      | false ↦ λ e. let fewer = few_kept p ks vs in absurd (omega arith)
    ] h

-- a value that is found is one of the values
pub number_all : (P : ℕ → Type 0) (ks vs : List ℕ) (n v : ℕ) → All P vs → number_in ks vs n ≡ Some v → P v
number_all P [] vs n v h e = absurd (cc)
number_all P (k ∷ ks) [] n v h e = absurd (cc)
number_all P (k ∷ ks) (w ∷ vs) n v h e =
    elim (eq_by_cmp nat_cmp n k) as (λ b. cond b (Some w) (number_in ks vs n) ≡ Some v → P v) [
      | true ↦ λ here. let same : w ≡ v = cc in subst P same (All-head P w vs h)
      | false ↦ λ later. number_all P ks vs n v (All-tail P w vs h) later
    ] e

-- a number that is kept was there
pub kept_among : (p : ℕ → ℕ → Bool) (n : ℕ) (ks vs : List ℕ) → list_any (eq_by_cmp nat_cmp n) (keys_kept p ks vs) ≡ true → list_any (eq_by_cmp nat_cmp n) ks ≡ true
kept_among p n [] vs h = h
kept_among p n (k ∷ ks) [] h = cc
kept_among p n (k ∷ ks) (v ∷ vs) h =
    elim (p k v) as (λ b. list_any (eq_by_cmp nat_cmp n) (cond b (k ∷ keys_kept p ks vs) (keys_kept p ks vs)) ≡ true → (eq_by_cmp nat_cmp n k || list_any (eq_by_cmp nat_cmp n) ks) ≡ true) [
      | true ↦ λ there. either (eq_by_cmp nat_cmp n k) _ _ (kept_among p n ks vs) there
      | false ↦ λ there. or_later (eq_by_cmp nat_cmp n k) _ (kept_among p n ks vs there)
    ] h
  where
    or_later : (b c : Bool) → c ≡ true → (b || c) ≡ true
    or_later true c e = refl
    or_later false c e = e

    either : (b c d : Bool) → (c ≡ true → d ≡ true) → (b || c) ≡ true → (b || d) ≡ true
    either true c d f e = refl
    either false c d f e = f e

-- the numbers of the keys with one more
pub keys_with_members : (k : ℕ) (ks : List ℕ) → set.IsRising nat_cmp ks → HasSameMembers (keys_with k ks (place nat_cmp k ks)) (k ∷ ks)
keys_with_members k ks up = by_place (place nat_cmp k ks) refl
  where
    by_place : (r : Result ℕ ℕ) → r ≡ place nat_cmp k ks → HasSameMembers (keys_with k ks r) (k ∷ ks)
    by_place (Ok i) e = let added = added_at_place nat_cmp nat_cmp_total k ks up (Ok i) e in added_members ks ks k up added.rises added.set
    by_place (Err i) e = let added = added_at_place nat_cmp nat_cmp_total k ks up (Err i) e in added_members ks (insert ks i k) k up added.rises added.set

pub eq_same : (m n : ℕ) → nat_eq m n ≡ eq_by_cmp nat_cmp m n
eq_same m n = grind (arith, nat_tests)

into_choice : (b c : Bool) (w : ℕ) (xs : List ℕ) (v : ℕ) → cond b (w ∷ cond c (xs ++ v ∷ []) xs) (cond c (xs ++ v ∷ []) xs) ≡ cond c (cond b (w ∷ xs) xs ++ v ∷ []) (cond b (w ∷ xs) xs)
into_choice true true w xs v = refl
into_choice true false w xs v = refl
into_choice false true w xs v = refl
into_choice false false w xs v = refl

-- one more pair that may be kept
keys_kept-push : (p : ℕ → ℕ → Bool) (ks vs : List ℕ) (k v : ℕ) → length ks ≡ length vs → keys_kept p (ks ++ k ∷ []) (vs ++ v ∷ []) ≡ cond (p k v) (keys_kept p ks vs ++ k ∷ []) (keys_kept p ks vs)
keys_kept-push p [] [] k v h = refl
keys_kept-push p [] (w ∷ vs) k v h = absurd (omega arith)
keys_kept-push p (l ∷ ks) [] k v h = absurd (omega arith)
keys_kept-push p (l ∷ ks) (w ∷ vs) k v h =
    ap (λ (xs : List ℕ). cond (p l w) (l ∷ xs) xs) (keys_kept-push p ks vs k v (omega arith)) ∙ into_choice (p l w) (p k v) l (keys_kept p ks vs) k

values_kept-push : (p : ℕ → ℕ → Bool) (ks vs : List ℕ) (k v : ℕ) → length ks ≡ length vs → values_kept p (ks ++ k ∷ []) (vs ++ v ∷ []) ≡ cond (p k v) (values_kept p ks vs ++ v ∷ []) (values_kept p ks vs)
values_kept-push p [] [] k v h = refl
values_kept-push p [] (w ∷ vs) k v h = absurd (omega arith)
values_kept-push p (l ∷ ks) [] k v h = absurd (omega arith)
values_kept-push p (l ∷ ks) (w ∷ vs) k v h =
    ap (λ (xs : List ℕ). cond (p l w) (w ∷ xs) xs) (values_kept-push p ks vs k v (omega arith)) ∙ into_choice (p l w) (p k v) w (values_kept p ks vs) v

taken_lengths : (ks vs : List ℕ) (i : ℕ) → length ks ≡ length vs → length (take i ks) ≡ length (take i vs)
taken_lengths ks vs i h = omega (arith, length-take i ks, length-take i vs)

pub keys_kept_more : (p : ℕ → ℕ → Bool) (ks vs : List ℕ) (i : ℕ) → length ks ≡ length vs → i < length ks
    → keys_kept p (take (i + 1) ks) (take (i + 1) vs) ≡ cond (p (get_or ks i 0) (get_or vs i 0)) (keys_kept p (take i ks) (take i vs) ++ get_or ks i 0 ∷ []) (keys_kept p (take i ks) (take i vs))
keys_kept_more p ks vs i h within =
    let other : i < length vs = omega arith in
    (λ j. keys_kept p (take_more ks i 0 within j) (take_more vs i 0 other j)) ∙ keys_kept-push p (take i ks) (take i vs) (get_or ks i 0) (get_or vs i 0) (taken_lengths ks vs i h)

longer : (b : Bool) (xs : List ℕ) (x : ℕ) → length (cond b (xs ++ x ∷ []) xs) ≡ length xs + from_bool b
longer true xs x = omega (arith, length-append xs (x ∷ []))
longer false xs x = omega arith

pub at_most_one : (b : Bool) → from_bool b ≤ 1
at_most_one true = omega arith
at_most_one false = omega arith

pub count_more : (p : ℕ → ℕ → Bool) (ks vs : List ℕ) (i : ℕ) → length ks ≡ length vs → i < length ks
    → length (keys_kept p (take (i + 1) ks) (take (i + 1) vs)) ≡ length (keys_kept p (take i ks) (take i vs)) + from_bool (p (get_or ks i 0) (get_or vs i 0))
count_more p ks vs i h within = ap length (keys_kept_more p ks vs i h within) ∙ longer (p (get_or ks i 0) (get_or vs i 0)) (keys_kept p (take i ks) (take i vs)) (get_or ks i 0)

pub values_kept_more : (p : ℕ → ℕ → Bool) (ks vs : List ℕ) (i : ℕ) → length ks ≡ length vs → i < length ks
    → values_kept p (take (i + 1) ks) (take (i + 1) vs) ≡ cond (p (get_or ks i 0) (get_or vs i 0)) (values_kept p (take i ks) (take i vs) ++ get_or vs i 0 ∷ []) (values_kept p (take i ks) (take i vs))
values_kept_more p ks vs i h within =
    let other : i < length vs = omega arith in
    (λ j. values_kept p (take_more ks i 0 within j) (take_more vs i 0 other j)) ∙ values_kept-push p (take i ks) (take i vs) (get_or ks i 0) (get_or vs i 0) (taken_lengths ks vs i h)
