-- The least element of a list by a total order.
use Rattle.std.proofs.Common.{◌≡◌, ℕ, ◌<◌, false, List, [], ◌∷◌, ◌++◌, ◌↔◌, map, Option, Some, None, IfSome, length, refl, sym, ap, subst, ◌∙◌, arith}
use Rattle.std.specs.List.{All, Contains, flat_map}
use Rattle.std.specs.FinMap as fin
use Rattle.std.specs.Cmp.{IsTotalOrder, upto, tied_itself}
use Rattle.std.specs.Ordering.{is_gt, min_by_ordering, ordering_reverse}
use Rattle.std.specs.declared.cmp.Ordering.{Ordering}
use Rattle.std.specs.declared.cmp.Ordering.TheVariants.{Less, Equal, Greater}
use Rattle.std.proofs.lemmas.Cmp.{nat_cmp_total, on_total, then_total, lists_total}
use Rattle.std.proofs.lemmas.List.Elements.{All-nil, All-cons, All-head, All-tail, All-weaker, All-contains, All-contains_itself}
use Rattle.fol.specs.OrderLaws.{term_total}
use Rattle.fol.proofs.OrderTies.{term_ties, then_ties}
use Rattle.finite.specs.Finite as set
use Rattle.finite.proofs.Finite.{of_rising-listing}
use Rattle.herbrand_laws.specs.Herbrand.{Item}
use Rattle.herbrand_laws.specs.Patterns.{TermSet}
use Rattle.herbrand_laws.specs.Candidates.{cost, candidate_cmp, lesser, least, rows_of, occurring, best}

no_element : {A : Type 0} (x : A) → Contains [] x → ⊥
no_element x h = let low : h.0 < 0 = h.1 in absurd (omega arith)

module _ {A : Type 0} (c : A → A → Ordering) where
  one_of_both : (P : A → Type 0) (o : Ordering) (x y : A) → P x → P y → P (min_by_ordering o x y)
  one_of_both P Less x y h g = h
  one_of_both P Equal x y h g = h
  one_of_both P Greater x y h g = g

  lesser_of : (P : A → Type 0) (x : A) (o : Option A) → P x → IfSome o P → P (lesser c x o)
  lesser_of P x None h g = h
  lesser_of P x (Some y) h g = one_of_both P (c x y) x y h g

  -- the least element is one of the list
  pub least_of : (P : A → Type 0) (xs : List A) → All P xs → IfSome (least c xs) P
  least_of P [] h = tt
  least_of P (x ∷ xs) h = lesser_of P x (least c xs) (All-head P x xs h) (least_of P xs (All-tail P x xs h))

  -- there is one just where the list isn't empty
  pub least_none : (xs : List A) → least c xs ≡ None → xs ≡ []
  least_none [] e = refl
  least_none (x ∷ xs) e = cc

  module _ (total : IsTotalOrder c) where
    itself_not_above : (x : A) → is_gt (c x x) ≡ false
    itself_not_above x = ap is_gt (tied_itself total x)

    -- an element and the least of others: the lesser of them is below both
    below_both : (x m : A) (xs : List A) → All (λ z. is_gt (c m z) ≡ false) xs → (o : Ordering) → c x m ≡ o → All (λ z. is_gt (c (min_by_ordering o x m) z) ≡ false) (x ∷ xs)
    below_both x m xs h Less e = All-cons (λ z. is_gt (c x z) ≡ false) x xs (itself_not_above x) (λ k d l. upto total x m _ (ap is_gt e) (h k d l))
    below_both x m xs h Equal e = All-cons (λ z. is_gt (c x z) ≡ false) x xs (itself_not_above x) (λ k d l. upto total x m _ (ap is_gt e) (h k d l))
    below_both x m xs h Greater e = All-cons (λ z. is_gt (c m z) ≡ false) x xs (ap is_gt (total.antisymm m x ∙ ap ordering_reverse e)) h

    -- no element is below the least
    pub least_below : (xs : List A) → IfSome (least c xs) (λ m. All (λ z. is_gt (c m z) ≡ false) xs)
    least_below [] = tt
    least_below (x ∷ []) = All-cons (λ z. is_gt (c x z) ≡ false) x [] (itself_not_above x) (All-nil _)
    least_below (x ∷ y ∷ ys) = let m = lesser c y (least c ys) in below_both x m (y ∷ ys) (least_below (y ∷ ys)) (c x m) refl

    not_apart : (o r : Ordering) → o ≡ ordering_reverse r → is_gt o ≡ false → is_gt r ≡ false → o ≡ Equal
    not_apart Less Less e h g = cc
    not_apart Less Equal e h g = cc
    not_apart Less Greater e h g = cc
    not_apart Equal r e h g = refl
    not_apart Greater r e h g = cc

    -- lists with the same elements have the same least one
    module _ (ties : (x y : A) → c x y ≡ Equal → x ≡ y) (xs ys : List A) (there : (x : A) → Contains xs x → Contains ys x) (back : (x : A) → Contains ys x → Contains xs x) where
      same_least : (o r : Option A) → least c xs ≡ o → least c ys ≡ r → o ≡ r
      same_least None None e g = refl
      same_least None (Some m) e g =
          let in_ys = subst (λ q. IfSome q (Contains ys)) g (least_of (Contains ys) ys (All-contains_itself ys)) in
          let nothing = subst (λ zs. Contains zs m) (least_none xs e) (back m in_ys) in
          absurd (no_element m nothing)
      same_least (Some m) None e g =
          let in_xs = subst (λ q. IfSome q (Contains xs)) e (least_of (Contains xs) xs (All-contains_itself xs)) in
          let nothing = subst (λ zs. Contains zs m) (least_none ys g) (there m in_xs) in
          absurd (no_element m nothing)
      same_least (Some m) (Some n) e g =
          let in_xs = subst (λ q. IfSome q (Contains xs)) e (least_of (Contains xs) xs (All-contains_itself xs)) in
          let in_ys = subst (λ q. IfSome q (Contains ys)) g (least_of (Contains ys) ys (All-contains_itself ys)) in
          let below_xs = subst (λ q. IfSome q (λ k. All (λ z. is_gt (c k z) ≡ false) xs)) e (least_below xs) in
          let below_ys = subst (λ q. IfSome q (λ k. All (λ z. is_gt (c k z) ≡ false) ys)) g (least_below ys) in
          let low = All-contains (λ z. is_gt (c m z) ≡ false) xs n below_xs (back n in_ys) in
          let high = All-contains (λ z. is_gt (c n z) ≡ false) ys m below_ys (there m in_xs) in
          ap Some (ties m n (not_apart (c m n) (c n m) (total.antisymm m n) low high))

      pub least_same : least c xs ≡ least c ys
      least_same = same_least (least c xs) (least c ys) refl refl

-- the order of candidates is total, and only equal ones tie

module _ (width : ℕ) (items : List Item) where
  pub candidates_total : IsTotalOrder (candidate_cmp width items)
  candidates_total =
      then_total (on_total (cost width items) nat_cmp_total)
      (then_total (on_total (λ (w : TermSet). length (set.listing w)) nat_cmp_total)
      (on_total (λ (w : TermSet). set.listing w) (lists_total term_total)))

  pub candidates_tie : (v w : TermSet) → candidate_cmp width items v w ≡ Equal → v ≡ w
  candidates_tie v w e =
      let lists = fin.slice_cmp-IsAntisymmetric term_ties (set.listing v) (set.listing w) (then_ties _ _ (then_ties _ _ e).1).1 in
      sym (of_rising-listing v) ∙ (ap set.of_rising lists ∙ of_rising-listing w)

-- there is no candidate just where there is no row

front_empty : {Y : Type 0} (xs ys : List Y) → xs ++ ys ≡ [] → xs ≡ []
front_empty [] ys e = refl
front_empty (x ∷ xs) ys e = cc

back_empty : {Y : Type 0} (xs ys : List Y) → xs ++ ys ≡ [] → ys ≡ []
back_empty [] ys e = e
back_empty (x ∷ xs) ys e = cc

map_empty : {X Y : Type 0} (f : X → Y) (xs : List X) → map f xs ≡ [] → xs ≡ []
map_empty f [] e = refl
map_empty f (x ∷ xs) e = cc

no_parts : {X Y : Type 0} (f : X → List Y) (xs : List X) → flat_map f xs ≡ [] → All (λ x. f x ≡ []) xs
no_parts f [] e = All-nil _
no_parts f (x ∷ xs) e = All-cons (λ y. f y ≡ []) x xs (front_empty (f x) (flat_map f xs) e) (no_parts f xs (back_empty (f x) (flat_map f xs) e))

no_whole : {X Y : Type 0} (f : X → List Y) (xs : List X) → All (λ x. f x ≡ []) xs → flat_map f xs ≡ []
no_whole f [] h = refl
no_whole f (x ∷ xs) h = λ i. All-head (λ y. f y ≡ []) x xs h i ++ no_whole f xs (All-tail (λ y. f y ≡ []) x xs h) i

pub best_none : (width : ℕ) (items : List Item) → (best width items ≡ None) ↔ All (λ i. rows_of width i ≡ []) items
best_none width items = (
  λ e. All-weaker (λ i. map (λ r. r.values) (rows_of width i) ≡ []) (λ i. rows_of width i ≡ []) (λ i. map_empty (λ r. r.values) (rows_of width i)) items
      (no_parts (λ i. map (λ r. r.values) (rows_of width i)) items (least_none (candidate_cmp width items) (occurring width items) e)),
  λ h. ap (least (candidate_cmp width items)) (no_whole (λ i. map (λ r. r.values) (rows_of width i)) items (All-weaker (λ i. rows_of width i ≡ []) (λ i. map (λ r. r.values) (rows_of width i) ≡ []) (λ i. ap (map (λ r. r.values))) items h)),
)

-- the best candidate is one, and none is below it
pub best_least : (width : ℕ) (items : List Item) (w : TermSet) → best width items ≡ Some w → Contains (occurring width items) w × All (λ v. is_gt (candidate_cmp width items w v) ≡ false) (occurring width items)
best_least width items w e =
    let c = candidate_cmp width items in
    let all = occurring width items in (
      subst (λ o. IfSome o (Contains all)) e (least_of c (Contains all) all (All-contains_itself all)),
      subst (λ o. IfSome o (λ m. All (λ v. is_gt (c m v) ≡ false) all)) e (least_below c (candidates_total width items) all),
    )
