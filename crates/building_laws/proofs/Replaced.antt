-- Lists in which one tree is replaced by others, in its place.
use Rattle.std.proofs.Common.{◌≡◌, ◌+◌, Bool, true, List, [], ◌∷◌, ◌++◌, sym, ◌∙◌, arith}
use Rattle.std.specs.List.{AllByRecursion, list_any}
use Rattle.std.proofs.lemmas.List.Folds.{list_any-append}
use Rattle.fol.specs.declared.symbols.Var.{Var}
use Rattle.proof_trees.proofs.Booleans.{or_first, or_second, either, or_more}
use Rattle.expansion_laws.specs.Dependency.{strongs}
use Rattle.building_laws.specs.Lists.{Placed, strongs_in_list, weight, weight_of}
use Rattle.building_laws.proofs.Counting.{count, count-append}

-- the second list is the first with the trees ps in place of one p
pub data Replaced (p : Placed) (ps : List Placed) : List Placed → List Placed → Type 0 where
  here : (l : List Placed) → Replaced p ps (p ∷ l) (ps ++ l)
  later : (q : Placed) (l m : List Placed) → Replaced p ps l m → Replaced p ps (q ∷ l) (q ∷ m)

-- two lists in a row

all_both : (P : Placed → Type 0) (xs ys : List Placed) → AllByRecursion P xs → AllByRecursion P ys → AllByRecursion P (xs ++ ys)
all_both P [] ys first second = second
all_both P (x ∷ xs) ys first second = (first.0, all_both P xs ys first.1 second)

count-both : (v : Var) (xs ys : List Placed) → count v (strongs_in_list (xs ++ ys)) ≡ count v (strongs_in_list xs) + count v (strongs_in_list ys)
count-both v [] ys = omega arith
count-both v (x ∷ xs) ys =
    let rest = count-both v xs ys in
    let all = count-append v (strongs x.tree) (strongs_in_list (xs ++ ys)) in
    let part = count-append v (strongs x.tree) (strongs_in_list xs) in
    omega arith

weight-both : (xs ys : List Placed) → weight_of (xs ++ ys) ≡ weight_of xs + weight_of ys
weight-both [] ys = omega arith
weight-both (x ∷ xs) ys = let rest = weight-both xs ys in omega arith

module _ (p : Placed) (ps : List Placed) where
  -- where p passes only if one of ps does, some tree of the new list passes if one of the old list does
  pub any_new : (t : Placed → Bool) → (t p ≡ true → list_any t ps ≡ true) → (l m : List Placed) → Replaced p ps l m → list_any t l ≡ true → list_any t m ≡ true
  any_new t f _ _ (here l) e = list_any-append t ps l ∙ or_more (t p) (list_any t l) (list_any t ps) (list_any t l) f (λ x. x) e
  any_new t f _ _ (later q l m r) e = or_more (t q) (list_any t l) (t q) (list_any t m) (λ x. x) (any_new t f l m r) e

  -- a tree of the new list that passes is one of ps or of the old list
  pub any_old : {P : Type 0} (t : Placed → Bool) (l m : List Placed) → Replaced p ps l m → (list_any t ps ≡ true → P) → (list_any t l ≡ true → P) → list_any t m ≡ true → P
  any_old t _ _ (here l) new old e = either (list_any t ps) (list_any t l) new (λ x. old (or_second (t p) (list_any t l) x)) (sym (list_any-append t ps l) ∙ e)
  any_old t _ _ (later q l m r) new old e = either (t q) (list_any t m) (λ x. old (or_first (t q) (list_any t l) x)) (any_old t l m r new (λ x. old (or_second (t q) (list_any t l) x))) e

  -- p is in the old list
  pub in_old : (t : Placed → Bool) (l m : List Placed) → Replaced p ps l m → t p ≡ true → list_any t l ≡ true
  in_old t _ _ (here l) e = or_first (t p) (list_any t l) e
  in_old t _ _ (later q l m r) e = or_second (t q) (list_any t l) (in_old t l m r e)

  -- what holds of each tree of the old list and of each of ps holds of each tree of the new list
  pub all_new : (P : Placed → Type 0) (l m : List Placed) → Replaced p ps l m → AllByRecursion P ps → AllByRecursion P l → AllByRecursion P m
  all_new P _ _ (here l) new old = all_both P ps l new old.1
  all_new P _ _ (later q l m r) new old = (old.0, all_new P l m r new old.1)

  -- the variables and the weight of p go, and those of ps come
  pub counted_new : (v : Var) (l m : List Placed) → Replaced p ps l m → count v (strongs_in_list m) + count v (strongs p.tree) ≡ count v (strongs_in_list l) + count v (strongs_in_list ps)
  counted_new v _ _ (here l) =
      let both = count-both v ps l in
      let old = count-append v (strongs p.tree) (strongs_in_list l) in
      omega arith
  counted_new v _ _ (later q l m r) =
      let rest = counted_new v l m r in
      let old = count-append v (strongs q.tree) (strongs_in_list l) in
      let new = count-append v (strongs q.tree) (strongs_in_list m) in
      omega arith

  pub weighed_new : (l m : List Placed) → Replaced p ps l m → weight_of m + weight p.tree ≡ weight_of l + weight_of ps
  weighed_new _ _ (here l) = let both = weight-both ps l in omega arith
  weighed_new _ _ (later q l m r) = let rest = weighed_new l m r in omega arith
