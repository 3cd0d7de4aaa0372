-- Rising lists of formulas parted into the closed ones, which a map leaves as they are, and the others.
use Rattle.std.proofs.Common.{◌≡◌, ℕ, Bool, true, false, ◌||◌, not, cond, List, [], ◌∷◌, ◌++◌, map, refl, sym, ap, ◌∙◌, subst}
use Rattle.std.specs.List.{All, filter, list_any}
use Rattle.std.specs.Ordering.{nat_cmp, eq_by_cmp, is_lt}
use Rattle.std.specs.FinMap as fin
use Rattle.std.specs.FinMap.Entries.{below_all}
use Rattle.std.proofs.Math.Bool.{or_assoc}
use Rattle.std.proofs.lemmas.List.{map-append}
use Rattle.std.proofs.lemmas.List.Elements.{All-filter, All-head, All-tail, All-weaker, filter_passes}
use Rattle.std.proofs.lemmas.List.Folds.{list_any-append}
use Rattle.std.proofs.lemmas.Simd.{map-map}
use Rattle.fol.specs.Syntax.{Formula}
use Rattle.fol.specs.OrderLaws.{formula_total}
use Rattle.fol.proofs.OrderTies.{formula_ties}
use Rattle.finite.specs.Finite as set
use Rattle.finite.proofs.Rising.{IsBelow, first, second, both, head_below, tail_rises}
use Rattle.substitution.specs.Maps.{Map}
use Rattle.substitution.specs.Image.{image}
use Rattle.substitution.proofs.Shut.{image-shut}
use Rattle.lk_rules.specs.Formulas.{image_set}
use Rattle.arena_cells.specs.Items.{Item}
use Rattle.arena_cells.specs.ItemFacts.{is_open_item}
use Rattle.arena_cells.specs.Standing.{Extends, formula_at, IsFormulaAt}
use Rattle.arena_cells.specs.Meaning.{formulas_of, AreRisingFormulas}
use Rattle.arena_cells.proofs.Staying.{formulas_stay, formula_there}
use Rattle.arena_cells.proofs.Facts.{formula_item}
use Rattle.arena.specs.Lists.{HasSameMembers, is_open_at, is_closed_at}
use Rattle.arena.proofs.SetLaws.{All-alike, All-append, shown_alike}
use Rattle.arena.proofs.SideLaws.{image_shown}

below_filter : (p : ℕ → Bool) (x : ℕ) (ns : List ℕ) → IsBelow nat_cmp x ns → IsBelow nat_cmp x (filter p ns)
below_filter p x [] h = tt
below_filter p x (n ∷ ns) h =
    let rest : IsBelow nat_cmp x (filter p ns) = below_filter p x ns (second (is_lt (nat_cmp x n)) _ h) in
    elim (p n) as (λ b. IsBelow nat_cmp x (cond b (n ∷ filter p ns) (filter p ns))) [
      | true ↦ both (is_lt (nat_cmp x n)) _ (first (is_lt (nat_cmp x n)) _ h) rest
      | false ↦ rest
    ]

pub filter_rises : (p : ℕ → Bool) (ns : List ℕ) → set.IsRising nat_cmp ns → set.IsRising nat_cmp (filter p ns)
filter_rises p [] h = tt
filter_rises p (n ∷ ns) h =
    let rest : set.IsRising nat_cmp (filter p ns) = filter_rises p ns (tail_rises nat_cmp n ns h) in
    elim (p n) as (λ b. set.IsRising nat_cmp (cond b (n ∷ filter p ns) (filter p ns))) [
      | true ↦ both (below_all nat_cmp n (set.marked (filter p ns))) _ (below_filter p n ns (head_below nat_cmp n ns h)) rest
      | false ↦ rest
    ]

or_later : (a b c : Bool) → (b || (a || c)) ≡ (a || (b || c))
or_later true true c = refl
or_later true false c = refl
or_later false b c = refl

parted_test : (p q : ℕ → Bool) (ns : List ℕ) → (list_any q (filter (λ n. not (p n)) ns) || list_any q (filter p ns)) ≡ list_any q ns
parted_test p q [] = refl
parted_test p q (n ∷ ns) =
    elim (p n) as (λ b. (list_any q (cond (not b) (n ∷ filter (λ k. not (p k)) ns) (filter (λ k. not (p k)) ns)) || list_any q (cond b (n ∷ filter p ns) (filter p ns))) ≡ (q n || list_any q ns)) [
      | true ↦ or_later (q n) (list_any q (filter (λ k. not (p k)) ns)) (list_any q (filter p ns)) ∙ ap (λ b. q n || b) (parted_test p q ns)
      | false ↦ or_assoc (q n) (list_any q (filter (λ k. not (p k)) ns)) (list_any q (filter p ns)) ∙ ap (λ b. q n || b) (parted_test p q ns)
    ]

pub not_true : (b : Bool) → not b ≡ true → b ≡ false
not_true true h = cc
not_true false h = refl

module _ (a : List Item) where
  -- the closed and the open members of a list are all of its members
  parted : (ns : List ℕ) → HasSameMembers (filter (is_closed_at a) ns ++ filter (is_open_at a) ns) ns
  parted ns q =
      list_any-append (eq_by_cmp nat_cmp q) (filter (is_closed_at a) ns) (filter (is_open_at a) ns)
      ∙ parted_test (is_open_at a) (eq_by_cmp nat_cmp q) ns

  closed_image : (m : Map) (n : ℕ) → IsFormulaAt a n → is_closed_at a n ≡ true → image (fin.get m) (formula_at a n) ≡ formula_at a n
  closed_image m n there closed =
      image-shut (fin.get m) (formula_at a n) (ap is_open_item (sym (formula_item a n there)) ∙ not_true (is_open_at a n) closed)

  closed_images : (m : Map) (ns : List ℕ) → All (IsFormulaAt a) ns → All (λ n. is_closed_at a n ≡ true) ns → map (λ n. image (fin.get m) (formula_at a n)) ns ≡ map (formula_at a) ns
  closed_images m [] there closed = refl
  closed_images m (n ∷ ns) there closed =
      λ i. closed_image m n (All-head (IsFormulaAt a) n ns there) (All-head (λ k. is_closed_at a k ≡ true) n ns closed) i
      ∷ closed_images m ns (All-tail (IsFormulaAt a) n ns there) (All-tail (λ k. is_closed_at a k ≡ true) n ns closed) i

module _ (a b : List Item) (grown : Extends a b) (ns closed images numbers : List ℕ) (h : AreRisingFormulas a ns) (parts : closed ≡ filter (is_closed_at a) ns) (same : HasSameMembers numbers (closed ++ images)) where
  closed_there : All (IsFormulaAt a) closed
  closed_there = subst (All (IsFormulaAt a)) (sym parts) (All-filter (is_closed_at a) (IsFormulaAt a) ns h.members)

  -- the closed formulas and the images of the others stand at the numbers
  pub parted_there : All (IsFormulaAt b) images → All (IsFormulaAt b) numbers
  parted_there made =
      All-alike (IsFormulaAt b) numbers (closed ++ images) same
      (All-append (IsFormulaAt b) closed images (All-weaker (IsFormulaAt a) (IsFormulaAt b) (formula_there a b grown) closed closed_there) made)

  -- and are the image of the set
  pub parted_image : (m : Map) (others : List ℕ) → others ≡ filter (is_open_at a) ns → map (formula_at b) images ≡ map (image (fin.get m)) (map (formula_at a) others)
      → formulas_of b numbers ≡ image_set (fin.get m) (formulas_of a ns)
  parted_image m others rest made =
      let g : ℕ → Formula = λ n. image (fin.get m) (formula_at a n) in
      let fixed : map (formula_at b) closed ≡ map g closed =
      formulas_stay a b grown closed closed_there
      ∙ sym (closed_images a m closed closed_there (subst (All (λ n. is_closed_at a n ≡ true)) (sym parts) (filter_passes (is_closed_at a) ns))) in
      let moved : map (formula_at b) images ≡ map g others = made ∙ map-map (image (fin.get m)) (formula_at a) others in
      let lists : map (formula_at b) (closed ++ images) ≡ map g (filter (is_closed_at a) ns ++ filter (is_open_at a) ns) =
      map-append (formula_at b) closed images ∙ (λ i. fixed i ++ moved i) ∙ sym (map-append g closed others) ∙ (λ i. map g (parts i ++ rest i)) in
      shown_alike formula_total formula_ties (formula_at b) numbers (closed ++ images) same
      ∙ ap set.of_list lists
      ∙ shown_alike formula_total formula_ties g (filter (is_closed_at a) ns ++ filter (is_open_at a) ns) ns (parted a ns)
      ∙ ap set.of_list (sym (map-map (image (fin.get m)) (formula_at a) ns))
      ∙ image_shown (image (fin.get m)) (map (formula_at a) ns)
