-- The numbers that leaves on both sides have.
use Rattle.std.proofs.Common.{◌≡◌, ℕ, Bool, true, false, ◌&&◌, ◌||◌, cond, List, [], ◌∷◌, ◌++◌, filter, Some, refl, sym, ap, ◌∙◌, arith}
use Rattle.std.specs.Prelude.{option_to_list}
use Rattle.std.specs.List.{list_any}
use Rattle.std.specs.Ordering.{nat_cmp, eq_by_cmp}
use Rattle.std.specs.Cmp.{nat_cmp_total}
use Rattle.std.specs.FinMap as fin
use Rattle.std.proofs.lemmas.List.Folds.{list_any-append}
use Rattle.std.proofs.lemmas.Map.Views.{any-filter_same}
use Rattle.lk_rules.specs.declared.sequent.Side.{Side}
use Rattle.lk_rules.specs.declared.sequent.Side.TheVariants.{Left, Right}
use Rattle.expansion_laws.specs.Expansions.{Exp, turn}
use Rattle.proof_trees.proofs.Passing.{same_here}
use Rattle.arena_building.specs.Dividing.{items_of}
use Rattle.arena_building.specs.Leaves.{leaf_number, leaf_numbers, is_number_in, is_leaf_at, is_common, met, met_by}
use Rattle.arena_building.specs.Numbered.{Numbered, numbered}
use Rattle.arena_building.specs.Putting.{put}
use Rattle.arena_building.specs.declared.dividing.Added.{Added}
use Rattle.arena_building.specs.declared.dividing.Added.TheVariants.{One, Two}
use Rattle.arena_building.proofs.LeafNumbers.{leaf_at, leaf_at_put}

-- the numbers of a list that are among others
pub filtered : (ds ns : List ℕ) (n : ℕ) → is_number_in (filter (is_number_in ds) ns) n ≡ (is_number_in ds n && is_number_in ns n)
filtered ds ns n = any-filter_same (eq_by_cmp nat_cmp n) (is_number_in ds) (is_number_in ds n) (λ m e. ap (is_number_in ds) (sym (same_here nat_cmp_total fin.nat_cmp-IsAntisymmetric n m e))) ns

and_swapped : (a b : Bool) → (a && b) ≡ (b && a)
and_swapped true true = refl
and_swapped true false = refl
and_swapped false true = refl
and_swapped false false = refl

or_false : (a : Bool) → (a || false) ≡ a
or_false true = refl
or_false false = refl

pub on_both : (ds : List ℕ) (l : List Numbered) (n : ℕ) → ((m : ℕ) → is_number_in ds m ≡ is_number_in (leaf_numbers Right l) m) → is_number_in (filter (is_number_in ds) (leaf_numbers Left l)) n ≡ is_common l n
on_both ds l n same = filtered ds (leaf_numbers Left l) n ∙ (ap (λ b. b && is_number_in (leaf_numbers Left l) n) (same n) ∙ and_swapped (is_number_in (leaf_numbers Right l) n) (is_number_in (leaf_numbers Left l) n))

-- a tree is a leaf on at most one side
alone_on : (s : Side) (e : Exp) (m n : ℕ) → (is_leaf_at Left n (numbered s e m) && is_leaf_at Right n (numbered s e m)) ≡ false
alone_on Left e m n = and_swapped (is_leaf_at Left n (numbered Left e m)) false
alone_on Right e m n = refl

alone : (q : Numbered) (n : ℕ) → (is_leaf_at Left n q && is_leaf_at Right n q) ≡ false
alone q n = alone_on q.placed.side q.placed.tree q.formula n

or_nothing : (a b : Bool) → (a && b) ≡ ((b && a) || false)
or_nothing a b = grind arith

-- what a tree has in common with the leaves of a list
met_on : (s : Side) (e : Exp) (m : ℕ) (l : List Numbered) (n : ℕ) → is_number_in (met (numbered s e m) l) n
    ≡ ((is_leaf_at Left n (numbered s e m) && is_number_in (leaf_numbers Right l) n) || (is_leaf_at Right n (numbered s e m) && is_number_in (leaf_numbers Left l) n))
met_on Left e m l n =
    filtered (leaf_numbers Right l) (option_to_list (leaf_number Left (numbered Left e m))) n
    ∙ or_nothing (is_number_in (leaf_numbers Right l) n) (is_leaf_at Left n (numbered Left e m))
met_on Right e m l n =
    filtered (leaf_numbers Left l) (option_to_list (leaf_number Right (numbered Right e m))) n
    ∙ and_swapped (is_number_in (leaf_numbers Left l) n) (is_leaf_at Right n (numbered Right e m))

met_with : (q : Numbered) (l : List Numbered) (n : ℕ) → is_number_in (met q l) n ≡ ((is_leaf_at Left n q && is_number_in (leaf_numbers Right l) n) || (is_leaf_at Right n q && is_number_in (leaf_numbers Left l) n))
met_with q l n = met_on q.placed.side q.placed.tree q.formula l n

-- the same by its number and by what was found of that
pub met_of : (q : Numbered) (l : List Numbered) (n : ℕ) (b : Bool) → leaf_number q.placed.side q ≡ Some n → list_any (is_leaf_at (turn q.placed.side) n) l ≡ b → met q l ≡ cond b (n ∷ []) []
met_of q l n b e h =
    ap (λ o. filter (is_number_in (leaf_numbers (turn q.placed.side) l)) (option_to_list o)) e
    ∙ ap (λ c. cond c (n ∷ []) []) (sym (leaf_at (turn q.placed.side) n l) ∙ h)

met_beside : (p q : Numbered) (n : ℕ) → is_number_in (met p (q ∷ [])) n ≡ ((is_leaf_at Left n p && is_leaf_at Right n q) || (is_leaf_at Right n p && is_leaf_at Left n q))
met_beside p q n =
    met_with p (q ∷ []) n
    ∙ λ i. (is_leaf_at Left n p && (sym (leaf_at Right n (q ∷ [])) ∙ or_false (is_leaf_at Right n q)) i) || (is_leaf_at Right n p && (sym (leaf_at Left n (q ∷ [])) ∙ or_false (is_leaf_at Left n q)) i)

joint_one : (lp rp ll rl : Bool) → (ll && rl) ≡ false → (lp && rp) ≡ false → ((lp && rl) || (rp && ll)) ≡ (((lp || false) || ll) && ((rp || false) || rl))
joint_one lp rp ll rl h k = grind arith

joint_two : (lp rp lq rq ll rl : Bool) → (ll && rl) ≡ false → (lp && rp) ≡ false → (lq && rq) ≡ false
    → (((lp && rl) || (rp && ll)) || (((lq && rl) || (rq && ll)) || ((lp && rq) || (rp && lq)))) ≡ (((lp || (lq || false)) || ll) && ((rp || (rq || false)) || rl))
joint_two lp rp lq rq ll rl h k j = grind arith

-- the numbers that leaves on both sides have, as those of new leaves where the others have none in common
pub common_put : (x : Added) (l : List Numbered) (k n : ℕ) → ((m : ℕ) → is_common l m ≡ false) → is_number_in (met_by x l) n ≡ is_common (put l k (items_of x)) n
common_put (One p) l k n none =
    met_with p l n
    ∙ joint_one (is_leaf_at Left n p) (is_leaf_at Right n p) (is_number_in (leaf_numbers Left l) n) (is_number_in (leaf_numbers Right l) n) (none n) (alone p n)
    ∙ sym (λ i. (at_put Left i) && (at_put Right i))
  where
    at_put : (s : Side) → is_number_in (leaf_numbers s (put l k (p ∷ []))) n ≡ ((is_leaf_at s n p || false) || is_number_in (leaf_numbers s l) n)
    at_put s = leaf_at_put s n l k (p ∷ []) ∙ ap (λ b. b || is_number_in (leaf_numbers s l) n) (sym (leaf_at s n (p ∷ [])))
common_put (Two p q) l k n none =
    list_any-append (eq_by_cmp nat_cmp n) (met p l) (met q l ++ met p (q ∷ []))
    ∙ ap (λ b. is_number_in (met p l) n || b) (list_any-append (eq_by_cmp nat_cmp n) (met q l) (met p (q ∷ [])))
    ∙ (λ i. met_with p l n i || (met_with q l n i || met_beside p q n i))
    ∙ joint_two (is_leaf_at Left n p) (is_leaf_at Right n p) (is_leaf_at Left n q) (is_leaf_at Right n q) (is_number_in (leaf_numbers Left l) n) (is_number_in (leaf_numbers Right l) n) (none n) (alone p n) (alone q n)
    ∙ sym (λ i. (at_put Left i) && (at_put Right i))
  where
    at_put : (s : Side) → is_number_in (leaf_numbers s (put l k (p ∷ q ∷ []))) n ≡ ((is_leaf_at s n p || (is_leaf_at s n q || false)) || is_number_in (leaf_numbers s l) n)
    at_put s = leaf_at_put s n l k (p ∷ q ∷ []) ∙ ap (λ b. b || is_number_in (leaf_numbers s l) n) (sym (leaf_at s n (p ∷ q ∷ [])))
