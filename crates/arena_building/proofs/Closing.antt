-- The rule by which leaves end a branch, by the numbers of the leaves.
use Rattle.std.proofs.Common.{◌≡◌, ℕ, Bool, true, false, ◌&&◌, List, [], ◌∷◌, map, Option, Some, None, refl, sym, ap, ◌∙◌}
use Rattle.std.specs.Prelude.{find, option_map, option_to_list}
use Rattle.std.specs.List.{All, list_any}
use Rattle.std.specs.Ordering.{nat_cmp, eq_by_cmp}
use Rattle.std.specs.Cmp.{nat_cmp_total}
use Rattle.std.specs.FinMap as fin
use Rattle.std.specs.declared.cmp.Ordering.TheVariants.{Less}
use Rattle.fol.specs.Syntax.{Formula, top, bot}
use Rattle.fol.specs.Order.{formula_cmp}
use Rattle.finite.specs.Finite as set
use Rattle.finite.proofs.Finite.{has-listing, listing_rises}
use Rattle.proof_trees.proofs.Booleans.{or_first, or_second, either}
use Rattle.lk_rules.proofs.Subsequents.{and_left, and_right, and_both}
use Rattle.lk_rules.specs.declared.sequent.Side.{Side}
use Rattle.lk_rules.specs.declared.sequent.Side.TheVariants.{Left, Right}
use Rattle.proof_trees.proofs.FormulaSets.{equal}
use Rattle.proof_trees.proofs.Passing.{itself}
use Rattle.arena.proofs.SetLaws.{among, All-fewer}
use Rattle.arena_cells.specs.Items.{Item}
use Rattle.arena_cells.specs.Standing.{IsDistinct, formula_at, IsFormulaAt}
use Rattle.building_laws.specs.Lists.{Placed, trees_on, leaf_formulas, leaf_sequent}
use Rattle.building_laws.specs.Building.{axiom_or, closing_rule}
use Rattle.building_laws.proofs.Conclusions.{set_of}
use Rattle.building_laws.proofs.Leaves.{leaves_open}
use Rattle.arena_building.specs.Leaves.{leaf_on, is_leaf_on, leaf_numbers, is_number_in, is_common, is_truth_leaf, is_falsity_leaf, IsLeastAt, IsOpen}
use Rattle.arena_building.specs.Numbered.{Numbered, trees, IsNumbered}
use Rattle.arena_building.proofs.LeafNumbers.{any_leaf, leaves_numbered, leaves_there, leaf_numbered, any_tree}
use Rattle.arena_building.proofs.Least.{find_none, find_least}

-- the leaves on a side as a set
pub in_leaves : (s : Side) (l : List Placed) (f : Formula) → set.has (set.adds_each (set.empty {R = formula_cmp}) (leaf_formulas (trees_on s l))) f ≡ is_leaf_on s l f
in_leaves s l f = set_of (leaf_formulas (trees_on s l)) f ∙ sym (any_leaf (eq_by_cmp formula_cmp f) s l)

-- the rule without premises, by the leaves
pub closing_by : (l : List Placed) → closing_rule (leaf_sequent l) ≡ axiom_or (find (is_leaf_on Right l) (set.listing (leaf_sequent l).left)) (is_leaf_on Right l top) (is_leaf_on Left l bot)
closing_by l = λ i. axiom_or (find (λ f. in_leaves Right l f i) (set.listing (leaf_sequent l).left)) (in_leaves Right l top i) (in_leaves Left l bot i)

-- a formula of a list has a number
named : (a : List Item) (ns : List ℕ) (f : Formula) → list_any (eq_by_cmp formula_cmp f) (map (formula_at a) ns) ≡ true → (n : ℕ) × (is_number_in ns n ≡ true) × (f ≡ formula_at a n)
named a [] f m = cc
named a (n ∷ ns) f m =
    either (eq_by_cmp formula_cmp f (formula_at a n)) (list_any (eq_by_cmp formula_cmp f) (map (formula_at a) ns))
    (λ e. (n, or_first _ (is_number_in ns n) (itself nat_cmp_total fin.nat_cmp-IsAntisymmetric n), equal f (formula_at a n) e))
    (λ later. let one = named a ns f later in (one.0, or_second (eq_by_cmp nat_cmp one.0 n) _ one.1, one.2))
    m

not_both : (a b : Bool) → a ≡ true → (a && b) ≡ false → b ≡ false
not_both true b e h = h
not_both false b e h = cc

module _ (a : List Item) (l : List Numbered) (distinct : IsDistinct a) (numbers : All (IsNumbered a) l) where
  listed : (f : Formula) → list_any (eq_by_cmp formula_cmp f) (set.listing (leaf_sequent (trees l)).left) ≡ is_leaf_on Left (trees l) f
  listed f = sym (has-listing (leaf_sequent (trees l)).left f) ∙ in_leaves Left (trees l) f

  left_named : (f : Formula) → is_leaf_on Left (trees l) f ≡ true → (n : ℕ) × (is_number_in (leaf_numbers Left l) n ≡ true) × (f ≡ formula_at a n)
  left_named f m = named a (leaf_numbers Left l) f (ap (list_any (eq_by_cmp formula_cmp f)) (sym (leaves_numbered a Left l numbers)) ∙ (sym (any_leaf (eq_by_cmp formula_cmp f) Left (trees l)) ∙ m))

  numbered_there : (s : Side) (n : ℕ) → is_number_in (leaf_numbers s l) n ≡ true → IsFormulaAt a n
  numbered_there s n m = among (IsFormulaAt a) n (leaf_numbers s l) m (leaves_there a s l numbers)

  pub common_there : (cs : List ℕ) → ((n : ℕ) → is_number_in cs n ≡ is_common l n) → All (IsFormulaAt a) cs
  common_there cs common =
      All-fewer (IsFormulaAt a) cs (leaf_numbers Left l) (λ n m. and_left (is_number_in (leaf_numbers Left l) n) (is_number_in (leaf_numbers Right l) n) (sym (common n) ∙ m)) (leaves_there a Left l numbers)

  -- the least formula that is a leaf on both sides
  pub found : (cs : List ℕ) (least : Option ℕ) → ((n : ℕ) → is_number_in cs n ≡ is_common l n) → IsLeastAt a cs least
      → find (is_leaf_on Right (trees l)) (set.listing (leaf_sequent (trees l)).left) ≡ option_map (formula_at a) least
  found cs None common h =
      find_none (is_leaf_on Right (trees l)) (set.listing (leaf_sequent (trees l)).left) (λ f m.
      let one = left_named f (sym (listed f) ∙ m) in
      let absent : is_common l one.0 ≡ false = sym (common one.0) ∙ ap (λ ns. is_number_in ns one.0) h in
      ap (is_leaf_on Right (trees l)) one.2 ∙ (leaf_numbered a Right l one.0 distinct numbers (numbered_there Left one.0 one.1) ∙ not_both _ (is_number_in (leaf_numbers Right l) one.0) one.1 absent))
  found cs (Some n) common h =
      let both : is_common l n ≡ true = sym (common n) ∙ h.0 in
      let left = and_left (is_number_in (leaf_numbers Left l) n) (is_number_in (leaf_numbers Right l) n) both in
      let right = and_right (is_number_in (leaf_numbers Left l) n) (is_number_in (leaf_numbers Right l) n) both in
      let there = numbered_there Left n left in
      find_least (is_leaf_on Right (trees l)) (set.listing (leaf_sequent (trees l)).left) (formula_at a n) (listing_rises (leaf_sequent (trees l)).left)
      (listed (formula_at a n) ∙ (leaf_numbered a Left l n distinct numbers there ∙ left))
      (leaf_numbered a Right l n distinct numbers there ∙ right)
      (λ g m passes less.
      let one = left_named g (sym (listed g) ∙ m) in
      let on_right : is_number_in (leaf_numbers Right l) one.0 ≡ true =
      sym (leaf_numbered a Right l one.0 distinct numbers (numbered_there Left one.0 one.1)) ∙ (ap (is_leaf_on Right (trees l)) (sym one.2) ∙ passes) in
      among (λ m. formula_cmp (formula_at a m) (formula_at a n) ≡ Less → ⊥) one.0 cs (common one.0 ∙ and_both _ _ one.1 on_right) h.1 (ap (λ f. formula_cmp f (formula_at a n)) (sym one.2) ∙ less))

  -- leaves that end no branch have no number in common
  pub nothing_common : IsOpen (trees l) → (n : ℕ) → is_common l n ≡ false
  nothing_common h n =
      elim (is_number_in (leaf_numbers Left l) n) as (λ b. is_number_in (leaf_numbers Left l) n ≡ b → (b && is_number_in (leaf_numbers Right l) n) ≡ false) [
        | true ↦ λ m.
            let there = numbered_there Left n m in
            sym (in_leaves Right (trees l) (formula_at a n) ∙ leaf_numbered a Right l n distinct numbers there)
            ∙ (leaves_open (leaf_sequent (trees l)) h).apart (formula_at a n) (in_leaves Left (trees l) (formula_at a n) ∙ (leaf_numbered a Left l n distinct numbers there ∙ m))
        | false ↦ λ m. refl
      ] refl

-- nor is truth on the right, nor falsity on the left
pub no_truth : (l : List Numbered) → IsOpen (trees l) → list_any is_truth_leaf l ≡ false
no_truth l h =
    sym (in_leaves Right (trees l) top ∙ any_tree (λ p. list_any (eq_by_cmp formula_cmp top) (option_to_list (leaf_on Right p))) l)
    ∙ (leaves_open (leaf_sequent (trees l)) h).no_truth

pub no_falsity : (l : List Numbered) → IsOpen (trees l) → list_any is_falsity_leaf l ≡ false
no_falsity l h =
    sym (in_leaves Left (trees l) bot ∙ any_tree (λ p. list_any (eq_by_cmp formula_cmp bot) (option_to_list (leaf_on Left p))) l)
    ∙ (leaves_open (leaf_sequent (trees l)) h).no_falsity

-- the rule, by the formula that was found and the tests of leaves
pub closing_of : (l : List Numbered) (o : Option Formula) (truth falsity : Bool) → find (is_leaf_on Right (trees l)) (set.listing (leaf_sequent (trees l)).left) ≡ o → list_any is_truth_leaf l ≡ truth → list_any is_falsity_leaf l ≡ falsity
    → closing_rule (leaf_sequent (trees l)) ≡ axiom_or o truth falsity
closing_of l o truth falsity found t f =
    closing_by (trees l)
    ∙ λ i. axiom_or (found i)
    ((any_tree (λ p. list_any (eq_by_cmp formula_cmp top) (option_to_list (leaf_on Right p))) l ∙ t) i)
    ((any_tree (λ p. list_any (eq_by_cmp formula_cmp bot) (option_to_list (leaf_on Left p))) l ∙ f) i)
