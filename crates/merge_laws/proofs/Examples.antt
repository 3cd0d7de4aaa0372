-- Worked examples: `p, q / p & q` over two axioms, and marks that aren't closed under prefixes.
use Rattle.std.proofs.Common.{◌≡◌, true, false, ◌||◌, if◌then◌else◌, List, [], ◌∷◌, refl, ap, ◌∙◌}
use Rattle.std.specs.FinMap as fin
use Rattle.std.specs.List.{list_any}
use Rattle.fol.specs.Syntax.{nil, plain, Formula, atom, and}
use Rattle.fol.specs.Order.{formula_cmp}
use Rattle.fol.specs.OrderLaws.{formula_total}
use Rattle.finite.specs.Finite as set
use Rattle.finite.proofs.Finite.{has-empty, has-adds, has-adds_each}
use Rattle.lk_rules.specs.declared.sequent.Sequent.{Sequent}
use Rattle.lk_rules.specs.declared.sequent.Side.TheVariants.{Left, Right}
use Rattle.lk_rules.specs.declared.rule.Rule.TheVariants.{Ax, AndR}
use Rattle.proof_trees.specs.Trees.{node, none}
use Rattle.expansion_laws.specs.Expansions.{wk, leaf, conj}
use Rattle.extraction_laws.specs.Addresses.{Address, root, part, address_cmp, address_total, same_address}
use Rattle.extraction_laws.specs.States.{State, unmarked, opened, tree_at}
use Rattle.extraction_laws.specs.Extraction.{paired}
use Rattle.extraction_laws.proofs.Read.{tree-unused, read-flat, read-and}
use Rattle.exp_tree.specs.Merging.{merged}
use Rattle.merge_laws.specs.United.{united}
use Rattle.merge_laws.specs.Inferences.{by_premise}
use Rattle.merge_laws.proofs.Unions.{has-union}

abbrev p : Formula
p = atom (plain (record { name = 112 ∷ []; arity = 0 })) nil

abbrev q : Formula
q = atom (plain (record { name = 113 ∷ []; arity = 0 })) nil

abbrev main : Address
main = root Right (and p q)

-- the addresses of a list are used
abbrev using_each : List Address → State
using_each xs = record { opened = set.of_list xs; instances = set.empty; names = [] }

used : (xs : List Address) (a : Address) → set.has (using_each xs).opened a ≡ list_any (same_address a) xs
used xs a = has-adds_each address_total set.empty xs a ∙ ap (λ b. b || list_any (same_address a) xs) (has-empty address_cmp a)

used_by_either : (xs ys : List Address) (a : Address) → set.has (united (using_each xs) (using_each ys)).opened a ≡ (list_any (same_address a) xs || list_any (same_address a) ys)
used_by_either xs ys a = has-union address_total (using_each xs).opened (using_each ys).opened a ∙ λ i. used xs a i || used ys a i

-- what an axiom of p marks as the first premise, and one of q as the second

abbrev of_first : List Address
of_first = main ∷ root Left p ∷ part main 0 ∷ []

abbrev of_second : List Address
of_second = main ∷ root Left q ∷ part main 1 ∷ []

module _ (e : Sequent) where
  abbrev conclusion : Sequent
  conclusion = record { left = set.adds (set.adds set.empty p) q; right = set.adds set.empty (and p q) }

  by_first : by_premise [] (AndR (and p q)) conclusion fin.empty root 0 (node (Ax p) e none) unmarked ≡ using_each of_first
  by_first =
      let stands : set.has conclusion.left p ≡ true = has-adds formula_total (set.adds set.empty p) q p ∙ has-adds formula_total set.empty p p in
      let away : set.has conclusion.right p ≡ false = has-adds formula_total set.empty (and p q) p ∙ has-empty formula_cmp p in
      λ i. paired [] (if stands i then root Left p else part main 0) (if away i then root Right p else part main 0) (opened main unmarked)

  by_second : by_premise [] (AndR (and p q)) conclusion fin.empty root 1 (node (Ax q) e none) unmarked ≡ using_each of_second
  by_second =
      let stands : set.has conclusion.left q ≡ true = has-adds formula_total (set.adds set.empty p) q q in
      let away : set.has conclusion.right q ≡ false = has-adds formula_total set.empty (and p q) q ∙ has-empty formula_cmp q in
      λ i. paired [] (if stands i then root Left q else part main 1) (if away i then root Right q else part main 1) (opened main unmarked)

first_tree : tree_at [] (using_each of_first) main ≡ conj (leaf p) (wk q)
first_tree =
    read-and [] (using_each of_first) main p q (used of_first main) refl
    ∙ λ i. conj (read-flat [] (using_each of_first) (part main 0) (used of_first (part main 0)) refl i) (tree-unused [] (using_each of_first) (part main 1) (used of_first (part main 1)) i)

second_tree : tree_at [] (using_each of_second) main ≡ conj (wk p) (leaf q)
second_tree =
    read-and [] (using_each of_second) main p q (used of_second main) refl
    ∙ λ i. conj (tree-unused [] (using_each of_second) (part main 0) (used of_second (part main 0)) i) (read-flat [] (using_each of_second) (part main 1) (used of_second (part main 1)) refl i)

abbrev whole : State
whole = united (using_each of_first) (using_each of_second)

whole_tree : tree_at [] whole main ≡ conj (leaf p) (leaf q)
whole_tree =
    read-and [] whole main p q (used_by_either of_first of_second main) refl
    ∙ λ i. conj (read-flat [] whole (part main 0) (used_by_either of_first of_second (part main 0)) refl i) (read-flat [] whole (part main 1) (used_by_either of_first of_second (part main 1)) refl i)

merged_tree : merged (tree_at [] (using_each of_first) main) (tree_at [] (using_each of_second) main) ≡ conj (leaf p) (leaf q)
merged_tree = λ i. merged (first_tree i) (second_tree i)

-- Where a part is used and not the formula, the part comes to light by the marks of the other state, and not by its tree.

abbrev stray : State
stray = using_each (part main 0 ∷ [])

abbrev usual : State
usual = using_each (main ∷ [])

with_stray : tree_at [] (united stray usual) main ≡ conj (leaf p) (wk q)
with_stray =
    read-and [] (united stray usual) main p q (used_by_either (part main 0 ∷ []) (main ∷ []) main) refl
    ∙ λ i. conj (read-flat [] (united stray usual) (part main 0) (used_by_either (part main 0 ∷ []) (main ∷ []) (part main 0)) refl i)
    (tree-unused [] (united stray usual) (part main 1) (used_by_either (part main 0 ∷ []) (main ∷ []) (part main 1)) i)

merged_stray : merged (tree_at [] stray main) (tree_at [] usual main) ≡ conj (wk p) (wk q)
merged_stray =
    ap (λ d. merged d (tree_at [] usual main)) (tree-unused [] stray main (used (part main 0 ∷ []) main))
    ∙ (read-and [] usual main p q (used (main ∷ []) main) refl
    ∙ λ i. conj (tree-unused [] usual (part main 0) (used (main ∷ []) (part main 0)) i) (tree-unused [] usual (part main 1) (used (main ∷ []) (part main 1)) i))
