-- A proof has no cut exactly where none is counted.
use Rattle.std.proofs.Common.{◌≡◌, ℕ, ◌+◌, ◌-◌, ◌^◌, min, Bool, true, false, not, ◌&&◌, if◌then◌else◌, refl, arith}
use Rattle.lk_rules.proofs.Subsequents.{and_left, and_right}
use Rattle.proof_trees.specs.Trees.{Tree, node, Trees, none, more, is_cut, cut_free, cut_free_all, IsCutFree, count_rules, count_rules_all}

-- what one rule adds to the count
abbrev counted_here : Bool → ℕ
counted_here b = if b then 1 else 0

no_one : (b : Bool) (n : ℕ) → counted_here b + n ≡ 0 → not b ≡ true
no_one true n e = absurd (omega arith)
no_one false n e = refl

none_here : (b : Bool) → not b ≡ true → counted_here b ≡ 0
none_here true h = cc
none_here false h = refl

mutual
  no_cuts : (t : Tree) → count_rules is_cut t ≡ 0 → cut_free t ≡ true
  no_cuts (node q s ts) e = λ i. no_one (is_cut q) (count_rules_all is_cut ts) e i && no_cuts_in ts (omega (arith, e)) i

  no_cuts_in : (ts : Trees) → count_rules_all is_cut ts ≡ 0 → cut_free_all ts ≡ true
  no_cuts_in none e = refl
  no_cuts_in (more t ts) e = λ i. no_cuts t (omega (arith, e)) i && no_cuts_in ts (omega (arith, e)) i

mutual
  no_count : (t : Tree) → cut_free t ≡ true → count_rules is_cut t ≡ 0
  no_count (node q s ts) h = omega (arith, none_here (is_cut q) (and_left (not (is_cut q)) (cut_free_all ts) h), no_count_in ts (and_right (not (is_cut q)) (cut_free_all ts) h))

  no_count_in : (ts : Trees) → cut_free_all ts ≡ true → count_rules_all is_cut ts ≡ 0
  no_count_in none h = refl
  no_count_in (more t ts) h = omega (arith, no_count t (and_left (cut_free t) (cut_free_all ts) h), no_count_in ts (and_right (cut_free t) (cut_free_all ts) h))

pub none_counted : (t : Tree) (n : ℕ) → n ≡ min (count_rules is_cut t) (2 ^ 64 - 1) → n ≡ 0 → IsCutFree t
none_counted t n is e = no_cuts t (omega (arith, is, e))

pub counted_none : (t : Tree) (n : ℕ) → n ≡ min (count_rules is_cut t) (2 ^ 64 - 1) → IsCutFree t → n ≡ 0
counted_none t n is h = omega (arith, is, no_count t h)
