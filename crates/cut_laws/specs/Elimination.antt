-- Elimination of cuts, one at a time, after Gentzen (1935): the first cut in post-order, premises from left to right, gives way to its
-- contraction, until no cut is left.
--     next      one replacement
--     after      so many replacements
--     Reaches      the cut-free tree of a tree and the number of replacements that lead to it
--     elimination      the same as a function, within a budget
use Rattle.std.specs.Prelude.{◌≡◌, ℕ, zero, suc, ◌<◌, true, false, if◌then◌else◌, Option, Some, None}
use Rattle.lk_rules.specs.declared.sequent.Sequent.{Sequent}
use Rattle.lk_rules.specs.declared.rule.Rule.{Rule}
use Rattle.lk_rules.specs.declared.rule.Rule.TheVariants.{Cut}
use Rattle.proof_trees.specs.Trees.{Tree, node, Trees, none, more, cut_free, cut_free_all}
use Rattle.cut_laws.specs.Contraction.{con}

-- the tree of a last inference over trees without cuts, where a cut gives way to its contraction
abbrev pub contracted_root : Rule → Sequent → Trees → Tree
contracted_root (Cut a) s (more l (more r none)) = con s a l r
contracted_root q s ts = node q s ts

-- the tree in which the first cut has given way to its contraction. In post-order the cuts of the premises come before that at the root
abbrev mutual
  pub next : Tree → Tree
  next (node q s ts) = if cut_free_all ts then contracted_root q s ts else node q s (next_in ts)

  pub next_in : Trees → Trees
  next_in none = none
  next_in (more t ts) = if cut_free t then more t (next_in ts) else more (next t) ts

-- the tree after k replacements
abbrev pub after : Tree → ℕ → Tree
after t zero = t
after t (suc k) = after (next t) k

-- after k replacements, and not before, the tree has no cut, and it is u
pub record Reaches (t : Tree) (k : ℕ) (u : Tree) : Type 0 where
  pub is : after t k ≡ u
  pub done : cut_free u ≡ true
  pub least : (j : ℕ) → j < k → cut_free (after t j) ≡ false

-- one replacement more
abbrev pub one_more : Option (Tree × ℕ) → Option (Tree × ℕ)
one_more None = None
one_more (Some p) = Some (p.0, suc p.1)

-- the tree without cuts and the number of replacements that lead to it, where that is at most n
abbrev pub elimination : Tree → ℕ → Option (Tree × ℕ)
elimination t zero = if cut_free t then Some (t, 0) else None
elimination t (suc n) = if cut_free t then Some (t, 0) else one_more (elimination (next t) n)
