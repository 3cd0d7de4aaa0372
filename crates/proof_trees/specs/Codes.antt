-- How proof trees are coded as trees of numbers, so that a proof can tell them apart.
use Rattle.std.specs.Prelude.{◌≡◌, refl}
use Rattle.std.specs.Coded.{Coded}
use base.Stored.{Gv, gnil, gcons}
use Rattle.lk_rules.specs.contracts.rule.Rule as rule
use Rattle.lk_rules.specs.contracts.sequent.Sequent as sequent
use Rattle.proof_trees.specs.Trees.{Tree, node, Trees, none, more}

abbrev mutual
  pub tree_code : Tree → Gv
  tree_code (node r s ts) = gcons (rule.the_row.coded.code r) (gcons (sequent.the_row.coded.code s) (trees_code ts))

  pub trees_code : Trees → Gv
  trees_code none = gnil
  trees_code (more t ts) = gcons (tree_code t) (trees_code ts)

mutual
  pub same_tree : (t u : Tree) → tree_code t ≡ tree_code u → t ≡ u
  same_tree (node r s ts) (node q e us) h =
      let rules : rule.the_row.coded.code r ≡ rule.the_row.coded.code q = cc in
      let ends : sequent.the_row.coded.code s ≡ sequent.the_row.coded.code e = cc in
      let others : trees_code ts ≡ trees_code us = cc in
      λ i. node (rule.the_row.coded.inj r q rules i) (sequent.the_row.coded.inj s e ends i) (same_trees ts us others i)

  pub same_trees : (ts us : Trees) → trees_code ts ≡ trees_code us → ts ≡ us
  same_trees none none h = refl
  same_trees none (more u us) h = cc
  same_trees (more t ts) none h = cc
  same_trees (more t ts) (more u us) h =
      let firsts : tree_code t ≡ tree_code u = cc in
      let others : trees_code ts ≡ trees_code us = cc in
      λ i. more (same_tree t u firsts i) (same_trees ts us others i)

abbrev pub coded_tree : Coded Tree
coded_tree = record { code = tree_code; inj = same_tree }
