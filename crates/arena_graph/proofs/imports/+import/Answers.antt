-- The trees get smaller, a rule has at most two premises, and their end sequents are within what premises may have.
use Rattle.std.proofs.Common.{◌≡◌, ℕ, ◌≤◌, length, subst, ap, sym, ◌∙◌, arith}
use Rattle.std.specs.Prelude.{Some, IfSome}
use Rattle.std.proofs.lemmas.List.{length-map}
use Rattle.lk_rules.specs.Rules.{IsWithin}
use Rattle.proof_trees.specs.Trees.{Tree, Trees, node, none, more, concl, second_end}
use Rattle.proof_trees.proofs.Shapes.{few_premises}
use Rattle.proof_trees.specs.TreeLists.{nodes_all}
use Rattle.proof_graph.specs.References.{Reference, trees_of}
use Rattle.arena_cells.specs.Items.{tree}
use Rattle.arena_cells.specs.Standing.{HasTree, sequent_at}
use Rattle.arena_cells.specs.Meaning.{rule_at, trees_at}
use Rattle.arena_cells.proofs.Reading.{if_ok}
use Rattle.arena_cells.proofs.Staying.{is_tree, rule_stays, rule_parts_there, sequent_there}
use Rattle.arena_cells.proofs.Facts as facts
use Rattle.arena_graph.proofs.Trees.{nodes_root}
use Rattle.arena_graph.proofs.Larger.{numbers_stay}
use Rattle.arena_graph.proofs.Above.{first_within, second_within, within_stays, tree_over, two_trees}
use Rattle.arena_graph.proofs.imports.+import.Goals as goal

pub import_below-import_premise-requires-in-len2-2 : goal.import_below-import_premise-requires-in-len2-2
import_below-import_premise-requires-in-len2-2 t c =
    let a = c.args.arena.now in
    let b = c.import_premise-in-len2.new.arena in
    let grown = c.in_ok-first-in-len2.ensures.grown in
    let p : Reference = c.first-item.result in
    let q : Reference = c.second-item.result in
    let long : length c.args.premises.now ≡ 2 = omega (arith, c.in-len2.len_at_least, c.in-len2.len_below) in
    let trees : trees_of c.args.premises.now ≡ more p.tree (more q.tree none) = two_trees c.args.premises.now p q long c.first-item.is c.second-item.is in
    let within : IsWithin (rule_at a c.args.rule) (sequent_at a c.args.end) 1 (concl q.tree) =
    subst (λ (ts : Trees). IfSome (second_end ts) (IsWithin (rule_at a c.args.rule) (sequent_at a c.args.end) 1)) trees c.requires.second in (
      omega (arith, ap nodes_all trees, c.decreases),
      (
        c.in_ok-first-in-len2.ensures.numbers_stay,
        (
          ap (λ (r : Reference). r.home) c.second-item.is ∙ c.requires.of 1 q (omega (arith, long)),
          (
            rule_parts_there a b grown c.args.rule c.requires.rule,
            (sequent_there a b grown c.args.end c.requires.end, (omega arith, within_stays a b grown c.args.rule c.args.end 1 (concl q.tree) c.requires.rule c.requires.end within)),
          ),
        ),
      ),
    )

pub import_below-returns-in_ok-second-in-len2-clause-trees : goal.import_below-returns-in_ok-second-in-len2-clause-trees
import_below-returns-in_ok-second-in-len2-clause-trees t c =
    let b = c.import_premise-in-len2-2.new.arena in
    let p : Reference = c.first-item.result in
    let q : Reference = c.second-item.result in
    let long : length c.args.premises.now ≡ 2 = omega (arith, c.in-len2.len_at_least, c.in-len2.len_below) in
    let first = is_tree b c.in_ok-first-in-len2.first p.tree (c.in_ok-second-in-len2.ensures.grown _ _ c.in_ok-first-in-len2.ensures.tree) in
    let second = is_tree b c.in_ok-second-in-len2.second q.tree c.in_ok-second-in-len2.ensures.tree in
    (λ i. more (first i) (more (second i) none)) ∙ sym (two_trees c.args.premises.now p q long c.first-item.is c.second-item.is)

pub import_new-import_below-requires : goal.import_new-import_below-requires
import_new-import_below-requires t c =
    let p : Reference = c.args.proof.now in
    let a = c.args.arena.now in
    let b = c.import_last_rule.new.arena in
    let grown = c.in_ok-rule.ensures.grown in
    let few : length c.premises.result.now ≤ 2 = omega (arith, few_premises p.tree c.known.ensures.valid, ap length c.premises.ensures.numbers, length-map c.premises.result.now (λ (r : Reference). r.number), c.known.ensures.premises) in
    let end = grown _ _ c.requires.end in
    let first = first_within b c.in_ok-rule.rule c.args.end p.tree (trees_of c.premises.result.now) c.known.ensures.valid c.in_ok-rule.ensures.rule end c.premises.ensures.trees in
    let second = second_within b c.in_ok-rule.rule c.args.end p.tree (trees_of c.premises.result.now) c.known.ensures.valid c.in_ok-rule.ensures.rule end c.premises.ensures.trees in (
      omega (arith, nodes_root p.tree, ap nodes_all c.premises.ensures.trees, c.decreases),
      (
        numbers_stay c.args.graph.now a b c.args.numbers.now c.requires.numbers grown,
        (λ k d l. c.premises.ensures.home k d l ∙ c.requires.of, (c.in_ok-rule.ensures.parts, (facts.sequent_there b c.args.end (concl p.tree) end, (first, (second, few))))),
      ),
    )

pub import_new-inference-requires-clause-rule : goal.import_new-inference-requires-clause-rule
import_new-inference-requires-clause-rule t c =
    rule_parts_there c.import_last_rule.new.arena c.import_below.new.arena c.in_ok-premises.ensures.grown c.in_ok-rule.rule c.in_ok-rule.ensures.parts

pub import_new-returns-clause-tree : goal.import_new-returns-clause-tree
import_new-returns-clause-tree t c =
    let p : Tree = c.args.proof.now.tree in
    let a = c.import_last_rule.new.arena in
    let b = c.import_below.new.arena in
    let grown = c.in_ok-premises.ensures.grown in
    let rule = rule_stays a b grown c.in_ok-rule.rule c.in_ok-rule.ensures.parts ∙ c.in_ok-rule.ensures.rule in
    let end = grown _ _ (c.in_ok-rule.ensures.grown _ _ c.requires.end) in
    let same : node (rule_at b c.in_ok-rule.rule) (sequent_at b c.args.end) (trees_at b c.in_ok-premises.premises) ≡ p =
    tree_over b c.in_ok-rule.rule c.args.end c.in_ok-premises.premises p rule end (c.in_ok-premises.ensures.trees ∙ c.premises.ensures.trees) in
    if_ok c.inference.result _ (λ (n : ℕ). HasTree c.inference.new.arena n p) (λ n s. s ∙ ap (λ (t : Tree). Some (tree t)) same) c.inference.ensures.tree

pub import_new-returns-clause-numbers_stay : goal.import_new-returns-clause-numbers_stay
import_new-returns-clause-numbers_stay t c = numbers_stay c.args.graph.now c.import_below.new.arena c.inference.new.arena c.import_below.new.numbers c.in_ok-premises.ensures.numbers_stay c.inference.ensures.grown

pub import_premise-import_new-requires : goal.import_premise-import_new-requires
import_premise-import_new-requires t c = (
  omega (arith, c.decreases),
  (numbers_stay c.args.graph.now c.args.arena.now c.import_upper_end.new.arena c.args.numbers.now c.requires.numbers c.in_ok-end.ensures.grown, (c.requires.of, c.in_ok-end.ensures.end)),
)
