-- The new tree is valid, and the counts are its own.
use Rattle.std.proofs.Common.{◌≡◌, List, sym, ap, ◌∙◌, subst}
use Rattle.std.specs.List.{All}
use Rattle.proof_trees.specs.Trees.{Tree, node, IsValid}
use Rattle.proof_graph.specs.declared.reference.RefLink.{RefLink}
use Rattle.proof_graph.specs.declared.counts.Counts.{Counts}
use Rattle.proof_graph.specs.declared.node.Node.{Node}
use Rattle.proof_graph.specs.References.{Reference, trees_of, numbers_of}
use Rattle.proof_graph.specs.Counts.{AreCountsOf}
use Rattle.proof_graph.proofs.Linked.{valid_over}
use Rattle.proof_graph.proofs.reference.Draft.new.Goals as goal

pub returns-clause-tree : goal.returns-clause-tree
returns-clause-tree c = rw c.node-root.ensures at c.tree_over-tree.ensures

pub returns-clause-draft : goal.returns-clause-draft
returns-clause-draft c =
    let key : Node = c.args.key.now in
    let tree : Tree = c.tree_over-tree.result.tree in
    let premises : List Reference = c.args.premises.items in
    let made = c.in_ok-link.ensures.ok in
    let same = ap (λ (l : RefLink). l.premises.items) made in
    let over = λ (rs : List Reference). node key.rule key.end (trees_of rs) in
    let root : tree ≡ over premises = rw c.node-root.ensures at c.tree_over-tree.ensures in
    let valid : All (λ (r : Reference). IsValid r.tree) premises = rw c.deref.ensures.value at c.see_valid.ensures in
    let counts : AreCountsOf c.counts_over-counts.result (over premises) = rw (c.node-root.ensures, c.deref-2.ensures.value) at (c.counts_over-counts.ensures key.end) in
    record {
      key = c.in_ok-key.ensures;
      tree = root ∙ ap over (sym same);
      graph = ap (λ (l : RefLink). l.home.value) made ∙ c.of.ensures;
      home = subst (All (λ (r : Reference). r.home ≡ c.args.nodes.now)) (sym same) c.requires.of;
      numbers = c.requires.numbers ∙ ap numbers_of (sym same);
      valid = valid_over tree key premises root valid c.requires.inference;
      counts = subst (λ (n : Counts). AreCountsOf n tree) (sym (ap (λ (l : RefLink). l.counts) made)) (subst (AreCountsOf c.counts_over-counts.result) (sym root) counts);
    }
