-- The table with one node more, or the same table.
use Rattle.std.proofs.Common.{◌≡◌, Some, None, sym, ap, ◌∙◌, subst}
use Rattle.indexmap.specs.IndexSet.{insert_key}
use Rattle.exp_tree.specs.FlatLists.{node_fault, tree_over}
use Rattle.exp_tree.specs.Subtrees.{same_tree}
use Rattle.exp_tree.proofs.TableTrees.{IsPut, put}
use Rattle.exp_tree.proofs.table.Table.put.Goals as goal

is_put : (c : goal.In_ok-place) → IsPut c.self.inside.nodes.keys c.insert_full.new.self.keys c.args.node c.in_ok-place.place
is_put c =
    let stored = c.in_ok-place.ensures.stored in
    put c.self.inside.nodes.keys c.self.invariant c.insert_full.new.self.keys c.args.node stored.0 c.in_ok-place.place c.in_ok-place.ensures.keys stored.1 stored.2
    (subst (λ ts. node_fault ts c.args.node ≡ None) (sym c.self.view_is) c.requires.right) c.requires.formed c.requires.rising

pub invariant_of-self-2 : goal.invariant_of-self-2
invariant_of-self-2 c = (is_put c).table

pub returns-clause-trees : goal.returns-clause-trees
returns-clause-trees c = (is_put c).trees ∙ ap (λ ts. insert_key same_tree ts (tree_over ts c.args.node)) c.self.view_is

pub returns-clause-place : goal.returns-clause-place
returns-clause-place c = (is_put c).there ∙ ap (λ ts. Some (tree_over ts c.args.node)) c.self.view_is
