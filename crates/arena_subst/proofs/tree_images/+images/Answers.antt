-- A tree under a map, from its root and the images of the premises, and under the part of the map that it needs.
use Rattle.std.proofs.Common.{ℕ, ap, ◌∙◌}
use Rattle.std.specs.Prelude.{Some}
use Rattle.proof_trees.specs.Trees.{Tree}
use Rattle.proof_trees.specs.Substitution.{sub}
use Rattle.arena_cells.specs.Items.{tree}
use Rattle.arena_cells.specs.Standing.{HasTree, tree_at, map_at}
use Rattle.arena_cells.proofs.Reading.{if_ok}
use Rattle.arena_subst.proofs.Images.{tree_kept, tree_needed, end_there, images_there}
use Rattle.arena_subst.proofs.tree_images.+images.Goals as goal

pub substitute_in-returns-then-fixes_all-clause-tree : goal.substitute_in-returns-then-fixes_all-clause-tree
substitute_in-returns-then-fixes_all-clause-tree t c =
    tree_kept c.args.arena.now c.tree_vars.new.arena c.args.proof c.args.map c.in_ok-vars.vars c.tree_vars.ensures.grown c.requires.proof c.requires.map c.in_ok-vars.ensures.set c.requires.valid
    (c.fixes_all.ensures.0 c.if-fixes_all.true)

pub substitute_in-returns-clause-tree : goal.substitute_in-returns-clause-tree
substitute_in-returns-clause-tree t c =
    let same = tree_needed c.args.arena.now c.tree_vars.new.arena c.args.proof c.args.map c.in_ok-vars.vars c.tree_vars.ensures.grown c.requires.proof c.requires.map c.in_ok-vars.ensures.set
    c.restrict.new.self c.in_ok-needed.needed c.restrict.ensures.grown c.in_ok-needed.ensures.map in
    if_ok c.image_once.result _ (λ (n : ℕ). HasTree c.image_once.new.arena n (sub (tree_at c.args.arena.now c.args.proof) (map_at c.args.arena.now c.args.map)))
    (λ n s. s ∙ ap (λ (u : Tree). Some (tree u)) same) c.image_once.ensures.tree

pub image_over-root_image-requires-clause-end : goal.image_over-root_image-requires-clause-end
image_over-root_image-requires-clause-end t c =
    end_there c.args.arena.now c.image_of_sequent.new.self c.premise_map.new.arena c.images_below.new.arena c.args.proof c.args.map c.end.result c.in_ok-end.end c.in_ok-inner.inner c.rule.result c.premises.result c.in_ok-images.images
    c.image_of_sequent.ensures.grown c.premise_map.ensures.grown c.images_below.ensures.grown c.requires.proof c.requires.map c.end.ensures c.in_ok-end.ensures.sequent

pub image_over-root_image-requires-clause-images : goal.image_over-root_image-requires-clause-images
image_over-root_image-requires-clause-images t c =
    images_there c.args.arena.now c.image_of_sequent.new.self c.premise_map.new.arena c.images_below.new.arena c.args.proof c.args.map c.end.result c.in_ok-end.end c.in_ok-inner.inner c.rule.result c.premises.result c.in_ok-images.images
    c.image_of_sequent.ensures.grown c.premise_map.ensures.grown c.images_below.ensures.grown c.requires.proof c.requires.map c.end.ensures c.in_ok-end.ensures.sequent
    c.rule.ensures.rule c.in_ok-inner.ensures.map c.premises.ensures.trees c.in_ok-images.ensures.trees
