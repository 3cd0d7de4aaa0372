-- The root under the map, over the images of the premises.
use Rattle.std.proofs.Common.{◌≡◌, ℕ, sym, ap, ◌∙◌}
use Rattle.std.specs.Prelude.{Some}
use Rattle.std.specs.FinMap as fin
use Rattle.substitution.specs.Maps.{Map}
use Rattle.lk_rules.specs.declared.sequent.Sequent.{Sequent}
use Rattle.lk_rules.specs.Sequents.{image_sequent}
use Rattle.proof_trees.specs.Trees.{Tree, concl, rule_of, below}
use Rattle.proof_trees.specs.Substitution.{image_rule, premise_map, sub, sub_all}
use Rattle.arena_cells.specs.Items.{tree}
use Rattle.arena_cells.specs.Standing.{HasTree, tree_at, map_at, sequent_at}
use Rattle.arena_cells.specs.Meaning.{rule_at, trees_at}
use Rattle.arena_cells.proofs.Reading.{if_ok}
use Rattle.arena_cells.proofs.Staying.{is_sequent, trees_stay, premises_there}
use Rattle.arena_subst.proofs.Images.{image_made}
use Rattle.arena_subst.proofs.tree_images.root_image.Goals as goal

pub inference-requires-clause-premises : goal.inference-requires-clause-premises
inference-requires-clause-premises c = premises_there c.args.arena.now c.rule_image.new.arena c.rule_image.ensures.grown c.args.images c.requires.there

pub returns-clause-tree : goal.returns-clause-tree
returns-clause-tree c =
    let a = c.args.arena.now in
    let b = c.rule_image.new.arena in
    let u : Tree = tree_at a c.args.proof in
    let m : Map = map_at a c.args.map in
    let e : Sequent = image_sequent (fin.get m) (concl u) in
    let end : sequent_at b c.args.end ≡ e = is_sequent b c.args.end _ (c.rule_image.ensures.grown c.args.end _ c.requires.end) in
    let was : sequent_at a c.args.end ≡ e = is_sequent a c.args.end _ c.requires.end in
    let rule : rule_at b c.in_ok-rule.rule ≡ image_rule m (rule_of u) e = c.in_ok-rule.ensures.rule ∙ λ i. image_rule m (sym c.rule.ensures.rule i) (was i) in
    let premises : trees_at b c.args.images ≡ sub_all (below u) (premise_map m (rule_of u) e) = trees_stay a b c.rule_image.ensures.grown c.args.images c.requires.there ∙ c.requires.images
    ∙ ap (λ (s : Sequent). sub_all (below u) (premise_map m (rule_of u) s)) was in
    if_ok c.inference.result _ (λ (n : ℕ). HasTree c.inference.new.arena n (sub u m)) (λ n s. s ∙ ap (λ (x : Tree). Some (tree x)) (image_made u m _ _ _ end rule premises)) c.inference.ensures.tree
