-- A tree under the part of a map that it needs.
use Rattle.std.proofs.Common.{◌≡◌, sym, ap, ◌∙◌}
use Rattle.std.specs.FinMap as fin
use Rattle.fol.specs.Syntax.{free}
use Rattle.substitution.specs.Image.{image_term}
use Rattle.substitution.specs.Maps.{Map}
use Rattle.substitution.specs.Restriction.{restricted}
use Rattle.substitution.proofs.ImageLaws.{image-empty_term}
use Rattle.substitution.proofs.Restricting.{restricted_agrees}
use Rattle.proof_trees.specs.Trees.{Tree, IsValid}
use Rattle.proof_trees.specs.Substitution.{sub}
use Rattle.proof_trees.proofs.Agreeing.{agree_tree, kept_tree}
use Rattle.arena.specs.TreeVariables.{vars_tree}
use Rattle.arena_subst.proofs.Members.{tree_members}

pub needed_part : (t : Tree) (m : Map) → sub t (restricted m (vars_tree t)) ≡ sub t m
needed_part t m = agree_tree t (restricted m (vars_tree t)) m (λ v h. restricted_agrees m (vars_tree t) v (tree_members t v ∙ h))

-- a tree that needs nothing of the map stays
pub nothing_needed : (t : Tree) (m : Map) → IsValid t → restricted m (vars_tree t) ≡ fin.empty → t ≡ sub t m
nothing_needed t m valid nothing =
    sym (kept_tree t m valid (λ v h.
    sym (restricted_agrees m (vars_tree t) v (tree_members t v ∙ h)) ∙ ap (λ (k : Map). image_term (fin.get k) (free v)) nothing ∙ image-empty_term (free v)))
