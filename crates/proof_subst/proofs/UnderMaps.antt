-- A tree and its image under a map, by their numbers in an arena.
use Rattle.std.proofs.Common.{◌≡◌, ℕ, true, List, sym, ap, subst, ◌∙◌}
use Rattle.std.specs.Prelude.{Some}
use Rattle.std.specs.FinMap as fin
use Rattle.fol.specs.declared.symbols.Var.{Var}
use Rattle.fol.specs.Syntax.{free}
use Rattle.substitution.specs.Image.{image_term, IsFormedMap}
use Rattle.substitution.specs.Maps.{Map}
use Rattle.lk_rules.specs.declared.sequent.Sequent.{Sequent}
use Rattle.proof_trees.specs.Trees.{Tree, concl, IsValid}
use Rattle.proof_trees.specs.FreeVariables.{is_free_in_tree}
use Rattle.proof_trees.specs.Substitution.{sub}
use Rattle.proof_trees.proofs.Agreeing.{kept_tree}
use Rattle.proof_trees.proofs.Substituted.{concl-sub, sub_valid}
use Rattle.arena_cells.specs.Items.{Item, tree}
use Rattle.arena_cells.specs.Standing.{Extends, IsDistinct, HasTree, tree_at}
use Rattle.arena_cells.proofs.Staying.{is_tree}
use Rattle.proof_trees.specs.Conclusions.{IsFormedSequent, HasFormedEnd}
use Rattle.arena_graph.proofs.FormedImages.{formed_image_sequent}

-- the tree stands at n before, and the image at i
module _ (a b : List Item) (n i : ℕ) (t : Tree) (m : Map) (grown : Extends a b) (proof : HasTree a n t) (image : HasTree b i (sub (tree_at a n) m)) where
  pub image_is : tree_at b i ≡ sub t m
  image_is = is_tree b i _ image ∙ ap (λ (u : Tree). sub u m) (is_tree a n t proof)

  -- where the map changes no free variable, there is one number
  pub same_number : IsDistinct b → IsValid t → ((v : Var) → is_free_in_tree v t ≡ true → image_term (fin.get m) (free v) ≡ free v) → i ≡ n
  same_number distinct valid kept =
      distinct i n (tree t) (image ∙ ap (λ (u : Tree). Some (tree u)) (ap (λ (u : Tree). sub u m) (is_tree a n t proof) ∙ kept_tree t m valid kept)) (grown n _ proof)

  pub image_valid : IsFormedMap (fin.get m) → IsValid t → IsValid (tree_at b i)
  image_valid formed valid = subst (λ (u : Tree). IsValid u) (sym image_is) (sub_valid t m formed valid)

  pub image_formed : IsFormedMap (fin.get m) → IsValid t → HasFormedEnd t → HasFormedEnd (tree_at b i)
  image_formed formed valid ends =
      subst (λ (s : Sequent). IsFormedSequent s) (sym (ap concl image_is ∙ concl-sub t m)) (formed_image_sequent m formed (concl t) ends)
