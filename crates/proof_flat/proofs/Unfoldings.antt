-- A valid tree of short formulas with all unfolded: it is valid, its end sequent has well-formed formulas, and where no symbol had a body it
-- has the number of the tree.
use Rattle.std.proofs.Common.{◌≡◌, ℕ, List, sym, ap, ◌∙◌, subst}
use Rattle.std.specs.Prelude.{Option, Some, None, Result, Ok, Err, IfOk, IfSome, OnSome, IfNone}
use Rattle.proof_trees.specs.Trees.{Tree, concl, IsValid}
use Rattle.proof_trees.specs.Conclusions.{EachNode, HasFormedEnd}
use Rattle.arena_cells.specs.Items.{Item, tree}
use Rattle.arena_cells.specs.Standing.{Extends, IsDistinct, HasTree, tree_at}
use Rattle.arena_cells.proofs.Staying.{is_tree}
use Rattle.def_laws.specs.Unfolded.{unfolded, HasNoBody}
use Rattle.def_laws.proofs.UnfoldedTrees.{valid_unfolded, rules_formed, formed_end-unfolded, unfolded-plain}
use Rattle.arena_flat.specs.Short.{HasShortRules, HasShortSides}

-- the tree that stands at a number stays in a larger arena, and what is said of it is said of the proof's tree
module _ (a b : List Item) (m n : ℕ) (t : Tree) (grown : Extends a b) (whole : HasTree a m t) (flat : HasTree b n (unfolded (tree_at a m))) where
  flat_is : tree_at b n ≡ unfolded t
  flat_is = is_tree b n _ flat ∙ ap unfolded (is_tree a m t whole)

  pub flat_valid : IsValid t → HasFormedEnd t → HasShortRules (tree_at a m) → IsValid (tree_at b n)
  flat_valid valid formed short =
      subst (λ (x : Tree). IsValid x) (sym flat_is)
      ((valid_unfolded t valid formed).1 (rules_formed t valid (subst (λ (x : Tree). HasShortRules x) (is_tree a m t whole) short)))

  pub flat_formed : HasFormedEnd t → HasShortSides (concl (tree_at a m)) → HasFormedEnd (tree_at b n)
  flat_formed formed short =
      subst (λ (x : Tree). HasFormedEnd x) (sym flat_is) (formed_end-unfolded t formed (subst (λ (x : Tree). HasShortSides (concl x)) (is_tree a m t whole) short))

  pub flat_same : IsDistinct b → EachNode HasNoBody t → n ≡ m
  flat_same distinct plain =
      distinct n m (tree t) (flat ∙ ap (λ (x : Tree). Some (tree x)) (ap unfolded (is_tree a m t whole) ∙ unfolded-plain t plain)) (grown m (tree t) whole)

  pub flat_other : IsDistinct b → n ≡ m → t ≡ unfolded t
  flat_other distinct same =
      sym (is_tree b m t (grown m (tree t) whole)) ∙ ap (tree_at b) (sym same) ∙ flat_is

-- a proof without such a symbol is itself with all unfolded
pub plain_unfolded : (a : List Item) (m : ℕ) (t : Tree) → HasTree a m t → EachNode HasNoBody (tree_at a m) → t ≡ unfolded t
plain_unfolded a m t whole plain = sym (unfolded-plain t (subst (λ (x : Tree). EachNode HasNoBody x) (is_tree a m t whole) plain))

-- what is said of an answer where it is there, and where it isn't
pub at_some : {X : Type 0} (P : X → Type 0) (o : Option X) (x : X) → o ≡ Some x → IfSome o P → P x
at_some P o x is h = subst (λ p. IfSome p P) is h

pub on_some : {X P : Type 0} (o : Option X) (x : X) → o ≡ Some x → OnSome o P → P
on_some {X} {P} o x is h = subst (λ p. OnSome p P) is h

pub at_none : {X P : Type 0} (o : Option X) → o ≡ None → IfNone o P → P
at_none {X} {P} o is h = subst (λ p. IfNone p P) is h

pub kept_is : {X E : Type 0} (P : X → Type 0) (r : Result X E) (x : X) → IfOk r (λ y. y ≡ x) → P x → IfOk r P
kept_is P (Ok y) x is h = subst P (sym is) h
kept_is P (Err e) x is h = tt
