-- The walk over a whole proof, in which each formula of the conclusion has an address of its own.
use Rattle.std.proofs.Common.{◌≡◌, false, List, [], ◌∷◌, map, sym, ap, ◌∙◌, subst, arith}
use Rattle.std.specs.FinMap as fin
use Rattle.fol.specs.Syntax.{Formula}
use Rattle.finite.specs.Finite as set
use Rattle.substitution.specs.Maps.{Map}
use Rattle.lk_rules.specs.declared.sequent.Sequent.{Sequent}
use Rattle.lk_rules.specs.declared.sequent.Side.{Side}
use Rattle.lk_rules.specs.declared.sequent.Side.TheVariants.{Left, Right}
use Rattle.lk_rules.specs.Sequents.{side_of}
use Rattle.proof_trees.specs.Trees.{Tree, concl, IsValid, IsCutFree}
use Rattle.proof_trees.specs.Occurrence.{has_body_in_sequent}
use Rattle.proof_trees.proofs.WithoutBodies.{plain_nodes}
use Rattle.extraction_laws.specs.Addresses.{Address, root}
use Rattle.extraction_laws.specs.States.{unmarked}
use Rattle.extraction_laws.specs.Extraction.{walked, vars_in, marks_of}
use Rattle.extraction_laws.specs.Images.{HasImage}
use Rattle.extraction_laws.proofs.Contexts.{walked_agrees}
use Rattle.extraction_laws.proofs.Truth.{fits_first}
use Rattle.exp_extract.specs.Marked.{Marked, address_in}
use Rattle.exp_extract.specs.Quantifiers.{Grows, AreWithin}
use Rattle.exp_extract.specs.MapList.{map_in}
use Rattle.exp_extract.specs.declared.sides.Sides.{Sides}
use Rattle.exp_extract.specs.Sides.{numbers_of, context_in, IsKnownDistinct}
use Rattle.exp_extract.specs.Walking.{IsPlainTree, IsReady, IsAfter}
use Rattle.exp_extract.proofs.MarkedSets.{map_grown, within_grown}
use Rattle.exp_extract.proofs.RootLists.{root_context, root_counts}

pub plain_tree : (t : Tree) → IsValid t → IsCutFree t → has_body_in_sequent (concl t) ≡ false → IsPlainTree t
plain_tree t valid free bodies = record { valid = valid; cut_free = free; plain = plain_nodes t valid free bodies }

-- the numbers are those of the formulas' own addresses
pub record AreRoots (bs : List Address) (t : Tree) (x : Sides) : Type 0 where
  pub roots : (side : Side) → map (address_in bs) (numbers_of x side) ≡ map (root side) (set.listing (side_of (concl t) side))
  pub within : (side : Side) → AreWithin bs (numbers_of x side)

-- the left side, and then the right
both_roots : (bs cs : List Address) (t : Tree) (x : Sides) → Grows bs cs → map (address_in bs) x.left.items ≡ map (root Left) (set.listing (concl t).left) → AreWithin bs x.left.items
    → map (address_in cs) x.right.items ≡ map (root Right) (set.listing (concl t).right) → AreWithin cs x.right.items → AreRoots cs t x
both_roots bs cs t x grown left left_within right right_within = record { roots = by_side; within = within_side }
  where
    by_side : (side : Side) → map (address_in cs) (numbers_of x side) ≡ map (root side) (set.listing (side_of (concl t) side))
    by_side Left = map_grown bs cs grown x.left.items left_within ∙ left
    by_side Right = right

    within_side : (side : Side) → AreWithin cs (numbers_of x side)
    within_side Left = within_grown bs cs grown x.left.items left_within
    within_side Right = right_within

-- with the formulas in the order of each side
pub first_roots : (l m : Marked) (t : Tree) (s : Sequent) (x : Sides) (fs gs : List Formula) → Grows l.addresses m.addresses → s ≡ concl t → fs ≡ set.listing s.left → gs ≡ set.listing s.right
    → map (address_in l.addresses) x.left.items ≡ map (root Left) fs → AreWithin l.addresses x.left.items → map (address_in m.addresses) x.right.items ≡ map (root Right) gs → AreWithin m.addresses x.right.items
    → AreRoots m.addresses t x
first_roots l m t s x fs gs grown end lefts rights left left_within right right_within =
    both_roots l.addresses m.addresses t x grown
    (left ∙ ap (map (root Left)) (lefts ∙ ap (λ (q : Sequent). set.listing q.left) end)) left_within
    (right ∙ ap (map (root Right)) (rights ∙ ap (λ (q : Sequent). set.listing q.right) end)) right_within

-- the roots after the walk
roots_after : (bs cs : List Address) (t : Tree) (x : Sides) → Grows bs cs → AreRoots bs t x → AreRoots cs t x
roots_after bs cs t x grown h = record {
  roots = λ side. map_grown bs cs grown (numbers_of x side) (h.within side) ∙ h.roots side;
  within = λ side. within_grown bs cs grown (numbers_of x side) (h.within side);
}

-- the walk, from marks that are the same
module _ (ms : List Map) (k m : Marked) (t : Tree) (x : Sides) (maps : ms ≡ fin.empty ∷ []) (h : AreRoots m.addresses t x) (same : k ≡ m) where
  pub start_ready : IsPlainTree t → IsKnownDistinct (concl t) x → IsReady ms k t 0 x
  start_ready tree distinct =
      subst (λ (n : Marked). IsReady ms n t 0 x) (sym same) (subst (λ (ns : List Map). IsReady ns m t 0 x) (sym maps) (record {
        map = omega arith;
        sides = record { counts = root_counts m.addresses (concl t) x h.roots; within = h.within; distinct = distinct };
        images = λ side f there. subst (λ (a : Address). HasImage fin.empty a side f) (sym (root_context m.addresses (concl t) x h.roots side f there)) (fits_first (concl t) side f there);
        tree = tree;
      }))

  module _ (ns : List Map) (n : Marked) (walk : IsAfter ms ns k n t (map_in ms 0) (context_in k.addresses (concl t) x)) where
    after : IsAfter ms ns m n t (map_in ms 0) (context_in m.addresses (concl t) x)
    after = subst (λ (o : Marked). IsAfter ms ns o n t (map_in ms 0) (context_in o.addresses (concl t) x)) same walk

    pub end_state : IsValid t → m.outside ≡ vars_in t → m.state ≡ unmarked → n.state ≡ marks_of t
    end_state valid outside state =
        after.state
        ∙ ((λ i. walked (outside i) t (map_in (maps i) 0) (context_in m.addresses (concl t) x) (state i))
        ∙ walked_agrees (vars_in t) t fin.empty (context_in m.addresses (concl t) x) root unmarked valid (root_context m.addresses (concl t) x h.roots))

    pub end_roots : AreRoots n.addresses t x
    end_roots = roots_after m.addresses n.addresses t x after.grown h
