-- Which reference is the image of which proof under which map.
use Rattle.std.specs.Prelude.{◌≡◌, true, refl}
use Rattle.std.specs.FinMap as fin
use Rattle.std.specs.Ordering.{nat_cmp, ordering_then}
use Rattle.std.specs.declared.cmp.Ordering.{Ordering}
use Rattle.std.specs.declared.cmp.Ordering.TheVariants.{Less, Equal, Greater}
use Rattle.std.proofs.Common.{subst}
use Rattle.fol.specs.declared.symbols.Var.{Var}
use Rattle.fol.specs.Syntax.{free}
use Rattle.substitution.specs.Image.{image_term}
use Rattle.substitution.specs.Maps.{Map, map_cmp}
use Rattle.substitution.proofs.MapLaws.{map_ties}
use Rattle.proof_trees.specs.FreeVariables.{is_free_in_tree}
use Rattle.proof_trees.specs.Substitution.{sub}
use Rattle.proof_graph.specs.declared.graph.Graph.{Graph}
use Rattle.proof_graph.specs.References.{Reference}
use Rattle.proof_graph.specs.Graphs.{IsOf}
use Rattle.proof_subst.specs.declared.known.ImageKey.{ImageKey}
use Rattle.proof_subst.specs.declared.known.Image.{Image}
use Rattle.proof_subst.specs.ImageKeys.{image_key_cmp}

-- the reference means the tree of p under the map, and is p itself where the map changes none of its free variables
pub record IsImageOf (g : Graph) (p : Reference) (m : Map) (r : Reference) : Type 0 where
  pub of : IsOf g r
  pub tree : r.tree ≡ sub p.tree m
  pub kept : ((v : Var) → is_free_in_tree v p.tree ≡ true → image_term (fin.get m) (free v) ≡ free v) → r ≡ p

-- the proof has the key's number in the graph, and the other is its image under the key's map
pub record IsImage (g : Graph) (k : ImageKey) (i : Image) : Type 0 where
  pub of : IsOf g i.proof
  pub number : i.proof.number ≡ k.proof
  pub image : IsImageOf g i.proof k.map i.image

-- only equal keys tie

both_equal : (a b : Ordering) → ordering_then a b ≡ Equal → (a ≡ Equal) × (b ≡ Equal)
both_equal Less b h = cc
both_equal Equal b h = (refl, h)
both_equal Greater b h = cc

key_ties : (a b : ImageKey) → image_key_cmp a b ≡ Equal → a ≡ b
key_ties a b e =
    let parts = both_equal (nat_cmp a.proof b.proof) (map_cmp a.map b.map) e in
    λ i. record { proof = fin.nat_cmp-IsAntisymmetric a.proof b.proof parts.0 i; map = map_ties a.map b.map parts.1 i }

pub image_respects : (g : Graph) (a b : ImageKey) (i : Image) → image_key_cmp a b ≡ Equal → IsImage g a i → IsImage g b i
image_respects g a b i tie h = subst (λ (k : ImageKey). IsImage g k i) (key_ties a b tie) h
