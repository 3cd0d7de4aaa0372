-- What stands in an arena stands in a larger one: proofs with two parts, and interpolations.
use Rattle.std.proofs.Common.{◌≡◌, List, sym, subst}
use Rattle.std.specs.HashMap as hash
use Rattle.std.specs.HashMap.{HashMap}
use Rattle.std.proofs.lemmas.Option.{IfSome_then}
use Rattle.interp_laws.specs.Interpolation.{Interpolation, itp}
use Rattle.interp_laws.specs.Parts.{HasParts}
use Rattle.arena_cells.specs.Items.{Item}
use Rattle.arena_cells.specs.Standing.{Extends, sequent_at, tree_at}
use Rattle.arena_cells.proofs.Staying.{is_formula, is_tree, sequent_stays, formula_stays, tree_stays, formula_there, sequent_there, tree_there}
use Rattle.arena_cells.proofs.Facts as facts
use Rattle.arena_interp.specs.declared.partition.Partition.{Partition}
use Rattle.arena_interp.specs.declared.interpolated.Interpolated.{Interpolated}
use Rattle.arena_interp.specs.Keys.{same_partition}
use Rattle.arena_interp.specs.Partitions.{IsPartitionAt, itp_at, IsInterpolatedAt, interpolation_at, HasInterpolation, IsKnown, AreKnown}

-- an interpolation that stands
pub interpolation_is : (a : List Item) (i : Interpolation) (n : Interpolated) → HasInterpolation a i n → interpolation_at a n ≡ i
interpolation_is a i n h = λ k. record {
  formula = is_formula a n.formula i.formula h.formula k;
  first = is_tree a n.first i.first h.first k;
  second = is_tree a n.second i.second h.second k;
}

pub interpolation_there : (a : List Item) (i : Interpolation) (n : Interpolated) → HasInterpolation a i n → IsInterpolatedAt a n
interpolation_there a i n h = record {
  formula = facts.formula_there a n.formula i.formula h.formula;
  first = facts.tree_there a n.first i.first h.first;
  second = facts.tree_there a n.second i.second h.second;
}

pub has_same : (a : List Item) (i j : Interpolation) (n : Interpolated) → i ≡ j → HasInterpolation a i n → HasInterpolation a j n
has_same a i j n e h = subst (λ (x : Interpolation). HasInterpolation a x n) e h

pub has_there : (a : List Item) (n : Interpolated) → IsInterpolatedAt a n → HasInterpolation a (interpolation_at a n) n
has_there a n h = record { formula = h.formula; first = h.first; second = h.second }

module _ (a b : List Item) (grown : Extends a b) where
  pub has_later : (i : Interpolation) (n : Interpolated) → HasInterpolation a i n → HasInterpolation b i n
  has_later i n h = record { formula = grown n.formula _ h.formula; first = grown n.first _ h.first; second = grown n.second _ h.second }

  pub interpolated_there : (n : Interpolated) → IsInterpolatedAt a n → IsInterpolatedAt b n
  interpolated_there n h = record {
    formula = formula_there a b grown n.formula h.formula;
    first = tree_there a b grown n.first h.first;
    second = tree_there a b grown n.second h.second;
  }

  pub interpolation_stays : (n : Interpolated) → IsInterpolatedAt a n → interpolation_at b n ≡ interpolation_at a n
  interpolation_stays n h = λ k. record {
    formula = formula_stays a b grown n.formula h.formula k;
    first = tree_stays a b grown n.first h.first k;
    second = tree_stays a b grown n.second h.second k;
  }

  pub itp_stays : (p : Partition) → IsPartitionAt a p → itp_at b p ≡ itp_at a p
  itp_stays p h = λ k. itp (tree_stays a b grown p.proof h.proof k) (sequent_stays a b grown p.first h.first k) (sequent_stays a b grown p.second h.second k)

  parts_stay : (p : Partition) → IsPartitionAt a p → HasParts (tree_at b p.proof) (sequent_at b p.first) (sequent_at b p.second) ≡ HasParts (tree_at a p.proof) (sequent_at a p.first) (sequent_at a p.second)
  parts_stay p h = λ k. HasParts (tree_stays a b grown p.proof h.proof k) (sequent_stays a b grown p.first h.first k) (sequent_stays a b grown p.second h.second k)

  pub partition_there : (p : Partition) → IsPartitionAt a p → IsPartitionAt b p
  partition_there p h = record {
    proof = tree_there a b grown p.proof h.proof;
    first = sequent_there a b grown p.first h.first;
    second = sequent_there a b grown p.second h.second;
    parts = subst (λ (P : Type 0). P) (sym (parts_stay p h)) h.parts;
  }

  entry_there : (p : Partition) (n : Interpolated) → IsKnown a p n → IsKnown b p n
  entry_there p n h = record {
    partition = partition_there p h.partition;
    interpolation = has_same b _ _ n (sym (itp_stays p h.partition)) (has_later _ n h.interpolation);
  }

  pub known_there : {S : Type 0} (table : HashMap Partition Interpolated S) → AreKnown a table → AreKnown b table
  known_there table h p = IfSome_then (hash.get same_partition table p) (h p) (λ n k. entry_there p n k)
