-- What tables say stays right in a larger arena.
use Rattle.std.proofs.Common.{ℕ, List, Some, None, IfSome, sym, subst}
use Rattle.std.specs.Prelude.{Option}
use Rattle.std.proofs.lemmas.List.Elements.{All-weaker}
use Rattle.proof_graph.specs.declared.graph.Graph.{Graph}
use Rattle.proof_graph.specs.References.{Reference}
use Rattle.arena_cells.specs.Items.{Item, formula}
use Rattle.lk_rules.specs.Formulas.{FormulaSet}
use Rattle.arena_cells.specs.Standing.{Extends, HasFormula, HasSide, side_at}
use Rattle.arena_cells.proofs.Staying.{side_stays}
use Rattle.arena_cells.proofs.Facts.{side_there}
use Rattle.arena_graph.specs.declared.ranks.Ranks.{Ranks}
use Rattle.arena_graph.specs.Ranks.{AreRanks}
use Rattle.arena_graph.specs.declared.ranks.RankedFormula.{RankedFormula}
use Rattle.arena_graph.specs.declared.last_side.LastSide.{LastSide}
use Rattle.arena_graph.specs.Places.{ArePlacesOf}
use Rattle.arena_graph.specs.LastSide.{IsPlacedSide, IsLastSide}
use Rattle.arena_graph.specs.declared.proof_numbers.ProofNumbers.{ProofNumbers as Tables}
use Rattle.arena_graph.specs.ProofNumbers.{IsProofAt, AreNumbersOf}

if_some_weaker : {X : Type 0} (o : Option X) (P Q : X → Type 0) → ((x : X) → P x → Q x) → IfSome o P → IfSome o Q
if_some_weaker None P Q f h = tt
if_some_weaker (Some x) P Q f h = f x h

proof_stays : (g : Graph) (a b : List Item) → Extends a b → (n : ℕ) (r : Reference) → IsProofAt g a n r → IsProofAt g b n r
proof_stays g a b grown n r h = record { of = h.of; tree = grown n _ h.tree; formed = h.formed }

ranks_stay : (a b : List Item) → Extends a b → (r : Ranks) → AreRanks a r → AreRanks b r
ranks_stay a b grown r h = record {
  rises = h.rises;
  numbered = All-weaker (λ e. HasFormula a e.number e.formula) (λ e. HasFormula b e.number e.formula) (λ e there. grown e.number (formula e.formula) there) r.entries.items h.numbered;
}

placed_stays : (a b : List Item) → Extends a b → (es : List RankedFormula) (ps : List ℕ) (n : ℕ) → IsPlacedSide a es ps n → IsPlacedSide b es ps n
placed_stays a b grown es ps n h = record {
  there = side_there b n (side_at a n) (grown n _ h.there);
  places = subst (λ (s : FormulaSet). ArePlacesOf es s ps) (sym (side_stays a b grown n h.there)) h.places;
}

last_stays : (a b : List Item) → Extends a b → (es : List RankedFormula) (l : LastSide) → IsLastSide a es l → IsLastSide b es l
last_stays a b grown es l h = if_some_weaker l.side (IsPlacedSide a es l.places.items) (IsPlacedSide b es l.places.items) (placed_stays a b grown es l.places.items) h

pub numbers_stay : (g : Graph) (a b : List Item) (t : Tables) → AreNumbersOf g a t → Extends a b → AreNumbersOf g b t
numbers_stay g a b t h grown = record {
  proofs = All-weaker (λ e. IsProofAt g a e.number e.proof) (λ e. IsProofAt g b e.number e.proof) (λ e. proof_stays g a b grown e.number e.proof) t.proofs.items h.proofs;
  sides = All-weaker (λ e. HasSide a e.number e.formulas) (λ e. HasSide b e.number e.formulas) (λ e. grown e.number _) t.sides.items h.sides;
  ranks = ranks_stay a b grown t.ranks h.ranks;
  left = last_stays a b grown t.ranks.entries.items t.left h.left;
  right = last_stays a b grown t.ranks.entries.items t.right h.right;
}
