-- The first part that is left has the rows of the next first tuple.
use Rattle.std.proofs.Common.{◌≡◌, ℕ, ◌+◌, ◌<◌, ◌++◌, List, [], map, length, drop, get_or, Result, IfOk, sym, ap, subst, ◌∙◌, arith, append_assoc, length-drop}
use Rattle.std.specs.List.{All}
use Rattle.std.specs.declared.alloc.AllocError.{AllocError}
use Rattle.std.proofs.lemmas.List.{length-map, map-append}
use Rattle.std.proofs.lemmas.List.Elements.{All-append}
use Rattle.numbered_terms.specs.Numbered.{tuple_at, tuples_at, IsTermSet}
use Rattle.delta_table.specs.declared.founds.Found.{Found}
use Rattle.delta_table.specs.FoundRows.{founds_after, founds_from, row_at, AreRows}
use Rattle.delta_table.proofs.FoundRows.{founds_split, next_part, later_parts}
use Rattle.delta_table.proofs.parts.founds_by_threads.Goals as goal

pub loop-at-preserved : goal.loop-at-preserved
loop-at-preserved g c =
    let a = c.args.terms.now in
    let at = c.loop-at._at in
    let width = c.args.width in
    let tuples = tuples_at a c.args.tuples.now in
    let rows = c.loop-at.rows.items in
    let parts = c.loop-at.parts.items in
    let IsPart : ℕ → List Found → Type 0 = λ k rs. AreRows a rs (founds_from width tuples k) in
    let long = length-map c.args.tuples.now (tuple_at a) in
    let others = founds_after width [] 0 (at + 1) (drop (at + 1) tuples) in
    let some : 0 < length parts = omega (arith, c.loop-at.invariant.left) in
    let part : IsPart at c.in_ok-part.part = next_part IsPart at parts c.in_ok-part.part some c.loop-at.invariant.each c.in_ok-part.ensures.value in
    let split = founds_split width tuples at (omega arith) in
    let left : c.remove.new.self.items ≡ drop 1 parts = c.in_ok-part.ensures.items in
    let shorter = length-drop 1 parts in
    let fewer = ap length left in
    let both : c.append.new.self.items ≡ rows ++ c.in_ok-part.part = c.in_ok-append.ensures.items ∙ ap (λ rs. rows ++ rs) c.into_vec-more.ensures in
    record {
      so_far =
          (λ i. (ap (map (row_at a)) both ∙ map-append (row_at a) rows c.in_ok-part.part) i ++ others)
          ∙ ((λ i. (map (row_at a) rows ++ part.shown i) ++ others)
          ∙ (append_assoc (map (row_at a) rows) (founds_from width tuples at) others
          ∙ (ap (λ fs. map (row_at a) rows ++ fs) (sym split)
          ∙ c.loop-at.invariant.so_far)));
      sets =
          subst (All (λ (f : Found). IsTermSet a f.values)) (sym both)
          (All-append (λ (f : Found). IsTermSet a f.values) rows c.in_ok-part.part c.loop-at.invariant.sets part.sets);
      left = omega (arith, c.loop-at.invariant.left);
      each =
          subst (λ ps. (k : ℕ) (d : Result (List Found) AllocError) → k < length ps → IfOk (get_or ps k d) (IsPart (at + 1 + k)))
          (sym left) (later_parts IsPart at parts c.loop-at.invariant.each);
    }
