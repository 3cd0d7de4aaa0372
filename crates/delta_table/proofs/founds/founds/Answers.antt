-- The rows of the next first tuple come next.
use Rattle.std.proofs.Common.{◌+◌, ◌++◌, [], map, drop, sym, ap, subst, ◌∙◌, arith, append_assoc}
use Rattle.std.specs.List.{All}
use Rattle.std.proofs.lemmas.List.{length-map, map-append}
use Rattle.std.proofs.lemmas.List.Elements.{All-append}
use Rattle.numbered_terms.specs.Numbered.{tuple_at, tuples_at, IsTermSet}
use Rattle.delta_table.specs.declared.founds.Found.{Found}
use Rattle.delta_table.specs.FoundRows.{founds_after, founds_from, row_at}
use Rattle.delta_table.proofs.FoundRows.{founds_split}
use Rattle.delta_table.proofs.founds.founds.Goals as goal

pub loop-at-preserved : goal.loop-at-preserved
loop-at-preserved c =
    let a = c.args.terms.now in
    let at = c.loop-at.at in
    let width = c.args.width in
    let tuples = tuples_at a c.args.tuples.now in
    let rows = c.loop-at.rows.items in
    let more = c.in_ok-more.more.items in
    let long = length-map c.args.tuples.now (tuple_at a) in
    let others = founds_after width [] 0 (at + 1) (drop (at + 1) tuples) in
    let split = founds_split width tuples at (omega arith) in
    let both = c.in_ok-append.ensures.items in
    record {
      so_far =
          (λ i. (ap (map (row_at a)) both ∙ map-append (row_at a) rows more) i ++ others)
          ∙ ((λ i. (map (row_at a) rows ++ c.in_ok-more.ensures.shown i) ++ others)
          ∙ (append_assoc (map (row_at a) rows) (founds_from width tuples at) others
          ∙ (ap (λ fs. map (row_at a) rows ++ fs) (sym split)
          ∙ c.loop-at.invariant.so_far)));
      sets =
          subst (All (λ (f : Found). IsTermSet a f.values)) (sym both)
          (All-append (λ (f : Found). IsTermSet a f.values) rows more c.loop-at.invariant.sets c.in_ok-more.ensures.sets);
    }
