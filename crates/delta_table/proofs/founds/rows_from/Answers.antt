-- The first tuple alone is chosen at first.
use Rattle.std.proofs.Common.{◌≡◌, ◌+◌, ◌^◌, ◌<◌, [], ◌∷◌, ◌++◌, map, length, take, drop, get_or, bit_or, sym, ap, ◌∙◌, arith}
use Rattle.std.proofs.lemmas.List.{drop_more, length-map, get_or-map}
use Rattle.numbered_terms.specs.Numbered.{tuple_at, tuples_at}
use Rattle.delta_table.specs.FoundRows.{founds_after, row_at}
use Rattle.delta_table.proofs.founds.rows_from.Goals as goal

pub returns : goal.returns
returns c =
    let a = c.args.terms.now in
    let at = c.args.at in
    let tuples = c.args.tuples.now in
    let n = get_or tuples at 0 in
    let long = length-map tuples (tuple_at a) in
    let within : at < length (tuples_at a tuples) = omega (arith, c.requires.within) in
    let rest = drop (at + 1) (tuples_at a tuples) in
    let here : get_or (tuples_at a tuples) at (tuple_at a n) ≡ tuple_at a n = get_or-map (tuple_at a) tuples at 0 (tuple_at a n) c.requires.within in
    let begins : drop at (tuples_at a tuples) ≡ tuple_at a n ∷ rest = drop_more (tuples_at a tuples) at (tuple_at a n) within ∙ ap (λ us. us ∷ rest) here in
    record {
      shown =
          c.in_ok-push_rows.ensures.rows
          ∙ (λ i. map (row_at a) (c.new-rows.ensures.items i) ++ founds_after c.args.width (tuples_at a (c.in_ok-push.ensures.items i)) (c.with_place-places.ensures i) (at + 1) rest)
          ∙ (λ i. founds_after c.args.width (tuples_at a (c.new-chosen.ensures.items i ++ n ∷ [])) (bit_or 0 (2 ^ at)) (at + 1) rest)
          ∙ (λ i. founds_after c.args.width (take 1 (sym begins i)) (bit_or 0 (2 ^ at)) (at + 1) rest);
      sets = c.in_ok-push_rows.ensures.sets;
    }
