-- The rows with the tuple at the place come first, and then those without it.
use Rattle.std.proofs.Common.{◌≡◌, ◌<◌, ◌≤◌, [], ◌∷◌, ◌++◌, map, length, take, drop, get_or, option_map, sym, ap, ◌∙◌, arith}
use Rattle.std.specs.List.{cons_option}
use Rattle.std.proofs.lemmas.List.{take_at, length-map, map-append, get_or-map}
use Rattle.numbered_terms.specs.Numbered.{tuple_at, tuples_at}
use Rattle.delta_table.specs.FoundRows.{few_row, found_row, row_at}
use Rattle.delta_table.proofs.FoundRows.{founds_end, founds_full, rows_joined}
use Rattle.delta_table.proofs.founds.+push_rows.Goals as goal

pub returns-then-at-tuples-clause-rows : goal.returns-then-at-tuples-clause-rows
returns-then-at-tuples-clause-rows t c =
    let a = c.args.terms.now in
    let chosen = c.args.chosen.now.items in
    let tuples = c.args.tuples.now in
    let before = map (row_at a) c.args.rows.now.items in
    let long = length-map tuples (tuple_at a) in
    let past : length (tuples_at a tuples) ≤ c.args.at = omega (arith, c.if-at-tuples.true) in
    c.in_ok-push_found.ensures.rows
    ∙ (ap (λ ns. before ++ cons_option (option_map (found_row c.args.places) (few_row c.args.width (tuples_at a ns))) []) c.deref.ensures.value
    ∙ ap (λ fs. before ++ fs) (sym (founds_end c.args.width (tuples_at a chosen) c.args.places c.args.at (tuples_at a tuples) past)))

pub returns-then-len-width-clause-rows : goal.returns-then-len-width-clause-rows
returns-then-len-width-clause-rows t c =
    let a = c.args.terms.now in
    let chosen = c.args.chosen.now.items in
    let tuples = c.args.tuples.now in
    let before = map (row_at a) c.args.rows.now.items in
    let long = length-map chosen (tuple_at a) in
    let full : length (tuples_at a chosen) ≡ c.args.width = omega (arith, c.if-len-width.true, c.len.ensures, c.args.chosen.now.ok.0) in
    c.in_ok-push_found-2.ensures.rows
    ∙ (ap (λ ns. before ++ cons_option (option_map (found_row c.args.places) (few_row c.args.width (tuples_at a ns))) []) c.deref-then-len-width.ensures.value
    ∙ ap (λ fs. before ++ fs) (sym (founds_full c.args.width (tuples_at a chosen) c.args.places c.args.at (drop c.args.at (tuples_at a tuples)) full)))

pub returns-clause-rows : goal.returns-clause-rows
returns-clause-rows t c =
    let a = c.args.terms.now in
    let chosen = c.args.chosen.now.items in
    let tuples = c.args.tuples.now in
    let n = get_or tuples c.args.at 0 in
    let pushed : c.push.new.self.items ≡ chosen ++ n ∷ [] = c.in_ok-push.ensures.items in
    let cut : c.truncate.new.self.items ≡ chosen =
    c.truncate.ensures.items ∙ (ap (take c.len-count.result) (c.in_ok-push_rows.ensures.chosen ∙ pushed) ∙ take_at chosen (n ∷ []) c.len-count.result (omega (arith, c.len-count.ensures, c.args.chosen.now.ok.0))) in
    let long = length-map tuples (tuple_at a) in
    let low : c.args.at < length tuples = omega arith in
    rows_joined c.args.width (tuples_at a chosen) c.args.places c.args.at (tuples_at a tuples) (tuple_at a n) _ _ _ _ _ _ (omega arith)
    (ap (tuples_at a) pushed ∙ map-append (tuple_at a) chosen (n ∷ [])) (sym (get_or-map (tuple_at a) tuples c.args.at 0 (tuple_at a n) low))
    c.with_place-with_this.ensures (ap (tuples_at a) cut) c.in_ok-push_rows.ensures.rows c.in_ok-push_rows-2.ensures.rows
