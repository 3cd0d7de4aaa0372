-- The rows by numbers mean the rows of the items, and the keys have numbers of terms.
use Rattle.std.proofs.Common.{◌≤◌, ℕ, Bool, List, map, length, sym, ap, subst, ◌∙◌}
use Rattle.std.specs.List.{All, list_any}
use Rattle.numbered_terms.specs.Numbered.{tuples_at}
use Rattle.delta_table.specs.FoundRows.{founds, tables_of, AreTables, all_numbers}
use Rattle.delta_table.proofs.NumberRows.{few_numbers, tables_numbered}
use Rattle.delta_table.proofs.SetRows.{key_sets}
use Rattle.delta_table.proofs.tables.tabulate.Goals as goal

pub tables-requires-clause-few : goal.tables-requires-clause-few
tables-requires-clause-few g c κs within =
    let made = c.in_ok-cells.field-0 in
    subst (All (λ (ns : List ℕ). length ns ≤ 64)) (sym c.deref.ensures.value) (few_numbers made.cells made.tuples.items c.args.items.now c.in_ok-cells.ensures.tuples c.requires.few)

pub returns : goal.returns
returns g c =
    let made = c.in_ok-cells.field-0 in
    let a = made.cells in
    let rows = c.in_ok-rows.rows.items in
    let shown : AreTables made.terms rows (map (λ ns. founds c.args.width (tuples_at made.terms ns)) c.deref.result.now) = c.in_ok-rows.ensures in
    let tables : AreTables a rows (tables_of c.args.width c.args.items.now) =
    subst (AreTables a rows) (tables_numbered c.args.width a made.tuples.items c.args.items.now c.in_ok-cells.ensures.tuples)
    (subst (λ b. AreTables b rows (map (λ ns. founds c.args.width (tuples_at b ns)) made.tuples.items)) c.in_ok-cells.ensures.terms
    (subst (λ nss. AreTables made.terms rows (map (λ ns. founds c.args.width (tuples_at made.terms ns)) nss)) c.deref.ensures.value shown)) in
    let keys = λ (p : List ℕ → Bool). c.in_ok-keys.ensures p ∙ ap (λ rs. list_any p (all_numbers rs)) c.deref-2.ensures.value in
    record {
      distinct = c.known.ensures;
      rows = tables;
      keys = keys;
      sets = key_sets a c.in_ok-keys.keys rows keys tables.sets;
    }
