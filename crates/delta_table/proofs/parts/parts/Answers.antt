-- Each place of the range is one of a tuple, and what is collected stands in the order of the range.
use Rattle.std.proofs.Common.{◌≡◌, ℕ, ◌<◌, ◌≤◌, ◌-◌, ◌∙◌, length, get_or, Result, IfOk, List, ap, subst, sym, arith}
use Rattle.std.specs.List.{All, range_with_len}
use Rattle.std.specs.declared.alloc.AllocError.{AllocError}
use Rattle.rayon.specs.Numbers.{nat_range}
use Rattle.rayon.proofs.ListFacts.{IfOk-then}
use Rattle.rayon.proofs.ToStd.{nat_range-All}
use Rattle.arena_cells.specs.Items.{Item as Thing}
use Rattle.arena_cells.specs.Standing.{IsTermAt}
use Rattle.numbered_terms.specs.Numbered.{tuples_at}
use Rattle.delta_table.specs.declared.founds.Found.{Found}
use Rattle.delta_table.specs.FoundRows.{founds_from, AreRows}
use Rattle.delta_table.proofs.Collected.{collected_length, collected_at}
use Rattle.delta_table.proofs.parts.parts.Goals as goal

pub collect-requires-clause-ready : goal.collect-requires-clause-ready
collect-requires-clause-ready g c κs =
    let ends = c.into_par_iter.ensures in
    let n = length c.args.tuples.now in
    let inside = nat_range-All (λ i. (i < n) × (n ≤ 64) × All (IsTermAt c.args.terms.now) c.args.tuples.now × (1 ≤ c.args.width) × (c.args.width ≤ 4)) 0 n (λ i low high. (high, c.requires.few, c.requires.tuples, c.requires.least_width, c.requires.most_width)) in
    rw (c.map.ensures.base, c.map.ensures.f, c.with_min_len.ensures.base, ends.0, ends.1) (λ lives k d lt. (inside k d lt, λ y p. tt))

abbrev IsPart : List Thing → ℕ → List ℕ → ℕ → Result (List Found) AllocError → Type 0
IsPart a width tuples k part = IfOk part (λ rows. AreRows a rows (founds_from width (tuples_at a tuples) k))

pub returns-clause-len : goal.returns-clause-len
returns-clause-len g c =
    let ends = c.into_par_iter.ensures in
    let tuples = c.args.tuples.now in
    let n = length tuples in
    let whole : n - 0 ≡ n = omega arith in
    IfOk-then c.collect.result _ _ c.collect.ensures (λ v h.
    let chain = rw (c.map.ensures.base, c.map.ensures.f, c.with_min_len.ensures.base) at h.1 in
    let places : chain.0 ≡ range_with_len 0 n = chain.1 ∙ (λ i. nat_range (ends.0 i) (ends.1 i)) ∙ ap (range_with_len 0) whole in
    let counted : length v.items ≡ n = ap length h.2 ∙ collected_length (IsPart c.args.terms.now c.args.width tuples) n chain.0 h.0 places chain.2 in
    omega (arith, v.ok.0))

pub returns-clause-each : goal.returns-clause-each
returns-clause-each g c =
    let ends = c.into_par_iter.ensures in
    let tuples = c.args.tuples.now in
    let n = length tuples in
    let part = IsPart c.args.terms.now c.args.width tuples in
    let whole : n - 0 ≡ n = omega arith in
    IfOk-then c.collect.result _ _ c.collect.ensures (λ v h.
    let chain = rw (c.map.ensures.base, c.map.ensures.f, c.with_min_len.ensures.base) at h.1 in
    let places : chain.0 ≡ range_with_len 0 n = chain.1 ∙ (λ i. nat_range (ends.0 i) (ends.1 i)) ∙ ap (range_with_len 0) whole in
    λ k d l. subst (λ ys. part k (get_or ys k d)) (sym h.2) (collected_at part n chain.0 h.0 places chain.2 k d l))
