-- The least key by its costs is the best set of values, and what is made of it is the candidate.
use Rattle.std.proofs.Common.{◌≡◌, ◌<◌, [], map, length, get_or, Some, IfSome, option_map, sym, ap, subst, ◌∙◌}
use Rattle.herbrand_laws.specs.Candidates.{best}
use Rattle.numbered_terms.specs.Numbered.{set_at}
use Rattle.delta_table.specs.Chosen.{cost_at, candidate_of}
use Rattle.delta_table.proofs.BestTable.{best_found, candidate_found}
use Rattle.delta_table.proofs.candidates.best.Goals as goal

pub returns-in_default : goal.returns-in_default
returns-in_default g c =
    let width = c.args.width in
    let items = c.items-items.result.now in
    let t = c.in_ok-table.table in
    let costs : c.in_ok-costs.costs.items ≡ map (λ k. cost_at k items t.rows.items) t.keys = c.in_ok-costs.ensures ∙ ap (λ rs. map (λ k. cost_at k items rs) t.keys) c.deref.ensures.value in
    let found = best_found width items c.known_items.ensures.known t c.in_ok-table.ensures c.as_slice-keys.result.now c.in_ok-costs.costs.items c.deref-2.result.now c.in_ok-at.field-0 c.as_slice-keys.ensures.sets c.deref-2.ensures.value costs
    c.in_ok-at.ensures.within c.in_ok-at.ensures.value in
    ap (λ o. option_map (candidate_of width items) (option_map (λ k. set_at t.cells (get_or t.keys k [])) o)) (sym c.in_default.is)
    ∙ (ap (option_map (candidate_of width items)) found
    ∙ λ i. option_map (candidate_of width (c.items-items.ensures i)) (best width (c.items-items.ensures i)))

pub returns : goal.returns
returns g c =
    let width = c.args.width in
    let items = c.items-items.result.now in
    let t = c.in_ok-table.table in
    let at = c.in-Some.at in
    let keys = c.as_slice-keys.result.now in
    let costs : c.in_ok-costs.costs.items ≡ map (λ k. cost_at k items t.rows.items) t.keys = c.in_ok-costs.ensures ∙ ap (λ rs. map (λ k. cost_at k items rs) t.keys) c.deref.ensures.value in
    let found = best_found width items c.known_items.ensures.known t c.in_ok-table.ensures keys c.in_ok-costs.costs.items c.deref-2.result.now c.in_ok-at.field-0 c.as_slice-keys.ensures.sets c.deref-2.ensures.value costs
    c.in_ok-at.ensures.within c.in_ok-at.ensures.value in
    let within : at < length keys = subst (λ o. IfSome o (λ k. k < length keys)) c.in-Some.is c.in_ok-at.ensures.within in
    let made = candidate_found width items c.known_items.ensures.known t c.in_ok-table.ensures keys c.in_ok-costs.costs.items at c.index-keys-at.result c.index.result.now c.as_slice-keys.ensures.sets costs within c.index-keys-at.is c.index.ensures in
    ap Some (c.in_ok-candidate.ensures ∙ made)
    ∙ (ap (λ o. option_map (candidate_of width items) (option_map (λ k. set_at t.cells (get_or t.keys k [])) o)) (sym c.in-Some.is)
    ∙ (ap (option_map (candidate_of width items)) found
    ∙ λ i. option_map (candidate_of width (c.items-items.ensures i)) (best width (c.items-items.ensures i))))
