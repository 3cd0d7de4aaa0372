-- The pairs that are kept are those that change a variable of the set.
use Rattle.std.proofs.Common.{◌≡◌, length, ap, ◌∙◌, subst}
use Rattle.arena_cells.specs.declared.key.Key.{Key}
use Rattle.arena_cells.specs.Meaning.{IsKeyAt}
use Rattle.arena.specs.Pairs.{keys_kept}
use Rattle.arena.specs.Bindings.{is_kept}
use Rattle.arena.proofs.BindingLaws.{none_changed, all_changed}
use Rattle.arena.proofs.arena.Arena.count_changes.Goals as goal

pub returns : goal.returns
returns c =
    let a = c.args.self.now in
    let vs = c.in-Map.variables in
    let ts = c.in-Map.terms in
    let ss = c.variable_numbers.result.now in
    let key = subst (λ (k : Key). IsKeyAt a c.args.map k) c.in-Map.is c.key.ensures in
    let count : c.count_needed-changes.result ≡ length (keys_kept (is_kept ss) vs ts) = c.count_needed-changes.ensures ∙ λ i. length (keys_kept (is_kept ss) (c.as_slice-keys.ensures i) (c.as_slice-values.ensures i)) in
    record {
      none = none_changed a c.known.ensures c.args.map c.args.set vs ts ss key c.variable_numbers.ensures.rising c.variable_numbers.ensures.shown c.count_needed-changes.result count;
      all = λ same. all_changed a c.known.ensures c.args.map c.args.set vs ts ss key c.variable_numbers.ensures.rising c.variable_numbers.ensures.shown c.count_needed-changes.result count (same ∙ ap length c.as_slice-keys.ensures);
    }
