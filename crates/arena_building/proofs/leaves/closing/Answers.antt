-- The rule by the leaves: an axiom, truth, falsity, or none.
use Rattle.std.proofs.Common.{ℕ, true, false, Option, Some, None, sym, ap, subst, ◌∙◌}
use Rattle.std.specs.List.{list_any}
use Rattle.arena_cells.specs.Standing.{formula_at}
use Rattle.arena_building.specs.Leaves.{is_truth_leaf, is_falsity_leaf, is_number_in, IsLeastAt}
use Rattle.arena_building.proofs.Closing.{common_there, found, closing_of}
use Rattle.arena_building.proofs.leaves.closing.Goals as goal

pub least-requires : goal.least-requires
least-requires c = common_there c.args.arena.now c.args.list.now c.known.ensures c.requires c.deref.result.now (λ n. ap (λ ns. is_number_in ns n) c.deref.ensures.value ∙ c.in_ok-common.ensures n)

pub returns-in-Some-clause-rule : goal.returns-in-Some-clause-rule
returns-in-Some-clause-rule c =
    let a = c.args.arena.now in
    let l = c.args.list.now in
    let cs = c.deref.result.now in
    let least = subst (λ (o : Option ℕ). IsLeastAt a cs o) c.in-Some.is c.least.ensures.least in
    let formula = found a l c.known.ensures c.requires cs (Some c.in-Some.formula) (λ n. ap (λ ns. is_number_in ns n) c.deref.ensures.value ∙ c.in_ok-common.ensures n) least in
    sym (closing_of l (Some (formula_at a c.in-Some.formula)) (list_any is_truth_leaf l) (list_any is_falsity_leaf l) formula (λ i. list_any is_truth_leaf l) (λ i. list_any is_falsity_leaf l))

pub returns-then-has_truth-clause-rule : goal.returns-then-has_truth-clause-rule
returns-then-has_truth-clause-rule c =
    let a = c.args.arena.now in
    let l = c.args.list.now in
    let cs = c.deref.result.now in
    let least = subst (λ (o : Option ℕ). IsLeastAt a cs o) c.in_default.is c.least.ensures.least in
    let none = found a l c.known.ensures c.requires cs None (λ n. ap (λ ns. is_number_in ns n) c.deref.ensures.value ∙ c.in_ok-common.ensures n) least in
    sym (closing_of l None true (list_any is_falsity_leaf l) none (sym c.has_truth.ensures ∙ c.if-has_truth.true) (λ i. list_any is_falsity_leaf l))

pub returns-then-has_falsity-clause-rule : goal.returns-then-has_falsity-clause-rule
returns-then-has_falsity-clause-rule c =
    let a = c.args.arena.now in
    let l = c.args.list.now in
    let cs = c.deref.result.now in
    let least = subst (λ (o : Option ℕ). IsLeastAt a cs o) c.in_default.is c.least.ensures.least in
    let none = found a l c.known.ensures c.requires cs None (λ n. ap (λ ns. is_number_in ns n) c.deref.ensures.value ∙ c.in_ok-common.ensures n) least in
    sym (closing_of l None false true none (sym c.has_truth.ensures ∙ c.if-has_truth.false) (sym c.has_falsity.ensures ∙ c.if-has_falsity.true))

pub returns-clause-rule : goal.returns-clause-rule
returns-clause-rule c =
    let a = c.args.arena.now in
    let l = c.args.list.now in
    let cs = c.deref.result.now in
    let least = subst (λ (o : Option ℕ). IsLeastAt a cs o) c.in_default.is c.least.ensures.least in
    let none = found a l c.known.ensures c.requires cs None (λ n. ap (λ ns. is_number_in ns n) c.deref.ensures.value ∙ c.in_ok-common.ensures n) least in
    sym (closing_of l None false false none (sym c.has_truth.ensures ∙ c.if-has_truth.false) (sym c.has_falsity.ensures ∙ c.if-has_falsity.false))
