-- The rule by the leaves: an axiom, truth, falsity, or none.
use Rattle.std.proofs.Common.{ℕ, true, false, List, Option, Some, None, sym, subst, ◌∙◌}
use Rattle.std.specs.List.{All, list_any}
use Rattle.arena_cells.specs.Standing.{IsFormulaAt}
use Rattle.arena_building.specs.Dividing.{items_of}
use Rattle.arena_building.specs.Leaves.{is_truth_leaf, is_falsity_leaf, met_by, IsLeastAt}
use Rattle.arena_building.proofs.AddedLeaves.{met_there, closing_with}
use Rattle.arena_building.proofs.dividing.Added.closing.Goals as goal

pub least-requires : goal.least-requires
least-requires c =
    subst (λ (ns : List ℕ). All (IsFormulaAt c.args.arena.now) ns) (sym (c.deref.ensures.value ∙ c.in_ok-common.ensures))
    (met_there c.args.arena.now c.args.list.now c.args.self.now c.known.ensures c.requires.numbers c.requires.added c.requires.open)

pub returns-in-Some-clause-rule : goal.returns-in-Some-clause-rule
returns-in-Some-clause-rule c = λ n.
    let a = c.args.arena.now in
    let l = c.args.list.now in
    let x = c.args.self.now in
    let at : IsLeastAt a (met_by x l) c.least.result = subst (λ (ns : List ℕ). IsLeastAt a ns c.least.result) (c.deref.ensures.value ∙ c.in_ok-common.ensures) c.least.ensures.least in
    let least = subst (λ (o : Option ℕ). IsLeastAt a (met_by x l) o) c.in-Some.is at in
    sym (closing_with a l x c.known.ensures c.requires.numbers c.requires.added c.requires.open n (Some c.in-Some.formula) (list_any is_truth_leaf (items_of x)) (list_any is_falsity_leaf (items_of x)) least
    (λ i. list_any is_truth_leaf (items_of x)) (λ i. list_any is_falsity_leaf (items_of x)))

pub returns-then-has_truth-clause-rule : goal.returns-then-has_truth-clause-rule
returns-then-has_truth-clause-rule c = λ n.
    let a = c.args.arena.now in
    let l = c.args.list.now in
    let x = c.args.self.now in
    let at : IsLeastAt a (met_by x l) c.least.result = subst (λ (ns : List ℕ). IsLeastAt a ns c.least.result) (c.deref.ensures.value ∙ c.in_ok-common.ensures) c.least.ensures.least in
    let least = subst (λ (o : Option ℕ). IsLeastAt a (met_by x l) o) c.in_default.is at in
    sym (closing_with a l x c.known.ensures c.requires.numbers c.requires.added c.requires.open n None true (list_any is_falsity_leaf (items_of x)) least
    (sym c.has_truth.ensures ∙ c.if-has_truth.true) (λ i. list_any is_falsity_leaf (items_of x)))

pub returns-then-has_falsity-clause-rule : goal.returns-then-has_falsity-clause-rule
returns-then-has_falsity-clause-rule c = λ n.
    let a = c.args.arena.now in
    let l = c.args.list.now in
    let x = c.args.self.now in
    let at : IsLeastAt a (met_by x l) c.least.result = subst (λ (ns : List ℕ). IsLeastAt a ns c.least.result) (c.deref.ensures.value ∙ c.in_ok-common.ensures) c.least.ensures.least in
    let least = subst (λ (o : Option ℕ). IsLeastAt a (met_by x l) o) c.in_default.is at in
    sym (closing_with a l x c.known.ensures c.requires.numbers c.requires.added c.requires.open n None false true least
    (sym c.has_truth.ensures ∙ c.if-has_truth.false) (sym c.has_falsity.ensures ∙ c.if-has_falsity.true))

pub returns-clause-rule : goal.returns-clause-rule
returns-clause-rule c = λ n.
    let a = c.args.arena.now in
    let l = c.args.list.now in
    let x = c.args.self.now in
    let at : IsLeastAt a (met_by x l) c.least.result = subst (λ (ns : List ℕ). IsLeastAt a ns c.least.result) (c.deref.ensures.value ∙ c.in_ok-common.ensures) c.least.ensures.least in
    let least = subst (λ (o : Option ℕ). IsLeastAt a (met_by x l) o) c.in_default.is at in
    sym (closing_with a l x c.known.ensures c.requires.numbers c.requires.added c.requires.open n None false false least
    (sym c.has_truth.ensures ∙ c.if-has_truth.false) (sym c.has_falsity.ensures ∙ c.if-has_falsity.false))
