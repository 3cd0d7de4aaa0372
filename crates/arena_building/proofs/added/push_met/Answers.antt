-- The number is appended where a leaf on the other side has it too.
use Rattle.std.proofs.Common.{◌≡◌, ℕ, true, false, List, ◌++◌, append-nil, Some, sym, ap, ◌∙◌}
use Rattle.std.specs.List.{list_any}
use Rattle.expansion_laws.specs.Expansions.{turn}
use Rattle.arena_building.specs.Leaves.{leaf_number, is_leaf_at}
use Rattle.arena_building.proofs.CommonNumbers.{met_of}
use Rattle.arena_building.proofs.added.push_met.Goals as goal

pub returns-in_ok-push : goal.returns-in_ok-push
returns-in_ok-push c =
    let q = c.args.placed.now in
    let l = c.args.list.now in
    let n = c.in-Some.number in
    let number : leaf_number q.placed.side q ≡ Some n = (λ i. leaf_number (sym c.side-side.ensures i) q) ∙ (sym c.leaf_on.ensures ∙ c.in-Some.is) in
    let met_there : list_any (is_leaf_at (turn q.placed.side) n) l ≡ true =
    (λ i. list_any (is_leaf_at ((ap turn (sym c.side-side.ensures) ∙ sym c.other.ensures) i) n) l) ∙ (sym c.has_leaf.ensures ∙ c.if-has_leaf.true) in
    c.in_ok-push.ensures.items ∙ ap (λ (ns : List ℕ). c.args.common.now.items ++ ns) (sym (met_of q l n true number met_there))

pub returns-else-has_leaf : goal.returns-else-has_leaf
returns-else-has_leaf c =
    let q = c.args.placed.now in
    let l = c.args.list.now in
    let n = c.in-Some.number in
    let number : leaf_number q.placed.side q ≡ Some n = (λ i. leaf_number (sym c.side-side.ensures i) q) ∙ (sym c.leaf_on.ensures ∙ c.in-Some.is) in
    let alone : list_any (is_leaf_at (turn q.placed.side) n) l ≡ false =
    (λ i. list_any (is_leaf_at ((ap turn (sym c.side-side.ensures) ∙ sym c.other.ensures) i) n) l) ∙ (sym c.has_leaf.ensures ∙ c.if-has_leaf.false) in
    sym (append-nil c.args.common.now.items) ∙ ap (λ (ns : List ℕ). c.args.common.now.items ++ ns) (sym (met_of q l n false number alone))
