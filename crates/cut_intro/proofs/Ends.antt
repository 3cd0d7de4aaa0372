-- The end sequent of a premise.
use Rattle.std.proofs.Common.{◌≡◌, ◌||◌, List, sym, ap, subst, ◌∙◌}
use Rattle.std.specs.List.{list_any}
use Rattle.std.specs.Ordering.{eq_by_cmp}
use Rattle.fol.specs.Syntax.{Formula}
use Rattle.fol.specs.Order.{formula_cmp}
use Rattle.fol.specs.OrderLaws.{formula_total}
use Rattle.fol.proofs.OrderTies.{formula_ties}
use Rattle.finite.specs.Finite as set
use Rattle.finite.proofs.Finite.{has-empty, has-listing, has-adds_each, same_members}
use Rattle.lk_rules.specs.declared.sequent.Sequent.{Sequent}
use Rattle.lk_rules.specs.declared.sequent.Side.{Side}
use Rattle.lk_rules.specs.declared.sequent.Side.TheVariants.{Left, Right}
use Rattle.lk_rules.specs.Formulas.{FormulaSet}
use Rattle.lk_rules.specs.Sequents.{empty, extended, union_sequent}

-- a set with the members of the set of a list has the formulas of the list
with_set : (s : FormulaSet) (fs : List Formula) → set.adds_each s (set.listing (set.adds_each (set.empty {R = formula_cmp}) fs)) ≡ set.adds_each s fs
with_set s fs =
    let t : FormulaSet = set.of_list fs in
    same_members formula_total formula_ties (set.adds_each s (set.listing t)) (set.adds_each s fs) (λ q.
    has-adds_each formula_total s (set.listing t) q
    ∙ (ap (λ b. set.has s q || b)
    (sym (has-listing t q) ∙ (has-adds_each formula_total set.empty fs q ∙ ap (λ b. b || list_any (eq_by_cmp formula_cmp q) fs) (has-empty formula_cmp q)))
    ∙ sym (has-adds_each formula_total s fs q)))

pub union_extended : (e a : Sequent) (more : Side → List Formula) → a ≡ extended empty more → union_sequent e a ≡ extended e more
union_extended e a more is =
    ap (union_sequent e) is
    ∙ λ i. record { left = with_set e.left (more Left) i; right = with_set e.right (more Right) i }
