-- The atoms of a model stand in the clauses.
use Rattle.std.proofs.Common.{◌≡◌, ℕ, true, ◌||◌, List, sym, ap, ◌∙◌}
use Rattle.std.specs.Prelude.{Some, option_map, slice_get}
use Rattle.std.specs.List.{list_all}
use Rattle.std.proofs.lemmas.Option.{slice_get-map}
use Rattle.std.proofs.lemmas.Map.Keys.{any_passes_from_place}
use Rattle.fol.specs.Syntax.{Formula}
use Rattle.fol.specs.Order.{formula_cmp}
use Rattle.fol.specs.OrderLaws.{formula_total}
use Rattle.finite.specs.Finite as set
use Rattle.finite.proofs.Finite.{has-listing, has-empty, has-adds_each}
use Rattle.lk_rules.specs.declared.sequent.Sequent.{Sequent}
use Rattle.proof_trees.proofs.Booleans.{or_second}
use Rattle.ground_laws.specs.Models.{occurs}
use Rattle.ground_laws.proofs.Clauses.{among}
use Rattle.ground_laws.proofs.Ground.{one_passes, all_pass}
use Rattle.sat_search.specs.declared.ground.Ground.{Ground}
use Rattle.sat_search.specs.Grounds.{clause_of, clauses_of}

-- the positive atoms of a clause of the list stand in the clauses
pub own_positive : (gs : List Ground) (i : ℕ) (g : Ground) → slice_get gs i ≡ Some g → list_all (occurs (clauses_of gs)) (set.listing g.positive) ≡ true
own_positive gs i g at =
    all_pass (occurs (clauses_of gs)) (set.listing g.positive)
    (λ f m. any_passes_from_place (λ (c : Sequent). set.has c.left f || set.has c.right f) (clauses_of gs) i (clause_of g) (slice_get-map clause_of gs i ∙ ap (option_map clause_of) at)
    (or_second (set.has g.negative f) (set.has g.positive f) (has-listing g.positive f ∙ m)))

-- so do those of a set of such atoms
pub own_members : (gs : List Ground) (fs : List Formula) → list_all (occurs (clauses_of gs)) fs ≡ true → (f : Formula) → set.has (set.adds_each (set.empty {R = formula_cmp}) fs) f ≡ true → occurs (clauses_of gs) f ≡ true
own_members gs fs all f m =
    one_passes (occurs (clauses_of gs)) fs f all
    (sym (ap (λ b. b || among fs f) (has-empty formula_cmp f)) ∙ sym (has-adds_each formula_total set.empty fs f) ∙ m)
