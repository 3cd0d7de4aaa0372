-- Worked examples. With the clauses `p | q` and `~p`, just q true is a model. The clauses `p` and `~p` have the refutation that takes both and
-- resolves them on p.
use Rattle.std.proofs.Common.{◌≡◌, ◌||◌, true, [], ◌∷◌, List, refl, sym, ap, ◌∙◌}
use Rattle.std.specs.Prelude.{Ok}
use Rattle.std.specs.List.{list_all}
use Rattle.std.specs.Ordering.{eq_by_cmp}
use Rattle.std.proofs.lemmas.Bool.{both_ways, and_from, true_from_ne_false}
use Rattle.fol.specs.Syntax.{plain, Formula, nil, atom}
use Rattle.fol.specs.Order.{formula_cmp}
use Rattle.fol.specs.OrderLaws.{formula_total}
use Rattle.finite.specs.Finite as set
use Rattle.finite.proofs.Finite.{has-empty, has-adds}
use Rattle.lk_rules.specs.declared.sequent.Sequent.{Sequent}
use Rattle.lk_rules.specs.declared.sequent.Side.TheVariants.{Left, Right}
use Rattle.lk_rules.specs.Formulas.{FormulaSet}
use Rattle.lk_rules.specs.Sequents.{empty, adds_to}
use Rattle.proof_trees.proofs.Booleans.{or_first, or_second, either}
use Rattle.refutations.specs.Refutations.{resolvent}
use Rattle.proof_trees.proofs.FormulaSets.{equal, added}
use Rattle.ground_laws.specs.declared.step.SatStep.TheVariants.{Input, Resolve}
use Rattle.ground_laws.specs.Models.{satisfies, occurs, IsModel}
use Rattle.ground_laws.specs.Steps.{IsRefutation}
use Rattle.ground_laws.specs.Deciding.{IsKnown, inputs, with_step}
use Rattle.ground_laws.proofs.Clauses.{false_of, resolvent_false, false_at_start}
use Rattle.ground_laws.proofs.Derived.{known_step, inputs_known, cut}
use Rattle.ground_laws.proofs.Decided.{resolves}

abbrev pub p : Formula
p = atom (plain (record { name = 112 ∷ []; arity = 0 })) nil

abbrev q : Formula
q = atom (plain (record { name = 113 ∷ []; arity = 0 })) nil

-- a model

abbrev only_q : FormulaSet
only_q = set.adds set.empty q

abbrev p_or_q : Sequent
p_or_q = adds_to (adds_to empty Right p) Right q

abbrev pub not_p : Sequent
not_p = adds_to empty Left p

q_alone : (f : Formula) → set.has only_q f ≡ true → f ≡ q
q_alone f m = either (eq_by_cmp formula_cmp f q) (set.has (set.empty {R = formula_cmp}) f)
    (equal f q)
    (λ none. absurd (both_ways (set.has (set.empty {R = formula_cmp}) f) (has-empty formula_cmp f) none))
    (sym (has-adds formula_total set.empty q f) ∙ m)

p_or_q_holds : satisfies only_q p_or_q ≡ true
p_or_q_holds = true_from_ne_false (satisfies only_q p_or_q) (λ e. both_ways (set.has only_q q) ((false_of only_q p_or_q e).right q (added (set.adds set.empty p) q)) (added set.empty q))

not_p_holds : satisfies only_q not_p ≡ true
not_p_holds = true_from_ne_false (satisfies only_q not_p) (λ e.
    both_ways (set.has only_q p) (has-adds formula_total set.empty q p ∙ has-empty formula_cmp p) ((false_of only_q not_p e).left p (added set.empty p)))

q_occurs : occurs (p_or_q ∷ not_p ∷ []) q ≡ true
q_occurs =
    or_first (set.has p_or_q.left q || set.has p_or_q.right q) (occurs (not_p ∷ []) q) (or_second (set.has p_or_q.left q) (set.has p_or_q.right q) (added (set.adds set.empty p) q))

pub q_is_model : IsModel only_q (p_or_q ∷ not_p ∷ [])
q_is_model = record {
  own = λ f m. ap (occurs (p_or_q ∷ not_p ∷ [])) (q_alone f m) ∙ q_occurs;
  satisfied = and_from (satisfies only_q p_or_q) (list_all (satisfies only_q) (not_p ∷ [])) p_or_q_holds (and_from (satisfies only_q not_p) true not_p_holds refl);
}

-- a refutation

abbrev pub is_p : Sequent
is_p = adds_to empty Right p

abbrev pub both : List Sequent
both = is_p ∷ not_p ∷ []

nothing_left : resolvent is_p not_p p ≡ empty
nothing_left = false_at_start (resolvent is_p not_p p) (resolvent_false empty p is_p not_p (record { left = λ f m. m; right = λ f m. m }) (record { left = λ f m. m; right = λ f m. m }))

known : IsKnown both (with_step (inputs both) (Resolve 0 1 p) empty)
known = known_step both (inputs both) (Resolve 0 1 p) empty (inputs_known both) (resolves both both 0 1 p is_p not_p refl refl (added set.empty p) (added set.empty p) ∙ ap Ok nothing_left)

pub p_and_not_p : IsRefutation both (Input 0 ∷ Input 1 ∷ Resolve 0 1 p ∷ [])
p_and_not_p = cut both (with_step (inputs both) (Resolve 0 1 p) empty) 2 known refl
