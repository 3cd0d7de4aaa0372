-- A worked example of the search: of the clauses `p` and `~p` it gives the refutation that takes both and resolves them on p, however atoms
-- are chosen. With p true, `~p` is false; with p false, `p` is.
use Rattle.std.proofs.Common.{◌≡◌, ℕ, true, false, if◌then◌else◌, [], ◌∷◌, ◌++◌, map, refl, sym, ap, ◌∙◌}
use Rattle.std.specs.Prelude.{Option, Some, None, option_map}
use Rattle.std.specs.Ordering.{eq_by_cmp}
use Rattle.std.specs.FinMap as fin
use Rattle.std.proofs.lemmas.Bool.{both_ways, false_from_ne_true}
use Rattle.fol.specs.Syntax.{Formula}
use Rattle.fol.specs.Order.{formula_cmp}
use Rattle.fol.specs.OrderLaws.{formula_total}
use Rattle.finite.specs.Finite as set
use Rattle.finite.proofs.Finite.{has-empty, of_rising-empty, listing-of_rising}
use Rattle.lk_rules.specs.declared.sequent.Sequent.{Sequent}
use Rattle.lk_rules.specs.declared.sequent.Side.TheVariants.{Left, Right}
use Rattle.lk_rules.specs.Sequents.{empty, adds_to, is_subsequent}
use Rattle.lk_rules.proofs.Subsequents.{subsequent_of, is_subsequent_of}
use Rattle.proof_trees.proofs.Booleans.{either}
use Rattle.refutations.specs.Refutations.{resolvent}
use Rattle.proof_trees.proofs.FormulaSets.{equal, added}
use Rattle.ground_laws.specs.declared.step.SatStep.TheVariants.{Input, Resolve}
use Rattle.ground_laws.specs.Deciding.{inputs, with_step, one_later, first_false, Choice, chosen, others_than, Outcome, conflict, after_false, after_true, branch, by_atoms, by_conflict, search_from, atoms_of, refuting, answer_of, decide}
use Rattle.ground_laws.proofs.Clauses.{among}
use Rattle.ground_laws.proofs.Unrolled.{decide-search, search-unrolled}
use Rattle.ground_laws.proofs.Examples.{p, is_p, not_p, both}

-- the atoms of the clauses

no_formula : set.listing {R = formula_cmp} set.empty ≡ []
no_formula = ap set.listing (sym (of_rising-empty formula_cmp)) ∙ listing-of_rising formula_cmp [] tt

no_entry : fin.entries {R = formula_cmp} (set.empty {R = formula_cmp}) ≡ []
no_entry = ap fin.entries (sym (of_rising-empty formula_cmp)) ∙ fin.entries-from_sorted formula_cmp [] tt

p_alone : set.listing {R = formula_cmp} (set.adds set.empty p) ≡ p ∷ []
p_alone = ap (map (λ (e : Formula × Unit {0}). e.0)) (fin.entries-insert formula_total set.empty p tt ∙ ap (fin.put formula_cmp p tt) no_entry)

p_twice : atoms_of both ≡ p ∷ p ∷ []
p_twice = λ i. (no_formula i ++ p_alone i) ++ ((p_alone i ++ no_formula i) ++ [])

p_chosen : (a : Formula) → chosen a p (p ∷ []) ≡ p
p_chosen a = elim (among (p ∷ p ∷ []) a) as (λ b. among (p ∷ p ∷ []) a ≡ b → (if b then a else p) ≡ p) [
  | true ↦ λ e. either (eq_by_cmp formula_cmp a p) (among (p ∷ []) a) (equal a p) (either (eq_by_cmp formula_cmp a p) false (equal a p) (λ no. cc)) e
  | false ↦ λ _. refl
] refl

-- which clauses are false

not_within : (r : Sequent) → set.has r.right p ≡ false → is_subsequent is_p r ≡ false
not_within r out = false_from_ne_true (is_subsequent is_p r) (λ e. both_ways (set.has r.right p) out ((subsequent_of is_p r e).right p (added set.empty p)))

neither : first_false empty both ≡ None
neither =
    let second = false_from_ne_true (is_subsequent not_p empty) (λ e. both_ways (set.has (set.empty {R = formula_cmp}) p) (has-empty formula_cmp p) ((subsequent_of not_p empty e).left p (added set.empty p))) in
    let first = not_within empty (has-empty formula_cmp p) in
    λ i. if first i then Some (0, is_p) else option_map one_later (if second i then Some (0, not_p) else None)

second_false : first_false (adds_to empty Left p) both ≡ Some (1, not_p)
second_false =
    let first = not_within (adds_to empty Left p) (has-empty formula_cmp p) in
    let second = is_subsequent_of not_p (adds_to empty Left p) (record { left = λ f m. m; right = λ f m. m }) in
    λ i. if first i then Some (0, is_p) else option_map one_later (if second i then Some (0, not_p) else None)

first_is_false : first_false (adds_to empty Right p) both ≡ Some (0, is_p)
first_is_false =
    let first = is_subsequent_of is_p (adds_to empty Right p) (record { left = λ f m. m; right = λ f m. m }) in
    ap (λ b. if◌then◌else◌ {A = Option (ℕ × Sequent)} b (Some (0, is_p)) (option_map one_later (first_false (adds_to empty Right p) (not_p ∷ [])))) first

-- the search
module _ (choose : Choice) where
  with_true : search_from choose (adds_to empty Left p) [] (inputs both) ≡ conflict (inputs both) 1 not_p
  with_true = search-unrolled choose (adds_to empty Left p) [] (inputs both) ∙ ap (λ o. by_conflict (inputs both) o (by_atoms (search_from choose) choose (adds_to empty Left p) [] (inputs both))) second_false

  with_false : search_from choose (adds_to empty Right p) [] (inputs both) ≡ conflict (inputs both) 0 is_p
  with_false = search-unrolled choose (adds_to empty Right p) [] (inputs both) ∙ ap (λ o. by_conflict (inputs both) o (by_atoms (search_from choose) choose (adds_to empty Right p) [] (inputs both))) first_is_false

  abbrev last : Outcome
  last = conflict (with_step (inputs both) (Resolve 0 1 p) (resolvent is_p not_p p)) 2 (resolvent is_p not_p p)

  resolved : after_true p (search_from choose (adds_to empty Right p) []) (conflict (inputs both) 1 not_p) ≡ last
  resolved =
      ap (λ b. if b then after_false p 1 not_p (search_from choose (adds_to empty Right p) [] (inputs both)) else conflict (inputs both) 1 not_p) (added set.empty p)
      ∙ ap (after_false p 1 not_p) with_false
      ∙ ap (λ b. if b then last else conflict (inputs both) 0 is_p) (added set.empty p)

  found : search_from choose empty (p ∷ p ∷ []) (inputs both) ≡ last
  found =
      search-unrolled choose empty (p ∷ p ∷ []) (inputs both)
      ∙ ap (λ o. by_conflict (inputs both) o (by_atoms (search_from choose) choose empty (p ∷ p ∷ []) (inputs both))) neither
      ∙ ap (λ a. branch (search_from choose) a empty (others_than a (p ∷ p ∷ [])) (inputs both)) (p_chosen (choose (inputs both) empty (p ∷ p ∷ [])))
      ∙ ap (after_true p (search_from choose (adds_to empty Right p) [])) with_true
      ∙ resolved

  pub p_and_not_p_refuted : decide choose both ≡ refuting (Input 0 ∷ Input 1 ∷ Resolve 0 1 p ∷ [])
  p_and_not_p_refuted = decide-search choose both ∙ ap (λ fs. answer_of (search_from choose empty fs (inputs both))) p_twice ∙ ap answer_of found
