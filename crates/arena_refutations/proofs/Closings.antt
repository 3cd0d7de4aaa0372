-- The closures of clauses: each stands at its number, they do so in a larger arena, and their sequent is well formed.
use Rattle.std.proofs.Common.{◌≡◌, ℕ, ◌<◌, true, List, [], map, length, get_or, Some, option_map, sym, ap, subst, ◌∙◌, arith}
use Rattle.std.specs.Prelude.{slice_get}
use Rattle.std.specs.List.{All, list_all}
use Rattle.std.proofs.lemmas.Option.{slice_get-get_or, slice_get-map}
use Rattle.std.proofs.lemmas.List.Elements.{All-map}
use Rattle.std.proofs.lemmas.List.Sums.{list_all-from_AllPass}
use Rattle.fol.specs.Syntax.{Formula}
use Rattle.fol.specs.Order.{formula_cmp}
use Rattle.fol.specs.OrderLaws.{formula_total}
use Rattle.fol.proofs.OrderTies.{formula_ties}
use Rattle.fol.specs.Formed.{is_formed, IsFormed}
use Rattle.finite.specs.Finite as set
use Rattle.finite.proofs.Finite.{has-listing}
use Rattle.free_variables.proofs.RisingLists.{list_passes}
use Rattle.lk_rules.proofs.Listings.{alike}
use Rattle.arena_cells.specs.Items.{Item, formula}
use Rattle.arena_cells.specs.Standing.{Extends, HasFormula, formula_at, IsFormulaAt}
use Rattle.arena_cells.proofs.Staying.{formula_there, formulas_stay}
use Rattle.arena.proofs.SetLaws.{has-list}
use Rattle.proof_trees.specs.Conclusions.{IsFormedSequent}
use Rattle.refutations.specs.declared.clause.Clause.{Clause}
use Rattle.refutations.specs.Clauses.{closure_of, closures}
use Rattle.arena_refutations.specs.declared.closing.Closed.{Closed}
use Rattle.arena_refutations.specs.Standing.{IsClosedAt}

pub closed_stays : (a b : List Item) (cs : List Clause) (c : Closed) → Extends a b → IsClosedAt a cs c → IsClosedAt b cs c
closed_stays a b cs c grown h = record {
  there = λ k d l. formula_there a b grown _ (h.there k d l);
  each = formulas_stay a b grown c.closures.items h.there ∙ h.each;
  end = grown c.end _ h.end;
}

formed_list : (fs : List Formula) → All IsFormed fs → list_all is_formed (set.listing (set.adds_each (set.empty {R = formula_cmp}) fs)) ≡ true
formed_list fs formed =
    list_passes formula_total is_formed (alike is_formed) (set.listing (set.adds_each (set.empty {R = formula_cmp}) fs)) fs (list_all-from_AllPass is_formed fs formed)
    (λ q. sym (has-listing (set.adds_each (set.empty {R = formula_cmp}) fs) q) ∙ has-list formula_total formula_ties fs q)

pub closures_formed : (cs : List Clause) → All (λ c. IsFormed (closure_of c)) cs → IsFormedSequent (closures cs)
closures_formed cs formed = record {
  left = formed_list (map closure_of cs) (All-map IsFormed closure_of cs formed);
  right = formed_list [] (λ k d l. absurd (omega arith));
}

-- the closure of an input clause stands at its number
pub closure_found : (a : List Item) (cs : List Clause) (c : Closed) (i n : ℕ) (x : Clause) → IsClosedAt a cs c → i < length c.closures.items → n ≡ get_or c.closures.items i n → slice_get cs i ≡ Some x → HasFormula a n (closure_of x)
closure_found a cs c i n x h within here at =
    let there : IsFormulaAt a n = subst (λ (m : ℕ). IsFormulaAt a m) (sym here) (h.there i n within) in
    let same : Some (formula_at a n) ≡ Some (closure_of x) =
    sym (slice_get-map (formula_at a) c.closures.items i ∙ ap (option_map (formula_at a)) (slice_get-get_or c.closures.items i n within ∙ ap Some (sym here)))
    ∙ ap (λ fs. slice_get fs i) h.each ∙ slice_get-map closure_of cs i ∙ ap (option_map closure_of) at in
    let formulas : formula_at a n ≡ closure_of x = cc in
    there ∙ ap (λ f. Some (formula f)) formulas
