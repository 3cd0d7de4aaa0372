-- Wherever the steps of a refutation derive the empty clause from some clauses, some number of rounds reaches it.
use Rattle.std.proofs.Common.{◌≡◌, ℕ, suc, ◌+◌, true, false, List, map, subst, sym, ap, ◌∙◌}
use Rattle.std.specs.Prelude.{Contains, Some, slice_get, Ok}
use Rattle.std.specs.FinMap as fin
use Rattle.std.specs.List.{All}
use Rattle.std.specs.Ordering.{eq_by_cmp}
use Rattle.std.proofs.lemmas.Bool.{false≢true}
use Rattle.std.proofs.lemmas.List.Elements.{All-contains, All-map}
use Rattle.fol.specs.Syntax.{Formula, atom, top, bot, not, and, or, imp, all, ex}
use Rattle.fol.specs.Order.{formula_cmp}
use Rattle.fol.specs.OrderLaws.{formula_total}
use Rattle.fol.specs.Formed.{IsFormed}
use Rattle.finite.specs.Finite as set
use Rattle.finite.proofs.Finite.{has-adds, has-empty}
use Rattle.substitution.specs.Image.{IsFormedMap}
use Rattle.substitution.specs.Maps.{Map}
use Rattle.substitution.proofs.Booleans.{and_left, and_right}
use Rattle.lk_rules.specs.declared.sequent.Sequent.{Sequent}
use Rattle.lk_rules.specs.declared.sequent.Side.TheVariants.{Left, Right}
use Rattle.lk_rules.specs.Sequents.{empty, adds_to, IsSubsequent, image_sequent}
use Rattle.proof_trees.specs.FormulaSets.{is_atom}
use Rattle.proof_trees.specs.Trees.{Tree}
use Rattle.proof_trees.proofs.Booleans.{either}
use Rattle.proof_trees.proofs.FormulaSets.{equal, in_either}
use Rattle.refutations.specs.declared.clause.Clause.{Clause}
use Rattle.refutations.specs.declared.step.ResStep.{ResStep}
use Rattle.refutations.specs.Clauses.{is_clause, literals_of, IsClauseOf, closures}
use Rattle.refutations.specs.Refutations.{Derived, of_input, resolvent, refutation, AreFormedSteps}
use Rattle.refutations.specs.DerivedSteps.{image_of, resolved}
use Rattle.refutations.proofs.Derivations.{last_of_steps}
use Rattle.unify_laws.proofs.Images.{split}
use Rattle.clause_laws.specs.Subsumption.{IsClause}
use Rattle.clause_laws.specs.Rounds.{IsCovered, Level}
use Rattle.clause_laws.proofs.Subsuming.{subsumes_image, subsumes_larger}
use Rattle.clause_laws.proofs.Sequents.{left_of_first, right_of_first}
use Rattle.clause_laws.proofs.Atomic.{clause_image, clause_resolvent, of_sides}
use Rattle.clause_laws.proofs.Lifting.{apart_from}
use Rattle.clause_laws.proofs.Lists.{contains-map, all_contained, contains_slice_get}
use Rattle.clause_laws.proofs.Covering.{covered_member, covered_more, empty_covered, variant_member}
use Rattle.clause_laws.proofs.Derived.{of_resolution}

-- the literals of a clause are a sequent of atoms

none_in : {P : Type 0} (q : Formula) → set.has (set.empty {R = formula_cmp}) q ≡ true → P
none_in q e = absurd (false≢true (sym (has-empty formula_cmp q) ∙ e))

only_atom : (f : Formula) → is_atom f ≡ true → (q : Formula) → set.has (set.adds (set.empty {R = formula_cmp}) f) q ≡ true → is_atom q ≡ true
only_atom f is q e = either (eq_by_cmp formula_cmp q f) (set.has (set.empty {R = formula_cmp}) q) (λ same. ap is_atom (equal q f same) ∙ is) (none_in q) (sym (has-adds formula_total set.empty f q) ∙ e)

positive : (f : Formula) → is_atom f ≡ true → IsClause (adds_to empty Right f)
positive f is = of_sides (adds_to empty Right f) (λ q. none_in q) (only_atom f is)

literals_clause : (f : Formula) → is_clause f ≡ true → IsClause (literals_of f)
literals_clause (or f g) h =
    let one = literals_clause f (and_left (is_clause f) (is_clause g) h) in
    let two = literals_clause g (and_right (is_clause f) (is_clause g) h) in
    of_sides (literals_of (or f g))
    (λ q. in_either (literals_of f).left (literals_of g).left q (one Left q) (two Left q))
    (λ q. in_either (literals_of f).right (literals_of g).right q (one Right q) (two Right q))
literals_clause (not f) h = of_sides (adds_to empty Left f) (only_atom f h) (λ q. none_in q)
literals_clause bot h = of_sides empty (λ q. none_in q) (λ q. none_in q)
literals_clause (atom p ts) h = positive (atom p ts) h
literals_clause top h = cc
literals_clause (and f g) h = cc
literals_clause (imp f g) h = cc
literals_clause (all f) h = cc
literals_clause (ex f) h = cc

abbrev literals : Clause → Sequent
literals c = literals_of c.matrix

pub all_literals : (cs : List Clause) → All IsClauseOf cs → All IsClause (map literals cs)
all_literals cs h = All-map IsClause literals cs (all_contained (λ c. IsClause (literals c)) cs (λ c m. literals_clause c.matrix (All-contains IsClauseOf cs c h m).shape))

-- an atom that isn't there takes nothing away
whole_first : (p n : Sequent) (a : Formula) → set.has p.right a ≡ false → IsSubsequent p (resolvent p n a)
whole_first p n a out = record { left = λ q e. left_of_first p n a q e; right = λ q e. right_of_first p n a q e (apart_from p.right a q out e) }

module _ (cs : List Clause) (clauses : All IsClauseOf cs) where
  abbrev inputs : List Sequent
  inputs = map literals cs

  -- a clause that some number of rounds covers
  record IsReached (d : Derived) : Type 0 where
    pub clause : IsClause d.clause
    pub count : ℕ
    pub covered : IsCovered (Level inputs count) d.clause

  of_inputs : (i : ℕ) (c : Clause) → slice_get cs i ≡ Some c → IsReached (of_input (closures cs) c)
  of_inputs i c at =
      let m = contains_slice_get cs i c at in
      record {
        clause = literals_clause c.matrix (All-contains IsClauseOf cs c clauses m).shape;
        count = 0;
        covered = covered_member (Level inputs 0) (literals c) (variant_member (Contains inputs) (literals c) (contains-map literals cs c m));
      }

  of_images : (m : Map) (d : Derived) → IsFormedMap (fin.get m) → IsReached d → IsReached (image_of m d)
  of_images m d formed h = record {
    clause = clause_image (fin.get m) d.clause h.clause;
    count = h.count;
    covered = covered_more (Level inputs h.count) d.clause (image_sequent (fin.get m) d.clause) h.covered (subsumes_image (fin.get m) d.clause);
  }

  of_resolvents : (a : Formula) (p n : Derived) → IsFormed a → IsReached p → IsReached n → IsReached (resolved (closures cs) p n a)
  of_resolvents a p n formed one two =
      let clause = clause_resolvent p.clause n.clause a one.clause two.clause in
      split (set.has p.clause.right a)
      (λ there. record {
        clause = clause;
        count = suc (two.count + one.count);
        covered = of_resolution inputs (all_literals cs clauses) p.clause n.clause a (one.clause Right a there) one.count two.count one.covered two.covered;
      })
      (λ out. record {
        clause = clause;
        count = one.count;
        covered = covered_more (Level inputs one.count) p.clause (resolvent p.clause n.clause a) one.covered (subsumes_larger p.clause (resolvent p.clause n.clause a) (whole_first p.clause n.clause a out));
      })

  pub refuted : (steps : List ResStep) (t : Tree) → AreFormedSteps steps → refutation cs steps ≡ Ok t → (n : ℕ) × Level inputs n empty
  unfolding refutation
  refuted steps t formed is =
      let w = last_of_steps cs (closures cs) IsReached of_inputs of_images of_resolvents steps formed t is in
      (w.holds.count, empty_covered (Level inputs w.holds.count) (subst (IsCovered (Level inputs w.holds.count)) w.nothing w.holds.covered))
