-- What steps derive from clauses is covered by what some number of rounds reaches, so rounds reach the empty clause wherever steps derive it.
use Rattle.std.proofs.Common.{◌≡◌, ℕ, suc, ◌+◌, true, List, subst}
use Rattle.std.specs.Prelude.{Contains}
use Rattle.std.specs.List.{All}
use Rattle.std.specs.FinMap as fin
use Rattle.std.proofs.Math.Nat.{add_comm}
use Rattle.std.proofs.lemmas.List.Elements.{All-contains}
use Rattle.fol.specs.Syntax.{Formula}
use Rattle.lk_rules.specs.declared.sequent.Sequent.{Sequent}
use Rattle.lk_rules.specs.declared.sequent.Side.TheVariants.{Right}
use Rattle.lk_rules.specs.Sequents.{empty, image_sequent}
use Rattle.proof_trees.specs.FormulaSets.{is_atom}
use Rattle.refutations.specs.Refutations.{resolvent}
use Rattle.clause_laws.specs.Subsumption.{IsClause}
use Rattle.clause_laws.specs.Rounds.{IsCovered, WithResolvents, Level}
use Rattle.clause_laws.specs.Steps.{IsDerived, by_input, by_image, by_resolution}
use Rattle.clause_laws.proofs.Subsuming.{subsumes_image}
use Rattle.clause_laws.proofs.Atomic.{clause_image, clause_resolvent}
use Rattle.clause_laws.proofs.Covering.{covered_member, covers_its, covered_more, covered_by, empty_covered, resolvent_covered, variant_member, level_later}

module _ (cs : List Sequent) (clauses : All IsClause cs) where
  derived_clause : (c : Sequent) → IsDerived cs c → IsClause c
  derived_clause c (by_input d m) = All-contains IsClause cs d clauses m
  derived_clause c (by_image m d h) = clause_image (fin.get m) d (derived_clause d h)
  derived_clause c (by_resolution p n a one two on_right on_left) = clause_resolvent p n a (derived_clause p one) (derived_clause n two)

  pub covered_later : (n j : ℕ) (c : Sequent) → IsCovered (Level cs n) c → IsCovered (Level cs (j + n)) c
  covered_later n j = covered_by (Level cs (j + n)) (Level cs n) (covers_its (Level cs (j + n)) (Level cs n) (level_later cs n j))

  next_round : (n : ℕ) (c : Sequent) → IsCovered (WithResolvents (Level cs n)) c → IsCovered (Level cs (suc n)) c
  next_round n = covered_by (Level cs (suc n)) (WithResolvents (Level cs n)) (covers_its (Level cs (suc n)) (WithResolvents (Level cs n)) (variant_member (WithResolvents (Level cs n))))

  pub of_resolution : (p n : Sequent) (a : Formula) → is_atom a ≡ true → (j k : ℕ) → IsCovered (Level cs j) p → IsCovered (Level cs k) n → IsCovered (Level cs (suc (k + j))) (resolvent p n a)
  of_resolution p n a is j k one two =
      next_round (k + j) (resolvent p n a)
      (resolvent_covered (Level cs (k + j)) p n a is (covered_later j k p one) (subst (λ (i : ℕ). IsCovered (Level cs i) n) (add_comm j k) (covered_later k j n two)))

  pub derived_covered : (c : Sequent) → IsDerived cs c → (n : ℕ) × IsCovered (Level cs n) c
  derived_covered c (by_input d m) = (0, covered_member (Level cs 0) d (variant_member (Contains cs) d m))
  derived_covered c (by_image m d h) = let w = derived_covered d h in (w.0, covered_more (Level cs w.0) d (image_sequent (fin.get m) d) w.1 (subsumes_image (fin.get m) d))
  derived_covered c (by_resolution p n a one two on_right on_left) =
      let w = derived_covered p one in
      let z = derived_covered n two in
      (suc (z.0 + w.0), of_resolution p n a (derived_clause p one Right a on_right) w.0 z.0 w.1 z.1)

  pub empty_derived : IsDerived cs empty → (n : ℕ) × Level cs n empty
  empty_derived h = let w = derived_covered empty h in (w.0, empty_covered (Level cs w.0) w.1)
