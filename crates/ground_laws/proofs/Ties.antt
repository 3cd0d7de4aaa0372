-- Steps have the same faults as refutations of clauses, and what they derive are the clauses there. Where they have none, the proof in LK is
-- valid.
use Rattle.std.proofs.Common.{◌≡◌, ℕ, suc, ◌-◌, Bool, true, false, ◌||◌, ◌&&◌, if◌then◌else◌, List, [], ◌∷◌, ◌++◌, length, map, refl, sym, ap, ◌∙◌, arith}
use Rattle.std.specs.Prelude.{Option, Some, None, option_map, slice_get, Result, Ok, Err}
use Rattle.std.specs.List.{All, list_any}
use Rattle.std.proofs.lemmas.Bool.{and_parts}
use Rattle.std.proofs.lemmas.List.{map-append, length-map}
use Rattle.std.proofs.lemmas.List.Elements.{All-cons, All-head, All-tail}
use Rattle.std.proofs.lemmas.Option.{slice_get-map}
use Rattle.fol.specs.Syntax.{Formula}
use Rattle.fol.specs.Formed.{is_formed, IsFormed}
use Rattle.finite.specs.Finite as set
use Rattle.lk_rules.specs.declared.sequent.Sequent.{Sequent}
use Rattle.lk_rules.specs.Sequents.{empty, same_sequents}
use Rattle.proof_trees.specs.Trees.{Tree, concl, IsValid}
use Rattle.proof_trees.proofs.Booleans.{or_first, or_second, either}
use Rattle.refutations.specs.declared.clause.Clause.{Clause}
use Rattle.refutations.specs.declared.step.ResCause.{ResCause}
use Rattle.refutations.specs.declared.step.ResCause.TheVariants.{AtomMissing, NotEmpty}
use Rattle.refutations.specs.Clauses.{is_clause, literals_of, IsClauseOf, closure_of, closures}
use Rattle.refutations.specs.DerivedSteps.{resolved}
use Rattle.refutations.specs.Refutations as res
use Rattle.proof_trees.proofs.FormulaSets.{tied}
use Rattle.refutations.proofs.Refuting.{end_of_refutation, valid_refutation}
use Rattle.refutations.specs.Refutations.{Derived, of_input, resolvent, refutation, IsFormedStep, AreFormedSteps}
use Rattle.ground_laws.specs.declared.step.SatStep.{SatStep}
use Rattle.ground_laws.specs.declared.step.SatStep.TheVariants.{Input, Resolve}
use Rattle.ground_laws.specs.Models.{occurs}
use Rattle.ground_laws.specs.Steps.{referred, resolved_on, derives, and_on, derives_all, concluded, last_of, refuted, IsRefutation, res_step, sequents_of, without_proof, names}
use Rattle.ground_laws.proofs.Literals.{each_literal}
use Rattle.ground_laws.proofs.Reached.{own_atoms}

abbrev clause_alone : Result Derived ResCause → Result Sequent ResCause
clause_alone (Ok d) = Ok d.clause
clause_alone (Err cause) = Err cause

abbrev clauses_alone : Result (List Derived) (ℕ × ResCause) → Result (List Sequent) (ℕ × ResCause)
clauses_alone (Ok ds) = Ok (map (λ (d : Derived). d.clause) ds)
clauses_alone (Err fault) = Err fault

abbrev clause_of : Derived → Sequent
clause_of d = d.clause

module _ (cs : List Clause) (g : Sequent) where
  by_input : (o : Option Clause) → referred (option_map (λ (c : Clause). literals_of c.matrix) o) (λ c. Ok c) ≡ clause_alone (res.referred o (λ c. Ok (of_input g c)))
  by_input None = refl
  by_input (Some c) = refl

  by_test : (a : Formula) (p n : Derived) (b : Bool) → ◌≡◌ {A = Result Sequent ResCause} (if b then Ok (resolvent p.clause n.clause a) else Err AtomMissing) (clause_alone (if b then Ok (resolved g p n a) else Err AtomMissing))
  by_test a p n true = refl
  by_test a p n false = refl

  by_parents : (a : Formula) (o q : Option Derived) → referred (option_map clause_of o) (λ p. referred (option_map clause_of q) (λ n. resolved_on a p n)) ≡ clause_alone (res.referred o (λ p. res.referred q (λ n. res.of_resolution g p n a)))
  by_parents a None q = refl
  by_parents a (Some p) None = refl
  by_parents a (Some p) (Some n) = by_test a p n (set.has p.clause.right a && set.has n.clause.left a)

  same_step : (ds : List Derived) (step : SatStep) → derives (sequents_of cs) (map clause_of ds) step ≡ clause_alone (res.derives cs g ds (res_step step))
  same_step ds (Input i) = ap (λ o. referred o (λ c. Ok c)) (slice_get-map (λ (c : Clause). literals_of c.matrix) cs i) ∙ by_input (slice_get cs i)
  same_step ds (Resolve i j a) =
      (λ t. referred (slice_get-map clause_of ds i t) (λ p. referred (slice_get-map clause_of ds j t) (λ n. resolved_on a p n)))
      ∙ by_parents a (slice_get ds i) (slice_get ds j)

  same_more : (ds : List Derived) (i : ℕ) (rest : List SatStep)
      → ((d : Derived) → derives_all (sequents_of cs) (map clause_of (ds ++ d ∷ [])) (suc i) rest ≡ clauses_alone (res.derives_all cs g (ds ++ d ∷ []) (suc i) (map res_step rest)))
      → (r : Result Derived ResCause) → and_on i (clause_alone r) (λ c. derives_all (sequents_of cs) (map clause_of ds ++ c ∷ []) (suc i) rest) ≡ clauses_alone (res.and_on i r (λ d. res.derives_all cs g (ds ++ d ∷ []) (suc i) (map res_step rest)))
  same_more ds i rest later (Ok d) = ap (λ es. derives_all (sequents_of cs) es (suc i) rest) (sym (map-append clause_of ds (d ∷ []))) ∙ later d
  same_more ds i rest later (Err cause) = refl

  same_steps : (ds : List Derived) (i : ℕ) (steps : List SatStep) → derives_all (sequents_of cs) (map clause_of ds) i steps ≡ clauses_alone (res.derives_all cs g ds i (map res_step steps))
  same_steps ds i [] = refl
  same_steps ds i (step ∷ rest) =
      ap (λ r. and_on i r (λ c. derives_all (sequents_of cs) (map clause_of ds ++ c ∷ []) (suc i) rest)) (same_step ds step)
      ∙ same_more ds i rest (λ d. same_steps (ds ++ d ∷ []) (suc i) rest) (res.derives cs g ds (res_step step))

ended : (n : ℕ) (d : Derived) (b : Bool) → ◌≡◌ {A = Result (Unit {0}) (ℕ × ResCause)} (if b then Ok tt else Err (n - 1, NotEmpty)) (without_proof (if b then Ok d.tree else Err (n - 1, NotEmpty)))
ended n d true = refl
ended n d false = refl

same_end : (n : ℕ) (o : Option Derived) → concluded n (option_map clause_of o) ≡ without_proof (res.concluded n o)
same_end n None = refl
same_end n (Some d) = ended n d (same_sequents d.clause empty)

same_last : (n : ℕ) (r : Result (List Derived) (ℕ × ResCause)) → last_of n (clauses_alone r) ≡ without_proof (res.last_of n r)
same_last n (Ok ds) = ap (concluded n) (slice_get-map clause_of ds (n - 1)) ∙ same_end n (slice_get ds (n - 1))
same_last n (Err fault) = refl

-- the same faults
pub same_faults : (cs : List Clause) (steps : List SatStep) → refuted (sequents_of cs) steps ≡ without_proof (refutation cs (map res_step steps))
unfolding refuted refutation
same_faults cs steps =
    ap (last_of (length steps)) (same_steps cs (closures cs) [] 0 steps)
    ∙ same_last (length steps) (res.derives_all cs (closures cs) [] 0 (map res_step steps))
    ∙ ap (λ n. without_proof (res.last_of n (res.derives_all cs (closures cs) [] 0 (map res_step steps)))) (sym (length-map steps res_step))

-- the proof of a refutation is there, and valid

there : (r : Result Tree (ℕ × ResCause)) → without_proof r ≡ Ok tt → (t : Tree) × (r ≡ Ok t)
there (Ok t) is = (t, refl)
there (Err fault) is = cc

literal_formed : (f q : Formula) → is_clause f ≡ true → IsFormed f → (set.has (literals_of f).left q || set.has (literals_of f).right q) ≡ true → IsFormed q
literal_formed = each_literal (λ f. IsFormed f) (λ f. IsFormed f) (λ f g. and_parts (is_formed f) (is_formed g)) (λ f shape formed. formed) (λ f formed. formed)

atoms_formed : (cs : List Clause) → All IsClauseOf cs → (q : Formula) → occurs (sequents_of cs) q ≡ true → IsFormed q
atoms_formed [] h q one = cc
atoms_formed (c ∷ cs) h q one = either (set.has (literals_of c.matrix).left q || set.has (literals_of c.matrix).right q) (occurs (sequents_of cs) q)
    (let head = All-head IsClauseOf c cs h in literal_formed c.matrix q head.shape head.formed)
    (atoms_formed cs (All-tail IsClauseOf c cs h) q)
    one

step_formed : (step : SatStep) → ((f : Formula) → names f step ≡ true → IsFormed f) → IsFormedStep (res_step step)
step_formed (Input i) each = tt
step_formed (Resolve i j a) each = each a (tied a a refl)

steps_formed : (steps : List SatStep) → ((f : Formula) → list_any (names f) steps ≡ true → IsFormed f) → AreFormedSteps (map res_step steps)
steps_formed [] each = λ k d l. absurd (omega arith)
steps_formed (step ∷ rest) each =
    All-cons IsFormedStep (res_step step) (map res_step rest)
    (step_formed step (λ f e. each f (or_first (names f step) (list_any (names f) rest) e)))
    (steps_formed rest (λ f e. each f (or_second (names f step) (list_any (names f) rest) e)))

pub proof_of : (cs : List Clause) (steps : List SatStep) → All IsClauseOf cs → All (λ c. IsFormed (closure_of c)) cs → IsRefutation (sequents_of cs) steps
    → (t : Tree) × (refutation cs (map res_step steps) ≡ Ok t) × IsValid t × (concl t ≡ closures cs)
proof_of cs steps clauses closed is =
    let found = there (refutation cs (map res_step steps)) (sym (same_faults cs steps) ∙ is) in
    let formed = steps_formed steps (λ f e. atoms_formed cs clauses f (own_atoms (sequents_of cs) f steps is e)) in
    (found.0, found.1, valid_refutation cs (map res_step steps) found.0 clauses closed formed found.1, end_of_refutation cs (map res_step steps) found.0 clauses formed found.1)
