-- The clauses that the steps of a refutation derive, by their numbers, and what the last of them decides.
use Rattle.std.proofs.Common.{◌≡◌, ℕ, ◌+◌, ◌-◌, ◌<◌, Bool, true, false, List, [], ◌∷◌, ◌++◌, map, drop, length, get_or, if◌then◌else◌, sym, ap, subst, ◌∙◌, arith}
use Rattle.std.specs.Prelude.{Some, None, slice_get, Result, Ok, Err}
use Rattle.std.specs.List.{All}
use Rattle.std.proofs.lemmas.List.{length-map, map-append}
use Rattle.std.proofs.lemmas.List.Elements.{All-weaker, All-push}
use Rattle.lk_rules.specs.Sequents.{empty, same_sequents}
use Rattle.proof_trees.specs.Trees.{Tree}
use Rattle.arena_cells.specs.Items.{Item}
use Rattle.arena_cells.specs.Standing.{Extends, HasSequent, sequent_at, IsSequentAt}
use Rattle.arena_cells.proofs.Staying.{same_each, is_sequent, sequent_stays, sequent_there}
use Rattle.arena_cells.proofs.Facts as facts
use Rattle.refutations.specs.declared.clause.Clause.{Clause}
use Rattle.refutations.specs.declared.step.ResStep.{ResStep}
use Rattle.refutations.specs.declared.step.ResCause.{ResCause}
use Rattle.refutations.specs.declared.step.ResCause.TheVariants.{NotEmpty}
use Rattle.refutations.specs.Clauses.{closures}
use Rattle.refutations.specs.Refutations.{Derived, derives, derives_all, concluded, last_of, refutation}
use Rattle.refutations.proofs.StepFaults.{as_many}
use Rattle.arena_refutations.specs.declared.faults.ImportFault.{ImportFault}
use Rattle.arena_refutations.specs.declared.faults.ImportFault.TheVariants as import_fault
use Rattle.arena_refutations.specs.Importing.{FindsClause, AreClausesAt, FindsClauses, IsRefuted, Refutes}
use Rattle.arena_refutations.proofs.ClauseLaws.{IsEarlier, earlier, no_earlier}
use Rattle.image_laws.proofs.StepLaws.{one_more}

module _ (a b : List Item) (grown : Extends a b) where
  each_there : (ns : List ℕ) → All (IsSequentAt a) ns → All (IsSequentAt b) ns
  each_there ns h = All-weaker (IsSequentAt a) (IsSequentAt b) (sequent_there a b grown) ns h

  each_stays : (ns : List ℕ) → All (IsSequentAt a) ns → map (sequent_at b) ns ≡ map (sequent_at a) ns
  each_stays ns h = same_each (sequent_at b) (sequent_at a) ns (λ k d l. sequent_stays a b grown _ (h k d l))

  pub clauses_stay : (ns : List ℕ) (ds : List Derived) → AreClausesAt a ns ds → AreClausesAt b ns ds
  clauses_stay ns ds h = record { there = each_there ns h.there; same = each_stays ns h.there ∙ h.same }

  clauses_more : (ns : List ℕ) (n : ℕ) (ds : List Derived) (d : Derived) → AreClausesAt a ns ds → HasSequent b n d.clause → AreClausesAt b (ns ++ n ∷ []) (ds ++ d ∷ [])
  clauses_more ns n ds d h s = record {
    there = All-push (IsSequentAt b) ns n (each_there ns h.there) (facts.sequent_there b n d.clause s);
    same = map-append (sequent_at b) ns (n ∷ []) ∙ (λ i. (each_stays ns h.there ∙ h.same) i ++ is_sequent b n d.clause s i ∷ []) ∙ sym (map-append (λ (e : Derived). e.clause) ds (d ∷ []));
  }

-- the clauses of the first steps stand at the numbers
pub record AreBegun (a : List Item) (cs : List Clause) (steps : List ResStep) (ns : List ℕ) (i : ℕ) : Type 0 where
  pub derived : List Derived
  pub clauses : AreClausesAt a ns derived
  pub value : derives_all cs (closures cs) derived i (drop i steps) ≡ derives_all cs (closures cs) [] 0 steps

module _ (a b : List Item) (grown : Extends a b) (cs : List Clause) (steps : List ResStep) (ns more : List ℕ) (i : ℕ) (step : ResStep) (n : ℕ)
    (within : i < length steps) (at : step ≡ get_or steps i step) (pushed : more ≡ ns ++ n ∷ []) (h : AreBegun a cs steps ns i)
  where
    begun_by : (r : Result Derived ResCause) → derives cs (closures cs) h.derived step ≡ r → FindsClause b (Ok n) r → AreBegun b cs steps more (i + 1)
    begun_by (Ok d) is s = record {
      derived = h.derived ++ d ∷ [];
      clauses = subst (λ (ms : List ℕ). AreClausesAt b ms (h.derived ++ d ∷ [])) (sym pushed) (clauses_more a b grown ns n h.derived d h.clauses s);
      value = one_more cs (closures cs) steps i step h.derived _ within at d is h.value;
    }
    begun_by (Err cause) is s = absurd s

    -- the clause of one step more
    pub begun_more : FindsClause b (Ok n) (derives cs (closures cs) h.derived step) → AreBegun b cs steps more (i + 1)
    begun_more s = begun_by (derives cs (closures cs) h.derived step) (λ i. derives cs (closures cs) h.derived step) s

module _ (cs : List Clause) (steps : List ResStep) where
  -- a faulty step
  pub faulty_step : {X : Type 0} (view : X → List ℕ) (a : List Item) (fault : ImportFault) → FindsClauses view a (Err fault) (derives_all cs (closures cs) [] 0 steps) → Refutes view a (Err fault) cs steps
  unfolding refutation
  faulty_step view a import_fault.Memory h = tt
  faulty_step view a (import_fault.Step i cause) h = ap (last_of (length steps)) h

  -- the clauses of all steps stand at the numbers
  pub record AreAll (a : List Item) (ns : List ℕ) : Type 0 where
    pub derived : List Derived
    pub each : derives_all cs (closures cs) [] 0 steps ≡ Ok derived
    pub clauses : AreClausesAt a ns derived

  all_by : {X : Type 0} (view : X → List ℕ) (a : List Item) (x : X) (r : Result (List Derived) (ℕ × ResCause)) → derives_all cs (closures cs) [] 0 steps ≡ r → FindsClauses view a (Ok x) r → AreAll a (view x)
  all_by view a x (Ok ds) is h = record { derived = ds; each = is; clauses = h }
  all_by view a x (Err fault) is h = absurd h

  pub all_of : {X : Type 0} (view : X → List ℕ) (a : List Item) (x : X) → FindsClauses view a (Ok x) (derives_all cs (closures cs) [] 0 steps) → AreAll a (view x)
  all_of view a x h = all_by view a x (derives_all cs (closures cs) [] 0 steps) (λ i. derives_all cs (closures cs) [] 0 steps) h

  module _ (a : List Item) (ns : List ℕ) (h : AreAll a ns) where
    pub as_many_numbers : length ns ≡ length steps
    as_many_numbers =
        omega (arith, as_many cs (closures cs) [] 0 steps h.derived h.each, length-map ns (sequent_at a), length-map h.derived (λ (d : Derived). d.clause), ap length h.clauses.same)

    by_last : refutation cs steps ≡ concluded (length steps) (slice_get h.derived (length steps - 1))
    unfolding refutation
    by_last = ap (last_of (length steps)) h.each

    module _ (seen : List ℕ) (same : seen ≡ ns) where
      place : length seen - 1 ≡ length steps - 1
      place = ap (λ n. n - 1) (ap length same ∙ as_many_numbers)

      -- no clause at all
      pub no_last : None ≡ slice_get seen (length seen - 1) → refutation cs steps ≡ Err (0, NotEmpty)
      no_last at =
          by_last ∙ ap (concluded (length steps)) (
          no_earlier (sequent_at a) ns h.derived (length steps - 1) h.clauses.same ((λ i. slice_get (sym same i) (sym place i)) ∙ sym at))

      module _ (n : ℕ) (at : Some n ≡ slice_get seen (length seen - 1)) (t : Bool) (tested : t ≡ same_sequents (sequent_at a n) empty) where
        last : IsEarlier h.derived (length steps - 1) (sequent_at a n)
        last = earlier (sequent_at a) ns h.derived (length steps - 1) n h.clauses.same ((λ i. slice_get (sym same i) (sym place i)) ∙ sym at)

        decided : refutation cs steps ≡ if◌then◌else◌ {A = Result Tree (ℕ × ResCause)} t (Ok last.derived.tree) (Err (length steps - 1, NotEmpty))
        decided =
            by_last ∙ ap (concluded (length steps)) last.at
            ∙ ap (λ c. if◌then◌else◌ {A = Result Tree (ℕ × ResCause)} c (Ok last.derived.tree) (Err (length steps - 1, NotEmpty))) (ap (λ s. same_sequents s empty) last.clause ∙ sym tested)

        -- an empty clause
        pub empty_last : t ≡ true → (b : List Item) → Extends a b → IsRefuted b cs steps ns
        empty_last is_empty b grown = record {
          derived = h.derived;
          each = h.each;
          clauses = clauses_stay a b grown ns h.derived h.clauses;
          last = last.derived;
          at = last.at;
          whole = decided ∙ ap (λ c. if◌then◌else◌ {A = Result Tree (ℕ × ResCause)} c (Ok last.derived.tree) (Err (length steps - 1, NotEmpty))) is_empty;
        }

        -- a clause that isn't empty
        pub other_last : t ≡ false → (m : ℕ) → m ≡ length ns - 1 → refutation cs steps ≡ Err (m, NotEmpty)
        other_last is_other m is =
            let step : length steps - 1 ≡ m = omega (arith, as_many_numbers, is) in
            decided ∙ ap (λ c. if◌then◌else◌ {A = Result Tree (ℕ × ResCause)} c (Ok last.derived.tree) (Err (length steps - 1, NotEmpty))) is_other ∙ ap (λ (k : ℕ). Err (k, NotEmpty)) step

  module _ (a : List Item) (ns : List ℕ) (h : IsRefuted a cs steps ns) where
    pub refuted_many : length ns ≡ length steps
    refuted_many = as_many_numbers a ns (record { derived = h.derived; each = h.each; clauses = h.clauses })

    pub refuted_stays : (b : List Item) → Extends a b → IsRefuted b cs steps ns
    refuted_stays b grown = record { derived = h.derived; each = h.each; clauses = clauses_stay a b grown ns h.derived h.clauses; last = h.last; at = h.at; whole = h.whole }
