-- What the plan of a step covers, for each kind of step; that it stays right in a larger arena, and with one step more.
use Rattle.std.proofs.Common.{◌≡◌, ℕ, ◌<◌, true, false, ◌||◌, List, [], ◌∷◌, ◌++◌, inl, inr, length, get_or, sym, ap, subst, ◌∙◌, arith}
use Rattle.std.specs.Prelude.{Option, Some, slice_get, IfSome, Result, Ok, Err, IfOk}
use Rattle.std.specs.FinMap as fin
use Rattle.std.specs.List.{All, list_any}
use Rattle.std.specs.Ordering.{eq_by_cmp}
use Rattle.std.proofs.lemmas.Option.{slice_get-get_or}
use Rattle.fol.specs.declared.symbols.Var.{Var}
use Rattle.fol.specs.Syntax.{Term, free, Formula}
use Rattle.fol.specs.Order.{var_cmp}
use Rattle.fol.specs.OrderLaws.{var_total}
use Rattle.finite.specs.Finite as set
use Rattle.free_variables.specs.Sets.{VarSet}
use Rattle.free_variables.specs.Union.{union_of}
use Rattle.free_variables.specs.Occurrence.{is_free_in, is_free_in_term, vars_term, vars_formula}
use Rattle.free_variables.proofs.OccurrenceLaws.{free_var_members, term_var_members}
use Rattle.substitution.specs.Image.{image_term}
use Rattle.substitution.specs.Maps.{Map}
use Rattle.substitution.proofs.ImageLaws.{same_var}
use Rattle.lk_rules.specs.Sequents.{is_free_in_sequent, vars_sequent, union_sequent}
use Rattle.lk_rules.proofs.SequentVariables.{sequent_var_members}
use Rattle.proof_trees.specs.Trees.{Tree}
use Rattle.proof_trees.specs.FreeVariables.{is_free_in_tree}
use Rattle.proof_trees.proofs.Booleans.{or_first, or_second, either}
use Rattle.arena_cells.specs.Items.{Item, sequent}
use Rattle.arena_cells.specs.Standing.{Extends, HasFormula, HasSequent, HasMap, HasVariables, sequent_at, variables_at, IsSequentAt, AreVariablesAt}
use Rattle.arena_cells.proofs.Staying.{is_sequent, are_variables}
use Rattle.arena_cells.proofs.Facts as facts
use Rattle.arena_cells.proofs.Reading.{some_same, get_split}
use Rattle.arena.proofs.Members.{has-union}
use Rattle.refutations.specs.declared.clause.Clause.{Clause}
use Rattle.refutations.specs.declared.step.ResStep.{ResStep}
use Rattle.refutations.specs.declared.step.ResStep.TheVariants.{Input, Subst, Resolve}
use Rattle.refutations.specs.Clauses.{IsClauseOf, closures}
use Rattle.refutations.specs.Refutations.{Derived, resolvent}
use Rattle.refutations.proofs.Derivations.{found_in}
use Rattle.arena_refutations.specs.declared.planning.Planned.{Planned}
use Rattle.arena_refutations.specs.Importing.{IsRefuted}
use Rattle.image_laws.specs.Steps.{derived_in, all_derived, AreDerived}
use Rattle.arena_refutations.specs.Planning.{HasNamed, IsPlanned, ArePlanned}
use Rattle.image_laws.specs.Rigid.{IsRigid}
use Rattle.arena_refutations.proofs.ClauseLaws.{found, earlier}
use Rattle.image_laws.proofs.StepLaws.{FromInput, FromImage, FromBoth, IsFrom, IsReached, reached}
use Rattle.arena_refutations.proofs.Refuted.{refuted_many}
use Rattle.image_laws.proofs.RigidTrees.{free_in-sub}
use Rattle.image_laws.proofs.InputImages.{from_node, nothing, free-union_sequent, shut_closures, input-free}

-- two facts of one answer
pub if_both : {X E : Type 0} (r : Result X E) (P Q : X → Type 0) → IfOk r P → IfOk r Q → IfOk r (λ x. P x × Q x)
if_both (Ok x) P Q g h = (g, h)
if_both (Err e) P Q g h = tt

-- members of a union

in_first : (s t : VarSet) (v : Var) → set.has s v ≡ true → set.has (union_of s t) v ≡ true
in_first s t v h = has-union var_total s t v ∙ or_first (set.has s v) (set.has t v) h

in_second : (s t : VarSet) (v : Var) → set.has t v ≡ true → set.has (union_of s t) v ≡ true
in_second s t v h = has-union var_total s t v ∙ or_second (set.has s v) (set.has t v) h

-- the variables of one image more
pub image_more : (m : Var → Option Term) (x : Var) (xs : List Var) (others : VarSet) (v w : Var)
    → (list_any (eq_by_cmp var_cmp w) xs ≡ true → is_free_in_term v (image_term m (free w)) ≡ true → set.has others v ≡ true)
    → list_any (eq_by_cmp var_cmp w) (x ∷ xs) ≡ true → is_free_in_term v (image_term m (free w)) ≡ true
    → set.has (union_of others (vars_term (image_term m (free x)) set.empty)) v ≡ true
image_more m x xs others v w covered member h =
    either (eq_by_cmp var_cmp w x) (list_any (eq_by_cmp var_cmp w) xs)
    (λ tie. in_second others _ v (term_var_members (image_term m (free x)) v ∙ ap (λ y. is_free_in_term v (image_term m (free y))) (sym (same_var w x tie)) ∙ h))
    (λ e. in_first others _ v (covered e h))
    member

-- what stands stays in a larger arena

named_stays : (a b : List Item) → Extends a b → (n : ℕ) (step : ResStep) → HasNamed a n step → HasNamed b n step
named_stays a b grown n (Input i) h = tt
named_stays a b grown n (Subst k m) h = grown n _ h
named_stays a b grown n (Resolve p q f) h = grown n _ h

module _ (a b : List Item) (grown : Extends a b) where
  step_stays : (step : ResStep) (d : Derived) (p : Planned) → IsPlanned a step d p → IsPlanned b step d p
  step_stays step d p h = record {
    clause = grown p.clause _ h.clause;
    variables = facts.variables_there b p.set _ (grown p.set _ h.variables);
    covers = λ v free. ap (λ s. set.has s v) (are_variables b p.set _ (grown p.set _ h.variables)) ∙ h.covers v free;
    named = named_stays a b grown p.named step h.named;
  }

  pub planned_stays : (cs : List Clause) (steps : List ResStep) (ps : List Planned) → ArePlanned a cs steps ps → ArePlanned b cs steps ps
  planned_stays cs steps ps h = record { each = λ k step d p step_at at planned_at. step_stays step d p (h.each k step d p step_at at planned_at) }

  -- with the step that is next
  pub planned_more : (cs : List Clause) (steps : List ResStep) (ps : List Planned) (place : ℕ) (p : Planned) → length ps ≡ place → ArePlanned a cs steps ps
      → ((step : ResStep) (d : Derived) → slice_get steps place ≡ Some step → slice_get (all_derived cs steps) place ≡ Some d → IsPlanned b step d p) → ArePlanned b cs steps (ps ++ p ∷ [])
  planned_more cs steps ps place p many h new = record {
    each = λ k step d q step_at at planned_at. elim (get_split ps p q k planned_at) [
      | inl old ↦ step_stays step d q (h.each k step d q step_at at old)
      | inr last ↦
          let here : k ≡ place = last.0 ∙ many in
          subst (IsPlanned b step d) last.1 (new step d (ap (slice_get steps) (sym here) ∙ step_at) (ap (slice_get (all_derived cs steps)) (sym here) ∙ at))
    ];
  }

-- the kinds of steps

-- the set at the number has the free variables of the tree
pub record Covers (a : List Item) (n : ℕ) (t : Tree) : Type 0 where
  pub there : AreVariablesAt a n
  pub each : (v : Var) → is_free_in_tree v t ≡ true → set.has (variables_at a n) v ≡ true

module _ (a b : List Item) (grown : Extends a b) (cs : List Clause) (clauses : All IsClauseOf cs) (d : Derived) (n : ℕ) (clause : HasSequent a n d.clause) (p : Planned) (same : p.clause ≡ n) where
  there : HasSequent b p.clause d.clause
  there = subst (λ (k : ℕ). HasSequent b k d.clause) (sym same) (grown n _ clause)

  abbrev own : VarSet
  own = vars_sequent (sequent_at a n)

  has-own : (v : Var) → is_free_in_sequent v d.clause ≡ true → set.has own v ≡ true
  has-own v h = sequent_var_members (sequent_at a n) v ∙ ap (is_free_in_sequent v) (is_sequent a n d.clause clause) ∙ h

  -- an input clause
  pub input_planned : (i : ℕ) → FromInput cs (closures cs) i d → HasVariables b p.set (vars_sequent (sequent_at a n)) → IsPlanned b (Input i) d p
  input_planned i from shown = record {
    clause = there;
    variables = facts.variables_there b p.set _ shown;
    covers = λ v free.
        ap (λ s. set.has s v) (are_variables b p.set _ shown)
        ∙ has-own v (subst (λ (e : Derived). is_free_in_tree v e.tree ≡ true → is_free_in_sequent v e.clause ≡ true) (sym from.is) (input-free cs clauses i from.clause from.at v) free);
    named = tt;
  }

  -- an image: its variables are those of the terms that the map gives to variables of the source
  pub image_planned : (ds : List Derived) (place k : ℕ) (m : Map) (from : FromImage ds place k m d) → IsRigid from.from.tree → (source : ℕ) → Covers a source from.from.tree → AreVariablesAt b p.set
      → ((v w : Var) → set.has (variables_at a source) w ≡ true → is_free_in_term v (image_term (fin.get m) (free w)) ≡ true → set.has (variables_at b p.set) v ≡ true) → HasMap b p.named m
      → IsPlanned b (Subst k m) d p
  image_planned ds place k m from rigid source covered variables has named = record {
    clause = there;
    variables = variables;
    covers = λ v free.
        let origin = free_in-sub from.from.tree m v rigid (ap (λ (e : Derived). is_free_in_tree v e.tree) (sym from.is) ∙ free) in
        has v origin.0 (covered.each origin.0 origin.1.0) origin.1.1;
    named = named;
  }

  -- a resolvent: a cut has the variables of both proofs, of the atom and of the conclusion
  pub resolvent_planned : (ds : List Derived) (place i j : ℕ) (f : Formula) (from : FromBoth (closures cs) ds place i j f d) (q r : ℕ) → Covers a q from.first.tree → Covers a r from.second.tree
      → HasVariables b p.set (union_of (union_of (union_of (variables_at a q) (variables_at a r)) (vars_formula f set.empty)) (vars_sequent (sequent_at a n))) → HasFormula b p.named f
      → IsPlanned b (Resolve i j f) d p
  resolvent_planned ds place i j f from q r first second shown named = record {
    clause = there;
    variables = facts.variables_there b p.set _ shown;
    covers = λ v free.
        let t = from.first.tree in
        let u = from.second.tree in
        let both = union_of (variables_at a q) (variables_at a r) in
        let atoms = vars_formula f set.empty in
        let in_both : set.has both v ≡ true → set.has (union_of (union_of both atoms) own) v ≡ true = λ h. in_first (union_of both atoms) own v (in_first both atoms v h) in
        ap (λ s. set.has s v) (are_variables b p.set _ shown)
        ∙ from_node (is_free_in_sequent v (union_sequent (closures cs) (resolvent from.first.clause from.second.clause f))) (is_free_in v f) false (is_free_in_tree v t || (is_free_in_tree v u || false))
        (free-union_sequent v (closures cs) (resolvent from.first.clause from.second.clause f) (shut_closures cs clauses v)
        (λ h. in_second (union_of both atoms) own v (has-own v (ap (λ (e : Derived). is_free_in_sequent v e.clause) from.is ∙ h))))
        (λ h. in_first (union_of both atoms) own v (in_second both atoms v (free_var_members f v ∙ h)))
        nothing
        (either (is_free_in_tree v t) (is_free_in_tree v u || false)
        (λ h. in_both (in_first _ _ v (first.each v h)))
        (either (is_free_in_tree v u) false (λ h. in_both (in_second (variables_at a q) _ v (second.each v h))) nothing))
        (ap (λ (e : Derived). is_free_in_tree v e.tree) (sym from.is) ∙ free);
    named = named;
  }

-- the step at a place

module _ {cs : List Clause} {steps : List ResStep} (derived : AreDerived cs steps) (place : ℕ) (within : place < length steps) {step s : ResStep} (here : step ≡ get_or steps place step) (is : step ≡ s) where
  stands : slice_get steps place ≡ Some s
  stands = found steps place step within here ∙ ap Some is

  -- what it derives, from what is before it
  pub reached_now : IsReached cs (closures cs) (all_derived cs steps) place s
  reached_now = reached cs steps derived place s stands

  -- its clause stands at the number
  pub clause_there : (a : List Item) (n : ℕ) → ((d : Derived) → slice_get (all_derived cs steps) place ≡ Some d → HasSequent a n d.clause) → IsSequentAt a n
  clause_there a n clause = let r = reached_now in facts.sequent_there a n _ (clause r.derived r.at)

  -- it is planned where all that it can derive is
  pub planned_now : (a : List Item) (p : Planned) → ((d : Derived) → slice_get (all_derived cs steps) place ≡ Some d → IsFrom cs (closures cs) (all_derived cs steps) place s d → IsPlanned a s d p)
      → (t : ResStep) (d : Derived) → slice_get steps place ≡ Some t → slice_get (all_derived cs steps) place ≡ Some d → IsPlanned a t d p
  planned_now a p made t d t_at at =
      let r = reached_now in
      subst (λ (u : ResStep). IsPlanned a u d p) (some_same s t (sym stands ∙ t_at))
      (made d at (subst (IsFrom cs (closures cs) (all_derived cs steps) place s) (some_same r.derived d (sym r.at ∙ at)) r.from))

-- the set of an earlier step
pub covered : {a : List Item} {cs : List Clause} {steps : List ResStep} {ps : List Planned} → ArePlanned a cs steps ps → {place : ℕ} → place < length steps → length ps ≡ place
    → (k : ℕ) (d : Derived) → k < place → slice_get (all_derived cs steps) k ≡ Some d → (n : ℕ) → IfSome (slice_get ps k) (λ p. n ≡ p.set) → Covers a n d.tree
covered {a = a} {steps = steps} {ps = ps} planned within many k d before at n is =
    let p_at = slice_get-get_or ps k (record { clause = n; set = n; named = n }) (omega (arith, before, many)) in
    let h = planned.each k _ d _ (slice_get-get_or steps k (Input 0) (omega (arith, before, within))) at p_at in
    subst (λ (m : ℕ). Covers a m d.tree) (sym (subst (λ (o : Option Planned). IfSome o (λ p. n ≡ p.set)) p_at is)) (record { there = h.variables; each = h.covers })

-- the clause of a step stands at its number
pub clause_of : (a b : List Item) → Extends a b → (cs : List Clause) (steps : List ResStep) (ns : List ℕ) → IsRefuted a cs steps ns → (place : ℕ) → place < length steps
    → (d : Derived) → slice_get (all_derived cs steps) place ≡ Some d → HasSequent b (get_or ns place 0) d.clause
clause_of a b grown cs steps ns h place within d at =
    let n_at = slice_get-get_or ns place 0 (omega (arith, within, refuted_many cs steps a ns h)) in
    let e = earlier (sequent_at a) ns h.derived place _ h.clauses.same n_at in
    let same : e.derived ≡ d = some_same _ _ (sym e.at ∙ ap (λ r. slice_get (derived_in r) place) (sym h.each) ∙ at) in
    grown _ _ (found_in (IsSequentAt a) ns place _ h.clauses.there n_at ∙ ap (λ s. Some (sequent s)) (sym e.clause ∙ ap (λ (f : Derived). f.clause) same))
