-- What the steps derive, each from what is derived before it.
use Rattle.std.proofs.Common.{◌≡◌, ℕ, zero, suc, ◌+◌, ◌<◌, Bool, true, false, ◌&&◌, if◌then◌else◌, List, [], ◌∷◌, ◌++◌, drop, length, get_or, drop-cons, add-one, append_assoc, append-nil, length-append, refl, sym, ap, subst, ◌∙◌, arith}
use Rattle.std.specs.Prelude.{Option, Some, None, slice_get, Result, Ok, Err}
use Rattle.std.specs.List.{All}
use Rattle.std.proofs.lemmas.Option.{slice_get-get_or, get_or_from_slice_get, slice_get_within}
use Rattle.std.proofs.lemmas.List.{get_or_append_left}
use Rattle.std.proofs.Math.Seq.{get_or-append_seam}
use Rattle.std.proofs.lemmas.List.Elements.{All-head, All-tail, All-push}
use Rattle.fol.specs.declared.symbols.Var.{Var}
use Rattle.fol.specs.Syntax.{Formula, free, atom, top, bot, not, and, or, imp, all, ex}
use Rattle.finite.specs.Finite as set
use Rattle.substitution.specs.Maps.{Map}
use Rattle.substitution.specs.Instance.{inst}
use Rattle.lk_rules.specs.declared.sequent.Sequent.{Sequent}
use Rattle.lk_rules.specs.declared.sequent.Side.TheVariants.{Left}
use Rattle.lk_rules.specs.Sequents.{adds_to, union_sequent}
use Rattle.refutations.specs.declared.clause.Clause.{Clause}
use Rattle.refutations.specs.declared.step.ResStep.{ResStep}
use Rattle.refutations.specs.declared.step.ResStep.TheVariants.{Input, Subst, Resolve}
use Rattle.refutations.specs.declared.step.ResCause.{ResCause}
use Rattle.refutations.specs.declared.step.ResCause.TheVariants.{AtomMissing}
use Rattle.refutations.specs.Clauses.{literals_of, closure_of, closures}
use Rattle.refutations.specs.DerivedSteps.{image_of, resolved}
use Rattle.refutations.specs.Refutations.{Derived, of_input, referred, of_resolution, derives, and_on, derives_all, IsFormedStep, AreFormedSteps, over_literals, body_of, over_instances}
use Rattle.refutations.proofs.Derivations.{found_in, of_step}
use Rattle.image_laws.specs.Steps.{derived_in, all_derived, AreDerived}
use Rattle.image_laws.specs.Rigid.{IsRigid}
use Rattle.image_laws.proofs.RigidTrees.{rigid-sub}

-- what stands in a list stands in a longer one
still_at : {X : Type 0} (xs ys : List X) (n : ℕ) (x : X) → slice_get xs n ≡ Some x → slice_get (xs ++ ys) n ≡ Some x
still_at xs ys n x h =
    let within : n < length xs = slice_get_within xs n x h in
    slice_get-get_or (xs ++ ys) n x (omega (arith, within, length-append xs ys)) ∙ ap Some (get_or_append_left xs ys x n within ∙ get_or_from_slice_get xs n x x h)

last_at : {X : Type 0} (xs : List X) (x : X) → slice_get (xs ++ x ∷ []) (length xs) ≡ Some x
last_at xs x = slice_get-get_or (xs ++ x ∷ []) (length xs) x (omega (arith, length-append xs (x ∷ []))) ∙ ap Some (get_or-append_seam xs x [] x)

-- the step at a number is the first of those from there on
here : {X : Type 0} (xs : List X) (i : ℕ) (x : X) → i < length xs → x ≡ get_or xs i x → drop i xs ≡ x ∷ drop (i + 1) xs
here xs i x within is = rw add-one (drop-cons xs i x within ∙ ap (λ y. y ∷ drop (suc i) xs) (sym is))

module _ (cs : List Clause) (g : Sequent) where
  module _ (steps : List ResStep) (i : ℕ) (step : ResStep) (ds : List Derived) (whole : Result (List Derived) (ℕ × ResCause)) (within : i < length steps) (at : step ≡ get_or steps i step) where
    -- the rest of the steps, by what this one derives
    by_outcome : (r : Result Derived ResCause) → derives cs g ds step ≡ r → derives_all cs g ds i (drop i steps) ≡ whole → and_on i r (λ d. derives_all cs g (ds ++ d ∷ []) (suc i) (drop (i + 1) steps)) ≡ whole
    by_outcome r is so_far =
        sym (ap (λ q. and_on i q (λ d. derives_all cs g (ds ++ d ∷ []) (suc i) (drop (i + 1) steps))) is) ∙ sym (ap (derives_all cs g ds i) (here steps i step within at)) ∙ so_far

    pub one_more : (d : Derived) → derives cs g ds step ≡ Ok d → derives_all cs g ds i (drop i steps) ≡ whole → derives_all cs g (ds ++ d ∷ []) (i + 1) (drop (i + 1) steps) ≡ whole
    one_more d is so_far = let place : i + 1 ≡ suc i = omega arith in ap (λ k. derives_all cs g (ds ++ d ∷ []) k (drop (i + 1) steps)) place ∙ by_outcome (Ok d) is so_far

  -- what is derived begins with what was derived
  record IsLonger (ds out : List Derived) : Type 0 where
    pub later : List Derived
    pub is : out ≡ ds ++ later

  longer_by : (ds : List Derived) (i : ℕ) (rest : List ResStep) (out : List Derived) → ((d : Derived) → derives_all cs g (ds ++ d ∷ []) (suc i) rest ≡ Ok out → IsLonger (ds ++ d ∷ []) out)
      → (r : Result Derived ResCause) → and_on i r (λ d. derives_all cs g (ds ++ d ∷ []) (suc i) rest) ≡ Ok out → IsLonger ds out
  longer_by ds i rest out further (Ok d) is = let w = further d is in record { later = d ∷ w.later; is = w.is ∙ append_assoc ds (d ∷ []) w.later }
  longer_by ds i rest out further (Err cause) is = cc

  longer : (ds : List Derived) (i : ℕ) (steps : List ResStep) (out : List Derived) → derives_all cs g ds i steps ≡ Ok out → IsLonger ds out
  longer ds i [] out is = let same : ds ≡ out = cc in record { later = []; is = sym same ∙ sym (append-nil ds) }
  longer ds i (step ∷ rest) out is = longer_by ds i rest out (λ d. longer (ds ++ d ∷ []) (suc i) rest out) (derives cs g ds step) is

-- what a step derives

pub record FromInput (cs : List Clause) (g : Sequent) (i : ℕ) (d : Derived) : Type 0 where
  pub clause : Clause
  pub at : slice_get cs i ≡ Some clause
  pub is : d ≡ of_input g clause

pub record FromImage (ds : List Derived) (place k : ℕ) (m : Map) (d : Derived) : Type 0 where
  pub from : Derived
  pub before : k < place
  pub at : slice_get ds k ≡ Some from
  pub is : d ≡ image_of m from

pub record FromBoth (g : Sequent) (ds : List Derived) (place p n : ℕ) (a : Formula) (d : Derived) : Type 0 where
  pub first : Derived
  pub second : Derived
  pub first_before : p < place
  pub second_before : n < place
  pub first_at : slice_get ds p ≡ Some first
  pub second_at : slice_get ds n ≡ Some second
  pub is : d ≡ resolved g first second a

-- the step at that place derives d from what is derived before it
abbrev pub IsFrom : List Clause → Sequent → List Derived → ℕ → ResStep → Derived → Type 0
IsFrom cs g ds place (Input i) d = FromInput cs g i d
IsFrom cs g ds place (Subst k m) d = FromImage ds place k m d
IsFrom cs g ds place (Resolve p n a) d = FromBoth g ds place p n a d

module _ (cs : List Clause) (g : Sequent) (ds later : List Derived) where
  from_input : (i : ℕ) (o : Option Clause) (d : Derived) → slice_get cs i ≡ o → referred o (λ c. Ok (of_input g c)) ≡ Ok d → FromInput cs g i d
  from_input i None d at is = cc
  from_input i (Some c) d at is = let same : of_input g c ≡ d = cc in record { clause = c; at = at; is = sym same }

  from_image : (k : ℕ) (m : Map) (o : Option Derived) (d : Derived) → slice_get ds k ≡ o → referred o (λ e. Ok (image_of m e)) ≡ Ok d → FromImage (ds ++ later) (length ds) k m d
  from_image k m None d at is = cc
  from_image k m (Some e) d at is =
      let same : image_of m e ≡ d = cc in
      record { from = e; before = slice_get_within ds k e at; at = still_at ds later k e at; is = sym same }

  from_test : (p n : ℕ) (a : Formula) (e f d : Derived) → slice_get ds p ≡ Some e → slice_get ds n ≡ Some f → (b : Bool) → (if b then Ok (resolved g e f a) else Err AtomMissing) ≡ Ok d → FromBoth g (ds ++ later) (length ds) p n a d
  from_test p n a e f d first second true is =
      let same : resolved g e f a ≡ d = cc in
      record {
        first = e;
        second = f;
        first_before = slice_get_within ds p e first;
        second_before = slice_get_within ds n f second;
        first_at = still_at ds later p e first;
        second_at = still_at ds later n f second;
        is = sym same;
      }
  from_test p n a e f d first second false is = cc

  from_both : (p n : ℕ) (a : Formula) (o q : Option Derived) (d : Derived) → slice_get ds p ≡ o → slice_get ds n ≡ q → referred o (λ e. referred q (λ f. of_resolution g e f a)) ≡ Ok d → FromBoth g (ds ++ later) (length ds) p n a d
  from_both p n a None q d first second is = cc
  from_both p n a (Some e) None d first second is = cc
  from_both p n a (Some e) (Some f) d first second is = from_test p n a e f d first second (set.has e.clause.right a && set.has f.clause.left a) is

  from_step : (step : ResStep) (d : Derived) → derives cs g ds step ≡ Ok d → IsFrom cs g (ds ++ later) (length ds) step d
  from_step (Input i) d is = from_input i (slice_get cs i) d refl is
  from_step (Subst k m) d is = from_image k m (slice_get ds k) d refl is
  from_step (Resolve p n a) d is = from_both p n a (slice_get ds p) (slice_get ds n) d refl refl is

-- what stands at a place of the list that the steps derive
pub record IsReached (cs : List Clause) (g : Sequent) (ds : List Derived) (place : ℕ) (step : ResStep) : Type 0 where
  pub derived : Derived
  pub at : slice_get ds place ≡ Some derived
  pub from : IsFrom cs g ds place step derived

module _ (cs : List Clause) (g : Sequent) where
  reached_here : (ds : List Derived) (step : ResStep) (d : Derived) (out later : List Derived) → out ≡ ds ++ d ∷ later → derives cs g ds step ≡ Ok d → IsReached cs g out (length ds) step
  reached_here ds step d out later whole is =
      subst (λ (es : List Derived). IsReached cs g es (length ds) step) (sym whole)
      (record {
        derived = d;
        at = subst (λ (es : List Derived). slice_get es (length ds) ≡ Some d) (append_assoc ds (d ∷ []) later) (still_at (ds ++ d ∷ []) later (length ds) d (last_at ds d));
        from = from_step cs g ds (d ∷ later) step d is;
      })

  reached_by : (ds : List Derived) (i : ℕ) (s : ResStep) (rest : List ResStep) (out : List Derived) → length ds ≡ i
      → ((d : Derived) → derives_all cs g (ds ++ d ∷ []) (suc i) rest ≡ Ok out → (k : ℕ) (step : ResStep) → slice_get rest k ≡ Some step → IsReached cs g out (suc i + k) step)
      → (r : Result Derived ResCause) → derives cs g ds s ≡ r → and_on i r (λ d. derives_all cs g (ds ++ d ∷ []) (suc i) rest) ≡ Ok out → (k : ℕ) (step : ResStep) → slice_get (s ∷ rest) k ≡ Some step
      → IsReached cs g out (i + k) step
  reached_by ds i s rest out many further (Ok d) given is zero step at =
      let w = longer cs g (ds ++ d ∷ []) (suc i) rest out is in
      let same : s ≡ step = cc in
      let place : length ds ≡ i + 0 = omega (arith, many) in
      subst (λ (n : ℕ). IsReached cs g out n step) place
      (subst (λ (t : ResStep). IsReached cs g out (length ds) t) same (reached_here ds s d out w.later (w.is ∙ append_assoc ds (d ∷ []) w.later) given))
  reached_by ds i s rest out many further (Ok d) given is (suc k) step at =
      let place : suc i + k ≡ i + suc k = omega arith in
      subst (λ (n : ℕ). IsReached cs g out n step) place (further d is k step at)
  reached_by ds i s rest out many further (Err cause) given is k step at = cc

  reached_from : (ds : List Derived) (i : ℕ) (rest : List ResStep) (out : List Derived) → length ds ≡ i → derives_all cs g ds i rest ≡ Ok out → (k : ℕ) (step : ResStep) → slice_get rest k ≡ Some step → IsReached cs g out (i + k) step
  reached_from ds i [] out many is zero step at = cc
  reached_from ds i [] out many is (suc k) step at = cc
  reached_from ds i (s ∷ rest) out many is k step at =
      reached_by ds i s rest out many
      (λ d more. reached_from (ds ++ d ∷ []) (suc i) rest out (omega (arith, length-append ds (d ∷ []), many)) more)
      (derives cs g ds s) refl is k step at

pub all_derived_is : (cs : List Clause) (steps : List ResStep) (h : AreDerived cs steps) → all_derived cs steps ≡ h.derived
all_derived_is cs steps h = ap derived_in h.each

-- what the step at a place derives, where no step is faulty
pub reached : (cs : List Clause) (steps : List ResStep) → AreDerived cs steps → (k : ℕ) (step : ResStep) → slice_get steps k ≡ Some step → IsReached cs (closures cs) (all_derived cs steps) k step
reached cs steps h k step at =
    let place : 0 + k ≡ k = omega arith in
    subst (λ (es : List Derived). IsReached cs (closures cs) es k step) (sym (all_derived_is cs steps h))
    (subst (λ (n : ℕ). IsReached cs (closures cs) h.derived n step) place (reached_from cs (closures cs) [] 0 steps h.derived refl h.each k step at))

-- no eigenvariable is named in the trees

rigid-literals : (s : Sequent) (f : Formula) → IsRigid (over_literals s f)
rigid-literals s (or f g) = (tt, (rigid-literals (adds_to s Left f) f, (rigid-literals (adds_to s Left g) g, tt)))
rigid-literals s (not f) = (tt, ((tt, tt), tt))
rigid-literals s bot = (tt, tt)
rigid-literals s (atom p ts) = (tt, tt)
rigid-literals s top = (tt, tt)
rigid-literals s (and f g) = (tt, tt)
rigid-literals s (imp f g) = (tt, tt)
rigid-literals s (all f) = (tt, tt)
rigid-literals s (ex f) = (tt, tt)

rigid-instances : (s : Sequent) (xs : List Var) (f : Formula) → IsRigid (over_instances s xs f)
rigid-instances s [] f = rigid-literals s f
rigid-instances s (x ∷ xs) f = (tt, (rigid-instances (adds_to s Left (inst (body_of f) (free x))) xs (inst (body_of f) (free x)), tt))

abbrev IsRigidDerived : Derived → Type 0
IsRigidDerived d = IsRigid d.tree

module _ (cs : List Clause) (g : Sequent) where
  rigid_step : (ds : List Derived) → All IsRigidDerived ds → (step : ResStep) → IsFormedStep step → (d : Derived) → derives cs g ds step ≡ Ok d → IsRigidDerived d
  rigid_step =
      of_step cs g IsRigidDerived
      (λ i c at. rigid-instances (union_sequent g (literals_of c.matrix)) c.vars (closure_of c))
      (λ m d map h. rigid-sub d.tree m h)
      (λ a p n formed first second. (tt, (first, (second, tt))))

  rigid_by : (ds : List Derived) → All IsRigidDerived ds → (i : ℕ) (step : ResStep) (rest : List ResStep) → IsFormedStep step → (out : List Derived)
      → ((d : Derived) → All IsRigidDerived (ds ++ d ∷ []) → derives_all cs g (ds ++ d ∷ []) (suc i) rest ≡ Ok out → All IsRigidDerived out)
      → (r : Result Derived ResCause) → derives cs g ds step ≡ r → and_on i r (λ d. derives_all cs g (ds ++ d ∷ []) (suc i) rest) ≡ Ok out → All IsRigidDerived out
  rigid_by ds h i step rest formed out further (Ok d) given is = further d (All-push IsRigidDerived ds d h (rigid_step ds h step formed d given)) is
  rigid_by ds h i step rest formed out further (Err cause) given is = cc

  rigid_steps : (ds : List Derived) → All IsRigidDerived ds → (i : ℕ) (steps : List ResStep) → AreFormedSteps steps → (out : List Derived) → derives_all cs g ds i steps ≡ Ok out → All IsRigidDerived out
  rigid_steps ds h i [] formed out is = let same : ds ≡ out = cc in subst (All IsRigidDerived) same h
  rigid_steps ds h i (step ∷ rest) formed out is =
      rigid_by ds h i step rest (All-head IsFormedStep step rest formed) out (λ d more. rigid_steps (ds ++ d ∷ []) more (suc i) rest (All-tail IsFormedStep step rest formed) out) (derives cs g ds step) refl is

pub rigid_derived : (cs : List Clause) (steps : List ResStep) → AreFormedSteps steps → AreDerived cs steps → (k : ℕ) (d : Derived) → slice_get (all_derived cs steps) k ≡ Some d → IsRigid d.tree
rigid_derived cs steps formed h k d at =
    found_in IsRigidDerived h.derived k d (rigid_steps cs (closures cs) [] (λ j e l. absurd (omega arith)) 0 steps formed h.derived h.each) (sym (ap (λ es. slice_get es k) (all_derived_is cs steps h)) ∙ at)
