-- What the search for a model or a refutation of ground clauses answers decides what the operation comes to.
use Rattle.std.proofs.Common.{◌≡◌, ℕ, suc, ◌+◌, Bool, true, false, cond, not as negated, ◌||◌, List, [], ◌∷◌, length, map, refl, sym, ap, ◌∙◌, subst, inl, inr, arith}
use Rattle.std.specs.Prelude.{Option, Some, None, option_map, position, Result, Ok, Err, nat_lt}
use Rattle.std.specs.List.{All, list_all, list_any, position_or_len}
use Rattle.std.specs.Ordering.{eq_by_cmp}
use Rattle.std.proofs.lemmas.Bool.{both_ways, not-true, and_parts, or_parts, cases_lt, cond_below, cond_above}
use Rattle.std.proofs.lemmas.List.Elements.{All-nil, All-cons, All-head, All-tail, All-map, All-weaker}
use Rattle.fol.specs.declared.symbols.Var.TheVariants.{Num}
use Rattle.fol.specs.Syntax.{Formula, atom, top, bot, not, and, or, imp, all, ex}
use Rattle.fol.specs.Facts.{is_open, has_body}
use Rattle.fol.specs.Formed.{is_formed, IsFormed}
use Rattle.fol.specs.Order.{formula_cmp}
use Rattle.finite.specs.Finite as set
use Rattle.finite.proofs.Finite.{has-listing}
use Rattle.free_variables.proofs.ShutLaws.{free-shut}
use Rattle.lk_rules.specs.Formulas.{FormulaSet}
use Rattle.proof_trees.proofs.Booleans.{or_first, or_second, either}
use Rattle.proof_trees.specs.FormulaSets.{is_atom}
use Rattle.proof_trees.proofs.FormulaSets.{tied}
use Rattle.proof_trees.specs.Trees.{Tree, IsValid}
use Rattle.proof_graph.specs.declared.graph.Graph.{Graph}
use Rattle.refutations.specs.declared.clause.Clause.{Clause}
use Rattle.refutations.specs.declared.step.ResStep.{ResStep}
use Rattle.refutations.specs.declared.step.ResCause.{ResCause}
use Rattle.refutations.specs.Clauses.{literals_of, IsClauseOf}
use Rattle.refutations.specs.Refutations.{refutation as refutation_of, IsFormedStep, AreFormedSteps}
use Rattle.ground_laws.specs.declared.step.SatStep.{SatStep}
use Rattle.ground_laws.specs.declared.step.SatStep.TheVariants.{Input, Resolve}
use Rattle.ground_laws.specs.Models.{occurs, IsModel}
use Rattle.ground_laws.specs.Steps.{IsRefutation, res_step, sequents_of, names}
use Rattle.ground_laws.proofs.Literals.{each_literal}
use Rattle.ground_laws.proofs.Reached.{own_atoms}
use Rattle.ground_laws.proofs.Ties.{proof_of as ground_proof}
use Rattle.sat_search.specs.declared.ground.Ground.{Ground}
use Rattle.sat_search.specs.Grounds.{clauses_of as sequents_of_grounds}
use Rattle.job_words.specs.Refutations.{HasFormedParts, HaveFormedParts}
use Rattle.reply_lines.specs.Shown.{IsShownFormula, IsShownStep}
use Rattle.tptp_problem.specs.ProblemClauses.{clauses_of, IsReadProblem}
use Rattle.held_values.specs.declared.refutation.Refutation.{Refutation}
use Rattle.held_values.specs.Means.{tree_of, proof_of, Stands}
use Rattle.operation_laws.specs.declared.refusals.Failure.TheVariants.{NotGround}
use Rattle.operation_laws.proofs.Making.{closures_formed}
use Rattle.operation_laws.specs.Answers.{lacking, product, model, refutation, one, satisfiability, IsModelOf, IsRefutationOf}
use Rattle.operation_laws.specs.Running.{has_closure, first_open, solves_ground}
use Rattle.operations.specs.declared.answers.Ran.{Ran}
use Rattle.operations.specs.declared.answers.Ran.TheVariants as ran
use Rattle.operations.specs.declared.answers.Made.TheVariants as made
use Rattle.operations.specs.Means.{ComesTo}

-- the first clause in which a variable stands

by_order : (n k : ℕ) → cond (nat_lt (1 + n) (suc k)) (Some (1 + n)) None ≡ option_map suc (cond (nat_lt n k) (Some n) None)
by_order n k = elim (cases_lt n k) [
  | inl below ↦ sym (cond_below (1 + n) (suc k) (Some (1 + n)) None (omega arith))
      ∙ (let same : 1 + n ≡ suc n = omega arith in ap (λ (m : ℕ). Some m) same ∙ ap (option_map suc) (cond_below n k (Some n) None below))
  | inr above ↦ sym (cond_above (1 + n) (suc k) (Some (1 + n)) None None (omega arith) refl) ∙ ap (option_map suc) (cond_above n k (Some n) None None above refl)
]

by_first : (b : Bool) (n k : ℕ) → cond (nat_lt (cond (negated b) (1 + n) 0) (suc k)) (Some (cond (negated b) (1 + n) 0)) None
    ≡ cond b (Some 0) (option_map suc (cond (nat_lt n k) (Some n) None))
by_first true n k = sym (cond_below 0 (suc k) (Some 0) None (omega arith))
by_first false n k = by_order n k

open_at_position : (cs : List Clause) → position (λ (c : Clause). is_open c.matrix) cs ≡ first_open cs
open_at_position [] = refl
open_at_position (c ∷ cs) =
    by_first (is_open c.matrix) (position_or_len (λ (d : Clause). is_open d.matrix) cs) (length cs)
    ∙ ap (λ o. cond (is_open c.matrix) (Some 0) (option_map suc o)) (open_at_position cs)

pub first_open_found : (cs : List Clause) (o : Option ℕ) → o ≡ position (λ (c : Clause). is_open c.matrix) cs → o ≡ first_open cs
first_open_found cs o is = is ∙ open_at_position cs

-- an atom of clauses without variables and without symbols that stand for formulas is one that a line can tell

abbrev IsPlain : Formula → Type 0
IsPlain f = (is_open f ≡ false) × ((has_body f ≡ false) × IsFormed f)

plain_sides : (f g : Formula) → IsPlain (or f g) → IsPlain f × IsPlain g
plain_sides f g h =
    let closed = or_parts (is_open f) (is_open g) h.0 in
    let primitive = or_parts (has_body f) (has_body g) h.1.0 in
    let formed = and_parts (is_formed f) (is_formed g) h.1.1 in
    ((closed.0, (primitive.0, formed.0)), (closed.1, (primitive.1, formed.1)))

plain_atom : (f : Formula) → is_atom f ≡ true → IsPlain f → IsShownFormula f
plain_atom (atom p ts) shape h =
    (h.1.0, h.1.1, (λ n free. absurd (both_ways _ (free-shut (Num n) (atom p ts) h.0) free), λ d below. absurd (omega arith)))
plain_atom top shape h = cc
plain_atom bot shape h = cc
plain_atom (not f) shape h = cc
plain_atom (and f g) shape h = cc
plain_atom (or f g) shape h = cc
plain_atom (imp f g) shape h = cc
plain_atom (all f) shape h = cc
plain_atom (ex f) shape h = cc

none_first : (b : Bool) (o : Option ℕ) → cond b (Some 0) (option_map suc o) ≡ None → (b ≡ false) × (o ≡ None)
none_first true o is = cc
none_first false None is = (refl, refl)
none_first false (Some i) is = cc

-- the clauses are those of a problem, in which no variable stands, and no symbol stands for a formula
pub record AreGround (cs : List Clause) : Type 0 where
  pub clauses : All IsClauseOf cs
  pub ground : first_open cs ≡ None
  pub primitive : list_all (λ (c : Clause). negated (has_body c.matrix)) cs ≡ true

atom_shown : (cs : List Clause) → All IsClauseOf cs → first_open cs ≡ None → list_all (λ (c : Clause). negated (has_body c.matrix)) cs ≡ true
    → (f : Formula) → occurs (sequents_of cs) f ≡ true → IsShownFormula f
atom_shown [] clauses ground primitive f stands = cc
atom_shown (c ∷ cs) clauses ground primitive f stands =
    let head = All-head IsClauseOf c cs clauses in
    let opens = none_first (is_open c.matrix) (first_open cs) ground in
    let bodies = and_parts (negated (has_body c.matrix)) (list_all (λ (d : Clause). negated (has_body d.matrix)) cs) primitive in
    either (set.has (literals_of c.matrix).left f || set.has (literals_of c.matrix).right f) (occurs (sequents_of cs) f)
    (each_literal IsPlain IsShownFormula plain_sides plain_atom (λ g plain. plain) c.matrix f head.shape
    (opens.0, (not-true (has_body c.matrix) bodies.0, head.formed)))
    (atom_shown cs (All-tail IsClauseOf c cs clauses) opens.1 bodies.1 f)
    stands

members_are : (P : Formula → Type 0) (fs : List Formula) → ((f : Formula) → list_any (eq_by_cmp formula_cmp f) fs ≡ true → P f) → All P fs
members_are P [] each = All-nil P
members_are P (g ∷ gs) each =
    All-cons P g gs (each g (or_first (eq_by_cmp formula_cmp g g) (list_any (eq_by_cmp formula_cmp g) gs) (tied g g refl)))
    (members_are P gs (λ f m. each f (or_second (eq_by_cmp formula_cmp f g) (list_any (eq_by_cmp formula_cmp f) gs) m)))

-- a model
pub model_comes : (g : Graph) (cs : List Clause) (gs : List Ground) (atoms : FormulaSet) → AreGround cs → sequents_of_grounds gs ≡ sequents_of cs
    → IsModel atoms (sequents_of_grounds gs) → ComesTo g (ran.Done (made.Model atoms)) (satisfiability cs)
model_comes g cs gs atoms known same is =
    let holds = subst (IsModel atoms) same is in
    let shown = members_are IsShownFormula (set.listing atoms) (λ f m.
    atom_shown cs known.clauses known.ground known.primitive f (holds.own f (has-listing atoms f ∙ m))) in
    let met : IsModelOf cs (product (model atoms)) = record { atoms = atoms; holds = holds; shown = shown; is = refl } in
    (product (model atoms), inl met, (refl, tt))

-- the atoms of a refutation
abbrev pub HasShownAtom : SatStep → Type 0
HasShownAtom step = (f : Formula) → names f step ≡ true → IsShownFormula f

each_shown : (steps : List SatStep) → ((f : Formula) → list_any (names f) steps ≡ true → IsShownFormula f) → All HasShownAtom steps
each_shown [] each = All-nil HasShownAtom
each_shown (step ∷ rest) each =
    All-cons HasShownAtom step rest (λ f e. each f (or_first (names f step) (list_any (names f) rest) e))
    (each_shown rest (λ f e. each f (or_second (names f step) (list_any (names f) rest) e)))

pub atoms_shown : (cs : List Clause) (gs : List Ground) (steps : List SatStep) → AreGround cs → sequents_of_grounds gs ≡ sequents_of cs
    → IsRefutation (sequents_of_grounds gs) steps → All (λ step. (f : Formula) → names f step ≡ true → IsShownFormula f) steps
atoms_shown cs gs steps known same is =
    let refutes = subst (λ ds. IsRefutation ds steps) same is in
    each_shown steps (λ f e. atom_shown cs known.clauses known.ground known.primitive f (own_atoms (sequents_of cs) f steps refutes e))

pub refutes_clauses : (cs : List Clause) (gs : List Ground) (steps : List SatStep) → sequents_of_grounds gs ≡ sequents_of cs
    → IsRefutation (sequents_of_grounds gs) steps → IsRefutation (sequents_of cs) steps
refutes_clauses cs gs steps same is = subst (λ ds. IsRefutation ds steps) same is

-- a step, by its atom
pub step_shown : (p n : ℕ) (a : Formula) → HasShownAtom (Resolve p n a) → IsShownFormula a
step_shown p n a each = each a (tied a a refl)

-- steps that a line can tell have well-formed parts

parts_formed : (step : SatStep) → IsShownStep (res_step step) → HasFormedParts (res_step step)
parts_formed (Input i) shown = tt
parts_formed (Resolve p n a) shown = shown.2.1

step_formed : (step : SatStep) → IsShownStep (res_step step) → IsFormedStep (res_step step)
step_formed (Input i) shown = tt
step_formed (Resolve p n a) shown = shown.2.1

pub have_formed_parts : (steps : List SatStep) → All (λ step. IsShownStep (res_step step)) steps → HaveFormedParts (map res_step steps)
have_formed_parts steps shown = All-map HasFormedParts res_step steps (All-weaker (λ step. IsShownStep (res_step step)) (λ step. HasFormedParts (res_step step)) parts_formed steps shown)

pub are_formed_steps : (steps : List SatStep) → All (λ step. IsShownStep (res_step step)) steps → AreFormedSteps (map res_step steps)
are_formed_steps steps shown = All-map IsFormedStep res_step steps (All-weaker (λ step. IsShownStep (res_step step)) (λ step. IsFormedStep (res_step step)) step_formed steps shown)

-- a refutation, which stands for its proof

pub is_ok : (r : Result Tree (ℕ × ResCause)) (t : Tree) → r ≡ Ok t → (r ≡ Ok (tree_of r)) × (tree_of r ≡ t)
is_ok (Ok u) t is = (refl, cc)
is_ok (Err fault) t is = cc

pub refutation_comes : (g : Graph) (cs : List Clause) (steps : List SatStep) (r : Refutation) → All IsClauseOf cs → list_all has_closure cs ≡ true
    → IsRefutation (sequents_of cs) steps → IsReadProblem r.problem → cs ≡ clauses_of r.problem.entries → r.steps ≡ map res_step steps
    → All (λ step. IsShownStep (res_step step)) steps → ComesTo g (ran.Done (made.Refutation r)) (satisfiability cs)
refutation_comes g cs steps r known closed refutes read same list shown =
    let by = ground_proof cs steps known (closures_formed cs known closed) refutes in
    let here : refutation_of (clauses_of r.problem.entries) r.steps ≡ Ok by.0 =
    ap (λ (ds : List Clause). refutation_of ds r.steps) (sym same) ∙ (ap (λ (l : List ResStep). refutation_of cs l) list ∙ by.1) in
    let ok = is_ok (refutation_of (clauses_of r.problem.entries) r.steps) by.0 here in
    let stands : Stands r = record {
      read = read;
      formed = subst (λ (l : List ResStep). AreFormedSteps l) (sym list) (are_formed_steps steps shown);
      refutes = ok.0;
      valid = subst IsValid (sym ok.1) by.2;
    } in
    let met : IsRefutationOf cs (product (refutation r.steps (proof_of r))) = record {
      steps = steps;
      refutes = refutes;
      tree = proof_of r;
      stands = by.1 ∙ ap (λ (t : Tree). Ok t) (sym ok.1);
      shown = All-map IsShownStep res_step steps shown;
      is = ap (λ (l : List ResStep). product (refutation l (proof_of r))) list;
    } in
    (product (refutation r.steps (proof_of r)), inr (inl met), (refl, stands))

-- want of memory may always be answered

pub solving_lacks : (g : Graph) (cs : List Clause) → ComesTo g ran.Lacking (satisfiability cs)
solving_lacks g cs = (lacking, inr (inr refl), tt)

pub ground_lacks : (g : Graph) (o : Option ℕ) (cs : List Clause) → ComesTo g ran.Lacking (solves_ground o cs)
ground_lacks g (Some i) cs = tt
ground_lacks g None cs =
    elim (list_all has_closure cs) as (λ (b : Bool). ComesTo g ran.Lacking (cond b (satisfiability cs) (one lacking))) [ true ↦ solving_lacks g cs | false ↦ tt ]

-- the clauses of a problem

pub open_comes : (g : Graph) (cs ds : List Clause) (i : ℕ) → cs ≡ ds → Some i ≡ first_open cs → ComesTo g (ran.Failed (NotGround i)) (solves_ground (first_open ds) ds)
open_comes g cs ds i same is =
    let at : Some i ≡ first_open ds = is ∙ ap first_open same in
    subst (λ (o : Option ℕ). ComesTo g (ran.Failed (NotGround i)) (solves_ground o ds)) at refl

pub ground_comes : (g : Graph) (r : Ran) (cs ds : List Clause) → cs ≡ ds → None ≡ first_open cs → list_all has_closure cs ≡ true
    → ComesTo g r (satisfiability cs) → ComesTo g r (solves_ground (first_open ds) ds)
ground_comes g r cs ds same is closed comes =
    subst (λ (es : List Clause). ComesTo g r (solves_ground (first_open es) es)) same
    (subst (λ (o : Option ℕ). ComesTo g r (solves_ground o cs)) is
    (subst (λ (b : Bool). ComesTo g r (cond b (satisfiability cs) (one lacking))) (sym closed) comes))
