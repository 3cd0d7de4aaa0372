-- What is done with definitions.
use Rattle.std.proofs.Common.{◌≡◌, ℕ, ◌<◌, if◌then◌else◌, List, [], ◌∷◌, length, map, Option, Some, None, Result, Ok, Err, sym, ap, ◌∙◌, subst, arith}
use Rattle.std.specs.Prelude.{IfOk}
use Rattle.fol.specs.declared.symbols.Sym.{Sym}
use Rattle.fol.specs.declared.symbols.Var.{Var}
use Rattle.fol.specs.Syntax.{Pred, pred, defined, Formula, all}
use Rattle.fol.specs.Formed.{is_formed_pred, IsFormedPred}
use Rattle.substitution.specs.Closing.{closed_over}
use Rattle.lk_rules.specs.declared.rule.Step.{Step}
use Rattle.proof_trees.specs.Trees.{Tree}
use Rattle.def_laws.specs.Definitions.{definition as symbol_for}
use Rattle.def_laws.specs.Marking.{marked_step}
use Rattle.def_laws.specs.Defining.{defining}
use Rattle.step_laws.specs.declared.fault.AdmitFault.{AdmitFault}
use Rattle.step_laws.specs.declared.fault.StepCause.{StepCause}
use Rattle.step_laws.specs.declared.fault.AdmitFault.TheVariants as admission
use Rattle.step_laws.specs.Admission.{admission as admission_of}
use Rattle.proof_graph.specs.declared.graph.Graph.{Graph}
use Rattle.proof_subst.specs.declared.bench.Bench.{Bench}
use Rattle.proof_subst.specs.declared.bench.BenchPass.{BenchPass}
use Rattle.reply_lines.specs.declared.replies.StepShown.{StepShown}
use Rattle.operation_laws.specs.declared.refusals.Refusal.{Refusal}
use Rattle.operation_laws.specs.declared.refusals.Refusal.TheVariants.{Empty, Step as Faulty}
use Rattle.operation_laws.specs.declared.refusals.Failure.TheVariants.{DefTwice}
use Rattle.operation_laws.specs.Answers.{Answer, proof, definition, lacking, product, one}
use Rattle.operation_laws.specs.Given.{Found, found}
use Rattle.operation_laws.specs.Running.{over, step_shown, admits_behind, repeated, unless_twice, proves_with, defines}
use Rattle.operations.specs.declared.answers.Made.{Made}
use Rattle.operations.specs.declared.answers.Made.TheVariants as made
use Rattle.operations.specs.declared.answers.Ran.{Ran}
use Rattle.operations.specs.declared.answers.Ran.TheVariants as ran
use Rattle.operations.specs.Means.{made_of, FitsMade, Comes, LacksAlways, faulty}
use Rattle.operations.specs.Runs.{Runs}

-- steps into which definitions were put, or none, are a proof or not
pub admission_gives : (g : Graph) (r : Ran) (names : List (List ℕ)) (t : Tree) (wanted : Result Tree AdmitFault) → wanted ≡ Ok t → Comes g r (product (proof t))
    → Comes g r (admits_behind names wanted)
admission_gives g r [] t wanted is comes = subst (λ w. Comes g r (admits_behind [] w)) (sym is) comes
admission_gives g r (text ∷ texts) t wanted is comes = subst (λ w. Comes g r (admits_behind (text ∷ texts) w)) (sym is) comes

pub admission_lacks : (g : Graph) (names : List (List ℕ)) (wanted : Result Tree AdmitFault) → (t : Tree) × (wanted ≡ Ok t) → Comes g ran.Lacking (admits_behind names wanted)
admission_lacks g names wanted is = admission_gives g ran.Lacking names is.0 wanted is.1 tt

faulty_comes : (g : Graph) (names : List (List ℕ)) (fault : Refusal) (r : Ran) (a : Answer) → r ≡ faulty names fault → Comes g (faulty names fault) a → Comes g r a
faulty_comes g names fault r a is comes = subst (λ q. Comes g q a) (sym is) comes

pub empty_faulty : (g : Graph) (r : Ran) (names : List (List ℕ)) (wanted : Result Tree AdmitFault) → wanted ≡ Err admission.Empty → r ≡ faulty names Empty
    → Comes g r (admits_behind names wanted)
empty_faulty g r [] wanted is same = faulty_comes g [] Empty r _ same (ap (admits_behind []) is)
empty_faulty g r (text ∷ texts) wanted is same = faulty_comes g (text ∷ texts) Empty r _ same (ap (admits_behind (text ∷ texts)) is)

pub step_faulty : (g : Graph) (r : Ran) (names : List (List ℕ)) (wanted : Result Tree AdmitFault) (i : ℕ) (cause : StepCause) (shown : StepShown)
    → wanted ≡ Err (admission.Step i cause) → shown ≡ step_shown cause → r ≡ faulty names (Faulty i shown) → Comes g r (admits_behind names wanted)
step_faulty g r names wanted i cause shown is so same = by_names names (same ∙ ap (λ x. faulty names (Faulty i x)) so)
  where
    by_names : (ns : List (List ℕ)) → r ≡ faulty ns (Faulty i (step_shown cause)) → Comes g r (admits_behind ns wanted)
    by_names [] here = faulty_comes g [] (Faulty i (step_shown cause)) r _ here (ap (admits_behind []) is)
    by_names (text ∷ texts) here = faulty_comes g (text ∷ texts) (Faulty i (step_shown cause)) r _ here (ap (admits_behind (text ∷ texts)) is)

-- two are of one symbol, or none are
pub twice_comes : (g : Graph) (text : List ℕ) (o : Option (List ℕ)) (a : Answer) → Some text ≡ o → Comes g (ran.Failed (DefTwice text)) (unless_twice o a)
twice_comes g text o a is = ap (λ w. unless_twice w a) (sym is)

pub once_comes : (g : Graph) (r : Ran) (o : Option (List ℕ)) (a : Answer) → None ≡ o → Comes g r a → Comes g r (unless_twice o a)
once_comes g r o a is comes = subst (λ w. Comes g r (unless_twice w a)) is comes

-- steps with the definitions of some names put into them, no two of which are of one symbol
pub marked_runs : (b : Bench) (old new : BenchPass) (r : Ran) (names : List (List ℕ)) (steps list : List Step) (ds : List Pred) → 0 < length names → None ≡ repeated names ds
    → list ≡ map (marked_step ds) steps → Runs b old new r (one (admits_behind names (admission_of list))) → Runs b old new r (one (proves_with names steps ds))
marked_runs b old new r [] steps list ds some once same runs = absurd (omega arith)
marked_runs b old new r (text ∷ texts) steps list ds some once same runs =
    subst (λ w. Runs b old new r (one (unless_twice w (admits_behind (text ∷ texts) (admission_of (map (marked_step ds) steps)))))) once
    (subst (λ (l : List Step). Runs b old new r (one (admits_behind (text ∷ texts) (admission_of l)))) same runs)

-- the names are given definitions, and memory ran out behind that
pub some_lack : (f : Found (List Pred)) → (ds : List Pred) × (f ≡ found ds) → (g : Graph) (k : List Pred → Answer) → LacksAlways k → Comes g ran.Lacking (over f k)
some_lack f given g k lacks = subst (λ h. Comes g ran.Lacking (over h k)) (sym given.1) (lacks g given.0)

-- a symbol that is taken apart
pub defined_comes : (g : Graph) (name : List ℕ) (vs : List Var) (f : Formula) (p : Pred) (m : Made) → defining name vs f ≡ Ok p → p ≡ symbol_for name vs f → IsFormedPred p
    → (s : Sym) × (h : Formula) × (m ≡ made.Definition s h) × (p ≡ pred s (defined h)) → Comes g (ran.Done m) (defines name vs f (defining name vs f))
defined_comes g name vs f p m is stands formed parts =
    let same : symbol_for name vs f ≡ pred parts.0 (defined parts.1) = sym stands ∙ parts.3 in
    let shown : definition (record { name = name; arity = length vs }) (closed_over all vs f) ≡ definition parts.0 parts.1 = cc in
    let means : definition parts.0 parts.1 ≡ made_of m = ap made_of (sym parts.2) in
    let meant : (if is_formed_pred p then product (definition (record { name = name; arity = length vs }) (closed_over all vs f)) else lacking) ≡ product (made_of m)
    = ap (λ b. if b then product (definition (record { name = name; arity = length vs }) (closed_over all vs f)) else lacking) formed ∙ ap product (shown ∙ means) in
    let fits : FitsMade g m = subst (FitsMade g) (sym parts.2) (subst IsFormedPred parts.3 formed) in
    subst (λ r. Comes g (ran.Done m) (defines name vs f r)) (sym is) (meant, fits)

-- what holds of a value holds of what is that value, if it is there
pub ok_of : {E : Type 0} (P : List Pred → Type 0) (r : Result (List Pred) E) (ds : List Pred) → IfOk r (λ es. es ≡ ds) → P ds → IfOk r P
ok_of P (Ok es) ds is holds = subst P (sym is) holds
ok_of P (Err e) ds is holds = tt
