-- What an operation makes, by what it is given.
use Rattle.std.proofs.Common.{◌≡◌, ℕ, Bool, true, false, cond, List, [], ◌∷◌, ◌++◌, length, drop_of_length-le, append-nil, Option, Some, None, Result, Ok, Err, refl, sym, ap, ◌∙◌, subst, arith}
use Rattle.std.specs.Prelude.{◌^◌, is_some, IfSome}
use Rattle.std.specs.List.{All, list_all}
use Rattle.std.specs.FinMap as fin
use Rattle.std.proofs.lemmas.Bool.{ltb-true}
use Rattle.std.proofs.lemmas.List.Elements.{All-cons, All-head, All-tail}
use Rattle.fol.specs.Formed.{IsFormed}
use Rattle.fol.specs.Syntax.{Formula}
use Rattle.substitution.specs.Image.{IsFormedMap}
use Rattle.substitution.specs.Maps.{Map}
use Rattle.lk_rules.specs.declared.rule.Step.{Step}
use Rattle.lk_rules.specs.Rules.{IsFormedRule}
use Rattle.lk_rules.specs.declared.sequent.Sequent.{Sequent}
use Rattle.lk_rules.specs.declared.sequent.Side.{Side}
use Rattle.lk_rules.specs.Sequents.{image_sequent}
use Rattle.lk_rules.proofs.Subsequents.{and_left, and_right}
use Rattle.proof_trees.specs.Trees.{Tree, concl, IsValid}
use Rattle.proof_trees.specs.Substitution.{sub}
use Rattle.proof_trees.proofs.Substituted.{concl-sub, sub_valid}
use Rattle.cut_laws.specs.Elimination.{elimination}
use Rattle.cut_laws.proofs.Kept.{result_end, result_valid}
use Rattle.cut_laws.proofs.Reached.{least_reached}
use Rattle.refutations.specs.declared.clause.Clause.{Clause}
use Rattle.refutations.specs.declared.step.ResStep.{ResStep}
use Rattle.refutations.specs.declared.step.ResCause.{ResCause}
use Rattle.refutations.specs.Clauses.{IsClauseOf, closure_of, closures}
use Rattle.refutations.specs.Refutations.{refutation, AreFormedSteps}
use Rattle.refutations.proofs.InputTrees.{few_variables}
use Rattle.refutations.proofs.Refuting.{end_of_refutation, valid_refutation}
use Rattle.search_laws.specs.Search.{walk}
use Rattle.search_laws.proofs.Found.{IsFound, found as found_tree, formed_sequent}
use Rattle.search_laws.specs.declared.fault.SearchFault.{SearchFault}
use Rattle.search_laws.specs.declared.fault.SearchFault.TheVariants as search
use Rattle.search_laws.specs.Budgets.{found as found_within}
use Rattle.lk_rules.specs.declared.sequent.Side.TheVariants.{Left, Right}
use Rattle.expansion_laws.specs.Building.{is_built}
use Rattle.expansion_laws.specs.Dependency.{Expansion}
use Rattle.expansion_laws.specs.Proofs.{stands, shallow_sequent, IsExpansionProof}
use Rattle.exp_tree.specs.Roots.{expansion_over}
use Rattle.exp_tree.specs.FlatReading.{AreRight, reading}
use Rattle.exp_tree.specs.declared.flat.FlatExp.{FlatExp}
use Rattle.exp_tree.specs.declared.flat.NodesFault.{NodesFault}
use Rattle.exp_tree.specs.declared.flat.NodesFault.TheVariants as reading_faults
use Rattle.expansion_laws.specs.declared.fault.ExpFault.{ExpFault}
use Rattle.expansion_laws.specs.declared.fault.ExpFault.TheVariants as checks
use Rattle.expansion_laws.specs.Checking.{checking}
use Rattle.step_laws.specs.declared.fault.AdmitFault.{AdmitFault}
use Rattle.step_laws.specs.declared.fault.AdmitFault.TheVariants as admission
use Rattle.step_laws.specs.Checking.{last_end}
use Rattle.step_laws.specs.Admission.{admission as admission_of}
use Rattle.step_laws.proofs.Admissions.{valid_admission, end_of_admission}
use Rattle.tptp_problem.specs.declared.problems.Problem.{Problem}
use Rattle.tptp_problem.specs.ProblemClauses.{clauses_of, IsReadProblem}
use Rattle.tptp_problem.proofs.ReadClauses.{all_clauses}
use Rattle.job_lang.specs.FormedOps.{AreFormedSides}
use Rattle.operation_laws.specs.declared.refusals.Refusal.TheVariants.{Kind}
use Rattle.operation_laws.specs.Values.{Value, IsSound}
use Rattle.operation_laws.specs.Values as values
use Rattle.operation_laws.specs.Answers.{Product, proof, reduced, expansion, Answer, lacking, product}
use Rattle.operation_laws.specs.Given.{first_name, second_name, pair_name, Found, missing, wanting, found, or_kind, proof_given, problem_given, expansion_given, first_of}
use Rattle.operation_laws.specs.Running.{over, over_both, admits, eliminates, has_closure, refuted, refutes, quantified_in, searched, searches, checked, reads}
use Rattle.operation_laws.specs.Claims.{IsProofOf, AProof, AReducedProof, AnExpansion, IsEliminated, IsCutFreeProofOf, IsExpansionOf}
use Rattle.operation_laws.proofs.Searches.{found_proved}

-- a field that is given something
pub whole_is : {A : Type 0} (text : List ℕ) (b : Bool) (a x : A) → cond b (missing (Kind text)) (found a) ≡ found x → a ≡ x
whole_is text true a x is = cc
whole_is text false a x is = cc

one_of_holds : {A : Type 0} (P : A → Type 0) (text : List ℕ) (p q : Bool) (a b x : A) → or_kind text (cond p (Some a) (cond q (Some b) None)) ≡ found x → P a → P b → P x
one_of_holds P text true q a b x is here there = let same : a ≡ x = cc in subst P same here
one_of_holds P text false true a b x is here there = let same : b ≡ x = cc in subst P same there
one_of_holds P text false false a b x is here there = cc

-- a proof that a field is given is valid
pub found_valid : (text : List ℕ) (v : Option Value) (t : Tree) → IfSome v IsSound → proof_given text v ≡ found t → IsValid t
found_valid text None t sound is = cc
found_valid text (Some values.nothing) t sound is = cc
found_valid text (Some values.refused) t sound is = cc
found_valid text (Some values.lacking) t sound is = cc
found_valid text (Some (values.proof u)) t sound is = subst IsValid (whole_is text (is_some (pair_name text)) u t is) sound
found_valid text (Some (values.pair u w)) t sound is = one_of_holds IsValid text (is_some (first_name text)) (is_some (second_name text)) u w t is sound.0 sound.1
found_valid text (Some (values.problem p)) t sound is = cc
found_valid text (Some (values.expansion x)) t sound is = cc
found_valid text (Some (values.definition p)) t sound is = cc

-- a problem that a field is given is such as is read
pub found_read : (text : List ℕ) (v : Option Value) (p : Problem) → IfSome v IsSound → problem_given text v ≡ found p → IsReadProblem p
found_read text None p sound is = cc
found_read text (Some values.nothing) p sound is = cc
found_read text (Some values.refused) p sound is = cc
found_read text (Some values.lacking) p sound is = cc
found_read text (Some (values.proof t)) p sound is = cc
found_read text (Some (values.pair t u)) p sound is = cc
found_read text (Some (values.problem q)) p sound is = subst IsReadProblem (whole_is text (is_some (pair_name text)) q p is) sound
found_read text (Some (values.expansion x)) p sound is = cc
found_read text (Some (values.definition d)) p sound is = cc

-- expansion trees that a field is given are an expansion proof
pub found_expansion : (text : List ℕ) (v : Option Value) (x : Expansion) → IfSome v IsSound → expansion_given text v ≡ found x → IsExpansionProof x (shallow_sequent x)
found_expansion text None x sound is = cc
found_expansion text (Some values.nothing) x sound is = cc
found_expansion text (Some values.refused) x sound is = cc
found_expansion text (Some values.lacking) x sound is = cc
found_expansion text (Some (values.proof t)) x sound is = cc
found_expansion text (Some (values.pair t u)) x sound is = cc
found_expansion text (Some (values.problem p)) x sound is = cc
found_expansion text (Some (values.expansion y)) x sound is =
    subst (λ z. IsExpansionProof z (shallow_sequent z)) (whole_is text (is_some (pair_name text)) y x is) sound
found_expansion text (Some (values.definition p)) x sound is = cc

-- something is made only of what is found
pub over_made : {A : Type 0} (f : Found A) (k : A → Answer) (made : Product) → over f k ≡ product made → (a : A) × (f ≡ found a) × (k a ≡ product made)
over_made (missing r) k made is = cc
over_made wanting k made is = cc
over_made (found a) k made is = (a, refl, is)

pub over_both_made : {A B : Type 0} (f : Found A) (s : Found B) (k : A → B → Answer) (made : Product) → over_both f s k ≡ product made
    → (a : A) × (b : B) × (f ≡ found a) × (s ≡ found b) × (k a b ≡ product made)
over_both_made (missing r) s k made is = cc
over_both_made wanting s k made is = let one = over_made s (λ b. lacking) made is in let none = one.2 in cc
over_both_made (found a) s k made is = let one = over_made s (k a) made is in (a, one.0, refl, one.1, one.2)

pub first_sound : (vs : List (Option Value)) → All (λ v. IfSome v IsSound) vs → IfSome (first_of vs) IsSound
first_sound [] sound = tt
first_sound (v ∷ vs) sound = All-head (λ v. IfSome v IsSound) v vs sound

-- the product is this proof
pub this_proof : (t : Tree) (made : Product) (P : Tree → Type 0) → product (proof t) ≡ product made → P t → AProof made P
this_proof t made P is h = let same : proof t ≡ made = cc in subst (λ p. AProof p P) same h

-- a proof under a map
pub subst_made : (of : List ℕ) (m : Map) (v : Option Value) (made : Product) → IsFormedMap (fin.get m) → IfSome v IsSound
    → over (proof_given of v) (λ t. product (proof (sub t m))) ≡ product made
    → (t : Tree) × (proof_given of v ≡ found t) × AProof made (λ u. IsProofOf u (image_sequent (fin.get m) (concl t)))
subst_made of m v made formed sound is =
    let one = over_made (proof_given of v) (λ t. product (proof (sub t m))) made is in
    let valid = found_valid of v one.0 sound one.1 in
    (one.0, one.1, this_proof (sub one.0 m) made _ one.2 (record { valid = sub_valid one.0 m formed valid; ends = concl-sub one.0 m }))

-- an elimination of cuts
eliminated_by : (t : Tree) (n : ℕ) (made : Product) (r : Option (Tree × ℕ)) → IsValid t → elimination t n ≡ r → eliminates r ≡ product made
    → AReducedProof made (λ u k. IsEliminated t n u k)
eliminated_by t n made None valid by is = cc
eliminated_by t n made (Some p) valid by is =
    let reached = (least_reached t n p.0 p.1).0 by in
    let eliminated : IsEliminated t n p.0 p.1 = record {
      right = record { valid = result_valid t p.0 p.1 n valid by; ends = result_end t p.0 p.1 n by };
      cut_free = reached.0.done;
      reached = reached.0;
      within = reached.1;
    } in
    let same : reduced p.0 p.1 ≡ made = cc in subst (λ q. AReducedProof q (λ u k. IsEliminated t n u k)) same eliminated

pub cutelim_made : (of : List ℕ) (n : ℕ) (v : Option Value) (made : Product) → IfSome v IsSound
    → over (proof_given of v) (λ t. eliminates (elimination t n)) ≡ product made
    → (t : Tree) × (proof_given of v ≡ found t) × AReducedProof made (λ u k. IsEliminated t n u k)
cutelim_made of n v made sound is =
    let one = over_made (proof_given of v) (λ t. eliminates (elimination t n)) made is in
    (one.0, one.1, eliminated_by one.0 n made (elimination one.0 n) (found_valid of v one.0 sound one.1) refl one.2)

-- the clauses of a problem that is read
pub read_clauses : (p : Problem) → IsReadProblem p → All IsClauseOf (clauses_of p.entries)
read_clauses p read =
    let cs = clauses_of p.entries in
    all_clauses p.entries p.entries cs (length p.entries) refl (omega arith)
    (ap (λ es. cs ++ clauses_of es) (drop_of_length-le p.entries (omega arith)) ∙ append-nil cs) read.entries

-- a clause with few variables has a well-formed closure
closure_formed : (c : Clause) → IsClauseOf c → has_closure c ≡ true → IsFormed (closure_of c)
closure_formed c h few = few_variables c.vars c.matrix _ refl h.shape h.formed (ltb-true (length c.vars) (2 ^ 32) few)

pub closures_formed : (cs : List Clause) → All IsClauseOf cs → list_all has_closure cs ≡ true → All (λ c. IsFormed (closure_of c)) cs
closures_formed [] h few = λ k d l. absurd (omega arith)
closures_formed (c ∷ cs) h few =
    All-cons (λ d. IsFormed (closure_of d)) c cs (closure_formed c (All-head IsClauseOf c cs h) (and_left (has_closure c) (list_all has_closure cs) few))
    (closures_formed cs (All-tail IsClauseOf c cs h) (and_right (has_closure c) (list_all has_closure cs) few))

-- a refutation
refuted_by : (p : Problem) (list : List ResStep) (made : Product) (r : Result Tree (ℕ × ResCause)) → IsReadProblem p → AreFormedSteps list
    → list_all has_closure (clauses_of p.entries) ≡ true → refutation (clauses_of p.entries) list ≡ r → refuted r ≡ product made
    → AProof made (λ t. IsProofOf t (closures (clauses_of p.entries)))
refuted_by p list made (Err (i, cause)) read formed closed by is = cc
refuted_by p list made (Ok t) read formed closed by is =
    let cs = clauses_of p.entries in
    let each = read_clauses p read in
    this_proof t made _ is (record { valid = valid_refutation cs list t each (closures_formed cs each closed) formed by; ends = end_of_refutation cs list t each formed by })

refutes_by : (p : Problem) (list : List ResStep) (made : Product) (b : Bool) → IsReadProblem p → AreFormedSteps list
    → list_all has_closure (clauses_of p.entries) ≡ b → cond b (refuted (refutation (clauses_of p.entries) list)) lacking ≡ product made
    → AProof made (λ t. IsProofOf t (closures (clauses_of p.entries)))
refutes_by p list made true read formed closed is = refuted_by p list made (refutation (clauses_of p.entries) list) read formed closed refl is
refutes_by p list made false read formed closed is = cc

pub resolution_made : (of : List ℕ) (list : List ResStep) (v : Option Value) (made : Product) → AreFormedSteps list → IfSome v IsSound
    → over (problem_given of v) (refutes list) ≡ product made
    → (p : Problem) × (problem_given of v ≡ found p) × AProof made (λ t. IsProofOf t (closures (clauses_of p.entries)))
resolution_made of list v made formed sound is =
    let one = over_made (problem_given of v) (refutes list) made is in
    (one.0, one.1, refutes_by one.0 list made (list_all has_closure (clauses_of one.0.entries)) (found_read of v one.0 sound one.1) formed refl one.2)

-- a proof that a search finds

searched_by : (s : Sequent) (n : ℕ) (made : Product) (r : Result Tree SearchFault) → AreFormedSides s → found_within n (walk s) ≡ r → searched r ≡ product made
    → AProof made (λ t. IsCutFreeProofOf t s)
searched_by s n made (Ok t) formed by is =
    let found : IsFound s t = found_tree s t (found_proved n (walk s) t by) in
    this_proof t made _ is (record {
      right = record { valid = found.valid (formed_sequent s formed.0 formed.1); ends = found.end };
      cut_free = found.without_cuts;
    })
searched_by s n made (Err (search.Falsified atoms)) formed by is = cc
searched_by s n made (Err search.Budget) formed by is = cc
searched_by s n made (Err search.Memory) formed by is = cc

searches_by : (s : Sequent) (n : ℕ) (made : Product) (q : Option (Formula × Side)) → AreFormedSides s → searches q s n ≡ product made
    → AProof made (λ t. IsCutFreeProofOf t s)
searches_by s n made (Some q) formed is = cc
searches_by s n made None formed is = searched_by s n made (found_within n (walk s)) formed refl is

pub tautology_made : (s : Sequent) (n : ℕ) (made : Product) → AreFormedSides s → searches (quantified_in s) s n ≡ product made
    → AProof made (λ t. IsCutFreeProofOf t s)
tautology_made s n made formed is = searches_by s n made (quantified_in s) formed is

-- expansion trees that are read and checked

-- what is read of a flat list, and what passes the check of trees
abbrev pub ReadsRightly : Type 0
ReadsRightly = (flat : FlatExp) (n : ℕ) (x : Expansion) → reading flat n ≡ Ok x → (x ≡ expansion_over flat) × AreRight x

abbrev pub ChecksRightly : Type 0
ChecksRightly = (x y : Expansion) (n : ℕ) → All (λ e. is_built e ≡ true) x.left → All (λ e. is_built e ≡ true) x.right → All (λ e. stands Left e ≡ true) x.left
    → All (λ e. stands Right e ≡ true) x.right → checking x n ≡ Ok y → (y ≡ x) × IsExpansionProof x (shallow_sequent x)

module _ (reads_right : ReadsRightly) (checks_right : ChecksRightly) (flat : FlatExp) (n : ℕ) (made : Product) where
  checked_by : (x : Expansion) (r : Result Expansion ExpFault) → reading flat n ≡ Ok x → checking x n ≡ r → checked r ≡ product made → AnExpansion made (IsExpansionOf flat)
  checked_by x (Ok y) by is done =
      let read = reads_right flat n x by in
      let right = read.1 in
      let proof = checks_right x y n right.built_left right.built_right right.stand_left right.stand_right is in
      let same : expansion y ≡ made = cc in
      subst (λ p. AnExpansion p (IsExpansionOf flat)) (ap expansion (sym proof.0) ∙ same) (record { trees = read.0; right = proof.1 })
  checked_by x (Err (checks.EigenTwice v)) by is done = cc
  checked_by x (Err (checks.EigenFree v)) by is done = cc
  checked_by x (Err (checks.Cycle vs)) by is done = cc
  checked_by x (Err (checks.Falsified a)) by is done = cc
  checked_by x (Err checks.Budget) by is done = cc
  checked_by x (Err checks.Memory) by is done = cc

  read_by : (r : Result Expansion NodesFault) → reading flat n ≡ r → reads r n ≡ product made → AnExpansion made (IsExpansionOf flat)
  read_by (Ok x) by is = checked_by x (checking x n) by refl is
  read_by (Err (reading_faults.Node i cause)) by is = cc
  read_by (Err (reading_faults.Root i cause)) by is = cc
  read_by (Err reading_faults.Budget) by is = cc
  read_by (Err reading_faults.Memory) by is = cc

  pub expansion_made : reads (reading flat n) n ≡ product made → AnExpansion made (IsExpansionOf flat)
  expansion_made is = read_by (reading flat n) refl is
