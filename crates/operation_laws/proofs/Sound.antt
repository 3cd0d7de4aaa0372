-- What an operation makes of sound values is sound.
use Rattle.std.proofs.Common.{◌≡◌, ℕ, Bool, List, [], ◌∷◌, Option, refl, sym, ap, ◌∙◌, subst, inl, inr}
use Rattle.std.specs.Prelude.{IfSome}
use Rattle.std.specs.List.{All}
use Rattle.std.proofs.lemmas.List.Elements.{All-nil, All-cons}
use Rattle.fol.specs.declared.symbols.Sym.{Sym}
use Rattle.fol.specs.Syntax.{pred, defined, Formula}
use Rattle.fol.specs.Formed.{IsFormedPred}
use Rattle.lk_rules.specs.declared.sequent.Sequent.{Sequent}
use Rattle.proof_trees.specs.Trees.{Tree, IsValid}
use Rattle.lk_rules.specs.Formulas.{FormulaSet}
use Rattle.refutations.specs.declared.step.ResStep.{ResStep}
use Rattle.expansion_laws.specs.Dependency.{Expansion}
use Rattle.expansion_laws.specs.Proofs.{IsExpansionProof}
use Rattle.exp_tree.specs.Writing.{flat_of}
use Rattle.step_laws.specs.Places.{steps_of}
use Rattle.job_lang.specs.declared.jobs.Op.{Op}
use Rattle.job_lang.specs.declared.jobs.Op.TheVariants as ops
use Rattle.job_lang.specs.FormedOps.{IsFormedOp}
use Rattle.operation_laws.specs.Values.{Value, IsSound}
use Rattle.operation_laws.specs.Values as values
use Rattle.operation_laws.specs.Answers.{Product, proof, reduced, problem, proves, steps, sizes, expansion, nodes, interpolant, herbrand, introduced, definition, model, refutation, derivation, saturated, Answer, refused, failed, lacking, product, held_product, held, proofs_in, Asked, one as answering, elimination as reached_from, satisfiability, saturation, May}
use Rattle.operation_laws.specs.Given.{ToShow, of_proof, of_expansion, shown_given, proof_given, problem_given, first_of, second_of}
use Rattle.operation_laws.specs.Running.{lists, run}
use Rattle.operation_laws.specs.Claims.{AProof, AReducedProof, AnExpansion, AnInterpolant, AHerbrandSequent, AnIntroduction, ADefinition, ASolution, ASaturation}
use Rattle.operation_laws.proofs.Making.{found_valid, found_read, over_made, over_both_made, subst_made, cutelim_made, resolution_made, tautology_made, expansion_made, first_sound}
use Rattle.operation_laws.proofs.Defined.{lk_made, define_made, unfold_made}
use Rattle.operation_laws.proofs.Solved.{solves_unanswered, solved}
use Rattle.operation_laws.proofs.Saturated.{saturates_unanswered, ended}
use Rattle.operation_laws.proofs.Asking.{IsAskedBy, asked_by}
use Rattle.operation_laws.proofs.Freed.{of_one, inside, eliminates_unanswered, freed}
use Rattle.operation_laws.proofs.Interpolated.{interpolation_made}
use Rattle.operation_laws.proofs.Trees.{expand_made, fromexp_made}
use Rattle.operation_laws.proofs.Introduced.{herbrand_made, cutintro_made}
use Rattle.operation_laws.proofs.Rightly.{WorksRightly}

abbrev AreSound : List (Option Value) → Type 0
AreSound vs = All (λ v. IfSome v IsSound) vs

-- a proof that is made is valid
proof_sound : (made : Product) (P : Tree → Type 0) → ((t : Tree) → P t → IsValid t) → AProof made P → IsSound (held_product made)
proof_sound (proof t) P valid h = valid t h
proof_sound (reduced t n) P valid h = absurd h
proof_sound (problem p) P valid h = absurd h
proof_sound (proves b) P valid h = absurd h
proof_sound (steps list) P valid h = absurd h
proof_sound (sizes cuts distinct quants size) P valid h = absurd h
proof_sound (expansion x) P valid h = absurd h
proof_sound (nodes flat) P valid h = absurd h
proof_sound (interpolant f t u) P valid h = absurd h
proof_sound (herbrand k s) P valid h = absurd h
proof_sound (introduced t b) P valid h = absurd h
proof_sound (definition d f) P valid h = absurd h
proof_sound (model atoms) P valid h = absurd h
proof_sound (refutation list u) P valid h = absurd h
proof_sound (derivation list u) P valid h = absurd h
proof_sound (saturated ks) P valid h = absurd h

reduced_sound : (made : Product) (P : Tree → ℕ → Type 0) → ((t : Tree) (n : ℕ) → P t n → IsValid t) → AReducedProof made P → IsSound (held_product made)
reduced_sound (reduced t n) P valid h = valid t n h
reduced_sound (proof t) P valid h = absurd h
reduced_sound (problem p) P valid h = absurd h
reduced_sound (proves b) P valid h = absurd h
reduced_sound (steps list) P valid h = absurd h
reduced_sound (sizes cuts distinct quants size) P valid h = absurd h
reduced_sound (expansion x) P valid h = absurd h
reduced_sound (nodes flat) P valid h = absurd h
reduced_sound (interpolant f t u) P valid h = absurd h
reduced_sound (herbrand k s) P valid h = absurd h
reduced_sound (introduced t b) P valid h = absurd h
reduced_sound (definition d f) P valid h = absurd h
reduced_sound (model atoms) P valid h = absurd h
reduced_sound (refutation list u) P valid h = absurd h
reduced_sound (derivation list u) P valid h = absurd h
reduced_sound (saturated ks) P valid h = absurd h

-- expansion trees that are made are an expansion proof
expansion_sound : (made : Product) (P : Expansion → Type 0) → ((x : Expansion) → P x → IsSound (values.expansion x)) → AnExpansion made P → IsSound (held_product made)
expansion_sound (expansion x) P sound h = sound x h
expansion_sound (proof t) P sound h = absurd h
expansion_sound (reduced t n) P sound h = absurd h
expansion_sound (problem p) P sound h = absurd h
expansion_sound (proves b) P sound h = absurd h
expansion_sound (steps list) P sound h = absurd h
expansion_sound (sizes cuts distinct quants size) P sound h = absurd h
expansion_sound (nodes flat) P sound h = absurd h
expansion_sound (interpolant f t u) P sound h = absurd h
expansion_sound (herbrand k s) P sound h = absurd h
expansion_sound (introduced t b) P sound h = absurd h
expansion_sound (definition d f) P sound h = absurd h
expansion_sound (model atoms) P sound h = absurd h
expansion_sound (refutation list u) P sound h = absurd h
expansion_sound (derivation list u) P sound h = absurd h
expansion_sound (saturated ks) P sound h = absurd h

-- both proofs of an interpolant that is made are valid
interpolant_sound : (made : Product) (P : Formula → Tree → Tree → Type 0) → ((f : Formula) (t u : Tree) → P f t u → IsValid t × IsValid u) → AnInterpolant made P
    → IsSound (held_product made)
interpolant_sound (interpolant f t u) P valid h = valid f t u h
interpolant_sound (proof t) P valid h = absurd h
interpolant_sound (reduced t n) P valid h = absurd h
interpolant_sound (problem p) P valid h = absurd h
interpolant_sound (proves b) P valid h = absurd h
interpolant_sound (steps list) P valid h = absurd h
interpolant_sound (sizes cuts distinct quants size) P valid h = absurd h
interpolant_sound (expansion x) P valid h = absurd h
interpolant_sound (nodes flat) P valid h = absurd h
interpolant_sound (herbrand k s) P valid h = absurd h
interpolant_sound (introduced t b) P valid h = absurd h
interpolant_sound (definition d f) P valid h = absurd h
interpolant_sound (model atoms) P valid h = absurd h
interpolant_sound (refutation list u) P valid h = absurd h
interpolant_sound (derivation list u) P valid h = absurd h
interpolant_sound (saturated ks) P valid h = absurd h

-- a Herbrand sequent is held by no job
herbrand_sound : (made : Product) (P : ℕ → Sequent → Type 0) → AHerbrandSequent made P → IsSound (held_product made)
herbrand_sound (herbrand k s) P h = tt
herbrand_sound (proof t) P h = absurd h
herbrand_sound (reduced t n) P h = absurd h
herbrand_sound (problem p) P h = absurd h
herbrand_sound (proves b) P h = absurd h
herbrand_sound (steps list) P h = absurd h
herbrand_sound (sizes cuts distinct quants size) P h = absurd h
herbrand_sound (expansion x) P h = absurd h
herbrand_sound (nodes flat) P h = absurd h
herbrand_sound (interpolant f t u) P h = absurd h
herbrand_sound (introduced t b) P h = absurd h
herbrand_sound (definition d f) P h = absurd h
herbrand_sound (model atoms) P h = absurd h
herbrand_sound (refutation list u) P h = absurd h
herbrand_sound (derivation list u) P h = absurd h
herbrand_sound (saturated ks) P h = absurd h

introduced_sound : (made : Product) (P : Tree → Bool → Type 0) → ((t : Tree) (b : Bool) → P t b → IsValid t) → AnIntroduction made P → IsSound (held_product made)
introduced_sound (introduced t b) P valid h = valid t b h
introduced_sound (proof t) P valid h = absurd h
introduced_sound (reduced t n) P valid h = absurd h
introduced_sound (problem p) P valid h = absurd h
introduced_sound (proves b) P valid h = absurd h
introduced_sound (steps list) P valid h = absurd h
introduced_sound (sizes cuts distinct quants size) P valid h = absurd h
introduced_sound (expansion x) P valid h = absurd h
introduced_sound (nodes flat) P valid h = absurd h
introduced_sound (interpolant f t u) P valid h = absurd h
introduced_sound (herbrand k s) P valid h = absurd h
introduced_sound (definition d f) P valid h = absurd h
introduced_sound (model atoms) P valid h = absurd h
introduced_sound (refutation list u) P valid h = absurd h
introduced_sound (derivation list u) P valid h = absurd h
introduced_sound (saturated ks) P valid h = absurd h

-- a symbol that is defined is well formed
definition_sound : (made : Product) (P : Sym → Formula → Type 0) → ((s : Sym) (f : Formula) → P s f → IsFormedPred (pred s (defined f))) → ADefinition made P
    → IsSound (held_product made)
definition_sound (definition s f) P formed h = formed s f h
definition_sound (proof t) P formed h = absurd h
definition_sound (reduced t n) P formed h = absurd h
definition_sound (problem p) P formed h = absurd h
definition_sound (proves b) P formed h = absurd h
definition_sound (steps list) P formed h = absurd h
definition_sound (sizes cuts distinct quants size) P formed h = absurd h
definition_sound (expansion x) P formed h = absurd h
definition_sound (nodes flat) P formed h = absurd h
definition_sound (interpolant f t u) P formed h = absurd h
definition_sound (herbrand k s) P formed h = absurd h
definition_sound (introduced t b) P formed h = absurd h
definition_sound (model atoms) P formed h = absurd h
definition_sound (refutation list u) P formed h = absurd h
definition_sound (derivation list u) P formed h = absurd h
definition_sound (saturated ks) P formed h = absurd h

-- the proof of a refutation that is made is valid
solution_sound : (made : Product) (P : FormulaSet → Type 0) (Q : List ResStep → Tree → Type 0) → ((list : List ResStep) (t : Tree) → Q list t → IsValid t) → ASolution made P Q
    → IsSound (held_product made)
solution_sound (model atoms) P Q valid h = tt
solution_sound (refutation list t) P Q valid h = valid list t h
solution_sound (derivation list t) P Q valid h = absurd h
solution_sound (saturated ks) P Q valid h = absurd h
solution_sound (proof t) P Q valid h = absurd h
solution_sound (reduced t n) P Q valid h = absurd h
solution_sound (problem p) P Q valid h = absurd h
solution_sound (proves b) P Q valid h = absurd h
solution_sound (steps list) P Q valid h = absurd h
solution_sound (sizes cuts distinct quants size) P Q valid h = absurd h
solution_sound (expansion x) P Q valid h = absurd h
solution_sound (nodes flat) P Q valid h = absurd h
solution_sound (interpolant f t u) P Q valid h = absurd h
solution_sound (herbrand k s) P Q valid h = absurd h
solution_sound (introduced t b) P Q valid h = absurd h
solution_sound (definition s f) P Q valid h = absurd h

-- the proof of a refutation that rounds reach is valid
saturation_sound : (made : Product) (P : List Sequent → Type 0) (Q : List ResStep → Tree → Type 0) → ((list : List ResStep) (t : Tree) → Q list t → IsValid t) → ASaturation made P Q
    → IsSound (held_product made)
saturation_sound (derivation list t) P Q valid h = valid list t h
saturation_sound (saturated ks) P Q valid h = tt
saturation_sound (model atoms) P Q valid h = absurd h
saturation_sound (refutation list t) P Q valid h = absurd h
saturation_sound (proof t) P Q valid h = absurd h
saturation_sound (reduced t n) P Q valid h = absurd h
saturation_sound (problem p) P Q valid h = absurd h
saturation_sound (proves b) P Q valid h = absurd h
saturation_sound (steps list) P Q valid h = absurd h
saturation_sound (sizes cuts distinct quants size) P Q valid h = absurd h
saturation_sound (expansion x) P Q valid h = absurd h
saturation_sound (nodes flat) P Q valid h = absurd h
saturation_sound (interpolant f t u) P Q valid h = absurd h
saturation_sound (herbrand k s) P Q valid h = absurd h
saturation_sound (introduced t b) P Q valid h = absurd h
saturation_sound (definition s f) P Q valid h = absurd h

-- the product is this one
is_sound : (this made : Product) → product this ≡ product made → IsSound (held_product this) → IsSound (held_product made)
is_sound this made is h = let same : this ≡ made = cc in subst (λ p. IsSound (held_product p)) same h

-- what is shown is held by no job
shown_sound : (s : ToShow) (made : Product) → lists s ≡ product made → IsSound (held_product made)
shown_sound (of_proof t) made is = is_sound (steps (steps_of t)) made is tt
shown_sound (of_expansion x) made is = is_sound (nodes (flat_of x)) made is tt

-- each operation
answer_sound : WorksRightly → (op : Op) (vs : List (Option Value)) (made : Product) → IsFormedOp op → AreSound vs → run op vs ≡ answering (product made) → IsSound (held_product made)
answer_sound rightly (ops.Lk list using) vs made formed sound is =
    let it = lk_made rightly.marks list using vs made formed sound (inside _ _ is) in proof_sound made _ (λ t h. h.valid) it.2
answer_sound rightly (ops.Problem p) vs made formed sound is = is_sound (problem p) made (inside _ _ is) formed
answer_sound rightly (ops.Proves of goal) vs made formed sound is =
    let both = over_both_made (proof_given of (first_of vs)) (problem_given goal (second_of vs)) _ made (inside _ _ is) in is_sound (proves _) made both.4 tt
answer_sound rightly (ops.Show of) vs made formed sound is = let it = over_made (shown_given of (first_of vs)) lists made (inside _ _ is) in shown_sound it.0 made it.2
answer_sound rightly (ops.Measure of) vs made formed sound is = let it = over_made (proof_given of (first_of vs)) _ made (inside _ _ is) in is_sound (sizes _ _ _ _) made it.2 tt
answer_sound rightly (ops.Subst of m) vs made formed sound is =
    let it = subst_made of m (first_of vs) made formed (first_sound vs sound) (inside _ _ is) in proof_sound made _ (λ t h. h.valid) it.2
answer_sound rightly (ops.Cutelim of n) vs made formed sound is =
    let it = cutelim_made of n (first_of vs) made (first_sound vs sound) (inside _ _ is) in reduced_sound made _ (λ t k h. h.right.valid) it.2
answer_sound rightly (ops.Eliminate of) vs made formed sound is = absurd (eliminates_unanswered (proof_given of (first_of vs)) made is)
answer_sound rightly (ops.Define symbol vars body using) vs made formed sound is =
    let it = define_made rightly.defines symbol vars body using vs made (inside _ _ is) in definition_sound made _ (λ s f h. h.formed) it.2
answer_sound rightly (ops.Unfold of) vs made formed sound is =
    let it = unfold_made rightly.unfolds of (first_of vs) made (first_sound vs sound) (inside _ _ is) in proof_sound made _ (λ t h. h.right.valid) it.2
answer_sound rightly (ops.Sat of) vs made formed sound is = absurd (solves_unanswered (problem_given of (first_of vs)) made is)
answer_sound rightly (ops.Prove of n) vs made formed sound is = absurd (saturates_unanswered n (problem_given of (first_of vs)) made is)
answer_sound rightly (ops.Resolution of list) vs made formed sound is =
    let it = resolution_made of list (first_of vs) made formed (first_sound vs sound) (inside _ _ is) in proof_sound made _ (λ t h. h.valid) it.2
answer_sound rightly (ops.Tautology s n) vs made formed sound is = proof_sound made _ (λ t h. h.right.valid) (tautology_made s n made formed (inside _ _ is))
answer_sound rightly (ops.Expansion flat n) vs made formed sound is = expansion_sound made _ (λ x h. h.right) (expansion_made rightly.reads rightly.checks flat n made (inside _ _ is))
answer_sound rightly (ops.Expand of n) vs made formed sound is =
    let it = expand_made rightly.extracts of n (first_of vs) made (first_sound vs sound) (inside _ _ is) in expansion_sound made _ (λ x h. subst (IsExpansionProof x) (sym h.formulas) h) it.2
answer_sound rightly (ops.Fromexp of n) vs made formed sound is =
    let it = fromexp_made rightly.builds of n (first_of vs) made (first_sound vs sound) (inside _ _ is) in proof_sound made _ (λ t h. h.right.valid) it.2
answer_sound rightly (ops.Interpolate of one two n) vs made formed sound is =
    let pair = interpolation_made rightly.interpolates of one two n (first_of vs) made formed (first_sound vs sound) (inside _ _ is) in
    interpolant_sound made _ (λ f t u h. (h.first.right.valid, h.second.right.valid)) pair.2
answer_sound rightly (ops.Herbrand of n) vs made formed sound is =
    let it = herbrand_made rightly.instances of n (first_of vs) made (first_sound vs sound) (inside _ _ is) in herbrand_sound made _ it.2
answer_sound rightly (ops.Cutintro of width n) vs made formed sound is =
    let it = cutintro_made rightly.introduces of width n (first_of vs) made (first_sound vs sound) (inside _ _ is) in introduced_sound made _ (λ t b h. h.right.valid) it.2

pub made_sound : WorksRightly → (op : Op) (vs : List (Option Value)) (made : Product) → IsFormedOp op → AreSound vs → May (run op vs) (product made) → IsSound (held_product made)
made_sound rightly op vs made formed sound may = by_asked (run op vs) refl may
  where
    by_asked : (asked : Asked) → run op vs ≡ asked → May asked (product made) → IsSound (held_product made)
    by_asked (answering a) is may = answer_sound rightly op vs made formed sound (is ∙ ap answering (of_one a made may))
    by_asked (reached_from t) is (inl reached) =
        let asked = subst (IsAskedBy op vs) is (asked_by op vs) in
        reduced_sound made _ (λ u k h. h.right.valid) (freed t made (found_valid asked.0 (first_of vs) t (first_sound vs sound) asked.2) reached)
    by_asked (reached_from t) is (inr none) = cc
    by_asked (satisfiability cs) is may =
        let asked = subst (IsAskedBy op vs) is (asked_by op vs) in
        let given = asked.2 in
        let p = given.0 in
        solution_sound made _ _ (λ list t h. h.right.valid)
        (solved p made (found_read asked.0 (first_of vs) p (first_sound vs sound) given.1) given.2.closed (subst (λ ds. May (satisfiability ds) (product made)) (sym given.2.are) may))
    by_asked (saturation cs n) is may =
        let asked = subst (IsAskedBy op vs) is (asked_by op vs) in
        let given = asked.2 in
        let p = given.0 in
        saturation_sound made _ _ (λ list t h. h.right.valid)
        (ended p n made (found_read asked.0 (first_of vs) p (first_sound vs sound) given.1) given.2.closed (subst (λ ds. May (saturation ds n) (product made)) (sym given.2.are) may))

-- each proof in what is made is valid
pub proofs_valid : (made : Product) → IsSound (held_product made) → All IsValid (proofs_in made)
proofs_valid (proof t) valid = All-cons IsValid t [] valid (All-nil IsValid)
proofs_valid (reduced t n) valid = All-cons IsValid t [] valid (All-nil IsValid)
proofs_valid (problem p) read = All-nil IsValid
proofs_valid (proves b) done = All-nil IsValid
proofs_valid (steps list) done = All-nil IsValid
proofs_valid (sizes cuts distinct quants size) done = All-nil IsValid
proofs_valid (expansion x) done = All-nil IsValid
proofs_valid (nodes flat) done = All-nil IsValid
proofs_valid (interpolant f t u) valid = All-cons IsValid t (u ∷ []) valid.0 (All-cons IsValid u [] valid.1 (All-nil IsValid))
proofs_valid (herbrand k s) done = All-nil IsValid
proofs_valid (definition d f) done = All-nil IsValid
proofs_valid (model atoms) done = All-nil IsValid
proofs_valid (refutation list t) valid = All-cons IsValid t [] valid (All-nil IsValid)
proofs_valid (derivation list t) valid = All-cons IsValid t [] valid (All-nil IsValid)
proofs_valid (saturated ks) done = All-nil IsValid
proofs_valid (introduced t b) valid = All-cons IsValid t [] valid (All-nil IsValid)

-- what is held is sound
pub held_sound : (a : Answer) → ((made : Product) → a ≡ product made → IsSound (held_product made)) → IsSound (held a)
held_sound (refused r) sound = tt
held_sound (failed f) sound = tt
held_sound lacking sound = tt
held_sound (product made) sound = sound made refl
