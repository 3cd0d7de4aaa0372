-- Each operation makes what it claims.
use Rattle.std.proofs.Common.{◌≡◌, ℕ, List, [], ◌∷◌, length, Option, refl, sym, ap, ◌∙◌, subst, inl, inr, arith}
use Rattle.std.specs.Prelude.{IfSome}
use Rattle.std.specs.List.{All}
use Rattle.proof_trees.specs.Trees.{Tree}
use Rattle.expansion_laws.specs.Dependency.{Expansion}
use Rattle.exp_tree.specs.Writing.{flat_of}
use Rattle.step_laws.specs.Places.{steps_of}
use Rattle.tptp_problem.specs.declared.problems.Problem.{Problem}
use Rattle.job_lang.specs.declared.jobs.Op.{Op}
use Rattle.job_lang.specs.declared.jobs.Op.TheVariants as ops
use Rattle.job_lang.specs.FormedOps.{IsFormedOp}
use Rattle.operation_laws.specs.Values.{Value, IsSound}
use Rattle.operation_laws.specs.Answers.{Product, problem, steps, nodes, product, Asked, one as answering, elimination as reached_from, satisfiability, saturation, May}
use Rattle.operation_laws.specs.Given.{names_in, Found, found, ToShow, of_proof, of_expansion, shown_given, proof_given, problem_given, expansion_given, definitions_given, first_of, second_of}
use Rattle.operation_laws.specs.Running.{lists, run}
use Rattle.operation_laws.specs.Claims.{IsFoundAnd, GivenProof, GivenProblem, GivenExpansion, GivenBoth, IsListOf, Lists, Claims}
use Rattle.operation_laws.proofs.Making.{found_valid, found_read, over_made, over_both_made, subst_made, cutelim_made, resolution_made, tautology_made, expansion_made, first_sound}
use Rattle.operation_laws.proofs.Defined.{lk_made, define_made, unfold_made}
use Rattle.operation_laws.proofs.Solved.{solves_unanswered, solved}
use Rattle.operation_laws.proofs.Saturated.{saturates_unanswered, ended}
use Rattle.operation_laws.proofs.Asking.{IsAskedBy, asked_by}
use Rattle.operation_laws.proofs.Freed.{of_one, inside, eliminates_unanswered, freed}
use Rattle.operation_laws.proofs.Interpolated.{interpolation_made}
use Rattle.operation_laws.proofs.Trees.{expand_made, fromexp_made}
use Rattle.operation_laws.proofs.Introduced.{herbrand_made, cutintro_made}
use Rattle.operation_laws.proofs.Rightly.{WorksRightly}

-- what is given, by what the fields are given
found_and : {A : Type 0} (f : Found A) (a : A) (P : A → Type 0) → f ≡ found a → P a → IsFoundAnd f P
found_and f a P is h = subst (λ g. IsFoundAnd g P) (sym is) h

given_proof : (of : List ℕ) (vs : List (Option Value)) (t : Tree) (P : Tree → Type 0) → length vs ≡ 1 → proof_given of (first_of vs) ≡ found t → P t → GivenProof of vs P
given_proof of [] t P one is h = absurd (omega arith)
given_proof of (v ∷ []) t P one is h = found_and (proof_given of v) t P is h
given_proof of (v ∷ w ∷ vs) t P one is h = absurd (omega arith)

given_problem : (goal : List ℕ) (vs : List (Option Value)) (p : Problem) (P : Problem → Type 0) → length vs ≡ 1 → problem_given goal (first_of vs) ≡ found p → P p
    → GivenProblem goal vs P
given_problem goal [] p P one is h = absurd (omega arith)
given_problem goal (v ∷ []) p P one is h = found_and (problem_given goal v) p P is h
given_problem goal (v ∷ w ∷ vs) p P one is h = absurd (omega arith)

given_expansion : (of : List ℕ) (vs : List (Option Value)) (x : Expansion) (P : Expansion → Type 0) → length vs ≡ 1 → expansion_given of (first_of vs) ≡ found x → P x
    → GivenExpansion of vs P
given_expansion of [] x P one is h = absurd (omega arith)
given_expansion of (v ∷ []) x P one is h = found_and (expansion_given of v) x P is h
given_expansion of (v ∷ w ∷ vs) x P one is h = absurd (omega arith)

given_both : (of goal : List ℕ) (vs : List (Option Value)) (t : Tree) (p : Problem) (P : Tree → Problem → Type 0) → length vs ≡ 2 → proof_given of (first_of vs) ≡ found t
    → problem_given goal (second_of vs) ≡ found p → P t p → GivenBoth of goal vs P
given_both of goal [] t p P two is there h = absurd (omega arith)
given_both of goal (v ∷ []) t p P two is there h = absurd (omega arith)
given_both of goal (v ∷ w ∷ []) t p P two is there h =
    found_and (proof_given of v) t (λ u. IsFoundAnd (problem_given goal w) (P u)) is (found_and (problem_given goal w) p (P t) there h)
given_both of goal (v ∷ w ∷ x ∷ vs) t p P two is there h = absurd (omega arith)

same : (this made : Product) → product this ≡ product made → made ≡ this
same this made is = cc

-- what is shown
listed : (s : ToShow) (made : Product) → lists s ≡ product made → IsListOf made s
listed (of_proof t) made done = same (steps (steps_of t)) made done
listed (of_expansion x) made done = same (nodes (flat_of x)) made done

given_shown : (of : List ℕ) (vs : List (Option Value)) (s : ToShow) (made : Product) → length vs ≡ 1 → shown_given of (first_of vs) ≡ found s → lists s ≡ product made → Lists of vs made
given_shown of [] s made one is done = absurd (omega arith)
given_shown of (v ∷ []) s made one is done = found_and (shown_given of v) s (IsListOf made) is (listed s made done)
given_shown of (v ∷ w ∷ vs) s made one is done = absurd (omega arith)

answer_claimed : WorksRightly → (op : Op) (vs : List (Option Value)) (made : Product) → IsFormedOp op → length vs ≡ length (names_in op)
    → All (λ v. IfSome v IsSound) vs → run op vs ≡ answering (product made) → Claims op vs made
answer_claimed rightly (ops.Lk list using) vs made formed count sound is =
    let it = lk_made rightly.marks list using vs made formed sound (inside _ _ is) in found_and (definitions_given using vs) it.0 _ it.1 it.2
answer_claimed rightly (ops.Problem p) vs made formed count sound is = same (problem p) made (inside _ _ is)
answer_claimed rightly (ops.Proves of goal) vs made formed count sound is =
    let both = over_both_made (proof_given of (first_of vs)) (problem_given goal (second_of vs)) _ made (inside _ _ is) in
    given_both of goal vs both.0 both.1 _ count both.2 both.3 (same _ made both.4)
answer_claimed rightly (ops.Show of) vs made formed count sound is =
    let it = over_made (shown_given of (first_of vs)) lists made (inside _ _ is) in given_shown of vs it.0 made count it.1 it.2
answer_claimed rightly (ops.Measure of) vs made formed count sound is =
    let it = over_made (proof_given of (first_of vs)) _ made (inside _ _ is) in given_proof of vs it.0 _ count it.1 (same _ made it.2)
answer_claimed rightly (ops.Subst of m) vs made formed count sound is =
    let it = subst_made of m (first_of vs) made formed (first_sound vs sound) (inside _ _ is) in given_proof of vs it.0 _ count it.1 it.2
answer_claimed rightly (ops.Cutelim of n) vs made formed count sound is =
    let it = cutelim_made of n (first_of vs) made (first_sound vs sound) (inside _ _ is) in given_proof of vs it.0 _ count it.1 it.2
answer_claimed rightly (ops.Eliminate of) vs made formed count sound is = absurd (eliminates_unanswered (proof_given of (first_of vs)) made is)
answer_claimed rightly (ops.Define symbol vars body using) vs made formed count sound is =
    let it = define_made rightly.defines symbol vars body using vs made (inside _ _ is) in found_and (definitions_given using vs) it.0 _ it.1 it.2
answer_claimed rightly (ops.Unfold of) vs made formed count sound is =
    let it = unfold_made rightly.unfolds of (first_of vs) made (first_sound vs sound) (inside _ _ is) in given_proof of vs it.0 _ count it.1 it.2
answer_claimed rightly (ops.Sat of) vs made formed count sound is = absurd (solves_unanswered (problem_given of (first_of vs)) made is)
answer_claimed rightly (ops.Prove of n) vs made formed count sound is = absurd (saturates_unanswered n (problem_given of (first_of vs)) made is)
answer_claimed rightly (ops.Resolution of list) vs made formed count sound is =
    let it = resolution_made of list (first_of vs) made formed (first_sound vs sound) (inside _ _ is) in given_problem of vs it.0 _ count it.1 it.2
answer_claimed rightly (ops.Tautology s n) vs made formed count sound is = tautology_made s n made formed (inside _ _ is)
answer_claimed rightly (ops.Expansion flat n) vs made formed count sound is = expansion_made rightly.reads rightly.checks flat n made (inside _ _ is)
answer_claimed rightly (ops.Expand of n) vs made formed count sound is =
    let it = expand_made rightly.extracts of n (first_of vs) made (first_sound vs sound) (inside _ _ is) in given_proof of vs it.0 _ count it.1 it.2
answer_claimed rightly (ops.Fromexp of n) vs made formed count sound is =
    let it = fromexp_made rightly.builds of n (first_of vs) made (first_sound vs sound) (inside _ _ is) in given_expansion of vs it.0 _ count it.1 it.2
answer_claimed rightly (ops.Interpolate of one two n) vs made formed count sound is =
    let pair = interpolation_made rightly.interpolates of one two n (first_of vs) made formed (first_sound vs sound) (inside _ _ is) in given_proof of vs pair.0 _ count pair.1 pair.2
answer_claimed rightly (ops.Herbrand of n) vs made formed count sound is =
    let it = herbrand_made rightly.instances of n (first_of vs) made (first_sound vs sound) (inside _ _ is) in given_proof of vs it.0 _ count it.1 it.2
answer_claimed rightly (ops.Cutintro of width n) vs made formed count sound is =
    let it = cutintro_made rightly.introduces of width n (first_of vs) made (first_sound vs sound) (inside _ _ is) in given_proof of vs it.0 _ count it.1 it.2

pub claimed : WorksRightly → (op : Op) (vs : List (Option Value)) (made : Product) → IsFormedOp op → length vs ≡ length (names_in op)
    → All (λ v. IfSome v IsSound) vs → May (run op vs) (product made) → Claims op vs made
claimed rightly op vs made formed count sound may = by_asked (run op vs) refl may
  where
    by_asked : (asked : Asked) → run op vs ≡ asked → May asked (product made) → Claims op vs made
    by_asked (answering a) is may = answer_claimed rightly op vs made formed count sound (is ∙ ap answering (of_one a made may))
    by_asked (reached_from t) is (inl reached) =
        let asked = subst (IsAskedBy op vs) is (asked_by op vs) in
        let of = asked.0 in
        let counted : length vs ≡ 1 = count ∙ ap (λ (o : Op). length (names_in o)) asked.1 in
        subst (λ (o : Op). Claims o vs made) (sym asked.1)
        (given_proof of vs t _ counted asked.2 (freed t made (found_valid of (first_of vs) t (first_sound vs sound) asked.2) reached))
    by_asked (reached_from t) is (inr none) = cc
    by_asked (satisfiability cs) is may =
        let asked = subst (IsAskedBy op vs) is (asked_by op vs) in
        let of = asked.0 in
        let given = asked.2 in
        let p = given.0 in
        let counted : length vs ≡ 1 = count ∙ ap (λ (o : Op). length (names_in o)) asked.1 in
        let it = solved p made (found_read of (first_of vs) p (first_sound vs sound) given.1) given.2.closed (subst (λ ds. May (satisfiability ds) (product made)) (sym given.2.are) may) in
        subst (λ (o : Op). Claims o vs made) (sym asked.1) (given_problem of vs p _ counted given.1 it)
    by_asked (saturation cs n) is may =
        let asked = subst (IsAskedBy op vs) is (asked_by op vs) in
        let of = asked.0 in
        let given = asked.2 in
        let p = given.0 in
        let counted : length vs ≡ 1 = count ∙ ap (λ (o : Op). length (names_in o)) asked.1 in
        let it = ended p n made (found_read of (first_of vs) p (first_sound vs sound) given.1) given.2.closed (subst (λ ds. May (saturation ds n) (product made)) (sym given.2.are) may) in
        subst (λ (o : Op). Claims o vs made) (sym asked.1) (given_problem of vs p _ counted given.1 it)
