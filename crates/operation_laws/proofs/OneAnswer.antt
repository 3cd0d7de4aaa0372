-- What may be answered to an operation is one answer, beside want of memory.
use Rattle.std.proofs.Common.{◌≡◌, ◌⊎◌, ℕ, ◌+◌, true, false, List, map, Option, Some, Result, Ok, sym, ap, ◌∙◌, subst, inl, inr, arith}
use Rattle.proof_trees.specs.Trees.{Tree}
use Rattle.cut_laws.specs.Elimination.{Reaches, elimination}
use Rattle.cut_laws.proofs.Reached.{least_reached}
use Rattle.refutations.specs.declared.clause.Clause.{Clause}
use Rattle.refutations.specs.declared.step.ResCause.{ResCause}
use Rattle.refutations.specs.Refutations.{refutation as refutation_of}
use Rattle.ground_laws.specs.Steps.{res_step}
use Rattle.job_lang.specs.declared.jobs.Op.{Op}
use Rattle.job_lang.specs.declared.jobs.Op.TheVariants as ops
use Rattle.reply_lines.specs.declared.replies.Outcome.{Outcome}
use Rattle.reply_lines.specs.Replies.{is_ok_outcome}
use Rattle.reply_lines.specs.OneLine.{is_want}
use Rattle.reply_lines.specs.Shown.{AreAlike}
use Rattle.reply_lines.proofs.Telling.{same_want, same_model, same_refutation, kept_apart}
use Rattle.reply_lines.proofs.TellingRounds.{same_ok, same_saturated, same_refuted, kept_unsaturated}
use Rattle.operation_laws.specs.declared.refusals.Failure.TheVariants.{Rounds}
use Rattle.operation_laws.specs.Values.{Value}
use Rattle.operation_laws.specs.Answers.{Product, reduced, model, refutation, derivation, saturated, Answer, refused, failed, lacking, product, shown, capped, Asked, one, elimination as reached_from, satisfiability, saturation, OrLacking, IsModelOf, IsRefutationOf, IsRefutedIn, IsSaturatedIn, May}
use Rattle.operation_laws.specs.Given.{Found, missing, wanting, found, proof_given, first_of}
use Rattle.operation_laws.specs.Running.{to_eliminate, run, HasOneAnswer}
use Rattle.operation_laws.proofs.Shows.{want_by, want_shown, product_ok}

-- where it is one answer or want of memory, that tells which
either : (p b c : Answer) → (b ≡ p) ⊎ (b ≡ lacking) → (c ≡ p) ⊎ (c ≡ lacking) → is_want (shown b) ≡ is_want (shown c) → b ≡ c
either p b c (inl is) (inl as_well) same = is ∙ sym as_well
either p b c (inr is) (inr as_well) same = is ∙ sym as_well
either p b c (inl is) (inr as_well) same = want_by b (same ∙ want_shown c as_well) ∙ sym as_well
either p b c (inr is) (inl as_well) same = is ∙ sym (want_by c (sym same ∙ want_shown b is))

one_of_one : (a b c : Answer) → OrLacking a b → OrLacking a c → is_want (shown b) ≡ is_want (shown c) → b ≡ c
one_of_one (refused r) b c is as_well same = is ∙ sym as_well
one_of_one (failed f) b c is as_well same = either (failed f) b c is as_well same
one_of_one lacking b c is as_well same = is ∙ sym as_well
one_of_one (product p) b c is as_well same = either (product p) b c is as_well same

-- one proof without cuts is reached from a proof
abbrev shown_as : (t : Tree) (k : ℕ) → Answer
shown_as t k = product (reduced t (capped k))

same_pair : (p q : Tree × ℕ) → Some p ≡ Some q → p ≡ q
same_pair p q is = cc

one_reached : (t u v : Tree) (k j : ℕ) → Reaches t k u → Reaches t j v → shown_as u k ≡ shown_as v j
one_reached t u v k j first second =
    let here : elimination t (k + j) ≡ Some (u, k) = (least_reached t (k + j) u k).1 (first, omega arith) in
    let there : elimination t (k + j) ≡ Some (v, j) = (least_reached t (k + j) v j).1 (second, omega arith) in
    let both = same_pair (u, k) (v, j) (sym here ∙ there) in
    λ i. shown_as (both i).0 (both i).1

-- two models, and two refutations, whose replies are alike are the same, and a model is never alike to a refutation
turned : (x y : Outcome) → AreAlike x y → AreAlike y x
turned x y alike = record { name = alike.name; n = alike.n; lines = sym alike.lines }

moved : (a b p q : Answer) → a ≡ p → b ≡ q → AreAlike (shown a) (shown b) → AreAlike (shown p) (shown q)
moved a b p q is as_well alike = subst (λ c. AreAlike (shown p) (shown c)) as_well (subst (λ c. AreAlike (shown c) (shown b)) is alike)

one_tree : (t u : Tree) → ◌≡◌ {A = Result Tree (ℕ × ResCause)} (Ok t) (Ok u) → t ≡ u
one_tree t u is = cc

one_model : (cs : List Clause) (a b : Answer) (m : IsModelOf cs a) (k : IsModelOf cs b) → AreAlike (shown a) (shown b) → a ≡ b
one_model cs a b m k alike =
    let same = same_model m.atoms k.atoms m.shown k.shown (moved a b (product (model m.atoms)) (product (model k.atoms)) m.is k.is alike) in
    m.is ∙ (ap (λ x. product (model x)) same ∙ sym k.is)

one_refutation : (cs : List Clause) (a b : Answer) (r : IsRefutationOf cs a) (q : IsRefutationOf cs b) → AreAlike (shown a) (shown b) → a ≡ b
one_refutation cs a b r q alike =
    let xs = map res_step r.steps in
    let ys = map res_step q.steps in
    let same : xs ≡ ys = same_refutation xs ys r.shown q.shown (moved a b (product (refutation xs r.tree)) (product (refutation ys q.tree)) r.is q.is alike) in
    let trees : r.tree ≡ q.tree = one_tree r.tree q.tree (sym r.stands ∙ (ap (refutation_of cs) same ∙ q.stands)) in
    let both : product (refutation xs r.tree) ≡ product (refutation ys q.tree) = λ i. product (refutation (same i) (trees i)) in
    r.is ∙ (both ∙ sym q.is)

not_both : (cs : List Clause) (a b : Answer) → IsModelOf cs a → IsRefutationOf cs b → AreAlike (shown a) (shown b) → ⊥
not_both cs a b m r alike =
    kept_apart m.atoms (map res_step r.steps) r.shown (moved a b (product (model m.atoms)) (product (refutation (map res_step r.steps) r.tree)) m.is r.is alike)

lacks_both : (a b : Answer) → b ≡ lacking → AreAlike (shown a) (shown b) → a ≡ b
lacks_both a b is alike = want_by a (same_want (shown a) (shown b) alike ∙ want_shown b is) ∙ sym is

one_solution : (cs : List Clause) (a b : Answer) → May (satisfiability cs) a → May (satisfiability cs) b → AreAlike (shown a) (shown b) → a ≡ b
one_solution cs a b (inl m) (inl k) alike = one_model cs a b m k alike
one_solution cs a b (inl m) (inr (inl r)) alike = absurd (not_both cs a b m r alike)
one_solution cs a b (inr (inl r)) (inl m) alike = absurd (not_both cs b a m r (turned (shown a) (shown b) alike))
one_solution cs a b (inr (inl r)) (inr (inl q)) alike = one_refutation cs a b r q alike
one_solution cs a b first (inr (inr none)) alike = lacks_both a b none alike
one_solution cs a b (inr (inr none)) (inl m) alike = sym (lacks_both b a none (turned (shown a) (shown b) alike))
one_solution cs a b (inr (inr none)) (inr (inl r)) alike = sym (lacks_both b a none (turned (shown a) (shown b) alike))

-- the same of refutations that rounds reach and of clauses that they end with; and neither is alike to the failure of rounds
one_refuted : (cs : List Clause) (n : ℕ) (a b : Answer) (r : IsRefutedIn cs n a) (q : IsRefutedIn cs n b) → AreAlike (shown a) (shown b) → a ≡ b
one_refuted cs n a b r q alike =
    let same : r.steps ≡ q.steps = same_refuted r.steps q.steps r.shown q.shown (moved a b (product (derivation r.steps r.tree)) (product (derivation q.steps q.tree)) r.is q.is alike) in
    let trees : r.tree ≡ q.tree = one_tree r.tree q.tree (sym r.stands ∙ (ap (refutation_of cs) same ∙ q.stands)) in
    let both : product (derivation r.steps r.tree) ≡ product (derivation q.steps q.tree) = λ i. product (derivation (same i) (trees i)) in
    r.is ∙ (both ∙ sym q.is)

one_saturated : (cs : List Clause) (n : ℕ) (a b : Answer) (k : IsSaturatedIn cs n a) (j : IsSaturatedIn cs n b) → AreAlike (shown a) (shown b) → a ≡ b
one_saturated cs n a b k j alike =
    let same = same_saturated k.clauses j.clauses k.shown j.shown (moved a b (product (saturated k.clauses)) (product (saturated j.clauses)) k.is j.is alike) in
    k.is ∙ (ap (λ x. product (saturated x)) same ∙ sym j.is)

not_saturated : (cs : List Clause) (n : ℕ) (a b : Answer) → IsSaturatedIn cs n a → IsRefutedIn cs n b → AreAlike (shown a) (shown b) → ⊥
not_saturated cs n a b k r alike =
    kept_unsaturated k.clauses r.steps r.shown (moved a b (product (saturated k.clauses)) (product (derivation r.steps r.tree)) k.is r.is alike)

not_failed : (a b : Answer) (p : Product) → a ≡ product p → b ≡ failed Rounds → AreAlike (shown a) (shown b) → ⊥
not_failed a b p is as_well alike = let ok = sym (product_ok a p is) ∙ (same_ok (shown a) (shown b) alike ∙ ap (λ c. is_ok_outcome (shown c)) as_well) in no_ok ok
  where
    no_ok : true ≡ false → ⊥
    no_ok e = cc

one_saturation : (cs : List Clause) (n : ℕ) (a b : Answer) → May (saturation cs n) a → May (saturation cs n) b → AreAlike (shown a) (shown b) → a ≡ b
one_saturation cs n a b (inl r) (inl q) alike = one_refuted cs n a b r q alike
one_saturation cs n a b (inl r) (inr (inl k)) alike = absurd (not_saturated cs n b a k r (turned (shown a) (shown b) alike))
one_saturation cs n a b (inl r) (inr (inr (inl u))) alike = absurd (not_failed a b (derivation r.steps r.tree) r.is u.is alike)
one_saturation cs n a b (inr (inl k)) (inl r) alike = absurd (not_saturated cs n a b k r alike)
one_saturation cs n a b (inr (inl k)) (inr (inl j)) alike = one_saturated cs n a b k j alike
one_saturation cs n a b (inr (inl k)) (inr (inr (inl u))) alike = absurd (not_failed a b (saturated k.clauses) k.is u.is alike)
one_saturation cs n a b (inr (inr (inl u))) (inl r) alike = absurd (not_failed b a (derivation r.steps r.tree) r.is u.is (turned (shown a) (shown b) alike))
one_saturation cs n a b (inr (inr (inl u))) (inr (inl k)) alike = absurd (not_failed b a (saturated k.clauses) k.is u.is (turned (shown a) (shown b) alike))
one_saturation cs n a b (inr (inr (inl u))) (inr (inr (inl w))) alike = u.is ∙ sym w.is
one_saturation cs n a b first (inr (inr (inr none))) alike = lacks_both a b none alike
one_saturation cs n a b (inr (inr (inr none))) (inl r) alike = sym (lacks_both b a none (turned (shown a) (shown b) alike))
one_saturation cs n a b (inr (inr (inr none))) (inr (inl k)) alike = sym (lacks_both b a none (turned (shown a) (shown b) alike))
one_saturation cs n a b (inr (inr (inr none))) (inr (inr (inl u))) alike = sym (lacks_both b a none (turned (shown a) (shown b) alike))

one_eliminated : (t : Tree) (a b : Answer) → May (reached_from t) a → May (reached_from t) b → is_want (shown a) ≡ is_want (shown b) → a ≡ b
one_eliminated t a b (inl is) (inl as_well) same = is.is ∙ one_reached t is.tree as_well.tree is.steps as_well.steps is.reached as_well.reached ∙ sym as_well.is
one_eliminated t a b (inr is) (inr as_well) same = is ∙ sym as_well
one_eliminated t a b (inl is) (inr as_well) same = want_by a (same ∙ want_shown b as_well) ∙ sym as_well
one_eliminated t a b (inr is) (inl as_well) same = is ∙ sym (want_by b (sym same ∙ want_shown a is))

pub one_answer : (asked : Asked) (a b : Answer) → May asked a → May asked b → AreAlike (shown a) (shown b) → a ≡ b
one_answer (one p) a b first second alike = one_of_one p a b first second (same_want (shown a) (shown b) alike)
one_answer (reached_from t) a b first second alike = one_eliminated t a b first second (same_want (shown a) (shown b) alike)
one_answer (satisfiability cs) a b first second alike = one_solution cs a b first second alike
one_answer (saturation cs n) a b first second alike = one_saturation cs n a b first second alike

-- where there is one, want of memory tells it
abbrev IsDetermined : Asked → Type 0
IsDetermined (one a) = Unit {0}
IsDetermined (reached_from t) = Unit {0}
IsDetermined (satisfiability cs) = ⊥
IsDetermined (saturation cs n) = ⊥

one_by : (asked : Asked) (a b : Answer) → IsDetermined asked → May asked a → May asked b → is_want (shown a) ≡ is_want (shown b) → a ≡ b
one_by (one p) a b determined first second same = one_of_one p a b first second same
one_by (reached_from t) a b determined first second same = one_eliminated t a b first second same
one_by (satisfiability cs) a b determined first second same = absurd determined
one_by (saturation cs n) a b determined first second same = absurd determined

eliminates_determined : (f : Found Tree) → IsDetermined (to_eliminate f)
eliminates_determined (missing r) = tt
eliminates_determined wanting = tt
eliminates_determined (found t) = tt

is_determined : (op : Op) (vs : List (Option Value)) → HasOneAnswer op → IsDetermined (run op vs)
is_determined (ops.Lk list using) vs has = tt
is_determined (ops.Problem p) vs has = tt
is_determined (ops.Proves of goal) vs has = tt
is_determined (ops.Show of) vs has = tt
is_determined (ops.Measure of) vs has = tt
is_determined (ops.Subst of m) vs has = tt
is_determined (ops.Cutelim of n) vs has = tt
is_determined (ops.Eliminate of) vs has = eliminates_determined (proof_given of (first_of vs))
is_determined (ops.Define symbol vars body using) vs has = tt
is_determined (ops.Unfold of) vs has = tt
is_determined (ops.Sat of) vs has = absurd has
is_determined (ops.Prove of n) vs has = absurd has
is_determined (ops.Resolution of list) vs has = tt
is_determined (ops.Tautology s n) vs has = tt
is_determined (ops.Expansion flat n) vs has = tt
is_determined (ops.Expand of n) vs has = tt
is_determined (ops.Fromexp of n) vs has = tt
is_determined (ops.Interpolate of first second n) vs has = tt
is_determined (ops.Herbrand of n) vs has = tt
is_determined (ops.Cutintro of width n) vs has = tt

pub one_determined : (op : Op) (vs : List (Option Value)) (a b : Answer) → HasOneAnswer op → May (run op vs) a → May (run op vs) b
    → is_want (shown a) ≡ is_want (shown b) → a ≡ b
one_determined op vs a b has first second same = one_by (run op vs) a b (is_determined op vs has) first second same
