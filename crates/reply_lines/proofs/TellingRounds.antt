-- The line of a reply tells whether it is an error, and what came of resolution by rounds: the clauses that are kept, or the steps of a
-- refutation.
use Rattle.std.proofs.Common.{◌≡◌, ℕ, eqb, Bool, true, List, [], ◌∷◌, get_or, map, refl, sym, ap, ◌∙◌, Result, Ok, Err}
use Rattle.std.specs.Prelude.{is_ok}
use Rattle.std.specs.List.{All}
use Rattle.std.proofs.lemmas.List.{same_from_push}
use Rattle.std.proofs.lemmas.List.Elements.{All-head, All-tail}
use Rattle.finite.specs.Finite as set
use Rattle.lk_rules.specs.declared.sequent.Sequent.{Sequent}
use Rattle.refutations.specs.declared.step.ResStep.{ResStep}
use Rattle.json.specs.Json as json
use Rattle.json.specs.Print.{escape_byte}
use Rattle.json.specs.Tree.{HasNumbers, ItemsHaveNumbers}
use Rattle.serde_json.specs.Data.{Data}
use Rattle.serde_json.specs.View.{items_of}
use Rattle.serde_json.specs.Written.{outline, items_outline, compact_text}
use Rattle.reply_lines.specs.declared.replies.Outcome.{Outcome}
use Rattle.reply_lines.specs.declared.replies.Outcome.TheVariants.{Saturated, Refuted}
use Rattle.reply_lines.specs.Replies.{name_data, answer_data, is_ok_outcome, reply_by, line_of, clause_data, saturated_data, refuted_data}
use Rattle.reply_lines.specs.Shown.{IsShownStep, IsShownClause, AreAlike}
use Rattle.reply_lines.proofs.JsonTexts.{items_in, first_item, rest_items}
use Rattle.reply_lines.proofs.Telling.{shown_steps, first_of, second_of, formulas_numbers, steps_numbers, same_steps, same_side, same_answers}

-- the texts of a reply that is no error and of one that is differ at their third byte
abbrev begins_ok : List ℕ → Bool
begins_ok text = eqb (get_or text 2 0) 106

reply_tells : (answer : Result Data Data) (name : Data) (n : ℕ) → begins_ok (compact_text (reply_by answer name n)) ≡ is_ok answer
unfolding escape_byte
reply_tells (Ok d) name n = refl
reply_tells (Err d) name n = refl

pub same_ok : (x y : Outcome) → AreAlike x y → is_ok_outcome x ≡ is_ok_outcome y
unfolding line_of
same_ok x y alike =
    let name = name_data alike.name in
    let first = compact_text (reply_by (answer_data x) name alike.n) in
    let second = compact_text (reply_by (answer_data y) name alike.n) in
    let texts : first ≡ second = (same_from_push first second 10 10 alike.lines).0 in
    sym (reply_tells (answer_data x) name alike.n) ∙ (ap begins_ok texts ∙ reply_tells (answer_data y) name alike.n)

-- clauses by the texts of their formulas
abbrev shown_clause : Sequent → json.Json
shown_clause c = outline (clause_data c)

abbrev shown_clauses : List Sequent → json.Items
shown_clauses cs = items_outline (items_of (map clause_data cs))

clauses_numbers : (cs : List Sequent) → ItemsHaveNumbers (shown_clauses cs)
clauses_numbers [] = tt
clauses_numbers (c ∷ cs) = ((formulas_numbers (set.listing c.left), (formulas_numbers (set.listing c.right), tt)), clauses_numbers cs)

same_clause : (c d : Sequent) → IsShownClause c → IsShownClause d → shown_clause c ≡ shown_clause d → c ≡ d
same_clause c d h h' e =
    let left = same_side c.left d.left h.0 h'.0 (ap (λ j. items_in (first_of j)) e) in
    let right = same_side c.right d.right h.1 h'.1 (ap (λ j. items_in (second_of j)) e) in
    λ i. record { left = left i; right = right i }

same_clauses : (cs ds : List Sequent) → All IsShownClause cs → All IsShownClause ds → shown_clauses cs ≡ shown_clauses ds → cs ≡ ds
same_clauses [] [] h h' e = refl
same_clauses [] (d ∷ ds) h h' e = cc
same_clauses (c ∷ cs) [] h h' e = cc
same_clauses (c ∷ cs) (d ∷ ds) h h' e =
    let one : c ≡ d = same_clause c d (All-head IsShownClause c cs h) (All-head IsShownClause d ds h') (ap first_item e) in
    let rest : cs ≡ ds = same_clauses cs ds (All-tail IsShownClause c cs h) (All-tail IsShownClause d ds h') (ap rest_items e) in
    λ i. one i ∷ rest i

saturated_numbers : (ks : List Sequent) → HasNumbers (outline (saturated_data ks))
saturated_numbers ks = (clauses_numbers ks, (tt, tt))

refuted_numbers : (xs : List ResStep) → All IsShownStep xs → HasNumbers (outline (refuted_data xs))
refuted_numbers xs h = (tt, (steps_numbers xs h, tt))

pub same_saturated : (ks js : List Sequent) → All IsShownClause ks → All IsShownClause js → AreAlike (Saturated ks) (Saturated js) → ks ≡ js
same_saturated ks js h h' alike =
    let x = saturated_data ks in
    let y = saturated_data js in
    let answers = same_answers (Saturated ks) (Saturated js) x y refl refl (saturated_numbers ks) (saturated_numbers js) alike in
    same_clauses ks js h h' (ap (λ j. items_in (first_of j)) answers)

pub same_refuted : (xs ys : List ResStep) → All IsShownStep xs → All IsShownStep ys → AreAlike (Refuted xs) (Refuted ys) → xs ≡ ys
same_refuted xs ys h h' alike =
    let x = refuted_data xs in
    let y = refuted_data ys in
    let answers = same_answers (Refuted xs) (Refuted ys) x y refl refl (refuted_numbers xs h) (refuted_numbers ys h') alike in
    same_steps xs ys h h' (ap (λ j. items_in (second_of j)) answers)

-- the second members are a truth value and a list
pub kept_unsaturated : (ks : List Sequent) (xs : List ResStep) → All IsShownStep xs → AreAlike (Saturated ks) (Refuted xs) → ⊥
kept_unsaturated ks xs h alike =
    let x = saturated_data ks in
    let y = refuted_data xs in
    let answers = same_answers (Saturated ks) (Refuted xs) x y refl refl (saturated_numbers ks) (refuted_numbers xs h) alike in
    let apart : json.boolean true ≡ json.array (shown_steps xs) = ap second_of answers in
    cc
