-- The line of a reply tells the certificate that it shows: the atoms of a model, or the steps of a refutation of ground clauses.
use Rattle.std.proofs.Common.{◌≡◌, ℕ, ◌^◌, ◌<◌, true, false, List, [], ◌∷◌, map, refl, sym, ap, ◌∙◌, Ok}
use Rattle.std.specs.Prelude.{codes, decimal}
use Rattle.std.specs.List.{All}
use Rattle.std.specs.FinMap as fin
use Rattle.std.proofs.lemmas.Fmt.{decimal_injective}
use Rattle.std.proofs.lemmas.List.{append_cancel_left, append_cancel_right, same_from_push}
use Rattle.std.proofs.lemmas.List.Elements.{All-head, All-tail}
use Rattle.finite.specs.Finite as set
use Rattle.finite.proofs.Finite.{of_rising-listing}
use Rattle.fol.specs.declared.symbols.Var.{Var}
use Rattle.fol.specs.Syntax.{Term, free, bound, app, Formula}
use Rattle.fol.specs.Order.{formula_cmp}
use Rattle.lk_rules.specs.Formulas.{FormulaSet}
use Rattle.refutations.specs.declared.step.ResStep.{ResStep}
use Rattle.refutations.specs.declared.step.ResStep.TheVariants.{Input, Subst, Resolve}
use Rattle.json.specs.Json as json
use Rattle.json.specs.Print.{quoted}
use Rattle.json.specs.Tree.{HasNumbers, ItemsHaveNumbers, MembersHaveNumbers}
use Rattle.json.proofs.Printed.Decimals.{IsNumber-decimal}
use Rattle.serde_json.specs.Data.{Data, string}
use Rattle.serde_json.specs.View.{items_of}
use Rattle.serde_json.specs.Written.{outline, items_outline, members_outline, compact_text}
use Rattle.tptp_print.specs.Canonical.{canonical, canonical_term}
use Rattle.tptp_round_trip.proofs.Telling.{same_formula, same_term}
use Rattle.reply_lines.specs.declared.replies.Outcome.{Outcome}
use Rattle.reply_lines.specs.declared.replies.Outcome.TheVariants.{Satisfiable, Unsatisfiable}
use Rattle.reply_lines.specs.OneLine.{is_want, reports_want}
use Rattle.reply_lines.specs.Replies.{name_data, ok_data, answer_data, reply_by, line_of, bindings_data, res_step_data, satisfiable_data, unsatisfiable_data}
use Rattle.reply_lines.specs.Maps.{by_key}
use Rattle.reply_lines.specs.Shown.{IsShownFormula, IsShownBinding, IsShownStep, AreAlike}
use Rattle.reply_lines.proofs.Sorting.{All-by_key, same_by_key}
use Rattle.reply_lines.proofs.Wants.{text_tells}
use Rattle.reply_lines.proofs.JsonTexts.{same_text, text_in, items_in, members_in, first_item, rest_items, first_key, first_value, rest_members}

-- formulas by their texts
abbrev pub shown : Formula → Data
shown f = string (canonical f)

abbrev pub shown_formulas : List Formula → json.Items
shown_formulas fs = items_outline (items_of (map shown fs))

same_shown : (f g : Formula) → IsShownFormula f → IsShownFormula g → canonical f ≡ canonical g → f ≡ g
same_shown f g h h' same = same_formula f g h.0 h'.0 h.1 h'.1 h.2 h'.2 same

pub formulas_numbers : (fs : List Formula) → ItemsHaveNumbers (shown_formulas fs)
formulas_numbers [] = tt
formulas_numbers (f ∷ fs) = (tt, formulas_numbers fs)

pub same_formulas : (fs gs : List Formula) → All IsShownFormula fs → All IsShownFormula gs → shown_formulas fs ≡ shown_formulas gs → fs ≡ gs
same_formulas [] [] h h' e = refl
same_formulas [] (g ∷ gs) h h' e = cc
same_formulas (f ∷ fs) [] h h' e = cc
same_formulas (f ∷ fs) (g ∷ gs) h h' e =
    let one : f ≡ g = same_shown f g (All-head IsShownFormula f fs h) (All-head IsShownFormula g gs h') (ap (λ js. text_in (first_item js)) e) in
    let rest : fs ≡ gs = same_formulas fs gs (All-tail IsShownFormula f fs h) (All-tail IsShownFormula g gs h') (ap rest_items e) in
    λ i. one i ∷ rest i

-- the bindings of a map
abbrev shown_bindings : List (Var × Term) → json.Members
shown_bindings bs = members_outline (bindings_data bs)

abbrev variable_in : Var → Term → Var
variable_in v (free w) = w
variable_in v (bound i) = v
variable_in v (app s ts) = v

same_binding : (b c : Var × Term) → IsShownBinding b → IsShownBinding c → canonical_term (free b.0) ≡ canonical_term (free c.0) → canonical_term b.1 ≡ canonical_term c.1 → b ≡ c
same_binding b c h h' keys texts =
    let var = ap (variable_in b.0) (same_term (free b.0) (free c.0) (h.0).0 (h'.0).0 (h.0).1 (h'.0).1 keys) in
    let term = same_term b.1 c.1 (h.1).0 (h'.1).0 (h.1).1 (h'.1).1 texts in
    λ i. (var i, term i)

bindings_numbers : (bs : List (Var × Term)) → MembersHaveNumbers (shown_bindings bs)
bindings_numbers [] = tt
bindings_numbers (b ∷ bs) = (tt, bindings_numbers bs)

same_bindings : (bs cs : List (Var × Term)) → All IsShownBinding bs → All IsShownBinding cs → shown_bindings bs ≡ shown_bindings cs → bs ≡ cs
same_bindings [] [] h h' e = refl
same_bindings [] (c ∷ cs) h h' e = cc
same_bindings (b ∷ bs) [] h h' e = cc
same_bindings (b ∷ bs) (c ∷ cs) h h' e =
    let one : b ≡ c = same_binding b c (All-head IsShownBinding b bs h) (All-head IsShownBinding c cs h') (ap first_key e) (ap (λ ms. text_in (first_value ms)) e) in
    let rest : bs ≡ cs = same_bindings bs cs (All-tail IsShownBinding b bs h) (All-tail IsShownBinding c cs h') (ap rest_members e) in
    λ i. one i ∷ rest i

-- the steps of a refutation
same_number : (m n : ℕ) → m < 2 ^ 64 → n < 2 ^ 64 → json.number (decimal m) ≡ json.number (decimal n) → m ≡ n
same_number m n h h' e = decimal_injective m n h h' (ap text_in e)

abbrev shown_step : ResStep → json.Json
shown_step x = outline (res_step_data x)

abbrev pub shown_steps : List ResStep → json.Items
shown_steps xs = items_outline (items_of (map res_step_data xs))

step_numbers : (x : ResStep) → IsShownStep x → HasNumbers (shown_step x)
step_numbers (Input i) h = (IsNumber-decimal i h, tt)
step_numbers (Subst k m) h = (bindings_numbers (by_key (fin.entries m)), (IsNumber-decimal k h.0, tt))
step_numbers (Resolve p n a) h = (tt, ((IsNumber-decimal p h.0, (IsNumber-decimal n h.1, tt)), tt))

pub steps_numbers : (xs : List ResStep) → All IsShownStep xs → ItemsHaveNumbers (shown_steps xs)
steps_numbers [] h = tt
steps_numbers (x ∷ xs) h = (step_numbers x (All-head IsShownStep x xs h), steps_numbers xs (All-tail IsShownStep x xs h))

-- the values of the first and of the second member
abbrev pub first_of : json.Json → json.Json
first_of j = first_value (members_in j)

abbrev pub second_of : json.Json → json.Json
second_of j = first_value (rest_members (members_in j))

-- the first members of steps of different kinds are a number, an object and a text
same_step : (x y : ResStep) → IsShownStep x → IsShownStep y → shown_step x ≡ shown_step y → x ≡ y
same_step (Input i) (Input k) h h' e = ap Input (same_number i k h h' (ap first_of e))
same_step (Input i) (Subst l n) h h' e =
    let apart : json.number (decimal i) ≡ json.object (shown_bindings (by_key (fin.entries n))) = ap first_of e in
    cc
same_step (Input i) (Resolve q o b) h h' e = let apart : json.number (decimal i) ≡ json.string (canonical b) = ap first_of e in cc
same_step (Subst k m) (Input i) h h' e =
    let apart : json.object (shown_bindings (by_key (fin.entries m))) ≡ json.number (decimal i) = ap first_of e in
    cc
same_step (Subst k m) (Subst l n) h h' e =
    let step = same_number k l h.0 h'.0 (ap second_of e) in
    let first = All-by_key IsShownBinding (fin.entries m) h.1 in
    let second = All-by_key IsShownBinding (fin.entries n) h'.1 in
    let maps = same_by_key m n (same_bindings (by_key (fin.entries m)) (by_key (fin.entries n)) first second (ap (λ j. members_in (first_of j)) e)) in
    λ i. Subst (step i) (maps i)
same_step (Subst k m) (Resolve q o b) h h' e =
    let apart : json.object (shown_bindings (by_key (fin.entries m))) ≡ json.string (canonical b) = ap first_of e in
    cc
same_step (Resolve p n a) (Input i) h h' e = let apart : json.string (canonical a) ≡ json.number (decimal i) = ap first_of e in cc
same_step (Resolve p n a) (Subst l m) h h' e =
    let apart : json.string (canonical a) ≡ json.object (shown_bindings (by_key (fin.entries m))) = ap first_of e in
    cc
same_step (Resolve p n a) (Resolve q o b) h h' e =
    let positive = same_number p q h.0 h'.0 (ap (λ j. first_item (items_in (second_of j))) e) in
    let negative = same_number n o h.1 h'.1 (ap (λ j. first_item (rest_items (items_in (second_of j)))) e) in
    let atoms = same_shown a b h.2 h'.2 (ap (λ j. text_in (first_of j)) e) in
    λ i. Resolve (positive i) (negative i) (atoms i)

pub same_steps : (xs ys : List ResStep) → All IsShownStep xs → All IsShownStep ys → shown_steps xs ≡ shown_steps ys → xs ≡ ys
same_steps [] [] h h' e = refl
same_steps [] (y ∷ ys) h h' e = cc
same_steps (x ∷ xs) [] h h' e = cc
same_steps (x ∷ xs) (y ∷ ys) h h' e =
    let one : x ≡ y = same_step x y (All-head IsShownStep x xs h) (All-head IsShownStep y ys h') (ap first_item e) in
    let rest : xs ≡ ys = same_steps xs ys (All-tail IsShownStep x xs h) (All-tail IsShownStep y ys h') (ap rest_items e) in
    λ i. one i ∷ rest i

-- replies to one job that are no errors, and have one text
same_answer : (d e name : Data) (n : ℕ) → compact_text (ok_data d name n) ≡ compact_text (ok_data e name n) → compact_text d ≡ compact_text e
same_answer d e name n same =
    let behind_job = append_cancel_left (123 ∷ quoted (codes "job")) _ _ same in
    let behind_name = append_cancel_left (58 ∷ compact_text name) _ _ behind_job in
    let behind_key = append_cancel_left (44 ∷ quoted (codes "n")) _ _ behind_name in
    let behind_number = append_cancel_left (58 ∷ decimal n) _ _ behind_key in
    let behind_ok = append_cancel_left (44 ∷ quoted (codes "ok")) _ _ behind_number in
    append_cancel_right (compact_text d) (compact_text e) (125 ∷ []) (append_cancel_left (58 ∷ []) _ _ behind_ok)

-- their answers are the same
pub same_answers : (x y : Outcome) (d e : Data) → answer_data x ≡ Ok d → answer_data y ≡ Ok e → HasNumbers (outline d) → HasNumbers (outline e)
    → AreAlike x y → outline d ≡ outline e
unfolding line_of
same_answers x y d e one other h h' alike =
    let name = name_data alike.name in
    let texts = (same_from_push (compact_text (reply_by (answer_data x) name alike.n)) (compact_text (reply_by (answer_data y) name alike.n)) 10 10 alike.lines).0 in
    same_text d e h h'
    (same_answer d e name alike.n (sym (ap (λ a. compact_text (reply_by a name alike.n)) one) ∙ (texts ∙ ap (λ a. compact_text (reply_by a name alike.n)) other)))

pub same_want : (x y : Outcome) → AreAlike x y → is_want x ≡ is_want y
unfolding line_of
same_want x y alike =
    let name = name_data alike.name in
    let first = text_tells x name alike.n in
    let texts = (same_from_push (compact_text (reply_by (answer_data x) name alike.n)) (compact_text (reply_by (answer_data y) name alike.n)) 10 10 alike.lines).0 in
    sym first ∙ (ap reports_want texts ∙ text_tells y name alike.n)

model_numbers : (a : FormulaSet) → HasNumbers (outline (satisfiable_data a))
model_numbers a = (tt, (formulas_numbers (set.listing a), tt))

refutation_numbers : (xs : List ResStep) → All IsShownStep xs → HasNumbers (outline (unsatisfiable_data xs))
refutation_numbers xs h = (tt, (steps_numbers xs h, tt))

-- a set of formulas by the listing of their texts
pub same_side : (a b : FormulaSet) → All IsShownFormula (set.listing a) → All IsShownFormula (set.listing b)
    → shown_formulas (set.listing a) ≡ shown_formulas (set.listing b) → a ≡ b
same_side a b h h' e =
    let listed = same_formulas (set.listing a) (set.listing b) h h' e in
    sym (of_rising-listing a) ∙ (ap (λ fs. set.of_rising {R = formula_cmp} fs) listed ∙ of_rising-listing b)

pub same_model : (a b : FormulaSet) → All IsShownFormula (set.listing a) → All IsShownFormula (set.listing b) → AreAlike (Satisfiable a) (Satisfiable b) → a ≡ b
same_model a b h h' alike =
    let answers = same_answers (Satisfiable a) (Satisfiable b) (satisfiable_data a) (satisfiable_data b) refl refl (model_numbers a) (model_numbers b) alike in
    same_side a b h h' (ap (λ j. items_in (second_of j)) answers)

pub same_refutation : (xs ys : List ResStep) → All IsShownStep xs → All IsShownStep ys → AreAlike (Unsatisfiable xs) (Unsatisfiable ys) → xs ≡ ys
same_refutation xs ys h h' alike =
    same_steps xs ys h h'
    (ap (λ j. items_in (second_of j))
    (same_answers (Unsatisfiable xs) (Unsatisfiable ys) (unsatisfiable_data xs) (unsatisfiable_data ys) refl refl (refutation_numbers xs h) (refutation_numbers ys h') alike))

pub kept_apart : (a : FormulaSet) (xs : List ResStep) → All IsShownStep xs → AreAlike (Satisfiable a) (Unsatisfiable xs) → ⊥
kept_apart a xs h alike =
    let apart : json.boolean true ≡ json.boolean false =
    ap first_of (same_answers (Satisfiable a) (Unsatisfiable xs) (satisfiable_data a) (unsatisfiable_data xs) refl refl (model_numbers a) (refutation_numbers xs h) alike) in
    cc
