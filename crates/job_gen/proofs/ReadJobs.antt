-- Generated lines are read as the jobs that they were made from.
use Rattle.std.proofs.Common.{◌≡◌, ℕ, zero, suc, ◌+◌, ◌-◌, ◌*◌, ◌%◌, ◌^◌, ◌<◌, ◌≤◌, ◌==◌, Bool, true, false, cond, List, [], ◌∷◌, ◌++◌, map, codes, refl, sym, ap, ◌∙◌, arith}
use Rattle.std.specs.Prelude.{Some}
use Rattle.std.specs.List.{All, AllByRecursion, flat_map, range_with_len}
use Rattle.std.specs.Str.{is_utf8}
use Rattle.std.proofs.lemmas.List.{same_from_push}
use Rattle.std.proofs.lemmas.Str.{IsUtf8-from_ascii, is_utf8-from_IsUtf8}
use Rattle.std.proofs.lemmas.Str.Ascii.{IsAscii-from_all}
use Rattle.serde_json.specs.Data.{Data, string}
use Rattle.serde_json.specs.Read.{read}
use Rattle.serde_json.specs.Written.{compact_text}
use Rattle.job_gen.specs.Values.{count_data, name_text, iterate_text, atom_text}
use Rattle.job_gen.specs.Derivations.{step_data, axiom_data, cut_data, first_steps, further_cuts, derivation_steps}
use Rattle.job_gen.specs.Chains.{leaf_data, imp_data, implication_nodes, instance_data, weak_data, chain_nodes, left_roots, right_roots}
use Rattle.job_gen.specs.Generated.{derivation_job, chain_job, proof_job, building_job, cuts_of, implications_of, job_by, job_data, generated_line}
use Rattle.job_gen.specs.ReadLine.{IsRead}
use Rattle.job_gen.proofs.LineLaws.{job_printable}
use Rattle.job_gen.proofs.ReadValues.{IsReadBack, read_string, read_count, read_list, read_no_member, read_member, read_object, read_text}

-- what each element of two lists has, each element of both together has
each_both : (P : Data → Type 0) (xs ys : List Data) → AllByRecursion P xs → AllByRecursion P ys → AllByRecursion P (xs ++ ys)
each_both P [] ys first rest = rest
each_both P (x ∷ xs) ys first rest = (first.0, each_both P xs ys first.1 rest)

each_mapped : (P : Data → Type 0) (f : ℕ → Data) (top a n : ℕ) → ((i : ℕ) → i < top → P (f i)) → a + n ≤ top
    → AllByRecursion P (map f (range_with_len a n))
each_mapped P f top a zero each within = tt
each_mapped P f top a (suc n) each within = (each a (omega arith), each_mapped P f top (a + 1) n each (omega arith))

each_joined : (P : Data → Type 0) (f : ℕ → List Data) (top a n : ℕ) → ((i : ℕ) → i < top → AllByRecursion P (f i)) → a + n ≤ top
    → AllByRecursion P (flat_map f (range_with_len a n))
each_joined P f top a zero each within = tt
each_joined P f top a (suc n) each within =
    each_both P (f a) (flat_map f (range_with_len (a + 1) n)) (each a (omega arith)) (each_joined P f top (a + 1) n each (omega arith))

-- texts
each_text : (most : ℕ) (texts : List (List ℕ)) → AllByRecursion (IsReadBack most) (map string texts)
each_text most [] = tt
each_text most (text ∷ texts) = (read_string most text, each_text most texts)

-- derivations
read_step : (rule main premises : List ℕ) (left right : List (List ℕ)) → AllByRecursion (IsReadBack 1) (map count_data premises)
    → IsReadBack 3 (step_data rule main premises left right)
read_step rule main premises left right counts =
    read_object (read_member (codes "left") (read_list 1 (map string left) (each_text 1 left))
    (read_member (codes "main") (read_string 2 main)
    (read_member (codes "premises") (read_list 1 (map count_data premises) counts)
    (read_member (codes "right") (read_list 1 (map string right) (each_text 1 right))
    (read_member (codes "rule") (read_string 2 rule) (read_no_member 2)))))) refl

read_cut : (formula : List ℕ) (first second : ℕ) → first < 2 ^ 64 → second < 2 ^ 64 → IsReadBack 3 (cut_data formula first second)
read_cut formula first second fits also =
    read_step (codes "cut") formula (first ∷ second ∷ []) (codes "p" ∷ codes "q" ∷ []) (codes "p" ∷ [])
    (read_count 1 first fits, (read_count 1 second also, tt))

read_axiom : (formula : List ℕ) → IsReadBack 3 (axiom_data formula)
read_axiom formula = read_step (codes "ax") formula [] (formula ∷ []) (formula ∷ []) tt

read_conjunction : IsReadBack 3 (step_data (codes "andR") (codes "p & q") (0 ∷ 1 ∷ []) (codes "p" ∷ codes "q" ∷ []) (codes "p & q" ∷ []))
read_conjunction =
    read_step (codes "andR") (codes "p & q") (0 ∷ 1 ∷ []) (codes "p" ∷ codes "q" ∷ []) (codes "p & q" ∷ [])
    (read_count 1 0 (omega arith), (read_count 1 1 (omega arith), tt))

read_part : IsReadBack 3 (step_data (codes "andL") (codes "p & q") (0 ∷ []) (codes "p & q" ∷ []) (codes "p" ∷ []))
read_part = read_step (codes "andL") (codes "p & q") (0 ∷ []) (codes "p & q" ∷ []) (codes "p" ∷ []) (read_count 1 0 (omega arith), tt)

read_first : AllByRecursion (IsReadBack 3) first_steps
read_first =
    let cut = read_cut (codes "p & q") 2 3 (omega arith) (omega arith) in
    (read_axiom (codes "p"), (read_axiom (codes "q"), (read_conjunction, (read_part, (cut, tt)))))

read_steps : (m : ℕ) → m < 16 → AllByRecursion (IsReadBack 3) (derivation_steps m)
read_steps m few =
    let cuts = λ (j : ℕ) (within : j < 16). read_cut (codes "p") (4 + j) 0 (omega arith) (omega arith) in
    each_both (IsReadBack 3) first_steps (further_cuts m) read_first
    (each_mapped (IsReadBack 3) (λ j. cut_data (codes "p") (4 + j) 0) 16 0 m cuts (omega arith))

-- chains
read_leaf : (most k : ℕ) → IsReadBack (most + 1) (leaf_data k)
read_leaf most k =
    read_object (read_member (codes "formula") (read_string most (atom_text k))
    (read_member (codes "kind") (read_string most (codes "leaf")) (read_no_member most))) refl

read_imp : (most from to : ℕ) → from < 2 ^ 64 → to < 2 ^ 64 → IsReadBack (most + 1 + 1) (imp_data from to)
read_imp most from to fits also =
    let places = read_list most (map count_data (from ∷ to ∷ [])) (read_count most from fits, (read_count most to also, tt)) in
    read_object (read_member (codes "kind") (read_string (most + 1) (codes "imp")) (read_member (codes "of") places (read_no_member (most + 1)))) refl

read_implication : (i : ℕ) → i < 8 → AllByRecursion (IsReadBack 3) (implication_nodes i)
read_implication i few = (read_leaf 2 i, (read_leaf 2 (i + 1), (read_imp 1 (3 * i) (3 * i + 1) (omega arith) (omega arith), tt)))

read_instance : (i : ℕ) → i < 8 → IsReadBack 1 (instance_data i)
read_instance i few =
    read_object (read_member (codes "of") (read_count 0 (3 * i + 2) (omega arith))
    (read_member (codes "term") (read_string 0 (iterate_text i)) (read_no_member 0))) refl

read_weak : (k : ℕ) → k < 9 → IsReadBack 3 (weak_data k)
read_weak k few =
    let instances = each_mapped (IsReadBack 1) instance_data 8 0 k read_instance (omega arith) in
    read_object (read_member (codes "formula") (read_string 2 (codes "![X]: (p(X) => p(f(X)))"))
    (read_member (codes "instances") (read_list 1 (map instance_data (range_with_len 0 k)) instances)
    (read_member (codes "kind") (read_string 2 (codes "weak")) (read_no_member 2)))) refl

read_nodes : (k : ℕ) → k < 9 → AllByRecursion (IsReadBack 3) (chain_nodes k)
read_nodes k few =
    each_both (IsReadBack 3) (flat_map implication_nodes (range_with_len 0 k)) (weak_data k ∷ leaf_data 0 ∷ leaf_data k ∷ [])
    (each_joined (IsReadBack 3) implication_nodes 8 0 k read_implication (omega arith)) (read_weak k few, (read_leaf 2 0, (read_leaf 2 k, tt)))

-- jobs
read_derivation : (i m : ℕ) → m < 16 → IsReadBack 5 (derivation_job i m)
read_derivation i m few =
    read_object (read_member (codes "job") (read_string 4 (name_text i)) (read_member (codes "op") (read_string 4 (codes "lk"))
    (read_member (codes "steps") (read_list 3 (derivation_steps m) (read_steps m few)) (read_no_member 4)))) refl

read_chain : (i k : ℕ) → k < 9 → IsReadBack 5 (chain_job i k)
read_chain i k few =
    let left = read_list 3 (map count_data (left_roots k)) (read_count 3 (3 * k + 1) (omega arith), (read_count 3 (3 * k) (omega arith), tt)) in
    let right = read_list 3 (map count_data (right_roots k)) (read_count 3 (3 * k + 2) (omega arith), tt) in
    read_object (read_member (codes "job") (read_string 4 (name_text i)) (read_member (codes "left") left
    (read_member (codes "nodes") (read_list 3 (chain_nodes k) (read_nodes k few))
    (read_member (codes "op") (read_string 4 (codes "expansion")) (read_member (codes "right") right (read_no_member 4)))))) refl

read_proof : (op : List ℕ) (i j : ℕ) → IsReadBack 5 (proof_job op i j)
read_proof op i j =
    read_object (read_member (codes "job") (read_string 4 (name_text i)) (read_member (codes "op") (read_string 4 op)
    (read_member (codes "proof") (read_string 4 (name_text j)) (read_no_member 4)))) refl

read_building : (i j : ℕ) → IsReadBack 5 (building_job i j)
read_building i j =
    read_object (read_member (codes "expansion") (read_string 4 (name_text j)) (read_member (codes "job") (read_string 4 (name_text i))
    (read_member (codes "op") (read_string 4 (codes "fromexp")) (read_no_member 4)))) refl

either : (b : Bool) (x y : Data) → IsReadBack 5 x → IsReadBack 5 y → IsReadBack 5 (cond b x y)
either true x y first second = first
either false x y first second = second

read_by : (rest i : ℕ) → IsReadBack 5 (job_by rest i)
read_by rest i =
    either (rest == 0) _ _ (read_derivation i (cuts_of i) (omega arith)) (either (rest == 1) _ _ (read_proof (codes "cutelim") i (i - 1))
    (either (rest == 2) _ _ (read_proof (codes "expand") i (i - 1)) (either (rest == 3) _ _ (read_building i (i - 1))
    (either (rest == 4) _ _ (read_chain i (implications_of i) (omega arith)) (either (rest == 5) _ _ (read_building i (i - 1))
    (either (rest == 6) _ _ (read_proof (codes "cutintro") i (i - 1)) (read_proof (codes "herbrand") i (i - 2))))))))

-- the text of a job is read as the job
pub read_job : (i : ℕ) → read (compact_text (job_data i)) ≡ Some (job_data i)
unfolding job_data
read_job i = read_text 5 (job_data i) (omega arith) (read_by (i % 8) i)

pub utf8_job : (i : ℕ) → is_utf8 (compact_text (job_data i)) ≡ true
utf8_job i =
    let text = compact_text (job_data i) in
    let ascii : All (λ b. b < 128) text = λ k d within. let printable = job_printable i k d within in omega arith in
    is_utf8-from_IsUtf8 text (IsUtf8-from_ascii text (IsAscii-from_all text ascii))

pub line_read : (i : ℕ) → IsRead i
unfolding generated_line
line_read i text is =
    let same = same_from_push (compact_text (job_data i)) text 10 10 is in
    let same_text : compact_text (job_data i) ≡ text = same.0 in
    (ap is_utf8 (sym same_text) ∙ utf8_job i, ap read (sym same_text) ∙ read_job i)
