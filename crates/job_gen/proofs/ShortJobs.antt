-- How long the lines of generated jobs are at most.
use Rattle.std.proofs.Common.{◌≡◌, ℕ, zero, suc, ◌+◌, ◌-◌, ◌*◌, ◌%◌, ◌<◌, ◌≤◌, ◌==◌, Bool, true, false, cond, List, [], ◌∷◌, ◌++◌, map, codes, length, refl, ap, ◌∙◌, arith, length-append}
use Rattle.std.specs.List.{list_all, flat_map, range_with_len}
use Rattle.std.specs.Prelude.{decimal}
use Rattle.std.proofs.lemmas.Bool.{and_parts, and_from}
use Rattle.std.proofs.lemmas.List.Folds.{list_all-append}
use Rattle.std.proofs.lemmas.Fmt.{decimal_digit}
use Rattle.serde_json.specs.Data.{Data, array}
use Rattle.serde_json.specs.View.{items_of}
use Rattle.job_gen.specs.Values.{iterate_text}
use Rattle.job_gen.specs.Derivations.{cut_data, first_steps, further_cuts, derivation_steps}
use Rattle.job_gen.specs.Chains.{leaf_data, imp_data, implication_nodes, instance_data, weak_data, chain_nodes}
use Rattle.job_gen.specs.Generated.{derivation_job, chain_job, proof_job, building_job, cuts_of, implications_of, job_by, job_data}
use Rattle.job_gen.proofs.PlainTexts.{is_plain_byte, is_plain, are_plain, room, items_room, decimal_plain, length-decimal}

-- a plain value whose text has so many bytes at most
pub record IsSmall (d : Data) (most : ℕ) : Type 0 where
  pub plain : is_plain d ≡ true
  pub size : room d ≤ most

-- plain values whose texts have so many bytes at most, each with a comma
record AreSmall (ds : List Data) (most : ℕ) : Type 0 where
  plain : are_plain (items_of ds) ≡ true
  size : items_room (items_of ds) ≤ most + 1

small_none : AreSmall [] 0
small_none = record { plain = refl; size = omega arith }

small_more : (d : Data) (ds : List Data) (m n : ℕ) → IsSmall d m → AreSmall ds n → AreSmall (d ∷ ds) (m + n + 1)
small_more d ds m n first rest = record {
  plain = and_from (is_plain d) (are_plain (items_of ds)) first.plain rest.plain;
  size = omega (arith, first.size, rest.size);
}

are_plain-append : (xs ys : List Data) → are_plain (items_of xs) ≡ true → are_plain (items_of ys) ≡ true → are_plain (items_of (xs ++ ys)) ≡ true
are_plain-append [] ys first rest = rest
are_plain-append (x ∷ xs) ys first rest =
    let parts = and_parts (is_plain x) (are_plain (items_of xs)) first in
    and_from (is_plain x) (are_plain (items_of (xs ++ ys))) parts.0 (are_plain-append xs ys parts.1 rest)

items_room-append : (xs ys : List Data) → items_room (items_of (xs ++ ys)) + 1 ≡ items_room (items_of xs) + items_room (items_of ys)
items_room-append [] ys = omega arith
items_room-append (x ∷ xs) ys = omega (arith, items_room-append xs ys)

small_both : (xs ys : List Data) (m n : ℕ) → AreSmall xs m → AreSmall ys n → AreSmall (xs ++ ys) (m + n)
small_both xs ys m n first rest = record {
  plain = are_plain-append xs ys first.plain rest.plain;
  size = omega (arith, items_room-append xs ys, first.size, rest.size);
}

small_le : (ds : List Data) (m n : ℕ) → m ≤ n → AreSmall ds m → AreSmall ds n
small_le ds m n le h = record { plain = h.plain; size = omega (arith, le, h.size) }

small_array : (ds : List Data) (n : ℕ) → AreSmall ds n → IsSmall (array (items_of ds)) (n + 2)
small_array ds n h = record { plain = h.plain; size = omega (arith, h.size) }

small_map : (f : ℕ → Data) (most top a n : ℕ) → ((i : ℕ) → i < top → IsSmall (f i) most) → a + n ≤ top → AreSmall (map f (range_with_len a n)) (n * (most + 1))
small_map f most top a zero each within = small_le [] 0 (0 * (most + 1)) (omega arith) small_none
small_map f most top a (suc n) each within =
    small_le (map f (range_with_len a (suc n))) (most + n * (most + 1) + 1) (suc n * (most + 1)) (omega arith)
    (small_more (f a) (map f (range_with_len (a + 1) n)) most (n * (most + 1)) (each a (omega arith)) (small_map f most top (a + 1) n each (omega arith)))

small_flat_map : (f : ℕ → List Data) (most top a n : ℕ) → ((i : ℕ) → i < top → AreSmall (f i) most) → a + n ≤ top → AreSmall (flat_map f (range_with_len a n)) (n * most)
small_flat_map f most top a zero each within = small_le [] 0 (0 * most) (omega arith) small_none
small_flat_map f most top a (suc n) each within =
    small_le (flat_map f (range_with_len a (suc n))) (most + n * most) (suc n * most) (omega arith)
    (small_both (f a) (flat_map f (range_with_len (a + 1) n)) most (n * most) (each a (omega arith)) (small_flat_map f most top (a + 1) n each (omega arith)))

-- numbers of one digit
length-decimal_digit : (n : ℕ) → n < 10 → length (decimal n) ≡ 1
length-decimal_digit n h = ap length (decimal_digit n h)

-- terms and atoms
ended_plain : (s : List ℕ) → list_all is_plain_byte s ≡ true → list_all is_plain_byte (s ++ codes ")") ≡ true
ended_plain s h = list_all-append is_plain_byte s (codes ")") ∙ and_from (list_all is_plain_byte s) (list_all is_plain_byte (codes ")")) h refl

iterate_plain : (k : ℕ) → list_all is_plain_byte (iterate_text k) ≡ true
iterate_plain zero = refl
iterate_plain (suc k) = ended_plain (iterate_text k) (iterate_plain k)

length-iterate_text : (k : ℕ) → length (iterate_text k) ≡ 3 * k + 1
length-iterate_text zero = refl
length-iterate_text (suc k) = omega (arith, length-append (iterate_text k) (codes ")"), length-iterate_text k)

-- derivations
small_cut : (j : ℕ) → IsSmall (cut_data (codes "p") (4 + j) 0) 140
small_cut j = record { plain = refl; size = omega (arith, length-decimal (4 + j), length-decimal_digit 0 (omega arith)) }

small_first : AreSmall first_steps 390
small_first = record {
  plain = refl;
  size = omega (arith, length-decimal_digit 0 (omega arith), length-decimal_digit 1 (omega arith), length-decimal_digit 2 (omega arith), length-decimal_digit 3 (omega arith));
}

small_steps : (m : ℕ) → m < 16 → AreSmall (derivation_steps m) 2600
small_steps m few =
    small_le (derivation_steps m) (390 + m * 141) 2600 (omega arith)
    (small_both first_steps (further_cuts m) 390 (m * 141) small_first (small_map (λ j. cut_data (codes "p") (4 + j) 0) 140 m 0 m (λ j _. small_cut j) (omega arith)))

-- chains
small_leaf : (k : ℕ) → k < 9 → IsSmall (leaf_data k) 60
small_leaf k few = record {
  plain = rw (ended_plain (iterate_text k) (iterate_plain k)) refl;
  size = omega (arith, length-append (iterate_text k) (codes ")"), length-iterate_text k);
}

small_imp : (from to : ℕ) → IsSmall (imp_data from to) 160
small_imp from to = record { plain = refl; size = omega (arith, length-decimal from, length-decimal to) }

small_implication : (i : ℕ) → i < 8 → AreSmall (implication_nodes i) 283
small_implication i few =
    small_le (implication_nodes i) 283 283 (omega arith)
    (small_more (leaf_data i) _ 60 222 (small_leaf i (omega arith)) (small_more (leaf_data (i + 1)) _ 60 161 (small_leaf (i + 1) (omega arith))
    (small_more (imp_data (3 * i) (3 * i + 1)) [] 160 0 (small_imp (3 * i) (3 * i + 1)) small_none)))

small_instance : (i : ℕ) → i < 8 → IsSmall (instance_data i) 110
small_instance i few = record {
  plain = rw (iterate_plain i) refl;
  size = omega (arith, length-decimal (3 * i + 2), length-iterate_text i);
}

small_weak : (k : ℕ) → k < 9 → IsSmall (weak_data k) 1000
small_weak k few =
    let instances = small_map instance_data 110 8 0 k small_instance (omega arith) in
    record { plain = rw instances.plain refl; size = omega (arith, instances.size) }

small_nodes : (k : ℕ) → k < 9 → AreSmall (chain_nodes k) 3390
small_nodes k few =
    let ends = small_more (leaf_data 0) _ 60 61 (small_leaf 0 (omega arith)) (small_more (leaf_data k) [] 60 0 (small_leaf k few) small_none) in
    small_le (chain_nodes k) (k * 283 + 1123) 3390 (omega arith)
    (small_both (flat_map implication_nodes (range_with_len 0 k)) (weak_data k ∷ leaf_data 0 ∷ leaf_data k ∷ []) (k * 283) 1123
    (small_flat_map implication_nodes 283 8 0 k small_implication (omega arith)) (small_more (weak_data k) _ 1000 122 (small_weak k few) ends))

-- jobs
small_derivation : (i m : ℕ) → m < 16 → IsSmall (derivation_job i m) 4000
small_derivation i m few =
    let steps = small_steps m few in
    record { plain = rw (decimal_plain i, steps.plain) refl; size = omega (arith, steps.size, length-decimal i) }

small_chain : (i k : ℕ) → k < 9 → IsSmall (chain_job i k) 4000
small_chain i k few =
    let nodes = small_nodes k few in
    record {
      plain = rw (decimal_plain i, nodes.plain) refl;
      size = omega (arith, nodes.size, length-decimal i, length-decimal (3 * k), length-decimal (3 * k + 1), length-decimal (3 * k + 2));
    }

small_proof : (op : List ℕ) (i j : ℕ) → list_all is_plain_byte op ≡ true → length op < 100 → IsSmall (proof_job op i j) 4000
small_proof op i j plain short = record {
  plain = rw (decimal_plain i, plain, decimal_plain j) refl;
  size = omega (arith, length-decimal i, length-decimal j, short);
}

small_building : (i j : ℕ) → IsSmall (building_job i j) 4000
small_building i j = record {
  plain = rw (decimal_plain j, decimal_plain i) refl;
  size = omega (arith, length-decimal i, length-decimal j);
}

-- what holds of both holds of either
either : (b : Bool) (x y : Data) → IsSmall x 4000 → IsSmall y 4000 → IsSmall (cond b x y) 4000
either true x y first second = first
either false x y first second = second

small_by : (rest i : ℕ) → IsSmall (job_by rest i) 4000
small_by rest i =
    either (rest == 0) (derivation_job i (cuts_of i)) _ (small_derivation i (cuts_of i) (omega arith))
    (either (rest == 1) (proof_job (codes "cutelim") i (i - 1)) _ (small_proof (codes "cutelim") i (i - 1) refl (omega arith))
    (either (rest == 2) (proof_job (codes "expand") i (i - 1)) _ (small_proof (codes "expand") i (i - 1) refl (omega arith))
    (either (rest == 3) (building_job i (i - 1)) _ (small_building i (i - 1))
    (either (rest == 4) (chain_job i (implications_of i)) _ (small_chain i (implications_of i) (omega arith))
    (either (rest == 5) (building_job i (i - 1)) _ (small_building i (i - 1))
    (either (rest == 6) (proof_job (codes "cutintro") i (i - 1)) (proof_job (codes "herbrand") i (i - 2))
    (small_proof (codes "cutintro") i (i - 1) refl (omega arith)) (small_proof (codes "herbrand") i (i - 2) refl (omega arith))))))))

pub small_job : (i : ℕ) → IsSmall (job_data i) 4000
unfolding job_data
small_job i = small_by (i % 8) i
