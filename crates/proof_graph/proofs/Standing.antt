-- At which numbers keys stand after an index was asked, and references with the same numbers.
use Rattle.std.proofs.Common.{◌≡◌, ℕ, ◌+◌, ◌<◌, List, [], ◌∷◌, ◌++◌, length, get_or, take, refl, sym, ap, ◌∙◌, subst, inl, inr, arith}
use Rattle.std.specs.List.{Contains}
use Rattle.std.proofs.lemmas.Bool.{cases_lt}
use Rattle.std.proofs.lemmas.List.{get_or-map, get_or_default, length-map, take_more}
use Rattle.std.proofs.lemmas.List.Elements.{Contains-push}
use Rattle.std.specs.Prelude.{Result, Ok, Err, IfOk}
use mathlib.Core.List.{IsPrefix}
use Rattle.turn_log.proofs.Prefixes.{prefix_contains}
use Rattle.proof_graph.specs.declared.node.Node.{Node}
use Rattle.proof_graph.specs.References.{Reference, key_of, numbers_of}
use Rattle.proof_graph.specs.History.{IsLegal, StandsAt, AddsAtMost}

-- a reference of a list stands there
pub stands_there : (history : List Reference) (key : Node) (r : Reference) → key_of r ≡ key → Contains history r → StandsAt history key r.number
stands_there history key r is there = (r, there, is, refl)

-- one more place at which two lists are the same
pub take_same : (xs ys : List Reference) (i : ℕ) (d : Reference) → i < length xs → i < length ys → take i xs ≡ take i ys → get_or xs i d ≡ get_or ys i d
    → take (i + 1) xs ≡ take (i + 1) ys
take_same xs ys i d in_xs in_ys before here =
    take_more xs i d in_xs ∙ (λ j. before j ++ here j ∷ []) ∙ sym (take_more ys i d in_ys)

-- the numbers at a place
pub number_same : (xs ys : List Reference) (i : ℕ) (d : Reference) → numbers_of xs ≡ numbers_of ys → i < length xs → i < length ys
    → (get_or xs i d).number ≡ (get_or ys i d).number
number_same xs ys i d numbers in_xs in_ys =
    sym (get_or-map (λ (r : Reference). r.number) xs i d 0 in_xs) ∙ ap (λ (ns : List ℕ). get_or ns i 0) numbers ∙ get_or-map (λ (r : Reference). r.number) ys i d 0 in_ys

pub lengths_same : (xs ys : List Reference) → numbers_of xs ≡ numbers_of ys → length xs ≡ length ys
lengths_same xs ys numbers = sym (length-map xs (λ (r : Reference). r.number)) ∙ ap length numbers ∙ length-map ys (λ (r : Reference). r.number)

-- in a legal history each key is that of one entry
one_entry : (history : List Reference) (r s : Reference) → IsLegal history → key_of r ≡ key_of s → Contains history r → Contains history s → r ≡ s
one_entry history r s legal same p q =
    let at_r : get_or history p.0 s ≡ r = get_or_default history p.0 s r p.1 ∙ p.2 in
    let at_s : get_or history q.0 s ≡ s = q.2 in
    elim (cases_lt p.0 q.0) [
      | inl before ↦ absurd (legal.keys p.0 q.0 s before q.1 (ap key_of at_r ∙ same ∙ ap key_of (sym at_s)))
      | inr after ↦ elim (cases_lt q.0 p.0) [
        | inl before ↦ absurd (legal.keys q.0 p.0 s before p.1 (ap key_of at_s ∙ sym same ∙ ap key_of (sym at_r)))
        | inr not_after ↦ let place : p.0 ≡ q.0 = omega arith in sym at_r ∙ ap (λ (k : ℕ). get_or history k s) place ∙ at_s
      ]
    ]

-- a key that stood at a number stands at no other in a legal history that goes on
pub known_number : (old new : List Reference) (key : Node) (m n : ℕ) → IsLegal new → IsPrefix old new → StandsAt new key m → StandsAt old key n → m ≡ n
known_number old new key m n legal grown there before =
    let same : there.0 ≡ before.0 = one_entry new there.0 before.0 legal (there.2 ∙ sym before.2) there.1 (prefix_contains old new before.0 grown before.1) in
    sym there.3 ∙ ap (λ (r : Reference). r.number) same ∙ before.3

-- a key stands at the number of its reference, whether it was added or stood there
pub stands_after : (old new : List Reference) (key : Node) (r : Reference) → key_of r ≡ key → AddsAtMost old key r new → StandsAt new key r.number
stands_after old new key r is adds = elim adds.2 [
  | inl known ↦ subst (λ (h : List Reference). StandsAt h key r.number) (sym known.1) known.0
  | inr added ↦ stands_there new key r is (subst (λ (h : List Reference). Contains h r) (sym added.1) (Contains-push adds.0 r))
]

-- the same of a reference that a call answers where it has memory
pub stands_if_made : {E : Type 0} (made : Result Reference E) (old new : List Reference) (key : Node) → IfOk made (λ r. key_of r ≡ key) → IfOk made (λ r. AddsAtMost old key r new)
    → IfOk made (λ r. StandsAt new key r.number)
stands_if_made (Ok r) old new key is adds = stands_after old new key r is adds
stands_if_made (Err e) old new key is adds = tt

pub known_after : {E : Type 0} (made : Result Reference E) (old new : List Reference) (key : Node) → IsLegal new → IsPrefix old new → IfOk made (λ r. StandsAt new key r.number)
    → IfOk made (λ r. (n : ℕ) → StandsAt old key n → r.number ≡ n)
known_after (Ok r) old new key legal grown there = λ n before. known_number old new key r.number n legal grown there before
known_after (Err e) old new key legal grown there = tt
