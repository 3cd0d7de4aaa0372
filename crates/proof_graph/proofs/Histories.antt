-- Histories and the events from which they come.
use Rattle.std.proofs.Common.{◌≡◌, ◌≢◌, ◌<◌, List, [], ◌∷◌, ◌++◌, length, get_or, refl, sym, ◌∙◌, subst, arith, append_assoc, append-nil, length-append}
use Rattle.std.specs.List.{All, AllPairs}
use Rattle.std.proofs.lemmas.List.{get_or_append_left, get_or_at}
use Rattle.std.proofs.lemmas.List.Elements.{All-push}
use Rattle.std.proofs.lemmas.List.Quantifiers.{all_pairs_push}
use Rattle.proof_trees.specs.Trees.{IsValid}
use Rattle.proof_graph.specs.References.{Reference, key_of}
use Rattle.proof_graph.specs.History.{IsLegal}
use Rattle.proof_graph.specs.Events.{MayFollow, interned, AreAllowed, after_all}

pub legal_none : IsLegal []
legal_none = record {
  keys = λ i j d lt within. absurd (omega arith);
  numbers = λ i j d lt within. absurd (omega arith);
  trees = λ k d within. absurd (omega arith);
}

-- an event keeps a history legal
pub legal_more : (history : List Reference) (r : Reference) → IsLegal history → MayFollow history r → IsLegal (interned history r)
legal_more history r legal may = record {
  keys = all_pairs_push (λ s t. key_of s ≢ key_of t) history r legal.keys (λ k d within. may.key k d within);
  numbers = all_pairs_push (λ s t. s.number ≢ t.number) history r legal.numbers (λ k d within. may.number k d within);
  trees = All-push (λ s. IsValid s.tree) history r legal.trees may.tree;
}

pub legal_after : (history events : List Reference) → IsLegal history → AreAllowed history events → IsLegal (after_all history events)
legal_after history [] legal allowed = legal
legal_after history (r ∷ rs) legal allowed = legal_after (interned history r) rs (legal_more history r legal allowed.0) allowed.1

-- each element of a list before one is related to it
before_one : {X : Type 0} (R : X → X → Type 0) (xs : List X) (y : X) (zs : List X) → AllPairs R (xs ++ y ∷ zs) → All (λ x. R x y) xs
before_one R xs y zs pairs k d within =
    let inside : length xs < length (xs ++ y ∷ zs) = omega (arith, length-append xs (y ∷ zs)) in
    let first : get_or (xs ++ y ∷ zs) k d ≡ get_or xs k d = get_or_append_left xs (y ∷ zs) d k within in
    let second : get_or (xs ++ y ∷ zs) (length xs) d ≡ y = get_or_at xs y zs d (length xs) refl in
    rw (← first) (subst (R (get_or (xs ++ y ∷ zs) k d)) second (pairs k (length xs) d within inside))

-- and what holds of each element of a list holds of one in its midst
at_one : {X : Type 0} (P : X → Type 0) (xs : List X) (y : X) (zs : List X) → All P (xs ++ y ∷ zs) → P y
at_one P xs y zs all =
    let inside : length xs < length (xs ++ y ∷ zs) = omega (arith, length-append xs (y ∷ zs)) in
    subst P (get_or_at xs y zs y (length xs) refl) (all (length xs) y inside)

-- a legal history is made by its own references, one after the other
pub made_by_itself : (history events : List Reference) → IsLegal (history ++ events) → AreAllowed history events × (after_all history events ≡ history ++ events)
made_by_itself history [] legal = (tt, sym (append-nil history))
made_by_itself history (r ∷ rs) legal =
    let same : history ++ r ∷ rs ≡ interned history r ++ rs = sym (append_assoc history (r ∷ []) rs) in
    let rest = made_by_itself (interned history r) rs (subst IsLegal same legal) in
    let may : MayFollow history r = record {
      key = before_one (λ s t. key_of s ≢ key_of t) history r rs legal.keys;
      number = before_one (λ s t. s.number ≢ t.number) history r rs legal.numbers;
      tree = at_one (λ s. IsValid s.tree) history r rs legal.trees;
    } in ((may, rest.0), rest.1 ∙ sym same)
