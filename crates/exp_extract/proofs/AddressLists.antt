-- Lists of addresses, with one more address at the end.
use Rattle.std.proofs.Common.{◌≡◌, ℕ, zero, suc, ◌<◌, Bool, true, false, ◌||◌, List, [], ◌∷◌, ◌++◌, length, Option, Some, None, refl, sym, ap, ◌∙◌, arith, inl, inr}
use Rattle.std.proofs.lemmas.Bool.{cases_lt}
use Rattle.std.proofs.lemmas.List.{length_push}
use Rattle.std.proofs.lemmas.List.Folds.{list_any-append}
use Rattle.fol.specs.Syntax.{Term}
use Rattle.proof_trees.proofs.Booleans.{or_first, or_second}
use Rattle.search_laws.proofs.Tests.{split, clash}
use Rattle.extraction_laws.specs.Addresses.{Address, root, part, via, same_address, is_listed}
use Rattle.extraction_laws.proofs.Equal.{equal_addresses, tied_address}
use Rattle.exp_extract.specs.Marked.{address_in}
use Rattle.exp_extract.specs.Entries.{IsChild, FindsChild, AreDistinct, HasParent}

or-false : (a : Bool) → (a || false) ≡ a
or-false true = refl
or-false false = refl

pub in_front : (bs cs : List Address) (n : ℕ) → n < length bs → address_in (bs ++ cs) n ≡ address_in bs n
in_front [] cs n l = absurd (omega arith)
in_front (b ∷ bs) cs zero l = refl
in_front (b ∷ bs) cs (suc n) l = in_front bs cs n (omega arith)

pub at_end : (bs : List Address) (b : Address) → address_in (bs ++ b ∷ []) (length bs) ≡ b
at_end [] b = refl
at_end (x ∷ bs) b = at_end bs b

pub listed_at : (bs : List Address) (n : ℕ) → n < length bs → is_listed (address_in bs n) bs ≡ true
listed_at [] n l = absurd (omega arith)
listed_at (b ∷ bs) zero l = or_first (same_address b b) _ (tied_address b)
listed_at (b ∷ bs) (suc n) l = or_second (same_address (address_in bs n) b) _ (listed_at bs n (omega arith))

pub apart : (a b : Address) → (a ≡ b → ⊥) → same_address a b ≡ false
apart a b f = split (same_address a b) (λ e. absurd (f (equal_addresses a b e))) (λ e. e)

module _ (bs : List Address) (b : Address) where
  pub listed_more : (a : Address) → is_listed a (bs ++ b ∷ []) ≡ (is_listed a bs || same_address a b)
  listed_more a = list_any-append (same_address a) bs (b ∷ []) ∙ ap (λ t. is_listed a bs || t) (or-false (same_address a b))

  pub stays_listed : (a : Address) → is_listed a bs ≡ true → is_listed a (bs ++ b ∷ []) ≡ true
  stays_listed a h = listed_more a ∙ or_first _ _ h

  pub stays_out : (a : Address) → is_listed a bs ≡ false → (a ≡ b → ⊥) → is_listed a (bs ++ b ∷ []) ≡ false
  stays_out a h ne = listed_more a ∙ (λ i. h i || apart a b ne i)

  pub child_more : (x : Address) (n : ℕ) → IsChild bs x n → IsChild (bs ++ b ∷ []) x n
  child_more x n h = let l : n < length bs = h.0 in (omega (arith, length_push bs b), in_front bs (b ∷ []) n l ∙ h.1)

  pub finds_more : (x : Address) (o : Option ℕ) → (x ≡ b → ⊥) → FindsChild bs x o → FindsChild (bs ++ b ∷ []) x o
  finds_more x None ne h = stays_out x h ne
  finds_more x (Some n) ne h = child_more x n h

  pub new_child : IsChild (bs ++ b ∷ []) b (length bs)
  new_child = (omega (arith, length_push bs b), at_end bs b)

  pub parent_more : (a : Address) → HasParent bs a → HasParent (bs ++ b ∷ []) a
  parent_more (root s f) h = tt
  parent_more (part a i) h = stays_listed a h
  parent_more (via a t) h = stays_listed a h

  pub distinct_more : AreDistinct bs → is_listed b bs ≡ false → AreDistinct (bs ++ b ∷ [])
  distinct_more h absent m n l k e =
      let long = length_push bs b in
      elim (cases_lt m (length bs)) [
        | inl m_in ↦ elim (cases_lt n (length bs)) [
          | inl n_in ↦ h m n m_in n_in (sym (in_front bs (b ∷ []) m m_in) ∙ (e ∙ in_front bs (b ∷ []) n n_in))
          | inr n_out ↦ absurd (not_there m m_in (sym (in_front bs (b ∷ []) m m_in) ∙ (e ∙ last n (omega arith))))
        ]
        | inr m_out ↦ elim (cases_lt n (length bs)) [
          | inl n_in ↦ absurd (not_there n n_in (sym (in_front bs (b ∷ []) n n_in) ∙ (sym e ∙ last m (omega arith))))
          | inr n_out ↦ omega arith
        ]
      ]
    where
      last : (n : ℕ) → n ≡ length bs → address_in (bs ++ b ∷ []) n ≡ b
      last n is = ap (address_in (bs ++ b ∷ [])) is ∙ at_end bs b

      not_there : (n : ℕ) → n < length bs → address_in bs n ≡ b → ⊥
      not_there n l is = clash (is_listed b bs) (ap (λ a. is_listed a bs) (sym is) ∙ listed_at bs n l) absent

-- an address is apart from its parts and instances

abbrev depth : Address → ℕ
depth (root s f) = 0
depth (part a i) = suc (depth a)
depth (via a t) = suc (depth a)

pub part_apart : (a : Address) (i : ℕ) → part a i ≡ a → ⊥
part_apart a i e = let deep : suc (depth a) ≡ depth a = ap depth e in omega arith

pub via_apart : (a : Address) (t : Term) → via a t ≡ a → ⊥
via_apart a t e = let deep : suc (depth a) ≡ depth a = ap depth e in omega arith
