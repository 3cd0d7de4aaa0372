-- Tables of numbers by place, with one more place and with one more number.
use Rattle.std.proofs.Common.{◌≡◌, ℕ, zero, suc, ◌<◌, Bool, true, false, cond, nat_eq, List, [], ◌∷◌, ◌++◌, length, get_or, set, refl, sym, subst}
use Rattle.std.specs.Prelude.{Option, Some, None}
use Rattle.std.specs.Cmp.{unsigned_Decides}
use Rattle.std.proofs.lemmas.List.{get_or-set_same, get_or-set_other}

-- a place where nothing is kept adds no number
pub none_more : (kept : List (Option ℕ)) (n : ℕ) → get_or (kept ++ None ∷ []) n None ≡ get_or kept n None
none_more [] zero = refl
none_more [] (suc n) = refl
none_more (x ∷ kept) zero = refl
none_more (x ∷ kept) (suc n) = none_more kept n

pub entry_set : (kept : List (Option ℕ)) (place number n : ℕ) → place < length kept → get_or (set kept place (Some number)) n None ≡ cond (nat_eq n place) (Some number) (get_or kept n None)
entry_set kept place number n within = by (nat_eq n place) refl
  where
    by : (b : Bool) → nat_eq n place ≡ b → get_or (set kept place (Some number)) n None ≡ cond b (Some number) (get_or kept n None)
    by true e =
        subst (λ (m : ℕ). get_or (set kept place (Some number)) m None ≡ Some number) (sym ((unsigned_Decides n place).0 e))
        (get_or-set_same kept place (Some number) None within)
    by false e =
        let apart : n ≡ place → ⊥ = λ same. let here : nat_eq n place ≡ true = (unsigned_Decides n place).1 same in cc in
        get_or-set_other kept place n (Some number) None apart
