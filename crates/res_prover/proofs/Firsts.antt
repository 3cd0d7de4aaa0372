-- A list of first occurrences grows by a variable that it doesn't have.
use Rattle.std.proofs.Common.{◌≡◌, Bool, true, false, ◌||◌, cond, List, [], ◌∷◌, ◌++◌, append_assoc, refl, sym, ap, subst, ◌∙◌}
use Rattle.std.specs.Ordering.{eq_by_cmp}
use Rattle.fol.specs.declared.symbols.Var.{Var}
use Rattle.fol.specs.Order.{var_cmp}
use Rattle.free_variables.specs.Fresh.{is_among}
use Rattle.substitution.proofs.ImageLaws.{itself, same_var}
use Rattle.refutations.specs.FirstOccurrences.{unseen}
use Rattle.refutations.proofs.FirstOccurrences.{unseen_old, unseen_new, unseen_none}
use Rattle.refutations.specs.Clauses.{first_occurrences}

turned_of : (v w : Var) (b c : Bool) → eq_by_cmp var_cmp v w ≡ b → eq_by_cmp var_cmp w v ≡ c → c ≡ b
turned_of v w true true e d = refl
turned_of v w false false e d = refl
turned_of v w true false e d = sym d ∙ ap (λ u. eq_by_cmp var_cmp w u) (same_var v w e) ∙ itself w
turned_of v w false true e d = sym (sym e ∙ ap (λ u. eq_by_cmp var_cmp v u) (same_var w v d) ∙ itself v)

pub turned : (v w : Var) → eq_by_cmp var_cmp w v ≡ eq_by_cmp var_cmp v w
turned v w = turned_of v w (eq_by_cmp var_cmp v w) (eq_by_cmp var_cmp w v) refl refl

last_or : (a b : Bool) → (a || false) ≡ cond a true false
last_or true b = refl
last_or false b = refl

step_or : (a b : Bool) → (a || cond b true false) ≡ (a || b)
step_or a true = refl
step_or a false = refl

swap_or : (a b c : Bool) → (a || cond b true c) ≡ cond b true (a || c)
swap_or true true c = refl
swap_or true false c = refl
swap_or false true c = refl
swap_or false false c = refl

pub among_push : (w : Var) (fs : List Var) (v : Var) → is_among w (fs ++ v ∷ []) ≡ cond (eq_by_cmp var_cmp v w) true (is_among w fs)
among_push w [] v = last_or (eq_by_cmp var_cmp w v) true ∙ ap (λ b. cond b true false) (turned v w)
among_push w (f ∷ fs) v = ap (λ b. eq_by_cmp var_cmp w f || b) (among_push w fs v) ∙ swap_or (eq_by_cmp var_cmp w f) (eq_by_cmp var_cmp v w) (is_among w fs)

pub push_old : (fs : List Var) (v : Var) (b : Bool) → b ≡ is_among v fs → b ≡ true → (vs : List Var) → fs ++ unseen (λ w. is_among w fs) vs ≡ fs ++ unseen (λ w. is_among w fs) (v ∷ vs)
push_old fs v b was is vs = ap (λ us. fs ++ us) (sym (unseen_old (λ w. is_among w fs) v vs (sym was ∙ is)))

pub push_new : (fs gs : List Var) (v u : Var) (b : Bool) → b ≡ is_among v fs → b ≡ false → u ≡ v → gs ≡ fs ++ u ∷ [] → (vs : List Var) → gs ++ unseen (λ w. is_among w gs) vs ≡ fs ++ unseen (λ w. is_among w fs) (v ∷ vs)
push_new fs gs v u b was is copied grown vs =
    let made : gs ≡ fs ++ v ∷ [] = grown ∙ ap (λ w. fs ++ w ∷ []) copied in
    subst (λ hs. hs ++ unseen (λ w. is_among w hs) vs ≡ fs ++ unseen (λ w. is_among w fs) (v ∷ vs)) (sym made)
    (append_assoc fs (v ∷ []) (unseen (λ w. is_among w (fs ++ v ∷ [])) vs)
    ∙ ap (λ us. fs ++ us) (sym (unseen_new (λ w. is_among w fs) (λ w. is_among w (fs ++ v ∷ [])) v vs (sym was ∙ is) (λ w. among_push w fs v))))

pub none_first : (vs : List Var) → [] ++ unseen (λ w. is_among w []) vs ≡ first_occurrences vs
none_first vs = unseen_none (λ w. is_among w []) vs (λ w. refl)
