-- Two maps in a row as one map, which has a binding for each variable that they move.
use Rattle.std.proofs.Common.{◌≡◌, Bool, true, false, ◌||◌, cond, Option, Some, None, IfSome, unwrap_or, List, ◌∷◌, refl, sym, ap, subst, ◌∙◌}
use Rattle.std.specs.List.{list_any}
use Rattle.std.specs.Ordering.{eq_by_cmp}
use Rattle.std.specs.FinMap as fin
use Rattle.std.proofs.lemmas.Bool.{cond-true, cond-false, cond_both}
use Rattle.fol.specs.declared.symbols.Var.{Var}
use Rattle.fol.specs.Syntax.{Term, free}
use Rattle.fol.specs.Order.{var_cmp}
use Rattle.fol.specs.Formed.{IsFormedTerm}
use Rattle.substitution.specs.Image.{image_term, IsFormedMap}
use Rattle.substitution.specs.Maps.{Map}
use Rattle.substitution.proofs.ImageFormed.{formed-image_term}
use Rattle.substitution.proofs.ImageLaws.{own_binding, other_binding, same_var}

abbrev Replacing : Type 0
Replacing = Var → Option Term

-- what well-formed maps do to a variable that they move is well formed

formed_second : (o : Option Term) (x : Var) → IfSome o IsFormedTerm → (unwrap_or o (free x) ≡ free x → ⊥) → IsFormedTerm (unwrap_or o (free x))
formed_second None x formed moved = absurd (moved refl)
formed_second (Some t) x formed moved = formed

formed_first : (o : Option Term) (h : Replacing) (x : Var) → IfSome o IsFormedTerm → IsFormedMap h → (image_term h (unwrap_or o (free x)) ≡ free x → ⊥) → IsFormedTerm (image_term h (unwrap_or o (free x)))
formed_first None h x first second moved = formed_second (h x) x (second x) moved
formed_first (Some t) h x first second moved = formed-image_term h t 0 second first

pub formed_moved : (g h : Replacing) (x : Var) → IsFormedMap g → IsFormedMap h → (image_term h (image_term g (free x)) ≡ free x → ⊥) → IsFormedTerm (image_term h (image_term g (free x)))
formed_moved g h x first second moved = formed_first (g x) h x (first x) second moved

-- what g and h in a row do to the variables xs alone
abbrev pub in_a_row : Replacing → Replacing → List Var → Var → Term
in_a_row g h xs v = cond (list_any (eq_by_cmp var_cmp v) xs) (image_term h (image_term g (free v))) (free v)

-- m does that
abbrev pub IsComposed : Replacing → Replacing → List Var → Map → Type 0
IsComposed g h xs m = (v : Var) → image_term (fin.get m) (free v) ≡ in_a_row g h xs v

module _ (g h : Replacing) (xs : List Var) (m : Map) where
  pub composed_same : IsComposed g h xs m → (v : Var) → list_any (eq_by_cmp var_cmp v) xs ≡ true → image_term h (image_term g (free v)) ≡ image_term (fin.get m) (free v)
  composed_same is v e = sym (is v ∙ cond-true _ _ _ e)

  pub composed_others : IsComposed g h xs m → (v : Var) → list_any (eq_by_cmp var_cmp v) xs ≡ false → image_term (fin.get m) (free v) ≡ free v
  composed_others is v e = is v ∙ cond-false _ _ _ e

  pub composed_from : ((v : Var) → list_any (eq_by_cmp var_cmp v) xs ≡ true → image_term h (image_term g (free v)) ≡ image_term (fin.get m) (free v))
      → ((v : Var) → list_any (eq_by_cmp var_cmp v) xs ≡ false → image_term (fin.get m) (free v) ≡ free v) → IsComposed g h xs m
  composed_from same others v =
      cond_both (list_any (eq_by_cmp var_cmp v) xs) _ _ (λ (t : Term). image_term (fin.get m) (free v) ≡ t) (λ e. sym (same v e)) (λ e. others v e)

cond_same : {X : Type 0} (b : Bool) (x y : X) → x ≡ y → x ≡ cond b x y
cond_same true x y e = refl
cond_same false x y e = e

module _ (g h : Replacing) (xs : List Var) (x : Var) (m : Map) (rest : IsComposed g h xs m) where
  -- a variable that stays needs no binding
  pub stays_composed : image_term h (image_term g (free x)) ≡ free x → IsComposed g h (x ∷ xs) m
  stays_composed stays v = by (eq_by_cmp var_cmp v x) refl
    where
      by : (b : Bool) → eq_by_cmp var_cmp v x ≡ b → image_term (fin.get m) (free v) ≡ cond (b || list_any (eq_by_cmp var_cmp v) xs) (image_term h (image_term g (free v))) (free v)
      by true tie =
          let still : image_term h (image_term g (free v)) ≡ free v = subst (λ (w : Var). image_term h (image_term g (free w)) ≡ free w) (sym (same_var v x tie)) stays in
          rest v ∙ sym (cond_same (list_any (eq_by_cmp var_cmp v) xs) _ _ still)
      by false apart = rest v

  -- any may have one
  pub bound_composed : IsComposed g h (x ∷ xs) (fin.insert m x (image_term h (image_term g (free x))))
  bound_composed v = by (eq_by_cmp var_cmp v x) refl
    where
      u : Term
      u = image_term h (image_term g (free x))

      by : (b : Bool) → eq_by_cmp var_cmp v x ≡ b → image_term (fin.get (fin.insert m x u)) (free v) ≡ cond (b || list_any (eq_by_cmp var_cmp v) xs) (image_term h (image_term g (free v))) (free v)
      by true tie = subst (λ (w : Var). image_term (fin.get (fin.insert m x u)) (free w) ≡ image_term h (image_term g (free w))) (sym (same_var v x tie)) (ap (λ o. unwrap_or o (free x)) (own_binding m x u))
      by false apart = ap (λ o. unwrap_or o (free v)) (other_binding m x v u apart) ∙ rest v
