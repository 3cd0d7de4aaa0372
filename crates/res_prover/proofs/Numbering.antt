-- Maps to numbered variables.
use Rattle.std.proofs.Common.{◌≡◌, ℕ, suc, Bool, true, false, if◌then◌else◌, List, [], ◌∷◌, Option, refl, ap, ◌∙◌}
use Rattle.std.specs.Prelude.{Some, IfSome}
use Rattle.std.specs.FinMap as fin
use Rattle.std.specs.Ordering.{eq_by_cmp}
use Rattle.fol.specs.declared.symbols.Var.{Var}
use Rattle.fol.specs.declared.symbols.Var.TheVariants.{Num}
use Rattle.fol.specs.Syntax.{Term, free}
use Rattle.fol.specs.Order.{var_cmp}
use Rattle.fol.specs.Formed.{IsFormedTerm}
use Rattle.substitution.specs.Maps.{Map}
use Rattle.substitution.proofs.ImageLaws.{own_binding, other_binding, same_var}
use Rattle.clause_laws.specs.Normal.{numbered}

next_for : (m : Map) (n : ℕ) (w : Var) (ws : List Var) → ((v : Var) → fin.get m v ≡ numbered (suc n) ws v) → (v : Var) (b : Bool) → eq_by_cmp var_cmp v w ≡ b → fin.get (fin.insert m w (free (Num n))) v ≡ (if b then Some (free (Num n)) else numbered (suc n) ws v)
next_for m n w ws old v true e = ap (fin.get (fin.insert m w (free (Num n)))) (same_var v w e) ∙ own_binding m w (free (Num n))
next_for m n w ws old v false e = other_binding m w v (free (Num n)) e ∙ old v

-- one more variable in front
pub next_numbered : (m : Map) (n : ℕ) (w : Var) (ws : List Var) → ((v : Var) → fin.get m v ≡ numbered (suc n) ws v) → (v : Var) → fin.get (fin.insert m w (free (Num n))) v ≡ numbered n (w ∷ ws) v
next_numbered m n w ws old v = next_for m n w ws old v (eq_by_cmp var_cmp v w) refl

formed_if : (n : ℕ) (o : Option Term) (b : Bool) → IfSome o IsFormedTerm → IfSome (if b then Some (free (Num n)) else o) IsFormedTerm
formed_if n o true h = refl
formed_if n o false h = h

pub numbered_formed : (n : ℕ) (ws : List Var) (v : Var) → IfSome (numbered n ws v) IsFormedTerm
numbered_formed n [] v = tt
numbered_formed n (w ∷ ws) v = formed_if n (numbered (suc n) ws v) (eq_by_cmp var_cmp v w) (numbered_formed (suc n) ws v)
