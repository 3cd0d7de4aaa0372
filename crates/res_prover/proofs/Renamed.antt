-- Maps to new names, and variants under them.
use Rattle.std.proofs.Common.{◌≡◌, Bool, true, false, cond, List, [], ◌∷◌, ◌++◌, Option, unwrap_or, refl, sym, ap, ◌∙◌}
use Rattle.std.specs.Prelude.{Some}
use Rattle.std.specs.FinMap as fin
use Rattle.std.specs.Ordering.{eq_by_cmp}
use Rattle.fol.specs.declared.symbols.Var.{Var}
use Rattle.fol.specs.Syntax.{Term, free}
use Rattle.fol.specs.Order.{var_cmp}
use Rattle.free_variables.specs.Fresh.{is_among}
use Rattle.substitution.specs.Maps.{Map}
use Rattle.substitution.proofs.ImageLaws.{own_binding, other_binding, same_var}
use Rattle.lk_rules.specs.declared.sequent.Sequent.{Sequent}
use Rattle.lk_rules.specs.Sequents.{image_sequent}
use Rattle.clause_laws.specs.Normal.{variables}
use Rattle.clause_laws.proofs.Sequents.{agree_sequent}
use Rattle.clause_laws.proofs.Normalised.{variables-free}
use Rattle.res_prover.proofs.Firsts.{among_push, turned}

more_at : (m : Map) (w : Var) (t : Term) (vs : List Var) (g : Var → Option Term) → ((v : Var) → is_among v vs ≡ true → fin.get m v ≡ g v) → Some t ≡ g w → (v : Var) (b : Bool) → eq_by_cmp var_cmp v w ≡ b → is_among v (vs ++ w ∷ []) ≡ true → fin.get (fin.insert m w t) v ≡ g v
more_at m w t vs g old is v true e among = ap (fin.get (fin.insert m w t)) (same_var v w e) ∙ own_binding m w t ∙ is ∙ ap g (sym (same_var v w e))
more_at m w t vs g old is v false e among =
    let apart : eq_by_cmp var_cmp w v ≡ false = sym (turned w v) ∙ e in
    other_binding m w v t e ∙ old v (sym (among_push v vs w ∙ ap (λ b. cond b true (is_among v vs)) apart) ∙ among)

-- one more name
pub more_named : (m : Map) (w : Var) (t : Term) (vs : List Var) (g : Var → Option Term) → ((v : Var) → is_among v vs ≡ true → fin.get m v ≡ g v) → Some t ≡ g w → (v : Var) → is_among v (vs ++ w ∷ []) ≡ true → fin.get (fin.insert m w t) v ≡ g v
more_named m w t vs g old is v = more_at m w t vs g old is v (eq_by_cmp var_cmp v w) refl

pub named_image : (m : Map) (g : Var → Option Term) (c : Sequent) → ((v : Var) → is_among v (variables c) ≡ true → fin.get m v ≡ g v) → image_sequent (fin.get m) c ≡ image_sequent g c
named_image m g c same = agree_sequent (fin.get m) g c (λ v e. ap (λ o. unwrap_or o (free v)) (same v (variables-free c v ∙ e)))
