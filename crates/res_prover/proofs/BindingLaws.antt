-- The last binding of a variable is that of the map, and bindings that came are taken back.
use Rattle.std.proofs.Common.{◌≡◌, ℕ, ◌+◌, ◌<◌, Bool, true, false, cond, List, [], ◌∷◌, ◌++◌, length, get_or, take, Option, Some, None, option_map, refl, sym, ap, ◌∙◌, append_assoc}
use Rattle.std.specs.Ordering.{eq_by_cmp}
use Rattle.std.specs.FinMap as fin
use Rattle.fol.specs.declared.symbols.Var.{Var}
use Rattle.fol.specs.Syntax.{Term}
use Rattle.fol.specs.Order.{var_cmp}
use Rattle.fol.specs.OrderLaws.{var_total}
use Rattle.substitution.specs.Maps.{Map}
use Rattle.res_prover.specs.declared.bindings.Binding.{Binding}
use Rattle.res_prover.specs.Bindings.{with_bindings, map_of, IsFront}
use Rattle.res_prover.proofs.Members.{next_taken}

append_none : (bs : List Binding) → bs ++ [] ≡ bs
append_none [] = refl
append_none (b ∷ bs) = ap (λ cs. b ∷ cs) (append_none bs)

pub front_itself : (bs : List Binding) → IsFront bs bs
front_itself bs = record { further = []; is = sym (append_none bs) }

pub front_later : (bs cs ds : List Binding) → IsFront bs cs → IsFront cs ds → IsFront bs ds
front_later bs cs ds one two = record {
  further = one.further ++ two.further;
  is = two.is ∙ ap (λ xs. xs ++ two.further) one.is ∙ append_assoc bs one.further two.further;
}

with_last : (m : Map) (bs : List Binding) (b : Binding) → with_bindings m (bs ++ b ∷ []) ≡ fin.insert (with_bindings m bs) b.variable.now b.term.now
with_last m [] b = refl
with_last m (c ∷ bs) b = with_last (fin.insert m c.variable.now c.term.now) bs b

pub map_more : (bs cs : List Binding) (b : Binding) → cs ≡ bs ++ b ∷ [] → map_of cs ≡ fin.insert (map_of bs) b.variable.now b.term.now
map_more bs cs b e = ap map_of e ∙ with_last fin.empty bs b

-- the last one of the first n + 1
module _ (bs : List Binding) (n : ℕ) (b : Binding) (below : n < length bs) (is : b ≡ get_or bs n b) (v : Var) where
  last_get : fin.get (map_of (take (n + 1) bs)) v ≡ cond (eq_by_cmp var_cmp v b.variable.now) (Some b.term.now) (fin.get (map_of (take n bs)) v)
  last_get = ap (λ m. fin.get m v) (map_more (take n bs) (take (n + 1) bs) b (next_taken bs n b below is)) ∙ fin.get-insert var_total (map_of (take n bs)) b.variable.now b.term.now v

  pub last_found : eq_by_cmp var_cmp v b.variable.now ≡ true → fin.get (map_of (take (n + 1) bs)) v ≡ Some b.term.now
  last_found e = last_get ∙ ap (λ c. cond c (Some b.term.now) (fin.get (map_of (take n bs)) v)) e

  pub last_other : eq_by_cmp var_cmp v b.variable.now ≡ false → fin.get (map_of (take (n + 1) bs)) v ≡ fin.get (map_of (take n bs)) v
  last_other e = last_get ∙ ap (λ c. cond c (Some b.term.now) (fin.get (map_of (take n bs)) v)) e

pub no_term : (same : Term → Bool) (o : Option Term) → option_map same o ≡ None → o ≡ None
no_term same None e = refl
no_term same (Some s) e = cc
