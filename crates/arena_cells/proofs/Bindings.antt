-- Looking up in a map that is made of variables and terms.
use Rattle.std.proofs.Common.{◌≡◌, ℕ, Bool, true, false, ◌||◌, cond, List, [], ◌∷◌, map, length, Option, Some, None, is_some, refl, sym, ap, ◌∙◌, arith}
use Rattle.std.specs.List.{list_any}
use Rattle.std.specs.Ordering.{eq_by_cmp}
use Rattle.std.specs.FinMap as fin
use Rattle.std.proofs.lemmas.List.{length-map}
use Rattle.fol.specs.declared.symbols.Var.{Var}
use Rattle.fol.specs.Syntax.{Term}
use Rattle.fol.specs.Order.{var_cmp}
use Rattle.fol.specs.OrderLaws.{var_total}
use Rattle.arena_cells.specs.Meaning.{bindings}

-- the term at the place of the first variable that ties with q
abbrev pub value_in : List Var → List Term → Var → Option Term
value_in [] ts q = None
value_in (v ∷ vs) [] q = None
value_in (v ∷ vs) (t ∷ ts) q = cond (eq_by_cmp var_cmp q v) (Some t) (value_in vs ts q)

pub get-bindings : (vs : List Var) (ts : List Term) (q : Var) → fin.get (bindings vs ts) q ≡ value_in vs ts q
get-bindings [] ts q = fin.get-empty var_cmp q
get-bindings (v ∷ vs) [] q = fin.get-empty var_cmp q
get-bindings (v ∷ vs) (t ∷ ts) q = fin.get-insert var_total (bindings vs ts) v t q ∙ ap (cond (eq_by_cmp var_cmp q v) (Some t)) (get-bindings vs ts q)

is_some-cond : (b : Bool) (t : Term) (x : Option Term) → is_some (cond b (Some t) x) ≡ (b || is_some x)
is_some-cond true t x = refl
is_some-cond false t x = refl

is_some-value_in : (vs : List Var) (ts : List Term) (q : Var) → length vs ≡ length ts → is_some (value_in vs ts q) ≡ list_any (eq_by_cmp var_cmp q) vs
is_some-value_in [] ts q l = refl
is_some-value_in (v ∷ vs) [] q l = absurd (omega arith)
is_some-value_in (v ∷ vs) (t ∷ ts) q l =
    is_some-cond (eq_by_cmp var_cmp q v) t (value_in vs ts q) ∙ ap (λ b. eq_by_cmp var_cmp q v || b) (is_some-value_in vs ts q (omega arith))

pub is_some-bindings : (vs : List Var) (ts : List Term) (q : Var) → length vs ≡ length ts → is_some (fin.get (bindings vs ts) q) ≡ list_any (eq_by_cmp var_cmp q) vs
is_some-bindings vs ts q l = ap is_some (get-bindings vs ts q) ∙ is_some-value_in vs ts q l

pub same_lengths : {X Y : Type 0} (f : ℕ → X) (g : ℕ → Y) (ms ns : List ℕ) → length ms ≡ length ns → length (map f ms) ≡ length (map g ns)
same_lengths f g ms ns l = length-map ms f ∙ l ∙ sym (length-map ns g)
