-- Closures of clauses have no free variable, so no map changes them.
use Rattle.std.proofs.Common.{◌≡◌, ℕ, zero, suc, Bool, true, false, not, ◌||◌, ◌&&◌, List, [], ◌∷◌, map, Option, refl, sym, ap, ◌∙◌}
use Rattle.std.specs.Prelude.{Some, slice_get}
use Rattle.std.specs.List.{All, list_any}
use Rattle.std.specs.Ordering.{eq_by_cmp}
use Rattle.std.proofs.lemmas.List.Elements.{All-head, All-tail}
use Rattle.std.proofs.lemmas.Map.Views.{any-filter_same}
use Rattle.fol.specs.declared.symbols.Var.{Var}
use Rattle.fol.specs.Syntax.{Term, Formula, all}
use Rattle.fol.specs.Order.{var_cmp, formula_cmp}
use Rattle.fol.specs.OrderLaws.{formula_total}
use Rattle.finite.specs.Finite as set
use Rattle.finite.proofs.Finite.{has-empty, has-adds_each}
use Rattle.free_variables.specs.Occurrence.{is_free_in, var_list}
use Rattle.free_variables.proofs.OccurrenceLaws.{is_free-var_list}
use Rattle.substitution.specs.Closing.{closed_over}
use Rattle.substitution.specs.Image.{image}
use Rattle.substitution.proofs.FreeLaws.{free-bind_at}
use Rattle.substitution.proofs.ImageLaws.{same_var, untouched}
use Rattle.lk_rules.specs.Sequents.{image_sequent}
use Rattle.proof_trees.proofs.Booleans.{or_first, or_second, either}
use Rattle.refutations.specs.declared.clause.Clause.{Clause}
use Rattle.refutations.specs.Clauses.{first_occurrences, IsClauseOf, closure_of, closures}
use Rattle.proof_trees.proofs.FormulaSets.{equal, tied, image_of_fixed}

-- a list of variables and their first occurrences have the same members

or_found : (a b c : Bool) → (a ≡ false → b ≡ c) → (a || b) ≡ (a || c)
or_found true b c f = refl
or_found false b c f = f refl

other_kept : (v w : Var) → eq_by_cmp var_cmp w v ≡ false → (u : Var) → eq_by_cmp var_cmp w u ≡ true → not (eq_by_cmp var_cmp v u) ≡ true
other_kept v w apart u same = other (eq_by_cmp var_cmp v u) refl
  where
    other : (b : Bool) → eq_by_cmp var_cmp v u ≡ b → not b ≡ true
    other true e =
        let both : w ≡ v = same_var w u same ∙ sym (same_var v u e) in
        let tie : eq_by_cmp var_cmp w v ≡ true = ap (eq_by_cmp var_cmp w) (same_var v u e) ∙ same in
        cc
    other false e = refl

pub among_first : (w : Var) (vs : List Var) → list_any (eq_by_cmp var_cmp w) (first_occurrences vs) ≡ list_any (eq_by_cmp var_cmp w) vs
among_first w [] = refl
among_first w (v ∷ vs) =
    or_found (eq_by_cmp var_cmp w v) _ _ (λ apart.
    any-filter_same (eq_by_cmp var_cmp w) (λ u. not (eq_by_cmp var_cmp v u)) true (other_kept v w apart) (first_occurrences vs) ∙ among_first w vs)

-- what is free in a closure

and-true : (a : Bool) → a ≡ (a && true)
and-true true = refl
and-true false = refl

left_out : (a b c : Bool) → ((a && not c) && not b) ≡ (a && not (b || c))
left_out true true true = refl
left_out true true false = refl
left_out true false c = and_swap (not c)
  where
    and_swap : (x : Bool) → (x && true) ≡ x
    and_swap true = refl
    and_swap false = refl
left_out false b c = refl

pub free-closed_over : (w : Var) (vs : List Var) (f : Formula) → is_free_in w (closed_over all vs f) ≡ (is_free_in w f && not (list_any (eq_by_cmp var_cmp w) vs))
free-closed_over w [] f = and-true (is_free_in w f)
free-closed_over w (v ∷ vs) f =
    free-bind_at w v (closed_over all vs f) zero
    ∙ ap (λ b. b && not (eq_by_cmp var_cmp w v)) (free-closed_over w vs f)
    ∙ left_out (is_free_in w f) (eq_by_cmp var_cmp w v) (list_any (eq_by_cmp var_cmp w) vs)

and_not : (a : Bool) → (a && not a) ≡ false
and_not true = refl
and_not false = refl

pub none_free : (c : Clause) → IsClauseOf c → (w : Var) → is_free_in w (closure_of c) ≡ false
none_free c h w =
    free-closed_over w c.vars c.matrix
    ∙ ap (λ vs. is_free_in w c.matrix && not (list_any (eq_by_cmp var_cmp w) vs)) h.vars
    ∙ ap (λ b. is_free_in w c.matrix && not b) (among_first w (var_list c.matrix) ∙ is_free-var_list w c.matrix)
    ∙ and_not (is_free_in w c.matrix)

fixed : (m : Var → Option Term) (c : Clause) → IsClauseOf c → image m (closure_of c) ≡ closure_of c
fixed m c h = untouched m (closure_of c) (λ w free. let none = none_free c h w in cc)

-- closures among those of all clauses

pub has-closures : (cs : List Clause) (q : Formula) → set.has (closures cs).left q ≡ list_any (eq_by_cmp formula_cmp q) (map closure_of cs)
has-closures cs q =
    has-adds_each formula_total set.empty (map closure_of cs) q
    ∙ ap (λ b. b || list_any (eq_by_cmp formula_cmp q) (map closure_of cs)) (has-empty formula_cmp q)

listed : (cs : List Clause) (i : ℕ) (c : Clause) → slice_get cs i ≡ Some c → list_any (eq_by_cmp formula_cmp (closure_of c)) (map closure_of cs) ≡ true
listed [] i c is = cc
listed (d ∷ ds) zero c is =
    let same : d ≡ c = cc in
    or_first (eq_by_cmp formula_cmp (closure_of c) (closure_of d)) _ (tied (closure_of c) (closure_of d) (ap closure_of (sym same)))
listed (d ∷ ds) (suc i) c is = or_second (eq_by_cmp formula_cmp (closure_of c) (closure_of d)) _ (listed ds i c is)

-- the closure of each clause is a member
pub closure_stands : (cs : List Clause) (i : ℕ) (c : Clause) → slice_get cs i ≡ Some c → set.has (closures cs).left (closure_of c) ≡ true
closure_stands cs i c is = has-closures cs (closure_of c) ∙ listed cs i c is

-- no map changes a member
member_fixed : (m : Var → Option Term) (cs : List Clause) → All IsClauseOf cs → (f : Formula) → list_any (eq_by_cmp formula_cmp f) (map closure_of cs) ≡ true → image m f ≡ f
member_fixed m [] h f e = cc
member_fixed m (c ∷ cs) h f e =
    either (eq_by_cmp formula_cmp f (closure_of c)) (list_any (eq_by_cmp formula_cmp f) (map closure_of cs))
    (λ one. let same : f ≡ closure_of c = equal f (closure_of c) one in ap (image m) same ∙ (fixed m c (All-head IsClauseOf c cs h) ∙ sym same))
    (member_fixed m cs (All-tail IsClauseOf c cs h) f)
    e

pub image-closures : (m : Var → Option Term) (cs : List Clause) → All IsClauseOf cs → image_sequent m (closures cs) ≡ closures cs
image-closures m cs h = λ i. record {
  left = image_of_fixed m (set.of_list (map closure_of cs)) (λ f e. member_fixed m cs h f (sym (has-closures cs f) ∙ e)) i;
  right = image_of_fixed m set.empty (λ f e. let none = has-empty formula_cmp f in cc) i;
}
