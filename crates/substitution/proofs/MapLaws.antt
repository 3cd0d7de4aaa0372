-- The order of maps, and their variables.
use Rattle.std.proofs.Common.{◌≡◌, ◌↔◌, IsTrue, Bool, ◌||◌, is_some, refl, sym, ap, ◌∙◌}
use Rattle.std.specs.declared.cmp.Ordering.{Ordering}
use Rattle.std.specs.declared.cmp.Ordering.TheVariants.{Less, Equal, Greater}
use Rattle.std.specs.Cmp.{tied_itself, Equal-is}
use Rattle.std.specs.Ordering.{is_eq, eq_by_cmp, ordering_then}
use Rattle.std.specs.List.{list_any}
use Rattle.std.specs.FinMap as fin
use Rattle.fol.specs.declared.symbols.Var.{Var}
use Rattle.fol.specs.Syntax.{Term}
use Rattle.fol.specs.Order.{var_cmp, term_cmp}
use Rattle.fol.specs.OrderLaws.{var_total}
use Rattle.fol.proofs.OrderTies.{var_ties, term_ties}
use Rattle.finite.specs.Finite as set
use Rattle.finite.proofs.Finite.{has-adds_each, has-empty}
use Rattle.substitution.specs.Maps.{Map, domain, binding_cmp, map_cmp, map_total}

both_equal : (a b : Ordering) → ordering_then a b ≡ Equal → (a ≡ Equal) × (b ≡ Equal)
both_equal Less b h = cc
both_equal Equal b h = (refl, h)
both_equal Greater b h = cc

binding_ties : (x y : Var × Term) → binding_cmp x y ≡ Equal → x ≡ y
binding_ties x y e =
    let parts = both_equal (var_cmp x.0 y.0) (term_cmp x.1 y.1) e in
    λ i. (var_ties x.0 y.0 parts.0 i, term_ties x.1 y.1 parts.1 i)

-- only equal maps tie
pub map_ties : (m n : Map) → map_cmp m n ≡ Equal → m ≡ n
map_ties m n e = fin.same_entries_map m n (fin.slice_cmp-IsAntisymmetric binding_ties (fin.entries m) (fin.entries n) e)

map_tied : (m n : Map) → m ≡ n → map_cmp m n ≡ Equal
map_tied m n e = ap (map_cmp m) (sym e) ∙ tied_itself map_total m

pub map_order_same : (m n : Map) (r : Ordering) → r ≡ map_cmp m n → (r ≡ Equal) ↔ (m ≡ n)
map_order_same m n r is = (λ e. map_ties m n (sym is ∙ e), λ e. is ∙ map_tied m n e)

pub map_equality_same : (m n : Map) (r : Bool) → r ≡ eq_by_cmp map_cmp m n → IsTrue r ↔ (m ≡ n)
map_equality_same m n r is =
    (λ e. map_ties m n ((Equal-is (map_cmp m n)).0 (sym is ∙ e)), λ e. is ∙ ap is_eq (map_tied m n e))

-- the variables of a map are those that have a term
pub domain_members : (m : Map) (v : Var) → set.has (domain m) v ≡ is_some (fin.get m v)
domain_members m v =
    has-adds_each var_total set.empty (fin.keys m) v ∙ (ap (λ b. b || list_any (eq_by_cmp var_cmp v) (fin.keys m)) (has-empty var_cmp v) ∙ sym (fin.contains_key-keys m v))
