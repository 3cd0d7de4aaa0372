-- Which variables are free in terms above strong quantifiers.
use Rattle.std.proofs.Common.{◌≡◌, ◌+◌, ◌<◌, Bool, true, false, ◌||◌, cond, ap, ◌∙◌, arith}
use Rattle.std.specs.Ordering.{eq_by_cmp}
use Rattle.fol.specs.declared.symbols.Var.{Var}
use Rattle.fol.specs.Order.{var_cmp}
use Rattle.free_variables.specs.Occurrence.{is_free_in_term}
use Rattle.substitution.proofs.ImageLaws.{itself, same_var}
use Rattle.proof_trees.proofs.Booleans.{or_first, or_second, or_more}
use Rattle.search_laws.proofs.Tests.{split}
use Rattle.expansion_laws.specs.Expansions.{Exp, wk, leaf, neg, conj, disj, impl, weak, strong, Insts, none, more}
use Rattle.expansion_laws.specs.Dependency.{strongs, strongs_in, is_above, is_above_in}
use Rattle.building_laws.proofs.Counting.{count, count-append, either_counted}

module _ (y z : Var) where
  -- what is above without more is above with more

  raised : (b : Bool) (e : Exp) → (is_above y z false e ≡ true → is_above y z true e ≡ true) → is_above y z b e ≡ true → is_above y z true e ≡ true
  raised true e up h = h
  raised false e up h = up h

  mutual
    above_true : (e : Exp) → is_above y z false e ≡ true → is_above y z true e ≡ true
    above_true (wk f) h = cc
    above_true (leaf f) h = cc
    above_true (neg e) h = above_true e h
    above_true (conj d e) h = or_more _ _ _ _ (above_true d) (above_true e) h
    above_true (disj d e) h = or_more _ _ _ _ (above_true d) (above_true e) h
    above_true (impl d e) h = or_more _ _ _ _ (above_true d) (above_true e) h
    above_true (weak f is) h = above_in_true is h
    above_true (strong f w e) h = or_second (eq_by_cmp var_cmp w z) (is_above y z true e) (above_true e h)

    above_in_true : (is : Insts) → is_above_in y z false is ≡ true → is_above_in y z true is ≡ true
    above_in_true none h = cc
    above_in_true (more t e is) h = or_more _ _ _ _ (raised (is_free_in_term y t) e (above_true e)) (above_in_true is) h

  pub above_more : (b : Bool) (e : Exp) → is_above y z false e ≡ true → is_above y z b e ≡ true
  above_more true e h = above_true e h
  above_more false e h = h

  -- below a term in which y is free, y is above each strong quantifier

  two_above : (d e : Exp) → (0 < count z (strongs d) → is_above y z true d ≡ true) → (0 < count z (strongs e) → is_above y z true e ≡ true) → 0 < count z (strongs (conj d e))
      → (is_above y z true d || is_above y z true e) ≡ true
  two_above d e above_first above_second =
      either_counted (count z (strongs d)) (count z (strongs e)) (count z (strongs (conj d e))) (count-append z (strongs d) (strongs e))
      (λ h. or_first (is_above y z true d) (is_above y z true e) (above_first h))
      (λ h. or_second (is_above y z true d) (is_above y z true e) (above_second h))

  mutual
    pub above_all : (e : Exp) → 0 < count z (strongs e) → is_above y z true e ≡ true
    above_all (wk f) h = absurd (omega arith)
    above_all (leaf f) h = absurd (omega arith)
    above_all (neg e) h = above_all e h
    above_all (conj d e) h = two_above d e (above_all d) (above_all e) h
    above_all (disj d e) h = two_above d e (above_all d) (above_all e) h
    above_all (impl d e) h = two_above d e (above_all d) (above_all e) h
    above_all (weak f is) h = above_each is h
    above_all (strong f w e) h =
        split (eq_by_cmp var_cmp z w)
        (λ same. or_first (eq_by_cmp var_cmp w z) (is_above y z true e) (ap (λ v. eq_by_cmp var_cmp w v) (same_var z w same) ∙ itself w))
        (λ other.
        let first : count z (strongs (strong f w e)) ≡ 0 + count z (strongs e) = ap (λ b. cond b 1 0 + count z (strongs e)) other in
        or_second (eq_by_cmp var_cmp w z) (is_above y z true e) (above_all e (omega arith)))

    above_each : (is : Insts) → 0 < count z (strongs_in is) → is_above_in y z true is ≡ true
    above_each none h = absurd (omega arith)
    above_each (more t e is) h =
        either_counted (count z (strongs e)) (count z (strongs_in is)) (count z (strongs_in (more t e is))) (count-append z (strongs e) (strongs_in is))
        (λ first. or_first (is_above y z true e) (is_above_in y z true is) (above_all e first))
        (λ second. or_second (is_above y z true e) (is_above_in y z true is) (above_each is second))
        h
