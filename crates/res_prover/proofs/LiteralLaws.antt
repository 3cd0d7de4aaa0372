-- The literals of a clause are the atoms of its sides, in any order.
use Rattle.std.proofs.Common.{◌≡◌, Bool, true, false, List, ◌++◌, map, sym, ap, subst}
use Rattle.std.specs.Prelude.{Contains}
use Rattle.std.specs.List.Sorted.{IsPermutation}
use Rattle.std.proofs.lemmas.List.Elements.{Contains-append_left, Contains-append_right}
use Rattle.std.proofs.lemmas.List.Sorted.{Contains-permutation, IsPermutation-sym}
use Rattle.fol.specs.Syntax.{Formula}
use Rattle.finite.specs.Finite as set
use Rattle.lk_rules.specs.declared.sequent.Sequent.{Sequent}
use Rattle.clause_laws.proofs.Lists.{from_both, contains-map, from_map}
use Rattle.res_prover.specs.declared.literals.Literal.{Literal}
use Rattle.res_prover.specs.Sending.{side_at, sides, AreLiteralsOf}

abbrev Placed : Type 0
Placed = Bool × Formula

abbrev pub put : Bool → Formula → Placed
put b f = (b, f)

abbrev place : Literal → Placed
place l = (l.is_left, l.atom.now)

module _ (c : Sequent) where
  module _ (ls : List Literal) (is : sides ls ≡ map (put true) (set.listing c.left) ++ map (put false) (set.listing c.right)) where
    on_side : (b : Bool) (f : Formula) → Contains (map (put true) (set.listing c.left) ++ map (put false) (set.listing c.right)) (put b f) → Contains (set.listing (side_at b c)) f
    on_side b f =
        from_both (map (put true) (set.listing c.left)) (map (put false) (set.listing c.right)) (put b f)
        (from_map (put true) (set.listing c.left) (put b f) (λ g at e. subst (λ (x : Placed). Contains (set.listing (side_at x.0 c)) x.1) e at))
        (from_map (put false) (set.listing c.right) (put b f) (λ g at e. subst (λ (x : Placed). Contains (set.listing (side_at x.0 c)) x.1) e at))

    in_sides : (b : Bool) (f : Formula) → Contains (set.listing (side_at b c)) f → Contains (sides ls) (put b f)
    in_sides true f at =
        subst (λ ps. Contains ps (put true f)) (sym is)
        (Contains-append_left (map (put true) (set.listing c.left)) (map (put false) (set.listing c.right)) (put true f) (contains-map (put true) (set.listing c.left) f at))
    in_sides false f at =
        subst (λ ps. Contains ps (put false f)) (sym is)
        (Contains-append_right (map (put true) (set.listing c.left)) (map (put false) (set.listing c.right)) (put false f) (contains-map (put false) (set.listing c.right) f at))

    pub all_literals : AreLiteralsOf c ls
    all_literals = record {
      of = λ l at. on_side l.is_left l.atom.now (subst (λ ps. Contains ps (place l)) is (contains-map place ls l at));
      has = λ b f at.
          from_map place ls (put b f)
          (λ l there e. record { literal = l; is_there = there; side = ap (λ (x : Placed). x.0) e; is_atom = ap (λ (x : Placed). x.1) e })
          (in_sides b f at);
    }

  pub permuted : (ls ks : List Literal) → IsPermutation ls ks → AreLiteralsOf c ls → AreLiteralsOf c ks
  permuted ls ks p are = record {
    of = λ l at. are.of l (Contains-permutation ks ls l (IsPermutation-sym ls ks p) at);
    has = λ b f at.
        let k = are.has b f at in
        record { literal = k.literal; is_there = Contains-permutation ls ks k.literal p k.is_there; side = k.side; is_atom = k.is_atom };
  }
