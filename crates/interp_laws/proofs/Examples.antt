-- A worked example of quantifiers: the interpolant of `![X]: p(X)` on the left, the first part, and `p(Z)` on the right, the second, is
-- `![X]: p(X)`. The conclusions in the proof do not matter.
use Rattle.std.proofs.Common.{◌≡◌, true, false, not, ◌||◌, ◌&&◌, cond, if◌then◌else◌, filter, [], ◌∷◌, map, Some, sym, ap, ◌∙◌}
use Rattle.std.specs.FinMap as fin
use Rattle.std.specs.Cmp.{IsTotalOrder}
use Rattle.std.specs.List.{list_any}
use Rattle.std.specs.declared.cmp.Ordering.{Ordering}
use Rattle.fol.specs.declared.symbols.Sym.{Sym}
use Rattle.fol.specs.declared.symbols.Var.{Var}
use Rattle.fol.specs.declared.symbols.Var.TheVariants.{Word}
use Rattle.fol.specs.Syntax.{free, bound, nil, cons, plain, Formula, atom, all}
use Rattle.fol.specs.Order.{formula_cmp}
use Rattle.fol.specs.OrderLaws.{var_total, formula_total}
use Rattle.finite.specs.Finite as set
use Rattle.finite.proofs.Finite.{has-empty, has-adds, of_rising-empty}
use Rattle.free_variables.specs.Occurrence.{is_free_in}
use Rattle.lk_rules.specs.declared.sequent.Sequent.{Sequent}
use Rattle.lk_rules.specs.declared.sequent.Side.TheVariants.{Left, Right}
use Rattle.lk_rules.specs.declared.rule.Rule.{Rule}
use Rattle.lk_rules.specs.declared.rule.Rule.TheVariants.{Ax, AllL, AllR}
use Rattle.lk_rules.specs.Sequents.{empty, adds_to, extended, is_free_in_sequent}
use Rattle.lk_rules.specs.Rules.{aux}
use Rattle.proof_trees.specs.Trees.{Tree, node, none, more}
use Rattle.interp_laws.specs.Interpolation.{Interpolation, at_axiom, vars_outside, inferred, closed_by, over_one, by_premises, itp}
use Rattle.interp_laws.proofs.Unrolled.{itp-unrolled}

-- sets with few members

entries_none : {K : Type 0} (R : K → K → Ordering) → fin.entries {R = R} (set.empty {R = R}) ≡ []
entries_none R = ap fin.entries (sym (of_rising-empty R)) ∙ fin.entries-from_sorted R [] tt

pub listing_none : {K : Type 0} (R : K → K → Ordering) → set.listing {R = R} set.empty ≡ []
listing_none R = ap (map (λ e. e.0)) (entries_none R)

module _ {K : Type 0} {R : K → K → Ordering} (o : IsTotalOrder R) where
  entries_one : (k : K) → fin.entries {R = R} (set.adds set.empty k) ≡ fin.put R k tt []
  entries_one k = fin.entries-insert o set.empty k tt ∙ ap (fin.put R k tt) (entries_none R)

  pub listing_one : (k : K) → set.listing {R = R} (set.adds set.empty k) ≡ k ∷ []
  listing_one k = ap (map (λ e. e.0)) (entries_one k)

  pub listing_two : (k j : K) → set.listing {R = R} (set.adds (set.adds set.empty k) j) ≡ map (λ (e : K × Unit {0}). e.0) (fin.put R j tt (fin.put R k tt []))
  listing_two k j = ap (map (λ e. e.0)) (fin.entries-insert o (set.adds set.empty k) j tt ∙ ap (fin.put R j tt) (entries_one k))

-- the formulas and the parts

abbrev p : Sym
p = record { name = 112 ∷ []; arity = 1 }

abbrev z : Var
z = Word (90 ∷ [])

abbrev pz : Formula
pz = atom (plain p) (cons (free z) nil)

abbrev px : Formula
px = all (atom (plain p) (cons (bound 0) nil))

abbrev one : Sequent
one = adds_to empty Left px

abbrev two : Sequent
two = adds_to empty Right pz

abbrev rule : Rule
rule = AllL px (free z)

-- the proof
module _ (s e : Sequent) where
  abbrev leaf : Tree
  leaf = node (Ax pz) e none

  abbrev proof : Tree
  proof = node rule s (more leaf none)

  -- the interpolation of its premise
  abbrev crossing : Interpolation
  crossing = record { formula = pz; first = node (Ax pz) (adds_to (extended one (aux rule 0)) Right pz) none; second = node (Ax pz) (adds_to two Left pz) none }

  -- the main formula stands in the first part
  stands : ((set.has one.left px && true) && true) ≡ true
  stands = ap (λ b. (b && true) && true) (has-adds formula_total set.empty px px)

  leaf_is : itp leaf (extended one (aux rule 0)) two ≡ crossing
  leaf_is =
      itp-unrolled leaf (extended one (aux rule 0)) two
      ∙ λ i. at_axiom pz (extended one (aux rule 0)) two (has-adds formula_total one.left pz pz i) (has-empty formula_cmp pz i)

  outside_is : vars_outside (Some (free z)) pz one ≡ z ∷ []
  outside_is =
      let out : is_free_in_sequent z one ≡ false = λ i. list_any (is_free_in z) (listing_one formula_total px i) || list_any (is_free_in z) (listing_none formula_cmp i) in
      ap (filter (λ x. not (is_free_in_sequent x one))) (listing_one var_total z) ∙ ap (λ b. cond (not b) (z ∷ []) []) out

  pub example : itp proof one two ≡ record {
    formula = px;
    first = node (AllR px z) (adds_to one Right px) (more (node rule (adds_to one Right pz) (more crossing.first none)) none);
    second = node (AllL px (free z)) (adds_to two Left px) (more crossing.second none);
  }
  example =
      itp-unrolled proof one two
      ∙ ap (λ b. by_premises itp (if b then Right else Left) rule (more leaf none) one two) stands
      ∙ ap (over_one Right rule one two) leaf_is
      ∙ ap (λ xs. closed_by Right one two xs (inferred Right rule one two crossing)) outside_is
