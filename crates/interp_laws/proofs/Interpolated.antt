-- The interpolation of a valid proof without cuts: what holds of it, by induction on the height.
use Rattle.std.proofs.Common.{◌≡◌, ℕ, zero, suc, ◌<◌, ◌≤◌, true, false, ◌&&◌, List, ◌++◌, refl, sym, ◌∙◌, arith}
use Rattle.fol.specs.declared.symbols.Var.{Var}
use Rattle.finite.specs.Finite as set
use Rattle.lk_rules.specs.declared.sequent.Sequent.{Sequent}
use Rattle.lk_rules.specs.declared.sequent.Side.{Side}
use Rattle.lk_rules.specs.declared.sequent.Side.TheVariants.{Left, Right}
use Rattle.lk_rules.specs.declared.rule.Rule.{Rule}
use Rattle.lk_rules.specs.declared.rule.Rule.TheVariants.{Ax, Cut, Weak}
use Rattle.lk_rules.specs.RuleOrder.{variable_of}
use Rattle.lk_rules.specs.Sequents.{union_sequent}
use Rattle.lk_rules.specs.Rules.{needs, main_stands}
use Rattle.lk_rules.proofs.Subsequents.{and_left, and_right}
use Rattle.proof_trees.specs.Trees.{Tree, node, Trees, none, more, concl, count, is_cut}
use Rattle.proof_trees.specs.Occurrence.{has_body_in_sequent}
use Rattle.proof_trees.specs.Shapes.{height, height_all}
use Rattle.cut_laws.specs.Contraction.{moved_rule}
use Rattle.cut_laws.proofs.Cuts.{main_in_end}
use Rattle.cut_laws.proofs.Moved.{moved_shape, moved_stands, moved_eigen, moved_formed}
use Rattle.interp_laws.specs.Interpolation.{Interpolation, Interpolating, part, part_of, moved_tree, first_above, second_above, above, above_one, vars_to_close, inferred, closed_by, has_main, by_premises, by_rule, itp_within, itp}
use Rattle.interp_laws.specs.Parts.{HasParts}
use Rattle.interp_laws.proofs.Descent.{row_at, one_has, first_has, second_has, weak_has, no_unfolding_at, no_body_moved, no_body_first, no_body_second}
use Rattle.interp_laws.proofs.Holding.{Holds}
use Rattle.interp_laws.proofs.Leaves.{Interpolates, plain_where, leaf_interpolates, axiom_interpolates}
use Rattle.interp_laws.proofs.Moved.{moved_height, moved_cut, moved_unfolding, moved_premise}
use Rattle.interp_laws.proofs.OnePremise.{IsLast, one_interpolates, some_closed}
use Rattle.interp_laws.proofs.RuleParts.{main_in_part, main_no_cut, none_with_two}
use Rattle.interp_laws.proofs.TwoPremises.{first_both, second_both}

-- no predicate symbol of the sequent has a body
abbrev pub IsPlain : Sequent → Type 0
IsPlain s = has_body_in_sequent s ≡ false

-- what `look` makes of a tree is an interpolation, whatever the parts
abbrev pub Works : Interpolating → Tree → Type 0
Works look t = (one two : Sequent) → HasParts t one two → Interpolates (IsPlain (concl t)) one two (look t one two)

-- so it is for the trees that are lower than n
abbrev pub WorksBelow : Interpolating → ℕ → Type 0
WorksBelow look n = (t : Tree) → height t < n → Works look t

-- the cases of a rule with a main formula
module _ (look : Interpolating) (r : Rule) (s one two : Sequent) (uncut : is_cut r ≡ false) where
  leaf_works : HasParts (node r s none) one two → (m : Side) → main_stands r (part one two m) ≡ true → Interpolates (IsPlain s) one two (by_premises look m r none one two)
  leaf_works h m stands =
      let row = row_at r s none h.valid.0 in
      leaf_interpolates (IsPlain s) m r one two (sym row.premises) row.shape h.valid.0.formed uncut stands

  -- with one premise
  module _ (p : Tree) (h : HasParts (node r s (more p none)) one two) where
    pub last_of_one : (m : Side) → main_stands r (part one two m) ≡ true → IsLast (IsPlain s) (moved_rule (union_sequent one two) r) one two m
    last_of_one m stands = record {
      shape = moved_shape (union_sequent one two) r ∙ (row_at r s (more p none) h.valid.0).shape;
      formed = moved_formed (union_sequent one two) r h.valid.0.formed;
      no_cut = moved_cut (union_sequent one two) r ∙ uncut;
      no_unfolding = λ plain. moved_unfolding (union_sequent one two) r ∙ no_unfolding_at r s uncut (more p none) h.valid.0 plain;
      eigenvariable = moved_eigen (union_sequent one two) r;
      stands = moved_stands (union_sequent one two) (part one two m) r ∙ stands;
    }

    pub one_premise : needs (moved_rule (union_sequent one two) r) ≡ 1
    one_premise = sym (moved_premise (union_sequent one two) s r p h.valid.0 h.valid.1.0).number

    -- the interpolation of the premise
    pub above_works : (m : Side) → Works look (moved_tree (union_sequent one two) (variable_of r) p)
        → Interpolates (IsPlain s) (first_above m (moved_rule (union_sequent one two) r) 0 one) (second_above m (moved_rule (union_sequent one two) r) 0 two) (above_one look m r p one two)
    above_works m works =
        plain_where (IsPlain (concl (moved_tree (union_sequent one two) (variable_of r) p))) (IsPlain s) _ _ (above_one look m r p one two)
        (no_body_moved r s uncut (union_sequent one two) p h.valid) (works _ _ (one_has m r s one two p h))

    one_works : (m : Side) → main_stands r (part one two m) ≡ true → Works look (moved_tree (union_sequent one two) (variable_of r) p)
        → Interpolates (IsPlain s) one two (by_premises look m r (more p none) one two)
    one_works m stands works =
        one_interpolates (IsPlain s) m (moved_rule (union_sequent one two) r) one two (last_of_one m stands) one_premise (above_one look m r p one two)
        (above_works m works) h.first_formed h.second_formed

  -- with two premises
  module _ (p q : Tree) (h : HasParts (node r s (more p (more q none))) one two) where
    two_premises : needs r ≡ 2
    two_premises = sym (row_at r s (more p (more q none)) h.valid.0).premises

    last_of_two : (m : Side) → main_stands r (part one two m) ≡ true → IsLast (IsPlain s) r one two m
    last_of_two m stands = record {
      shape = (row_at r s (more p (more q none)) h.valid.0).shape;
      formed = h.valid.0.formed;
      no_cut = uncut;
      no_unfolding = no_unfolding_at r s uncut (more p (more q none)) h.valid.0;
      eigenvariable = none_with_two r (union_sequent one two) two_premises;
      stands = stands;
    }

    first_works : (m : Side) → Works look p → Interpolates (IsPlain s) (first_above m r 0 one) (second_above m r 0 two) (above look m r 0 p one two)
    first_works m works =
        plain_where (IsPlain (concl p)) (IsPlain s) _ _ (above look m r 0 p one two) (no_body_first r s uncut p (more q none) h.valid) (works _ _ (first_has m r s one two p q h))

    second_works : (m : Side) → Works look q → Interpolates (IsPlain s) (first_above m r 1 one) (second_above m r 1 two) (above look m r 1 q one two)
    second_works m works =
        plain_where (IsPlain (concl q)) (IsPlain s) _ _ (above look m r 1 q one two) (no_body_second r s uncut p q none h.valid) (works _ _ (second_has m r s one two p q h))

    two_work : (m : Side) → main_stands r (part one two m) ≡ true → Works look p → Works look q → Interpolates (IsPlain s) one two (by_premises look m r (more p (more q none)) one two)
    two_work Right stands first second =
        first_both (IsPlain s) r one two (last_of_two Right stands) two_premises (above look Right r 0 p one two) (above look Right r 1 q one two)
        (first_works Right first) (second_works Right second)
    two_work Left stands first second =
        second_both (IsPlain s) r one two (last_of_two Left stands) two_premises (above look Left r 0 p one two) (above look Left r 1 q one two)
        (first_works Left first) (second_works Left second)

no_third : (r : Rule) (n : ℕ) → suc (suc (suc n)) ≡ needs r → ⊥
no_third (Ax a) n h = cc
no_third r n h = cc

-- a rule with a main formula
rule_works : (look : Interpolating) (r : Rule) (s : Sequent) (ts : Trees) → is_cut r ≡ false → WorksBelow look (suc (height_all ts)) → (one two : Sequent) → HasParts (node r s ts) one two
    → (m : Side) → main_stands r (part one two m) ≡ true → Interpolates (IsPlain s) one two (by_premises look m r ts one two)
rule_works look r s none uncut below one two h m stands = leaf_works look r s one two uncut h m stands
rule_works look r s (more p none) uncut below one two h m stands =
    let high : height (moved_tree (union_sequent one two) (variable_of r) p) ≡ height p = moved_height (union_sequent one two) (variable_of r) p in
    one_works look r s one two uncut p h m stands (below (moved_tree (union_sequent one two) (variable_of r) p) (omega arith))
rule_works look r s (more p (more q none)) uncut below one two h m stands = two_work look r s one two uncut p q h m stands (below p (omega arith)) (below q (omega arith))
rule_works look r s (more p (more q (more t ts))) uncut below one two h m stands = absurd (no_third r (count ts) (row_at r s (more p (more q (more t ts))) h.valid.0).premises)

not_one : {P : Type 0} (n : ℕ) → n ≡ 1 → ¬ (n ≡ 1) → P
not_one n one other = absurd (other one)

-- weakening
weak_works : (look : Interpolating) (s : Sequent) (ts : Trees) → WorksBelow look (suc (height_all ts)) → Works (by_rule look) (node Weak s ts)
weak_works look s none below one two h = not_one 0 (row_at Weak s none h.valid.0).premises (omega arith)
weak_works look s (more p none) below one two h =
    plain_where (IsPlain (concl p)) (IsPlain s) one two (look p one two) (no_body_first Weak s refl p none h.valid) (below p (omega arith) one two (weak_has s one two p h))
weak_works look s (more p (more q ts)) below one two h = not_one (suc (suc (count ts))) (row_at Weak s (more p (more q ts)) h.valid.0).premises (omega arith)

-- any rule
by_rule_works : (look : Interpolating) (t : Tree) → WorksBelow look (height t) → Works (by_rule look) t
by_rule_works look (node (Ax a) s ts) below one two h =
    let stand : ((set.has s.left a && true) && (set.has s.right a && true)) ≡ true = main_in_end (node (Ax a) s ts) h.valid in
    axiom_interpolates (IsPlain s) a s one two h.valid.0.formed h.together
    (and_left (set.has s.left a) true (and_left (set.has s.left a && true) (set.has s.right a && true) stand))
    (and_left (set.has s.right a) true (and_right (set.has s.left a && true) (set.has s.right a && true) stand))
    (set.has one.left a) (set.has one.right a) refl refl
by_rule_works look (node Weak s ts) below one two h = weak_works look s ts below one two h
by_rule_works look (node (Cut a) s ts) below one two h = let cut_free : false ≡ true = h.without_cuts in cc
by_rule_works look (node r s ts) below one two h =
    rule_works look r s ts refl below one two h (part_of r one) (main_in_part r s one two refl h.together (main_in_end (node r s ts) h.valid))

-- the interpolation with a bound on the height
within_works : (n : ℕ) (t : Tree) → height t ≤ n → Works (itp_within n) t
unfolding itp_within
within_works zero (node r s ts) low = absurd (omega arith)
within_works (suc n) t low = by_rule_works (itp_within n) t (λ p lower. within_works n p (omega arith))

-- the interpolation
pub itp_works : (t : Tree) → Works itp t
unfolding itp
itp_works t one two = within_works (height t) t (omega arith) one two

-- the interpolation of a rule with one premise, with the quantifiers of some of the variables, from the last one on
pub partly_closed : (r : Rule) (s : Sequent) (p : Tree) (one two : Sequent) → HasParts (node r s (more p none)) one two → has_main r ≡ true → (xs ys : List Var)
    → let m : Side = part_of r one in let rule : Rule = moved_rule (union_sequent one two) r in let i : Interpolation = above_one itp m r p one two in
    xs ++ ys ≡ vars_to_close m rule one two i → Holds (IsPlain s) one two (closed_by m one two ys (inferred m rule one two i))
partly_closed r s p one two h main xs ys =
    let stands : main_stands r (part one two (part_of r one)) ≡ true = main_in_part r s one two main h.together (main_in_end (node r s (more p none)) h.valid) in
    some_closed (IsPlain s) (part_of r one) (moved_rule (union_sequent one two) r) one two
    (last_of_one itp r s one two (main_no_cut r main) p h (part_of r one) stands) (one_premise itp r s one two (main_no_cut r main) p h)
    (above_one itp (part_of r one) r p one two)
    (above_works itp r s one two (main_no_cut r main) p h (part_of r one) (itp_works (moved_tree (union_sequent one two) (variable_of r) p)))
    h.first_formed h.second_formed xs ys
