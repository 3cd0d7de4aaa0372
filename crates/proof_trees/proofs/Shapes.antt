-- No node has more than two premises, and a tree under a map has the same height and rules of the same kinds.
use Rattle.std.proofs.Common.{◌≡◌, suc, ◌≤◌, max, eqb, true, refl, ap, arith}
use Rattle.std.specs.FinMap as fin
use Rattle.substitution.specs.Maps.{Map}
use Rattle.substitution.proofs.Booleans.{and_both}
use Rattle.lk_rules.specs.declared.sequent.Sequent.{Sequent}
use Rattle.lk_rules.specs.declared.rule.Rule.{Rule}
use Rattle.lk_rules.specs.declared.rule.Rule.TheVariants.{Ax, TopR, BotL, NegL, NegR, AndL, AndR, OrL, OrR, ImpL, ImpR, AllL, AllR, ExL, ExR, DefL, DefR, Cut, Weak}
use Rattle.lk_rules.specs.Rules.{needs}
use Rattle.lk_rules.specs.RuleOrder.{rule_kind}
use Rattle.lk_rules.specs.Sequents.{image_sequent}
use Rattle.proof_trees.specs.Trees.{Tree, node, Trees, none, more, below, count, first_end, second_end, IsValid}
use Rattle.proof_trees.specs.Shapes.{height, height_all, is_alike, are_alike}
use Rattle.proof_trees.specs.Substitution.{image_rule, premise_map, sub, sub_all}
use Rattle.proof_trees.proofs.Verdicts.{row_of_verdict}

mutual
  pub height-sub : (t : Tree) (m : Map) → height (sub t m) ≡ height t
  height-sub (node r s ts) m = ap suc (height_all-sub ts (premise_map m r (image_sequent (fin.get m) s)))

  height_all-sub : (ts : Trees) (m : Map) → height_all (sub_all ts m) ≡ height_all ts
  height_all-sub none m = refl
  height_all-sub (more t ts) m = λ i. max (height-sub t m i) (height_all-sub ts m i)

kind-image : (m : Map) (r : Rule) (e : Sequent) → eqb (rule_kind r) (rule_kind (image_rule m r e)) ≡ true
kind-image m (Ax a) e = refl
kind-image m r e = refl

mutual
  pub alike-sub : (t : Tree) (m : Map) → is_alike t (sub t m) ≡ true
  alike-sub (node r s ts) m =
      let e : Sequent = image_sequent (fin.get m) s in
      and_both (eqb (rule_kind r) (rule_kind (image_rule m r e))) (are_alike ts (sub_all ts (premise_map m r e))) (kind-image m r e) (all_alike-sub ts (premise_map m r e))

  all_alike-sub : (ts : Trees) (m : Map) → are_alike ts (sub_all ts m) ≡ true
  all_alike-sub none m = refl
  all_alike-sub (more t ts) m = and_both (is_alike t (sub t m)) (are_alike ts (sub_all ts m)) (alike-sub t m) (all_alike-sub ts m)

-- no rule has more than two premises
needs_few : (r : Rule) → needs r ≤ 2
needs_few (Ax a) = omega arith
needs_few TopR = omega arith
needs_few BotL = omega arith
needs_few (NegL a) = omega arith
needs_few (NegR a) = omega arith
needs_few (AndL a) = omega arith
needs_few (AndR a) = omega arith
needs_few (OrL a) = omega arith
needs_few (OrR a) = omega arith
needs_few (ImpL a) = omega arith
needs_few (ImpR a) = omega arith
needs_few (AllL a t) = omega arith
needs_few (AllR a y) = omega arith
needs_few (ExL a y) = omega arith
needs_few (ExR a t) = omega arith
needs_few (DefL a) = omega arith
needs_few (DefR a) = omega arith
needs_few (Cut a) = omega arith
needs_few Weak = omega arith

pub few_premises : (t : Tree) → IsValid t → count (below t) ≤ 2
few_premises (node r s ts) h =
    let number : count ts ≡ needs r = (row_of_verdict r s (count ts) (first_end ts) (second_end ts) h.0.right).premises in
    omega (arith, needs_few r, number)
