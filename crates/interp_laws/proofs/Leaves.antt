-- Interpolation of inferences without premises.
use Rattle.std.proofs.Common.{◌≡◌, Bool, true, false, ◌||◌, [], refl}
use Rattle.std.specs.List.{list_any}
use Rattle.fol.specs.declared.symbols.Var.{Var}
use Rattle.fol.specs.Syntax.{Formula, top, bot, not}
use Rattle.fol.specs.Formed.{is_formed}
use Rattle.finite.specs.Finite as set
use Rattle.free_variables.specs.Occurrence.{is_free_in, is_pred_in}
use Rattle.substitution.proofs.ClosedLaws.{closed_of}
use Rattle.lk_rules.specs.declared.sequent.Sequent.{Sequent}
use Rattle.lk_rules.specs.declared.sequent.Side.{Side}
use Rattle.lk_rules.specs.declared.sequent.Side.TheVariants.{Left, Right}
use Rattle.lk_rules.specs.declared.rule.Rule.{Rule}
use Rattle.lk_rules.specs.declared.rule.Rule.TheVariants.{Ax, TopR, BotL, NegL, NegR}
use Rattle.lk_rules.specs.Sequents.{side_of, adds_to, is_free_in_sequent, union_sequent, IsSubsequent}
use Rattle.lk_rules.specs.Rules.{IsFormedRule, needs, has_shape, main_stands}
use Rattle.lk_rules.proofs.Subsequents.{and_both}
use Rattle.proof_trees.specs.Trees.{node, none, is_cut}
use Rattle.cut_laws.proofs.Cuts.{main_larger}
use Rattle.cut_laws.proofs.Sides.{clash, within_added}
use Rattle.interp_laws.specs.Interpolation.{Interpolation, part, at_leaf, at_axiom}
use Rattle.interp_laws.proofs.Holding.{Holds, stands_left, stands_right}
use Rattle.interp_laws.proofs.Members.{Stands, among_first, member, new_in, from_union, some_of}
use Rattle.interp_laws.proofs.Proofs.{IsProof, leaf_valid, over_one_valid, leaf_free, within_with}
use Rattle.interp_laws.proofs.RuleParts.{none_without}

-- an interpolation: what holds of it, and each variable that is free in the interpolant is free in both parts
pub record Interpolates (Plain : Type 0) (one two : Sequent) (i : Interpolation) : Type 0 where
  pub holds : Holds Plain one two i
  pub vars : (v : Var) (side : Side) → is_free_in v i.formula ≡ true → is_free_in_sequent v (part one two side) ≡ true

-- it is one with another condition that gives the first
pub plain_where : (Plain Other : Type 0) (one two : Sequent) (i : Interpolation) → (Other → Plain) → Interpolates Plain one two i → Interpolates Other one two i
plain_where Plain Other one two i is h = record {
  holds = record { first = h.holds.first; second = h.holds.second; preds = λ p. h.holds.preds (is p); closed = h.holds.closed; formed = h.holds.formed };
  vars = h.vars;
}

-- a rule without premises, whose main formula is in a part

leaf_proof : (r : Rule) (s : Sequent) (side : Side) (f : Formula) → needs r ≡ 0 → has_shape r ≡ true → IsFormedRule r → is_cut r ≡ false → main_stands r (adds_to s side f) ≡ true
    → IsProof s side f (node r (adds_to s side f) none)
leaf_proof r s side f number shape formed uncut stands = record {
  end = refl;
  without_cuts = leaf_free r (adds_to s side f) uncut;
  valid = λ _. leaf_valid r (adds_to s side f) (record { shape = shape; stands = stands; eigenvariable = none_without r (adds_to s side f) number; no_cut = uncut }) formed number;
}

main_proof : (r : Rule) (s : Sequent) (side : Side) (f : Formula) → needs r ≡ 0 → has_shape r ≡ true → IsFormedRule r → is_cut r ≡ false → main_stands r s ≡ true
    → IsProof s side f (node r (adds_to s side f) none)
main_proof r s side f number shape formed uncut stands = leaf_proof r s side f number shape formed uncut (main_larger r s (adds_to s side f) (within_added side s f) stands)

pub leaf_interpolates : (Plain : Type 0) (m : Side) (r : Rule) (one two : Sequent) → needs r ≡ 0 → has_shape r ≡ true → IsFormedRule r → is_cut r ≡ false → main_stands r (part one two m) ≡ true
    → Interpolates Plain one two (at_leaf m r one two)
leaf_interpolates Plain Right r one two number shape formed uncut stands = record {
  holds = record {
    first = main_proof r one Right bot number shape formed uncut stands;
    second = leaf_proof BotL two Left bot refl refl refl refl (stands_left two bot);
    preds = λ p q side e. cc;
    closed = refl;
    formed = λ w is few. refl;
  };
  vars = λ v side e. cc;
}
leaf_interpolates Plain Left r one two number shape formed uncut stands = record {
  holds = record {
    first = leaf_proof TopR one Right top refl refl refl refl (stands_right one top);
    second = main_proof r two Left top number shape formed uncut stands;
    preds = λ p q side e. cc;
    closed = refl;
    formed = λ w is few. refl;
  };
  vars = λ v side e. cc;
}

-- an axiom

axiom_stands : (a : Formula) (e : Sequent) → Stands e Left a → Stands e Right a → main_stands (Ax a) e ≡ true
axiom_stands a e left right = and_both _ _ (and_both _ _ left refl) (and_both _ _ right refl)

-- what stands in it stands in both parts, where it stands in one on the left and in the other on the right
in_sides : (p : Formula → Bool) (a : Formula) (one two : Sequent) (x y : Side) → Stands one x a → Stands two y a → (side : Side) → p a ≡ true
    → (list_any p (set.listing (part one two side).left) || list_any p (set.listing (part one two side).right)) ≡ true
in_sides p a one two x y first second Right e = some_of p one x a first e
in_sides p a one two x y first second Left e = some_of p two y a second e

module _ (Plain : Type 0) (a : Formula) (one two : Sequent) (formed : is_formed a ≡ true) where
  -- on the left of the first part and on the right of the second
  crossing : Stands one Left a → Stands two Right a → Interpolates Plain one two (at_axiom a one two true false)
  crossing left right = record {
    holds = record {
      first = leaf_proof (Ax a) one Right a refl refl formed refl (axiom_stands a (adds_to one Right a) left (new_in Right one a));
      second = leaf_proof (Ax a) two Left a refl refl formed refl (axiom_stands a (adds_to two Left a) (new_in Left two a) right);
      preds = λ p q. in_sides (is_pred_in q) a one two Left Right left right;
      closed = closed_of a 0 formed;
      formed = λ w is few. formed;
    };
    vars = λ v. in_sides (is_free_in v) a one two Left Right left right;
  }

  -- the other way round
  refuting : Stands one Right a → Stands two Left a → Interpolates Plain one two (at_axiom a one two false true)
  refuting right left = record {
    holds = record {
      first = record {
        end = refl;
        without_cuts = refl;
        valid = λ _. over_one_valid (NegR (not a)) (adds_to one Right (not a))
            (record { shape = refl; stands = stands_right one (not a); eigenvariable = refl; no_cut = refl }) formed refl
            (node (Ax a) (adds_to one Left a) none)
            (within_with (NegR (not a)) 0 (adds_to one Right (not a)) one Left a (within_added Right one (not a)) (among_first a []))
            (leaf_valid (Ax a) (adds_to one Left a) (record { shape = refl; stands = axiom_stands a (adds_to one Left a) (new_in Left one a) right; eigenvariable = refl; no_cut = refl }) formed refl);
      };
      second = record {
        end = refl;
        without_cuts = refl;
        valid = λ _. over_one_valid (NegL (not a)) (adds_to two Left (not a))
            (record { shape = refl; stands = stands_left two (not a); eigenvariable = refl; no_cut = refl }) formed refl
            (node (Ax a) (adds_to two Right a) none)
            (within_with (NegL (not a)) 0 (adds_to two Left (not a)) two Right a (within_added Left two (not a)) (among_first a []))
            (leaf_valid (Ax a) (adds_to two Right a) (record { shape = refl; stands = axiom_stands a (adds_to two Right a) left (new_in Right two a); eigenvariable = refl; no_cut = refl }) formed refl);
      };
      preds = λ p q. in_sides (is_pred_in q) a one two Right Left right left;
      closed = closed_of a 0 formed;
      formed = λ w is few. formed;
    };
    vars = λ v. in_sides (is_free_in v) a one two Right Left right left;
  }

-- where it doesn't stand in the first part, it stands in the second
in_second_part : (s one two : Sequent) (side : Side) (a : Formula) → IsSubsequent s (union_sequent one two) → Stands s side a → set.has (side_of one side) a ≡ false → Stands two side a
in_second_part s one two side a within stands out =
    from_union one two side a (λ first. clash (set.has (side_of one side) a) first out) (λ second. second) (member s (union_sequent one two) within side a stands)

pub axiom_interpolates : (Plain : Type 0) (a : Formula) (s one two : Sequent) → is_formed a ≡ true → IsSubsequent s (union_sequent one two) → Stands s Left a → Stands s Right a
    → (b c : Bool) → set.has one.left a ≡ b → set.has one.right a ≡ c → Interpolates Plain one two (at_axiom a one two b c)
axiom_interpolates Plain a s one two formed within left right true true l r = leaf_interpolates Plain Right (Ax a) one two refl refl formed refl (axiom_stands a one l r)
axiom_interpolates Plain a s one two formed within left right true false l r = crossing Plain a one two formed l (in_second_part s one two Right a within right r)
axiom_interpolates Plain a s one two formed within left right false true l r = refuting Plain a one two formed r (in_second_part s one two Left a within left l)
axiom_interpolates Plain a s one two formed within left right false false l r =
    leaf_interpolates Plain Left (Ax a) one two refl refl formed refl
    (axiom_stands a two (in_second_part s one two Left a within left l) (in_second_part s one two Right a within right r))
