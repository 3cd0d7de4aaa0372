-- What a tree stands for is well formed where all that the tree names is.
use Rattle.std.proofs.Common.{◌≡◌, ◌≤◌, true, ◌&&◌, refl, ap, ◌∙◌}
use Rattle.std.proofs.lemmas.Bool.{and_parts}
use Rattle.std.specs.Cmp.Derive.{both_true}
use Rattle.fol.specs.Syntax.{Formula}
use Rattle.fol.specs.Formed.{is_formed, is_formed_var, is_formed_term}
use Rattle.lk_rules.specs.declared.sequent.Side.{Side}
use Rattle.lk_rules.specs.declared.sequent.Side.TheVariants.{Left, Right}
use Rattle.expansion_laws.specs.Expansions.{Exp, wk, leaf, neg, conj, disj, impl, weak, strong, Insts, none, more, turn, nothing_on, joined, deep, deep_first, deep_rest}
use Rattle.exp_tree.specs.Sizes.{insts_nodes}
use Rattle.expansion_laws.specs.Formed.{is_formed_exp, are_formed_insts, IsProper}

nothing_formed : (s : Side) → is_formed (nothing_on s) ≡ true
nothing_formed Left = refl
nothing_formed Right = refl

joined_formed : (s : Side) (f g : Formula) → is_formed f ≡ true → is_formed g ≡ true → is_formed (joined s f g) ≡ true
joined_formed Left f g h k = both_true h k
joined_formed Right f g h k = both_true h k

mutual
  formed : (s : Side) (e : Exp) → is_formed_exp e ≡ true → is_formed (deep s e) ≡ true
  formed s (wk f) h = nothing_formed s
  formed s (leaf f) h = h
  formed s (neg e) h = formed (turn s) e h
  formed s (conj d e) h =
      let both = and_parts (is_formed_exp d) (is_formed_exp e) h in
      both_true (formed s d both.0) (formed s e both.1)
  formed s (disj d e) h =
      let both = and_parts (is_formed_exp d) (is_formed_exp e) h in
      both_true (formed s d both.0) (formed s e both.1)
  formed s (impl d e) h =
      let both = and_parts (is_formed_exp d) (is_formed_exp e) h in
      both_true (formed (turn s) d both.0) (formed s e both.1)
  formed s (weak f is) h = formed_first s is (and_parts (is_formed f) (are_formed_insts is) h).1
  formed s (strong f y e) h = formed s e (and_parts (is_formed f && is_formed_var y) (is_formed_exp e) h).1

  formed_first : (s : Side) (is : Insts) → are_formed_insts is ≡ true → is_formed (deep_first s is) ≡ true
  formed_first s none h = nothing_formed s
  formed_first s (more t e is) h =
      let both = and_parts (is_formed_term t && is_formed_exp e) (are_formed_insts is) h in
      let own = and_parts (is_formed_term t) (is_formed_exp e) both.0 in
      formed_rest s (deep s e) is (formed s e own.1) both.1

  formed_rest : (s : Side) (front : Formula) (is : Insts) → is_formed front ≡ true → are_formed_insts is ≡ true → is_formed (deep_rest s front is) ≡ true
  formed_rest s front none k h = k
  formed_rest s front (more t e is) k h =
      let both = and_parts (is_formed_term t && is_formed_exp e) (are_formed_insts is) h in
      let own = and_parts (is_formed_term t) (is_formed_exp e) both.0 in
      formed_rest s (joined s front (deep s e)) is (joined_formed s front (deep s e) k (formed s e own.1)) both.1

pub deep_formed : (f : Formula) (s : Side) (e : Exp) → f ≡ deep s e → IsProper e → is_formed f ≡ true
deep_formed f s e is proper = ap is_formed is ∙ formed s e proper.formed

-- what is joined so far, with the instances that are left, is what all stand for
pub record AreJoined (s : Side) (front : Formula) (rest all : Insts) : Type 0 where
  pub whole : deep_rest s front rest ≡ deep_first s all
  pub fewer : insts_nodes rest ≤ insts_nodes all
