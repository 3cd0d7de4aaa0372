-- The formula of a tree is well formed where all that the tree names is.
use Rattle.std.proofs.Common.{◌≡◌, true, ap, ◌∙◌}
use Rattle.std.proofs.lemmas.Bool.{and_parts}
use Rattle.std.specs.Cmp.Derive.{both_true}
use Rattle.fol.specs.Syntax.{Formula}
use Rattle.fol.specs.Formed.{is_formed, is_formed_var}
use Rattle.expansion_laws.specs.Expansions.{Exp, wk, leaf, neg, conj, disj, impl, weak, strong, shallow}
use Rattle.expansion_laws.specs.Formed.{is_formed_exp, are_formed_insts, IsProper}

formed : (e : Exp) → is_formed_exp e ≡ true → is_formed (shallow e) ≡ true
formed (wk f) h = h
formed (leaf f) h = h
formed (neg e) h = formed e h
formed (conj d e) h =
    let both = and_parts (is_formed_exp d) (is_formed_exp e) h in
    both_true (formed d both.0) (formed e both.1)
formed (disj d e) h =
    let both = and_parts (is_formed_exp d) (is_formed_exp e) h in
    both_true (formed d both.0) (formed e both.1)
formed (impl d e) h =
    let both = and_parts (is_formed_exp d) (is_formed_exp e) h in
    both_true (formed d both.0) (formed e both.1)
formed (weak f is) h = (and_parts (is_formed f) (are_formed_insts is) h).0
formed (strong f y e) h = (and_parts (is_formed f) (is_formed_var y) (and_parts _ (is_formed_exp e) h).0).0

pub formula_formed : (f : Formula) (e : Exp) → f ≡ shallow e → IsProper e → is_formed f ≡ true
formula_formed f e is proper = ap is_formed is ∙ formed e proper.formed
