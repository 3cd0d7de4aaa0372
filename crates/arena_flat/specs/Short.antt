-- Formulas that stay well formed with all unfolded, as those of an arena do, since none of them is large enough to have more quantifiers inside
-- one another than there are indices.
--     IsShort      of a formula
--     HasShortFormula      of an inference's rule
--     HasShortRules      of the rules of a tree
--     HasShortSides      of the formulas of a sequent
use Rattle.std.specs.Prelude.{◌≡◌, ◌^◌, ◌≤◌, true, IfSome}
use Rattle.fol.specs.Syntax.{Formula}
use Rattle.finite.specs.Finite as set
use Rattle.substitution.specs.Instance.{nesting}
use Rattle.lk_rules.specs.declared.sequent.Sequent.{Sequent}
use Rattle.lk_rules.specs.declared.sequent.Side.{Side}
use Rattle.lk_rules.specs.declared.rule.Rule.{Rule}
use Rattle.lk_rules.specs.RuleOrder.{formula_of}
use Rattle.lk_rules.specs.Sequents.{side_of}
use Rattle.proof_trees.specs.Trees.{Tree, Trees}
use Rattle.proof_trees.specs.Conclusions.{EachNode, EachNodeOf}
use Rattle.def_laws.specs.Flat.{flat}

abbrev pub IsShort : Formula → Type 0
IsShort f = nesting (flat f) ≤ 2 ^ 32

-- the rule names no formula, or a short one
abbrev pub HasShortFormula : Rule → Sequent → Type 0
HasShortFormula r s = IfSome (formula_of r) IsShort

abbrev pub HasShortRules : Tree → Type 0
HasShortRules t = EachNode HasShortFormula t

abbrev pub HaveShortRules : Trees → Type 0
HaveShortRules ts = EachNodeOf HasShortFormula ts

-- each formula of the sequent is short
abbrev pub HasShortSides : Sequent → Type 0
HasShortSides s = (side : Side) (f : Formula) → set.has (side_of s side) f ≡ true → IsShort f
