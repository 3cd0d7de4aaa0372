-- What one premise of an inference marks, and the trees that are read off marks.
--     with_names      the marks of a state, where the addresses with variables are given
--     by_premise      the marks of a rule and of one premise
--     AreReached      the addresses of a sequent's formulas are reached
--     read_off, merged_each, merged_expansion      the trees of a sequent's formulas, and the merges of such trees
use Rattle.std.specs.Prelude.{◌≡◌, ℕ, true, List, [], ◌∷◌, map}
use Rattle.fol.specs.declared.symbols.Var.{Var}
use Rattle.fol.specs.Syntax.{Formula}
use Rattle.finite.specs.Finite as set
use Rattle.substitution.specs.Maps.{Map}
use Rattle.lk_rules.specs.declared.sequent.Sequent.{Sequent}
use Rattle.lk_rules.specs.declared.sequent.Side.{Side}
use Rattle.lk_rules.specs.declared.sequent.Side.TheVariants.{Left, Right}
use Rattle.lk_rules.specs.declared.rule.Rule.{Rule}
use Rattle.lk_rules.specs.Sequents.{side_of}
use Rattle.proof_trees.specs.Trees.{Tree}
use Rattle.expansion_laws.specs.Expansions.{Exp}
use Rattle.expansion_laws.specs.Dependency.{Expansion}
use Rattle.extraction_laws.specs.Addresses.{Address, root}
use Rattle.extraction_laws.specs.States.{State, tree_at}
use Rattle.extraction_laws.specs.Extraction.{Context, met, inner_context, inner_map, inner_variable, walked}
use Rattle.exp_tree.specs.Merging.{merged}
use Rattle.merge_laws.specs.United.{IsReached}

-- the state, in which these addresses have got variables
abbrev pub with_names : List Address → State → State
with_names names x = record { opened = x.opened; instances = x.instances; names = names }

-- the marks after a rule with the conclusion s, and after its premise p alone, which is the i-th
abbrev pub by_premise : List Var → Rule → Sequent → Map → Context → ℕ → Tree → State → State
by_premise vs r s m c i p x =
    let v : Var = inner_variable vs r m c x in
    walked vs p (inner_map r m v) (inner_context r s m c v i) (met vs r m c x)

-- the addresses of a sequent's formulas are reached
abbrev pub AreReached : State → Context → Sequent → Type 0
AreReached x c s = (side : Side) (f : Formula) → set.has (side_of s side) f ≡ true → IsReached x (c side f)

-- the trees that are read off at the addresses of a sequent's formulas
abbrev pub read_off : List Var → State → Sequent → Expansion
read_off vs x s = record {
  left = map (λ f. tree_at vs x (root Left f)) (set.listing s.left);
  right = map (λ f. tree_at vs x (root Right f)) (set.listing s.right);
}

-- the merges of the trees of two lists, each with that at its place
abbrev pub merged_each : List Exp → List Exp → List Exp
merged_each (d ∷ ds) (e ∷ es) = merged d e ∷ merged_each ds es
merged_each ds es = []

abbrev pub merged_expansion : Expansion → Expansion → Expansion
merged_expansion x y = record { left = merged_each x.left y.left; right = merged_each x.right y.right }
