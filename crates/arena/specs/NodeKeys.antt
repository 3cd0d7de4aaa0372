-- Keys of formulas, by their nodes and the numbers of their parts.
use Rattle.std.specs.Prelude.{ℕ}
use Rattle.fol.specs.declared.syntax.FormulaNode.{FormulaNode}
use Rattle.fol.specs.declared.syntax.FormulaNode.TheVariants as node
use Rattle.arena_cells.specs.declared.key.Key.{Key}
use Rattle.arena_cells.specs.declared.key.Key.TheVariants.{Not, And, Or, Imp, All, Ex}

-- the key of a formula of one other
abbrev pub key_over : FormulaNode → ℕ → Key
key_over (node.Not f) n = Not n
key_over (node.All f) n = All n
key_over x n = Ex n

-- the key of a formula of two others
abbrev pub key_of_both : FormulaNode → ℕ → ℕ → Key
key_of_both (node.And f g) m n = And m n
key_of_both (node.Or f g) m n = Or m n
key_of_both x m n = Imp m n
