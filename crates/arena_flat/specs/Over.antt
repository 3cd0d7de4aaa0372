-- Keys over other formulas, and rules with all unfolded.
use Rattle.std.specs.Prelude.{ℕ}
use Rattle.arena_cells.specs.declared.key.RuleKey.{RuleKey}
use Rattle.arena_cells.specs.declared.key.RuleKey.TheVariants.{DefL, DefR, Weak}
use Rattle.arena_cells.specs.declared.key.Key.{Key}
use Rattle.arena_cells.specs.declared.key.Key.TheVariants.{Top, Not, And, Or, Imp, All, Ex}

-- the key of the same kind over the formulas at these numbers, of a formula that is made of others
abbrev pub over : Key → ℕ → ℕ → Key
over (Not f) m n = Not m
over (And f g) m n = And m n
over (Or f g) m n = Or m n
over (Imp f g) m n = Imp m n
over (All f) m n = All m
over (Ex f) m n = Ex m
over k m n = Top

-- weakening in place of a rule that unfolds an atom
abbrev pub weak_key : RuleKey → RuleKey
weak_key (DefL f) = Weak
weak_key (DefR f) = Weak
weak_key r = r
