-- The auxiliary formulas of a rule's premises, by numbers.
--     first_numbers, second_numbers      those of the first and of the second premise
--     with_numbers      a sequent with such formulas
use Rattle.std.specs.Prelude.{List, Option, Some, None}
use Rattle.fol.specs.Syntax.{Formula}
use Rattle.substitution.specs.Instance.{inst}
use Rattle.substitution.specs.Unfolding.{unf}
use Rattle.lk_rules.specs.declared.sequent.Sequent.{Sequent}
use Rattle.lk_rules.specs.declared.sequent.Side.{Side}
use Rattle.lk_rules.specs.declared.sequent.Side.TheVariants.{Left, Right}
use Rattle.lk_rules.specs.Sequents.{adds_to}
use Rattle.arena_cells.specs.declared.key.RuleKey.{RuleKey}
use Rattle.arena_cells.specs.declared.key.RuleKey.TheVariants.{NegL, NegR, AndL, AndR, OrL, OrR, ImpL, ImpR, AllL, AllR, ExL, ExR, DefL, DefR, Cut}
use Rattle.arena_cells.specs.declared.key.Key.{Key}
use Rattle.arena_cells.specs.declared.key.Key.TheVariants.{Not, And, Or, Imp, All, Ex}
use Rattle.arena_cells.specs.Items.{Item}
use Rattle.arena_cells.specs.Standing.{formula_at, term_at, IsFormulaAt, IsTermAt}
use Rattle.arena_proofs.specs.declared.auxiliary.Auxiliary.{Auxiliary}
use Rattle.arena_proofs.specs.declared.auxiliary.Auxiliary.TheVariants.{Nothing, One, Two, Instance, Unfolding}

-- of the first premise, by the key of the rule's formula
abbrev pub first_numbers : RuleKey → Key → Auxiliary
first_numbers (NegL f) (Not b) = One Right b
first_numbers (NegR f) (Not b) = One Left b
first_numbers (AndL f) (And b c) = Two Left b Left c
first_numbers (AndR f) (And b c) = One Right b
first_numbers (OrL f) (Or b c) = One Left b
first_numbers (OrR f) (Or b c) = Two Right b Right c
first_numbers (ImpL f) (Imp b c) = One Right b
first_numbers (ImpR f) (Imp b c) = Two Left b Right c
first_numbers (AllL f t) (All b) = Instance Left b t
first_numbers (AllR f y) (All b) = Instance Right b y
first_numbers (ExL f y) (Ex b) = Instance Left b y
first_numbers (ExR f t) (Ex b) = Instance Right b t
first_numbers (DefL f) k = Unfolding Left f
first_numbers (DefR f) k = Unfolding Right f
first_numbers (Cut f) k = One Right f
first_numbers r k = Nothing

abbrev pub second_numbers : RuleKey → Key → Auxiliary
second_numbers (AndR f) (And b c) = One Right c
second_numbers (OrL f) (Or b c) = One Left c
second_numbers (ImpL f) (Imp b c) = One Left c
second_numbers (Cut f) k = One Left f
second_numbers r k = Nothing

-- the formulas stand at the numbers
abbrev pub IsAuxiliaryAt : List Item → Auxiliary → Type 0
IsAuxiliaryAt a Nothing = Unit {0}
IsAuxiliaryAt a (One side f) = IsFormulaAt a f
IsAuxiliaryAt a (Two side f other g) = IsFormulaAt a f × IsFormulaAt a g
IsAuxiliaryAt a (Instance side b t) = IsFormulaAt a b × IsTermAt a t
IsAuxiliaryAt a (Unfolding side f) = IsFormulaAt a f

-- the sequent with the formula on that side too, if there is one
abbrev pub with_option : Sequent → Side → Option Formula → Sequent
with_option s side None = s
with_option s side (Some f) = adds_to s side f

-- the sequent with the formulas at the numbers
abbrev pub with_numbers : List Item → Sequent → Auxiliary → Sequent
with_numbers a s Nothing = s
with_numbers a s (One side f) = adds_to s side (formula_at a f)
with_numbers a s (Two side f other g) = adds_to (adds_to s side (formula_at a f)) other (formula_at a g)
with_numbers a s (Instance side b t) = adds_to s side (inst (formula_at a b) (term_at a t))
with_numbers a s (Unfolding side f) = with_option s side (unf (formula_at a f))
