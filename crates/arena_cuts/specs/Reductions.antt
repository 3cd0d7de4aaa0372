-- What takes the place of a cut by the parts of its formula, by numbers.
--     instance_numbers, unfolded_numbers, reduction_numbers      what it is, by the key of the formula and the premises' last rules
--     IsReductionAt      the parts stand at the numbers
--     two_cuts, instance_cut, reduced_tree      the tree for which the numbers stand
use Rattle.std.specs.Prelude.{ℕ, List}
use Rattle.fol.specs.Syntax.{Formula}
use Rattle.substitution.specs.Instance.{inst}
use Rattle.substitution.specs.Maps.{only}
use Rattle.substitution.specs.Unfolding.{unf}
use Rattle.lk_rules.specs.declared.sequent.Sequent.{Sequent}
use Rattle.lk_rules.specs.declared.sequent.Side.{Side}
use Rattle.lk_rules.specs.declared.sequent.Side.TheVariants.{Left, Right}
use Rattle.lk_rules.specs.Sequents.{adds_to}
use Rattle.proof_trees.specs.Trees.{Tree, IsValid}
use Rattle.proof_trees.specs.Substitution.{sub}
use Rattle.cut_laws.specs.Contraction.{cut, cut_on, cut_unfolded}
use Rattle.arena_cells.specs.declared.key.RuleKey.{RuleKey}
use Rattle.arena_cells.specs.declared.key.RuleKey.TheVariants.{AllL, AllR, ExL, ExR, DefL, DefR}
use Rattle.arena_cells.specs.declared.key.Parts.{Parts}
use Rattle.arena_cells.specs.declared.key.Parts.TheVariants as parts
use Rattle.arena_cells.specs.declared.key.Key.{Key}
use Rattle.arena_cells.specs.declared.key.Key.TheVariants.{Defined, Not, And, Or, Imp, All, Ex}
use Rattle.arena_cells.specs.Items.{Item}
use Rattle.arena_cells.specs.Standing.{formula_at, term_at, variable_at, tree_at, IsFormulaAt, IsTermAt, IsVariableAt, IsTreeAt}
use Rattle.arena_cuts.specs.declared.parts.Upper.{Upper}
use Rattle.arena_cuts.specs.declared.parts.Instantiation.{Instantiation}
use Rattle.arena_cuts.specs.declared.parts.Reduction.{Reduction}
use Rattle.arena_cuts.specs.declared.parts.Reduction.TheVariants.{Unchanged, One, Two, Instance, Unfolded}

-- the eigenvariable is that of the premise with the formula on that side
abbrev pub instance_numbers : Side → ℕ → RuleKey → Parts → RuleKey → Parts → Reduction
instance_numbers Right b (AllR f y) (parts.One p) (AllL g t) (parts.One q) = Instance Right (record { body = b; term = t; variable = y; premise = p; other = q })
instance_numbers Left b (ExR f t) (parts.One q) (ExL g y) (parts.One p) = Instance Left (record { body = b; term = t; variable = y; premise = p; other = q })
instance_numbers side b l ps r qs = Unchanged

abbrev pub unfolded_numbers : RuleKey → Parts → RuleKey → Parts → Reduction
unfolded_numbers (DefR f) (parts.One p) (DefL g) (parts.One q) = Unfolded p q
unfolded_numbers l ps r qs = Unchanged

abbrev pub reduction_numbers : Key → RuleKey → Parts → RuleKey → Parts → Reduction
reduction_numbers (Not b) l (parts.One p) r (parts.One q) = One b q p
reduction_numbers (And b c) l (parts.Two p q) r (parts.One o) = Two Left b (record { formula = c; left = q; right = o }) p
reduction_numbers (Or b c) l (parts.One p) r (parts.Two q o) = Two Right c (record { formula = b; left = p; right = q }) o
reduction_numbers (Imp b c) l (parts.One p) r (parts.Two q o) = Two Right c (record { formula = b; left = q; right = p }) o
reduction_numbers (All b) l ps r qs = instance_numbers Right b l ps r qs
reduction_numbers (Ex b) l ps r qs = instance_numbers Left b l ps r qs
reduction_numbers (Defined s b ts) l ps r qs = unfolded_numbers l ps r qs
reduction_numbers k l ps r qs = Unchanged

pub record IsUpperAt (a : List Item) (u : Upper) : Type 0 where
  pub formula : IsFormulaAt a u.formula
  pub left : IsTreeAt a u.left
  pub right : IsTreeAt a u.right

pub record IsInstantiationAt (a : List Item) (p : Instantiation) : Type 0 where
  pub body : IsFormulaAt a p.body
  pub term : IsTermAt a p.term
  pub variable : IsVariableAt a p.variable
  pub premise : IsTreeAt a p.premise
  pub valid : IsValid (tree_at a p.premise)
  pub other : IsTreeAt a p.other

abbrev pub IsReductionAt : List Item → Reduction → Type 0
IsReductionAt a Unchanged = Unit {0}
IsReductionAt a (One f l r) = IsFormulaAt a f × (IsTreeAt a l × IsTreeAt a r)
IsReductionAt a (Two side f u o) = IsFormulaAt a f × (IsUpperAt a u × IsTreeAt a o)
IsReductionAt a (Instance side p) = IsInstantiationAt a p
IsReductionAt a (Unfolded p q) = IsTreeAt a p × IsTreeAt a q

-- the cut at s on f that has the upper cut as its premise with f on that side
abbrev pub two_cuts : List Item → Sequent → Side → Formula → Upper → Tree → Tree
two_cuts a s side f u o = cut_on side s f (cut (adds_to s side f) (formula_at a u.formula) (tree_at a u.left) (tree_at a u.right)) o

-- the cut at s on the instance
abbrev pub instance_cut : List Item → Sequent → Side → Instantiation → Tree
instance_cut a s side p = cut_on side s (inst (formula_at a p.body) (term_at a p.term)) (sub (tree_at a p.premise) (only (variable_at a p.variable) (term_at a p.term))) (tree_at a p.other)

-- what takes the place of the cut at s on f over l and r
abbrev pub reduced_tree : List Item → Sequent → Formula → Tree → Tree → Reduction → Tree
reduced_tree a s f l r Unchanged = cut s f l r
reduced_tree a s f l r (One g p q) = cut s (formula_at a g) (tree_at a p) (tree_at a q)
reduced_tree a s f l r (Two side g u o) = two_cuts a s side (formula_at a g) u (tree_at a o)
reduced_tree a s f l r (Instance side p) = instance_cut a s side p
reduced_tree a s f l r (Unfolded p q) = cut_unfolded s f l r (unf f) (tree_at a p) (tree_at a q)
