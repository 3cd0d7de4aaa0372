-- Interpolation of proofs without cuts, after Maehara (1960), as in Takeuti's Proof Theory. Two sequents, the parts, have together all
-- formulas of a proof's conclusion. The interpolant is a formula in the language of both parts, with a proof of the first part with the
-- interpolant on the right, and one of the second part with it on the left. A part is named by the side on which the interpolant stands
-- in its proof: `Right` is the first part, `Left` the second. Where no predicate symbol of the conclusion has a body, no rule unfolds an
-- atom. Elsewhere such a rule is as any with one premise, and the interpolant may have symbols that only unfoldings have.
--     Interpolation      an interpolant and its two proofs
--     part, part_of      the part of a name; the part of a rule's main formula
--     at_leaf, at_axiom      rules without premises
--     moved_tree, first_above, second_above, above      a premise, its parts and its interpolation
--     inferred, vars_outside, quantified, closed_by, over_one      rules with one premise, and the quantifiers that two of them need
--     joined      rules with two premises
--     by_rule      the interpolation of a proof by those of its premises
--     itp_within, itp      the interpolation
use Rattle.std.specs.Prelude.{ℕ, zero, suc, Bool, true, false, if◌then◌else◌, not as negated, List, [], ◌∷◌, filter, Option, Some, None}
use Rattle.fol.specs.declared.symbols.Var.{Var}
use Rattle.fol.specs.Syntax.{Term, free, Formula, top, bot, not, and, or, all, ex}
use Rattle.finite.specs.Finite as set
use Rattle.free_variables.specs.Occurrence.{vars_formula}
use Rattle.substitution.specs.Instance.{bind}
use Rattle.substitution.specs.Maps.{only}
use Rattle.lk_rules.specs.declared.sequent.Sequent.{Sequent}
use Rattle.lk_rules.specs.declared.sequent.Side.{Side}
use Rattle.lk_rules.specs.declared.sequent.Side.TheVariants.{Left, Right}
use Rattle.lk_rules.specs.declared.rule.Rule.{Rule}
use Rattle.lk_rules.specs.declared.rule.Rule.TheVariants.{Ax, TopR, BotL, NegL, NegR, AndL, AndR, OrL, OrR, AllL, AllR, ExL, ExR, Cut, Weak}
use Rattle.lk_rules.specs.RuleOrder.{term_of, variable_of}
use Rattle.lk_rules.specs.Sequents.{empty, adds_to, extended, is_free_in_sequent, union_sequent}
use Rattle.lk_rules.specs.Rules.{aux, main_stands}
use Rattle.proof_trees.specs.Trees.{Tree, node, Trees, none, more}
use Rattle.proof_trees.specs.Shapes.{height}
use Rattle.proof_trees.specs.Substitution.{renamed, sub}
use Rattle.cut_laws.specs.Contraction.{moved_rule}

-- an interpolant, the proof of the first part with it on the right, and that of the second part with it on the left
pub record Interpolation : Type 0 where
  pub formula : Formula
  pub first : Tree
  pub second : Tree

-- what interpolation makes of a proof and two parts
abbrev pub Interpolating : Type 0
Interpolating = Tree → Sequent → Sequent → Interpolation

-- the part of that name
abbrev pub part : Sequent → Sequent → Side → Sequent
part one two Right = one
part one two Left = two

-- the proof of the part of that name
abbrev pub proof_of : Interpolation → Side → Tree
proof_of i Right = i.first
proof_of i Left = i.second

-- the part to which a rule's main formula counts: the first where it stands there on its side, else the second
abbrev pub part_of : Rule → Sequent → Side
part_of r one = if main_stands r one then Right else Left

-- a rule without premises whose main formula is of that part: the part has a proof without the interpolant
abbrev pub at_leaf : Side → Rule → Sequent → Sequent → Interpolation
at_leaf Right r one two = record { formula = bot; first = node r (adds_to one Right bot) none; second = node BotL (adds_to two Left bot) none }
at_leaf Left r one two = record { formula = top; first = node TopR (adds_to one Right top) none; second = node r (adds_to two Left top) none }

-- an axiom on a, by whether a stands on the left and on the right of the first part; where it doesn't, it stands so in the second
abbrev pub at_axiom : Formula → Sequent → Sequent → Bool → Bool → Interpolation
at_axiom a one two true true = at_leaf Right (Ax a) one two
at_axiom a one two false false = at_leaf Left (Ax a) one two
at_axiom a one two true false = record { formula = a; first = node (Ax a) (adds_to one Right a) none; second = node (Ax a) (adds_to two Left a) none }
at_axiom a one two false true = record {
  formula = not a;
  first = node (NegR (not a)) (adds_to one Right (not a)) (more (node (Ax a) (adds_to one Left a) none) none);
  second = node (NegL (not a)) (adds_to two Left (not a)) (more (node (Ax a) (adds_to two Right a) none) none);
}

-- a premise at a new conclusion: an eigenvariable that is free there becomes a fresh one
abbrev pub moved_tree : Sequent → Option Var → Tree → Tree
moved_tree s None p = p
moved_tree s (Some y) p = if is_free_in_sequent y s then sub p (only y (free (renamed y s))) else p

-- the parts of the rule's i-th premise: the part of the main formula has the auxiliary formulas too
abbrev pub first_above : Side → Rule → ℕ → Sequent → Sequent
first_above Right r i one = extended one (aux r i)
first_above Left r i one = one

abbrev pub second_above : Side → Rule → ℕ → Sequent → Sequent
second_above Right r i two = two
second_above Left r i two = extended two (aux r i)

-- the interpolation of that premise
abbrev pub above : Interpolating → Side → Rule → ℕ → Tree → Sequent → Sequent → Interpolation
above look m r i p one two = look p (first_above m r i one) (second_above m r i two)

-- the rule at the root of the proof of its part, whose interpolant stays
abbrev pub inferred : Side → Rule → Sequent → Sequent → Interpolation → Interpolation
inferred Right r one two i = record { formula = i.formula; first = node r (adds_to one Right i.formula) (more i.first none); second = i.second }
inferred Left r one two i = record { formula = i.formula; first = i.first; second = node r (adds_to two Left i.formula) (more i.second none) }

-- where a rule puts a term for a quantifier's variable, the free variables of a formula that aren't free in a sequent, in rising order; else none
abbrev pub vars_outside : Option Term → Formula → Sequent → List Var
vars_outside None f s = []
vars_outside (Some t) f s = filter (λ x. negated (is_free_in_sequent x s)) (set.listing (vars_formula f set.empty))

-- the quantified formula as interpolant, by its rules on both sides
abbrev pub with_all : Formula → Var → Sequent → Sequent → Interpolation → Interpolation
with_all f x one two i = record {
  formula = f;
  first = node (AllR f x) (adds_to one Right f) (more i.first none);
  second = node (AllL f (free x)) (adds_to two Left f) (more i.second none);
}

abbrev pub with_ex : Formula → Var → Sequent → Sequent → Interpolation → Interpolation
with_ex f x one two i = record {
  formula = f;
  first = node (ExR f (free x)) (adds_to one Right f) (more i.first none);
  second = node (ExL f x) (adds_to two Left f) (more i.second none);
}

-- the quantifier that is added for a part
abbrev pub quantifier_of : Side → Formula → Formula
quantifier_of Right f = all f
quantifier_of Left f = ex f

-- the interpolant with x quantified: universally for the first part, and existentially for the second
abbrev pub quantified : Side → Sequent → Sequent → Var → Interpolation → Interpolation
quantified Right one two x i = with_all (all (bind i.formula x)) x one two i
quantified Left one two x i = with_ex (ex (bind i.formula x)) x one two i

-- the interpolant with each variable of a list quantified, the first one outermost
abbrev pub closed_by : Side → Sequent → Sequent → List Var → Interpolation → Interpolation
closed_by m one two [] i = i
closed_by m one two (x ∷ xs) i = quantified m one two x (closed_by m one two xs i)

-- the variables that are quantified after the rule
abbrev pub vars_to_close : Side → Rule → Sequent → Sequent → Interpolation → List Var
vars_to_close m r one two i = vars_outside (term_of r) i.formula (part one two m)

-- a rule with one premise, by the interpolation of that
abbrev pub over_one : Side → Rule → Sequent → Sequent → Interpolation → Interpolation
over_one m r one two i = closed_by m one two (vars_to_close m r one two i) (inferred m r one two i)

-- a proof by the rule from two others, of a sequent with their interpolants
abbrev pub both_over : Side → Rule → Sequent → Interpolation → Interpolation → Tree
both_over m r s i j = node r (adds_to (adds_to s m i.formula) m j.formula) (more (proof_of i m) (more (proof_of j m) none))

-- the disjunction of two interpolants, and their conjunction
abbrev pub with_or : Formula → Rule → Sequent → Sequent → Interpolation → Interpolation → Interpolation
with_or f r one two i j = record {
  formula = f;
  first = node (OrR f) (adds_to one Right f) (more (both_over Right r one i j) none);
  second = node (OrL f) (adds_to two Left f) (more i.second (more j.second none));
}

abbrev pub with_and : Formula → Rule → Sequent → Sequent → Interpolation → Interpolation → Interpolation
with_and f r one two i j = record {
  formula = f;
  first = node (AndR f) (adds_to one Right f) (more i.first (more j.first none));
  second = node (AndL f) (adds_to two Left f) (more (both_over Left r two i j) none);
}

-- a rule with two premises, by their interpolations
abbrev pub joined : Side → Rule → Sequent → Sequent → Interpolation → Interpolation → Interpolation
joined Right r one two i j = with_or (or i.formula j.formula) r one two i j
joined Left r one two i j = with_and (and i.formula j.formula) r one two i j

-- whether the rule has one main formula, on one side
abbrev pub has_main : Rule → Bool
has_main (Ax a) = false
has_main (Cut a) = false
has_main Weak = false
has_main r = true

-- for trees that are no proofs without cuts
abbrev pub no_interpolation : Interpolation
no_interpolation = record { formula = top; first = node TopR empty none; second = node TopR empty none }

-- the interpolation of a rule's one premise, in which the eigenvariable is free in neither part
abbrev pub above_one : Interpolating → Side → Rule → Tree → Sequent → Sequent → Interpolation
above_one look m r p one two = above look m (moved_rule (union_sequent one two) r) 0 (moved_tree (union_sequent one two) (variable_of r) p) one two

-- a rule with a main formula, by its premises
abbrev pub by_premises : Interpolating → Side → Rule → Trees → Sequent → Sequent → Interpolation
by_premises look m r none one two = at_leaf m r one two
by_premises look m r (more p none) one two = over_one m (moved_rule (union_sequent one two) r) one two (above_one look m r p one two)
by_premises look m r (more p (more q ts)) one two = joined m r one two (above look m r 0 p one two) (above look m r 1 q one two)

-- weakening: the parts stay
abbrev pub weakened : Interpolating → Trees → Sequent → Sequent → Interpolation
weakened look none one two = no_interpolation
weakened look (more p ts) one two = look p one two

-- the interpolation of a proof by its last rule, where `look` interpolates the premises
abbrev pub by_rule : Interpolating → Tree → Sequent → Sequent → Interpolation
by_rule look (node (Ax a) s ts) one two = at_axiom a one two (set.has one.left a) (set.has one.right a)
by_rule look (node Weak s ts) one two = weakened look ts one two
by_rule look (node (Cut a) s ts) one two = no_interpolation
by_rule look (node r s ts) one two = by_premises look (part_of r one) r ts one two

-- the interpolation of trees at most n inferences high
unfoldable pub itp_within : ℕ → Tree → Sequent → Sequent → Interpolation
itp_within zero t one two = no_interpolation
itp_within (suc n) t one two = by_rule (itp_within n) t one two

-- the interpolation of a tree. A premise with a renamed eigenvariable is as high as before, so the height is a bound
unfoldable pub itp : Tree → Sequent → Sequent → Interpolation
itp t one two = itp_within (height t) t one two
