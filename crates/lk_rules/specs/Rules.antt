-- The rules of Gentzen's calculus LK (1935), in the form with sequents of sets. A rule has a main formula, which stands in the
-- conclusion, and each of its premises has auxiliary formulas. Weakening is absorbed: a premise's end sequent is any subsequent of
-- the conclusion with the premise's auxiliary formulas added. Two rules unfold an atom: its auxiliary formula is what it stands for.
--     is_formed_rule      what a rule names is well formed
--     is_unfolding_rule      the two rules that unfold an atom whose predicate symbol has a body
--     premises      the table of rules, a row for each: its premises by their auxiliary formulas
--     needs, has_shape, aux      how many premises it has, whether its main formula is one that it has a row for, and what the row says of a premise
--     main, eigen_free      the sides on which the main formula stands, and the side condition
--     verdict_of      the first fault of an inference
--     Row      an inference is right
use Rattle.std.specs.Prelude.{◌≡◌, ℕ, zero, suc, Bool, true, false, if◌then◌else◌, ◌&&◌, ◌||◌, eqb, List, [], ◌∷◌, Option, Some, None, unwrap_or, is_some, Result, Ok, Err, IfSome}
use Rattle.std.specs.List.{All, list_all, list_any}
use Rattle.std.specs.Ordering.{eq_by_cmp}
use Rattle.fol.specs.Syntax.{free, Terms, pred, defined, Formula, atom, top, bot, not, and, or, imp, all, ex}
use Rattle.fol.specs.Order.{formula_cmp}
use Rattle.finite.specs.Finite as set
use Rattle.fol.specs.Formed.{count_terms, is_formed, is_formed_term, is_formed_var}
use Rattle.substitution.specs.Instance.{inst}
use Rattle.substitution.specs.Unfolding.{put_at, matrix_under}
use Rattle.lk_rules.specs.declared.sequent.Sequent.{Sequent}
use Rattle.lk_rules.specs.declared.sequent.Side.{Side}
use Rattle.lk_rules.specs.declared.sequent.Side.TheVariants.{Left, Right}
use Rattle.lk_rules.specs.declared.rule.Rule.{Rule}
use Rattle.lk_rules.specs.declared.rule.Rule.TheVariants.{Ax, TopR, BotL, NegL, NegR, AndL, AndR, OrL, OrR, ImpL, ImpR, AllL, AllR, ExL, ExR, DefL, DefR, Cut, Weak}
use Rattle.lk_rules.specs.declared.inference.RuleFault.{RuleFault}
use Rattle.lk_rules.specs.declared.inference.RuleFault.TheVariants.{Premises, Shape, MainMissing, EigenFree, Premise}
use Rattle.lk_rules.specs.Formulas.{FormulaSet}
use Rattle.lk_rules.specs.Sequents.{side_of, extended, is_free_in_sequent, IsSubsequent}

-- whether what the rule names is well formed. A well-formed term has no bound variable of its own
abbrev pub is_formed_rule : Rule → Bool
is_formed_rule (Ax a) = is_formed a
is_formed_rule TopR = true
is_formed_rule BotL = true
is_formed_rule (NegL a) = is_formed a
is_formed_rule (NegR a) = is_formed a
is_formed_rule (AndL a) = is_formed a
is_formed_rule (AndR a) = is_formed a
is_formed_rule (OrL a) = is_formed a
is_formed_rule (OrR a) = is_formed a
is_formed_rule (ImpL a) = is_formed a
is_formed_rule (ImpR a) = is_formed a
is_formed_rule (AllL a t) = is_formed a && is_formed_term t
is_formed_rule (AllR a y) = is_formed a && is_formed_var y
is_formed_rule (ExL a y) = is_formed a && is_formed_var y
is_formed_rule (ExR a t) = is_formed a && is_formed_term t
is_formed_rule (DefL a) = is_formed a
is_formed_rule (DefR a) = is_formed a
is_formed_rule (Cut a) = is_formed a
is_formed_rule Weak = true

abbrev pub IsFormedRule : Rule → Type 0
IsFormedRule r = is_formed_rule r ≡ true

-- whether the rule unfolds an atom
abbrev pub is_unfolding_rule : Rule → Bool
is_unfolding_rule (DefL a) = true
is_unfolding_rule (DefR a) = true
is_unfolding_rule r = false

-- how many premises the rule has
abbrev pub needs : Rule → ℕ
needs (Ax a) = 0
needs TopR = 0
needs BotL = 0
needs (NegL a) = 1
needs (NegR a) = 1
needs (AndL a) = 1
needs (AndR a) = 2
needs (OrL a) = 2
needs (OrR a) = 1
needs (ImpL a) = 2
needs (ImpR a) = 1
needs (AllL a t) = 1
needs (AllR a y) = 1
needs (ExL a y) = 1
needs (ExR a t) = 1
needs (DefL a) = 1
needs (DefR a) = 1
needs (Cut a) = 2
needs Weak = 1

-- what a premise has besides formulas of the conclusion: its auxiliary formulas, on each side
pub record Extra : Type 0 where
  pub left : List Formula
  pub right : List Formula

abbrev pub on_left : List Formula → Extra
on_left fs = record { left = fs; right = [] }

abbrev pub on_right : List Formula → Extra
on_right fs = record { left = []; right = fs }

-- the body of an atom's predicate symbol, with the atom's arguments
abbrev pub unfolded : Formula → Terms → Formula
unfolded b ts = put_at ts (count_terms ts) (matrix_under ts b)

-- the rows of the table: for each rule its premises, from the first one on, by their auxiliary formulas. None where the main formula
-- hasn't the connective or the quantifier that the rule introduces, or the unfolding of an atom that it takes
abbrev pub premises : Rule → Option (List Extra)
premises (Ax a) = Some []
premises TopR = Some []
premises BotL = Some []
premises (NegL (not a)) = Some (on_right (a ∷ []) ∷ [])
premises (NegR (not a)) = Some (on_left (a ∷ []) ∷ [])
premises (AndL (and a b)) = Some (on_left (a ∷ b ∷ []) ∷ [])
premises (AndR (and a b)) = Some (on_right (a ∷ []) ∷ on_right (b ∷ []) ∷ [])
premises (OrL (or a b)) = Some (on_left (a ∷ []) ∷ on_left (b ∷ []) ∷ [])
premises (OrR (or a b)) = Some (on_right (a ∷ b ∷ []) ∷ [])
premises (ImpL (imp a b)) = Some (on_right (a ∷ []) ∷ on_left (b ∷ []) ∷ [])
premises (ImpR (imp a b)) = Some (record { left = a ∷ []; right = b ∷ [] } ∷ [])
premises (AllL (all b) t) = Some (on_left (inst b t ∷ []) ∷ [])
premises (AllR (all b) y) = Some (on_right (inst b (free y) ∷ []) ∷ [])
premises (ExL (ex b) y) = Some (on_left (inst b (free y) ∷ []) ∷ [])
premises (ExR (ex b) t) = Some (on_right (inst b t ∷ []) ∷ [])
premises (DefL (atom (pred s (defined b)) ts)) = Some (on_left (unfolded b ts ∷ []) ∷ [])
premises (DefR (atom (pred s (defined b)) ts)) = Some (on_right (unfolded b ts ∷ []) ∷ [])
premises (Cut a) = Some (on_right (a ∷ []) ∷ on_left (a ∷ []) ∷ [])
premises Weak = Some (on_left [] ∷ [])
premises r = None

-- whether the main formula has the connective or the quantifier that the rule introduces, or is an atom with an unfolding where the rule
-- unfolds it: whether the rule has a row. Other rules' formulas have any shape
abbrev pub has_shape : Rule → Bool
has_shape r = is_some (premises r)

-- the main formula, on each side of the conclusion on which it must stand. Cut and weakening have none
abbrev pub main : Rule → Side → List Formula
main (Ax a) side = a ∷ []
main TopR Right = top ∷ []
main BotL Left = bot ∷ []
main (NegL a) Left = a ∷ []
main (NegR a) Right = a ∷ []
main (AndL a) Left = a ∷ []
main (AndR a) Right = a ∷ []
main (OrL a) Left = a ∷ []
main (OrR a) Right = a ∷ []
main (ImpL a) Left = a ∷ []
main (ImpR a) Right = a ∷ []
main (AllL a t) Left = a ∷ []
main (AllR a y) Right = a ∷ []
main (ExL a y) Left = a ∷ []
main (ExR a t) Right = a ∷ []
main (DefL a) Left = a ∷ []
main (DefR a) Right = a ∷ []
main r side = []

-- what the premise at a place has, counted from 0. There is nothing at other places
abbrev pub extra_at : List Extra → ℕ → Side → List Formula
extra_at [] i side = []
extra_at (e ∷ es) zero Left = e.left
extra_at (e ∷ es) zero Right = e.right
extra_at (e ∷ es) (suc i) side = extra_at es i side

-- the auxiliary formulas of a premise, counted from 0, on each side
abbrev pub aux : Rule → ℕ → Side → List Formula
aux r i side = extra_at (unwrap_or (premises r) []) i side

-- the side condition: whether the rule has an eigenvariable that is free in the conclusion
abbrev pub eigen_free : Rule → Sequent → Bool
eigen_free (AllR a y) end = is_free_in_sequent y end
eigen_free (ExL a y) end = is_free_in_sequent y end
eigen_free r end = false

-- whether each main formula stands in the conclusion
abbrev pub main_stands : Rule → Sequent → Bool
main_stands r end = list_all (set.has end.left) (main r Left) && list_all (set.has end.right) (main r Right)

-- whether each formula of a premise's side is one of the conclusion's side `end` or one of `extra`
abbrev pub fits_side : FormulaSet → FormulaSet → List Formula → Bool
fits_side formulas end extra = list_all (λ g. set.has end g || list_any (eq_by_cmp formula_cmp g) extra) (set.listing formulas)

-- whether a premise with this end sequent, where there is one, fits the conclusion
abbrev pub fits : Rule → Sequent → ℕ → Option Sequent → Bool
fits r end premise None = true
fits r end premise (Some s) = fits_side s.left end.left (aux r premise Left) && fits_side s.right end.right (aux r premise Right)

-- the first fault of an inference by rule r with the conclusion `end`, n premises, and the end sequents of the first two
abbrev pub verdict_of : Rule → Sequent → ℕ → Option Sequent → Option Sequent → Result (Unit {0}) RuleFault
verdict_of r end n first second =
    if eqb n (needs r) then (
    if has_shape r then (
    if main_stands r end then (
    if eigen_free r end then Err EigenFree else (
    if fits r end 0 first then (
    if fits r end 1 second then Ok tt
    else Err (Premise 1))
    else Err (Premise 0)))
    else Err MainMissing)
    else Err Shape)
    else Err Premises

-- a premise with this end sequent follows the rule: it is a subsequent of the conclusion with the premise's auxiliary formulas
abbrev pub IsWithin : Rule → Sequent → ℕ → Sequent → Type 0
IsWithin r end premise s = IsSubsequent s (extended end (aux r premise))

-- an inference by rule r with the conclusion `end`, n premises, and the end sequents of the first two is right
pub record Row (r : Rule) (end : Sequent) (n : ℕ) (first second : Option Sequent) : Type 0 where
  pub premises : n ≡ needs r
  pub shape : has_shape r ≡ true
  pub main_formula : (side : Side) → All (λ f. set.has (side_of end side) f ≡ true) (main r side)
  pub eigenvariable : eigen_free r end ≡ false
  pub first_premise : IfSome first (IsWithin r end 0)
  pub second_premise : IfSome second (IsWithin r end 1)
