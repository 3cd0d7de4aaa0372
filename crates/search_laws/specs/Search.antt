-- Search for a proof of a sequent without quantifiers: depth first, the left premise first, down to the first sequent that is false
-- under an assignment.
--     rule_at      the rule that is taken at a sequent: the first that fits
--     premise_at      the end sequent of a premise
--     Walk, visits      what a search comes to, and how many sequents it visits
--     walk_within, walk      the search
use Rattle.std.specs.Prelude.{ℕ, zero, suc, ◌+◌, if◌then◌else◌, Bool, true, false, List, [], ◌∷◌, find, sum_by, Option, Some, None, option_map, option_and_then}
use Rattle.fol.specs.Syntax.{Formula, top, bot, not, and, or, imp}
use Rattle.finite.specs.Finite as set
use Rattle.free_variables.specs.Grade.{grade_of}
use Rattle.lk_rules.specs.declared.sequent.Sequent.{Sequent}
use Rattle.lk_rules.specs.declared.sequent.Side.TheVariants.{Left, Right}
use Rattle.lk_rules.specs.declared.rule.Rule.{Rule}
use Rattle.lk_rules.specs.declared.rule.Rule.TheVariants.{Ax, TopR, BotL, NegL, NegR, AndL, AndR, OrL, OrR, ImpL, ImpR}
use Rattle.lk_rules.specs.Formulas.{FormulaSet}
use Rattle.lk_rules.specs.Sequents.{extended}
use Rattle.lk_rules.specs.Rules.{needs, main, aux}
use Rattle.proof_trees.specs.Trees.{Tree, node, Trees, none, more, size}
use Rattle.proof_trees.specs.FormulaSets.{without}
use Rattle.search_laws.specs.Truth.{Assignment}

-- the rule of a connective on the left, and on the right
abbrev pub left_rule : Formula → Option Rule
left_rule (not f) = Some (NegL (not f))
left_rule (and f g) = Some (AndL (and f g))
left_rule (or f g) = Some (OrL (or f g))
left_rule (imp f g) = Some (ImpL (imp f g))
left_rule f = None

abbrev pub right_rule : Formula → Option Rule
right_rule (not f) = Some (NegR (not f))
right_rule (and f g) = Some (AndR (and f g))
right_rule (or f g) = Some (OrR (or f g))
right_rule (imp f g) = Some (ImpR (imp f g))
right_rule f = None

-- whether a formula has a connective at its head
abbrev pub is_compound : Formula → Bool
is_compound (not f) = true
is_compound (and f g) = true
is_compound (or f g) = true
is_compound (imp f g) = true
is_compound f = false

abbrev pub or_else : Option Rule → Option Rule → Option Rule
or_else None later = later
or_else (Some r) later = Some r

-- The rule that is taken at a sequent: an axiom on the least formula that stands on both sides; truth on the right; falsity on the left;
-- the rule of the least compound formula on the left; that of the least one on the right. Where there is none, the sequent is false if
-- just its left atoms are true.
unfoldable pub rule_at : Sequent → Option Rule
rule_at s =
    or_else (option_map Ax (find (set.has s.right) (set.listing s.left)))
    (or_else (if set.has s.right top then Some TopR else None)
    (or_else (if set.has s.left bot then Some BotL else None)
    (or_else (option_and_then left_rule (find is_compound (set.listing s.left)))
    (option_and_then right_rule (find is_compound (set.listing s.right))))))

-- a side without some formulas
abbrev pub without_each : FormulaSet → List Formula → FormulaSet
without_each s [] = s
without_each s (f ∷ fs) = without_each (without s f) fs

-- the sequent without the main formula of a rule
abbrev pub without_main : Rule → Sequent → Sequent
without_main r s = record { left = without_each s.left (main r Left); right = without_each s.right (main r Right) }

-- the end sequent of a premise: the conclusion without the main formula, with the auxiliary formulas
abbrev pub premise_at : Rule → Sequent → ℕ → Sequent
premise_at r s i = extended (without_main r s) (aux r i)

-- the end sequents of n premises from the i-th on
abbrev pub premises_from : Rule → Sequent → ℕ → ℕ → List Sequent
premises_from r s i zero = []
premises_from r s i (suc n) = premise_at r s i ∷ premises_from r s (suc i) n

-- what a search comes to: a proof, or the number of sequents that it visits down to one that is false under this assignment
pub data Walk : Type 0 where
  proved : Tree → Walk
  falsified : ℕ → Assignment → Walk

-- what the searches for some sequents come to, one after the other
pub data Walks : Type 0 where
  all_proved : Trees → Walks
  one_falsified : ℕ → Assignment → Walks

-- how many sequents a search visits
abbrev pub visits : Walk → ℕ
visits (proved t) = size t
visits (falsified n a) = n

abbrev pub after_first : Tree → Walks → Walks
after_first t (all_proved ts) = all_proved (more t ts)
after_first t (one_falsified n a) = one_falsified (size t + n) a

abbrev pub with_first : Walk → Walks → Walks
with_first (proved t) rest = after_first t rest
with_first (falsified n a) rest = one_falsified n a

-- the searches for some sequents, up to the first that meets a false one
abbrev pub walk_each : (Sequent → Walk) → List Sequent → Walks
walk_each look [] = all_proved none
walk_each look (s ∷ ss) = with_first (look s) (walk_each look ss)

abbrev pub inferred : Rule → Sequent → Walks → Walk
inferred r s (all_proved ts) = proved (node r s ts)
inferred r s (one_falsified n a) = falsified (suc n) a

-- the atoms on the left of a sequent all of whose formulas are atoms or falsity and truth
abbrev pub left_atoms : Sequent → Assignment
left_atoms s = without s.left top

abbrev pub by_rule : (Sequent → Walk) → Sequent → Option Rule → Walk
by_rule look s None = falsified 1 (left_atoms s)
by_rule look s (Some r) = inferred r s (walk_each look (premises_from r s 0 (needs r)))

-- how many connectives stand in a sequent
abbrev pub weight : Sequent → ℕ
weight s = sum_by grade_of (set.listing s.left) + sum_by grade_of (set.listing s.right)

-- the search, down to n inferences high
unfoldable pub walk_within : ℕ → Sequent → Walk
walk_within zero s = falsified 0 set.empty
walk_within (suc n) s = by_rule (walk_within n) s (rule_at s)

-- the search. A premise has fewer connectives than the conclusion, so no branch is higher than that
unfoldable pub walk : Sequent → Walk
walk s = walk_within (suc (weight s)) s
