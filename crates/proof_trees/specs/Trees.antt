-- Proof trees: a rule, a conclusion and the trees of the premises at each node. Where the graph shares parts, the tree repeats them.
--     concl, rule_of, below      the parts of a tree
--     count, first_end, second_end      what an inference sees of its premises
--     IsValid      each node is a right inference by a rule of well-formed parts
--     cut_free, IsCutFree, size, cuts, quants      the cuts of a tree, and how many nodes it has, all, by cut and by quantifier rules
use Rattle.std.specs.Prelude.{◌≡◌, ℕ, zero, suc, ◌+◌, Bool, true, false, if◌then◌else◌, ◌&&◌, not, Option, Some, None, IfSome, Ok}
use Rattle.lk_rules.specs.declared.sequent.Sequent.{Sequent}
use Rattle.lk_rules.specs.declared.rule.Rule.{Rule}
use Rattle.lk_rules.specs.declared.rule.Rule.TheVariants.{AllL, AllR, ExL, ExR, Cut}
use Rattle.lk_rules.specs.Sequents.{IsSubsequent}
use Rattle.lk_rules.specs.Rules.{IsFormedRule, verdict_of}

mutual
  pub data Tree : Type 0 where
    node : Rule → Sequent → Trees → Tree

  pub data Trees : Type 0 where
    none : Trees
    more : Tree → Trees → Trees

-- the conclusion, or end sequent
abbrev pub concl : Tree → Sequent
concl (node r s ts) = s

-- the rule of the last inference
abbrev pub rule_of : Tree → Rule
rule_of (node r s ts) = r

-- the trees of its premises
abbrev pub below : Tree → Trees
below (node r s ts) = ts

-- how many trees there are
abbrev pub count : Trees → ℕ
count none = zero
count (more t ts) = suc (count ts)

-- the conclusions of the first two trees, where they are there
abbrev pub first_end : Trees → Option Sequent
first_end none = None
first_end (more t ts) = Some (concl t)

abbrev pub second_end : Trees → Option Sequent
second_end none = None
second_end (more t ts) = first_end ts

-- each of the premises' conclusions that is there is so
abbrev pub ArePremises : Option Sequent → Option Sequent → (Sequent → Type 0) → Type 0
ArePremises first second P = IfSome first P × IfSome second P

-- the first premise's conclusion is a subsequent of the second's, or neither is there
abbrev pub IsSmaller : Option Sequent → Option Sequent → Type 0
IsSmaller None None = Unit {0}
IsSmaller (Some x) (Some y) = IsSubsequent x y
IsSmaller None (Some y) = ⊥
IsSmaller (Some x) None = ⊥

-- the inference by rule r with the conclusion s from the trees is right, and what the rule names is well formed
pub record IsInference (r : Rule) (s : Sequent) (ts : Trees) : Type 0 where
  pub right : verdict_of r s (count ts) (first_end ts) (second_end ts) ≡ Ok tt
  pub formed : IsFormedRule r

-- at each node the inference is right
abbrev mutual
  pub IsValid : Tree → Type 0
  IsValid (node r s ts) = IsInference r s ts × AllValid ts

  pub AllValid : Trees → Type 0
  AllValid none = Unit {0}
  AllValid (more t ts) = IsValid t × AllValid ts

-- whether the rule is a cut
abbrev pub is_cut : Rule → Bool
is_cut (Cut a) = true
is_cut r = false

-- whether the rule is one of the four for quantifiers
abbrev pub is_quantifier_rule : Rule → Bool
is_quantifier_rule (AllL a t) = true
is_quantifier_rule (AllR a y) = true
is_quantifier_rule (ExL a y) = true
is_quantifier_rule (ExR a t) = true
is_quantifier_rule r = false

-- whether no node is by a cut
abbrev mutual
  pub cut_free : Tree → Bool
  cut_free (node r s ts) = not (is_cut r) && cut_free_all ts

  pub cut_free_all : Trees → Bool
  cut_free_all none = true
  cut_free_all (more t ts) = cut_free t && cut_free_all ts

abbrev pub IsCutFree : Tree → Type 0
IsCutFree t = cut_free t ≡ true

-- how many nodes are by rules that pass a test
abbrev mutual
  pub count_rules : (Rule → Bool) → Tree → ℕ
  count_rules p (node r s ts) = (if p r then 1 else 0) + count_rules_all p ts

  pub count_rules_all : (Rule → Bool) → Trees → ℕ
  count_rules_all p none = 0
  count_rules_all p (more t ts) = count_rules p t + count_rules_all p ts

-- how many nodes the tree has, how many of them are cuts, and how many are by quantifier rules
abbrev pub size : Tree → ℕ
size = count_rules (λ r. true)

abbrev pub cuts : Tree → ℕ
cuts = count_rules is_cut

abbrev pub quants : Tree → ℕ
quants = count_rules is_quantifier_rule
