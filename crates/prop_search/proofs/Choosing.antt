-- The rule that is taken, by what is found first.
use Rattle.std.proofs.Common.{◌≡◌, Bool, true, Option, Some, None, refl, sym, if◌then◌else◌}
use Rattle.std.specs.Prelude.{find, option_map, option_and_then}
use Rattle.fol.specs.Syntax.{Formula, top, bot, not, and, or, imp}
use Rattle.finite.specs.Finite as set
use Rattle.lk_rules.specs.declared.sequent.Sequent.{Sequent}
use Rattle.lk_rules.specs.declared.rule.Rule.{Rule}
use Rattle.lk_rules.specs.declared.rule.Rule.TheVariants.{Ax, TopR, BotL}
use Rattle.search_laws.specs.Search.{left_rule, right_rule, is_compound, or_else, rule_at}

-- the rule by a formula on both sides, truth, falsity, and compound formulas
abbrev pub rule_by : Option Formula → Bool → Bool → Option Formula → Option Formula → Option Rule
rule_by a t b l r =
    or_else (option_map Ax a) (or_else (if t then Some TopR else None) (or_else (if b then Some BotL else None) (or_else (option_and_then left_rule l) (option_and_then right_rule r))))

pub taken : (s : Sequent) (a : Option Formula) (t b : Bool) (l r : Option Formula) → a ≡ find (set.has s.right) (set.listing s.left) → t ≡ set.has s.right top → b ≡ set.has s.left bot
    → l ≡ find is_compound (set.listing s.left) → r ≡ find is_compound (set.listing s.right) → rule_at s ≡ rule_by a t b l r
unfolding rule_at
taken s a t b l r is_a is_t is_b is_l is_r = λ i. rule_by (sym is_a i) (sym is_t i) (sym is_b i) (sym is_l i) (sym is_r i)

pub left_first : (f : Formula) (later : Option Rule) → is_compound f ≡ true → or_else (left_rule f) later ≡ left_rule f
left_first (not f) later e = refl
left_first (and f g) later e = refl
left_first (or f g) later e = refl
left_first (imp f g) later e = refl
left_first f later e = cc
