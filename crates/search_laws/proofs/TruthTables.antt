-- The truth tables of the connectives: the main formula of a rule opposes exactly where the auxiliary formulas of some premise do.
use Rattle.std.proofs.Common.{◌≡◌, Bool, true, false, not, ◌&&◌, ◌||◌, refl, sym, ap, ◌∙◌}
use Rattle.std.specs.List.{list_any}
use Rattle.fol.specs.Syntax.{Formula, not as negation, and, or, imp}
use Rattle.lk_rules.specs.declared.sequent.Sequent.{Sequent}
use Rattle.lk_rules.specs.declared.sequent.Side.{Side}
use Rattle.lk_rules.specs.declared.sequent.Side.TheVariants.{Left, Right}
use Rattle.lk_rules.specs.declared.rule.Rule.{Rule}
use Rattle.lk_rules.specs.declared.rule.Rule.TheVariants.{Ax, TopR, BotL, NegL, NegR, AndL, AndR, OrL, OrR, ImpL, ImpR}
use Rattle.lk_rules.specs.Rules.{needs, main, aux}
use Rattle.search_laws.specs.Truth.{Assignment, value, falsifies}
use Rattle.search_laws.specs.Search.{without_main, premises_from}
use Rattle.search_laws.proofs.Passing.{passes, lists_pass, some_from, passes-conclusion, some-premises}
use Rattle.search_laws.proofs.Searched.{is_searched, Fits}

-- whether a formula on a side lets the sequent be false
abbrev pub opposes : Assignment → Side → Formula → Bool
opposes a Left f = value a f
opposes a Right f = not (value a f)

-- a formula on both sides
either_side : (v : Bool) → ((v && true) && (not v && true)) ≡ false
either_side true = refl
either_side false = refl

-- each connective on the left, and on the right
negation_left : (v : Bool) → ((not v && true) && true) ≡ ((true && (not v && true)) || false)
negation_left true = refl
negation_left false = refl

negation_right : (v : Bool) → (true && (not (not v) && true)) ≡ (((v && true) && true) || false)
negation_right true = refl
negation_right false = refl

conjunction_left : (v w : Bool) → (((v && w) && true) && true) ≡ (((v && (w && true)) && true) || false)
conjunction_left true true = refl
conjunction_left true false = refl
conjunction_left false w = refl

conjunction_right : (v w : Bool) → (true && (not (v && w) && true)) ≡ ((true && (not v && true)) || ((true && (not w && true)) || false))
conjunction_right true true = refl
conjunction_right true false = refl
conjunction_right false w = refl

disjunction_left : (v w : Bool) → (((v || w) && true) && true) ≡ (((v && true) && true) || (((w && true) && true) || false))
disjunction_left true w = refl
disjunction_left false true = refl
disjunction_left false false = refl

disjunction_right : (v w : Bool) → (true && (not (v || w) && true)) ≡ ((true && (not v && (not w && true))) || false)
disjunction_right true w = refl
disjunction_right false true = refl
disjunction_right false false = refl

implication_left : (v w : Bool) → (((not v || w) && true) && true) ≡ ((true && (not v && true)) || (((w && true) && true) || false))
implication_left true true = refl
implication_left true false = refl
implication_left false w = refl

implication_right : (v w : Bool) → (true && (not (not v || w) && true)) ≡ (((v && true) && (not w && true)) || false)
implication_right true true = refl
implication_right true false = refl
implication_right false w = refl

-- the table of each rule
table : (a : Assignment) (r : Rule) → is_searched r ≡ true → lists_pass (opposes a) (main r) ≡ some_from (λ i. lists_pass (opposes a) (aux r i)) 0 (needs r)
table a (Ax f) e = either_side (value a f)
table a TopR e = refl
table a BotL e = refl
table a (NegL (negation f)) e = negation_left (value a f)
table a (NegR (negation f)) e = negation_right (value a f)
table a (AndL (and f g)) e = conjunction_left (value a f) (value a g)
table a (AndR (and f g)) e = conjunction_right (value a f) (value a g)
table a (OrL (or f g)) e = disjunction_left (value a f) (value a g)
table a (OrR (or f g)) e = disjunction_right (value a f) (value a g)
table a (ImpL (imp f g)) e = implication_left (value a f) (value a g)
table a (ImpR (imp f g)) e = implication_right (value a f) (value a g)
table a r e = cc

-- an assignment makes a sequent false exactly where it makes a premise false
pub falsifies-premises : (a : Assignment) (r : Rule) (s : Sequent) → Fits r s → falsifies a s ≡ list_any (falsifies a) (premises_from r s 0 (needs r))
falsifies-premises a r s fits =
    passes-conclusion (opposes a) r s fits.stands
    ∙ ap (λ b. passes (opposes a) (without_main r s) && b) (table a r fits.searched)
    ∙ sym (some-premises (opposes a) r s 0 (needs r))
