-- The auxiliary formulas of a rule, by the key of its formula.
use Rattle.std.proofs.Common.{◌≡◌, ℕ, zero, suc, List, Some, None, refl, sym, ap, ◌∙◌}
use Rattle.fol.specs.Syntax.{Term, pred, undefined, defined, Formula, atom}
use Rattle.substitution.specs.Instance.{inst}
use Rattle.substitution.specs.Unfolding.{unf}
use Rattle.lk_rules.specs.declared.sequent.Sequent.{Sequent}
use Rattle.lk_rules.specs.declared.sequent.Side.TheVariants.{Left, Right}
use Rattle.lk_rules.specs.declared.rule.Rule.{Rule}
use Rattle.lk_rules.specs.declared.rule.Rule.TheVariants as rule
use Rattle.lk_rules.specs.Sequents.{adds_to, extended}
use Rattle.lk_rules.specs.Rules.{aux}
use Rattle.cut_laws.specs.Contraction.{with_aux}
use Rattle.arena_cells.specs.declared.key.RuleKey.{RuleKey}
use Rattle.arena_cells.specs.declared.key.RuleKey.TheVariants.{TopR, BotL, NegL, NegR, AndL, AndR, OrL, OrR, ImpL, ImpR, AllL, AllR, ExL, ExR, DefL, DefR, Cut, Weak}
use Rattle.arena_cells.specs.declared.key.Key.{Key}
use Rattle.arena_cells.specs.declared.key.Key.TheVariants.{Not, And, Or, Imp, All, Ex}
use Rattle.arena_cells.specs.Items.{Item, term}
use Rattle.arena_cells.specs.Standing.{formula_of, formula_at, term_at, variable_at}
use Rattle.arena_cells.specs.Meaning.{meaning, rule_at, HasRuleParts, HasParts, IsKeyAt}
use Rattle.arena_cells.proofs.Staying.{item_is, is_term}
use Rattle.arena_cells.proofs.Reading.{some_same}
use Rattle.arena_proofs.specs.RuleNumbers.{formula_number}
use Rattle.arena_proofs.specs.AuxiliaryNumbers.{first_numbers, second_numbers, IsAuxiliaryAt, with_option, with_numbers}

module _ (a : List Item) where
  pub first_there : (r : RuleKey) (k : Key) → HasRuleParts a r → HasParts a k → IsAuxiliaryAt a (first_numbers r k)
  first_there (NegL f) (Not b) h p = p
  first_there (NegR f) (Not b) h p = p
  first_there (AndL f) (And b c) h p = p
  first_there (AndR f) (And b c) h p = p.0
  first_there (OrL f) (Or b c) h p = p.0
  first_there (OrR f) (Or b c) h p = p
  first_there (ImpL f) (Imp b c) h p = p.0
  first_there (ImpR f) (Imp b c) h p = p
  first_there (AllL f t) (All b) h p = (p, h.1)
  first_there (AllR f y) (All b) h p = (p, h.1 ∙ ap (λ (t : Term). Some (term t)) (sym (is_term a y _ h.1)))
  first_there (ExL f y) (Ex b) h p = (p, h.1 ∙ ap (λ (t : Term). Some (term t)) (sym (is_term a y _ h.1)))
  first_there (ExR f t) (Ex b) h p = (p, h.1)
  first_there (DefL f) k h p = h
  first_there (DefR f) k h p = h
  first_there (Cut f) k h p = h
  first_there r k h p = tt

  pub second_there : (r : RuleKey) (k : Key) → HasRuleParts a r → HasParts a k → IsAuxiliaryAt a (second_numbers r k)
  second_there (AndR f) (And b c) h p = p.1
  second_there (OrL f) (Or b c) h p = p.1
  second_there (ImpL f) (Imp b c) h p = p.1
  second_there (Cut f) k h p = h
  second_there r k h p = tt

  -- the rule whose formula the key means
  abbrev keyed : RuleKey → Key → Rule
  keyed (NegL f) k = rule.NegL (formula_of (meaning a k))
  keyed (NegR f) k = rule.NegR (formula_of (meaning a k))
  keyed (AndL f) k = rule.AndL (formula_of (meaning a k))
  keyed (AndR f) k = rule.AndR (formula_of (meaning a k))
  keyed (OrL f) k = rule.OrL (formula_of (meaning a k))
  keyed (OrR f) k = rule.OrR (formula_of (meaning a k))
  keyed (ImpL f) k = rule.ImpL (formula_of (meaning a k))
  keyed (ImpR f) k = rule.ImpR (formula_of (meaning a k))
  keyed (AllL f t) k = rule.AllL (formula_of (meaning a k)) (term_at a t)
  keyed (AllR f y) k = rule.AllR (formula_of (meaning a k)) (variable_at a y)
  keyed (ExL f y) k = rule.ExL (formula_of (meaning a k)) (variable_at a y)
  keyed (ExR f t) k = rule.ExR (formula_of (meaning a k)) (term_at a t)
  keyed r k = rule_at a r

  module _ (n : ℕ) (k : Key) (here : IsKeyAt a n k) where
    named : (f : ℕ) → Some f ≡ Some n → formula_of (meaning a k) ≡ formula_at a f
    named f e = sym (ap formula_of (item_is a n _ here.stands)) ∙ ap (formula_at a) (sym (some_same f n e))

    keyed_is : (r : RuleKey) → formula_number r ≡ Some n → keyed r k ≡ rule_at a r
    keyed_is (NegL f) e = ap rule.NegL (named f e)
    keyed_is (NegR f) e = ap rule.NegR (named f e)
    keyed_is (AndL f) e = ap rule.AndL (named f e)
    keyed_is (AndR f) e = ap rule.AndR (named f e)
    keyed_is (OrL f) e = ap rule.OrL (named f e)
    keyed_is (OrR f) e = ap rule.OrR (named f e)
    keyed_is (ImpL f) e = ap rule.ImpL (named f e)
    keyed_is (ImpR f) e = ap rule.ImpR (named f e)
    keyed_is (AllL f t) e = ap (λ x. rule.AllL x (term_at a t)) (named f e)
    keyed_is (AllR f y) e = ap (λ x. rule.AllR x (variable_at a y)) (named f e)
    keyed_is (ExL f y) e = ap (λ x. rule.ExL x (variable_at a y)) (named f e)
    keyed_is (ExR f t) e = ap (λ x. rule.ExR x (term_at a t)) (named f e)
    keyed_is r e = refl

  module _ (s : Sequent) where
    -- a rule that unfolds an atom has the unfolding as its auxiliary formula in the first premise, and nothing in a second one
    unfolds : (g : Formula) → (with_option s Left (unf g) ≡ extended s (aux (rule.DefL g) 0)) × (with_option s Right (unf g) ≡ extended s (aux (rule.DefR g) 0))
        × (s ≡ extended s (aux (rule.DefL g) 1)) × (s ≡ extended s (aux (rule.DefR g) 1))
    unfolds (atom (pred q undefined) ts) = (refl, refl, refl, refl)
    unfolds (atom (pred q (defined b)) ts) = (refl, refl, refl, refl)
    unfolds g = (refl, refl, refl, refl)

    first_keyed : (r : RuleKey) (k : Key) → HasRuleParts a r → with_numbers a s (first_numbers r k) ≡ extended s (aux (keyed r k) 0)
    first_keyed (NegL f) (Not b) h = refl
    first_keyed (NegR f) (Not b) h = refl
    first_keyed (AndL f) (And b c) h = refl
    first_keyed (AndR f) (And b c) h = refl
    first_keyed (OrL f) (Or b c) h = refl
    first_keyed (OrR f) (Or b c) h = refl
    first_keyed (ImpL f) (Imp b c) h = refl
    first_keyed (ImpR f) (Imp b c) h = refl
    first_keyed (AllL f t) (All b) h = refl
    first_keyed (AllR f y) (All b) h = ap (λ t. adds_to s Right (inst (formula_at a b) t)) (is_term a y _ h.1)
    first_keyed (ExL f y) (Ex b) h = ap (λ t. adds_to s Left (inst (formula_at a b) t)) (is_term a y _ h.1)
    first_keyed (ExR f t) (Ex b) h = refl
    first_keyed (DefL f) k h = (unfolds (formula_at a f)).0
    first_keyed (DefR f) k h = (unfolds (formula_at a f)).1
    first_keyed (Cut f) k h = refl
    first_keyed r k h = refl

    second_keyed : (r : RuleKey) (k : Key) → with_numbers a s (second_numbers r k) ≡ extended s (aux (keyed r k) 1)
    second_keyed (AndR f) (And b c) = refl
    second_keyed (OrL f) (Or b c) = refl
    second_keyed (ImpL f) (Imp b c) = refl
    second_keyed (Cut f) k = refl
    second_keyed (NegL f) (Not b) = refl
    second_keyed (NegR f) (Not b) = refl
    second_keyed (AndL f) (And b c) = refl
    second_keyed (OrR f) (Or b c) = refl
    second_keyed (ImpR f) (Imp b c) = refl
    second_keyed (AllL f t) (All b) = refl
    second_keyed (AllR f y) (All b) = refl
    second_keyed (ExL f y) (Ex b) = refl
    second_keyed (ExR f t) (Ex b) = refl
    second_keyed (DefL f) k = (unfolds (formula_at a f)).2
    second_keyed (DefR f) k = (unfolds (formula_at a f)).3
    second_keyed r k = refl

    pub first_is : (r : RuleKey) (n : ℕ) (k : Key) → HasRuleParts a r → IsKeyAt a n k → formula_number r ≡ Some n → with_numbers a s (first_numbers r k) ≡ with_aux s (rule_at a r) 0
    unfolding with_aux
    first_is r n k h here e = first_keyed r k h ∙ ap (λ q. extended s (aux q 0)) (keyed_is n k here r e)

    pub second_is : (r : RuleKey) (n : ℕ) (k : Key) → IsKeyAt a n k → formula_number r ≡ Some n → with_numbers a s (second_numbers r k) ≡ with_aux s (rule_at a r) 1
    unfolding with_aux
    second_is r n k here e = second_keyed r k ∙ ap (λ q. extended s (aux q 1)) (keyed_is n k here r e)

    -- a rule that names no formula has no auxiliary formulas
    pub none_is : (r : RuleKey) (i : ℕ) → formula_number r ≡ None → s ≡ with_aux s (rule_at a r) i
    unfolding with_aux
    none_is TopR i e = refl
    none_is BotL i e = refl
    none_is Weak zero e = refl
    none_is Weak (suc i) e = refl
    none_is r i e = cc
