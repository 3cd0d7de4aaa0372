-- The parts of a rule with its formula unfolded: premises, main and auxiliary formulas, eigenvariable.
use Rattle.std.proofs.Common.{◌≡◌, ℕ, zero, suc, ◌^◌, ◌≤◌, true, false, List, [], ◌∷◌, map, Option, Some, None, IfSome, option_map, unwrap_or, refl, sym, ap, ◌∙◌}
use Rattle.fol.specs.Syntax.{Term, free, Formula, not, and, or, imp, all, ex}
use Rattle.fol.specs.Facts.{has_body}
use Rattle.fol.specs.Formed.{is_formed, IsFormed, IsFormedTerm}
use Rattle.substitution.specs.Instance.{inst, nesting}
use Rattle.substitution.proofs.Booleans.{and_left, and_right, and_both}
use Rattle.substitution.proofs.ClosedLaws.{closed_term_of}
use Rattle.lk_rules.specs.declared.sequent.Side.{Side}
use Rattle.lk_rules.specs.declared.sequent.Side.TheVariants.{Left, Right}
use Rattle.lk_rules.specs.declared.rule.Rule.{Rule}
use Rattle.lk_rules.specs.declared.rule.Rule.TheVariants.{Ax, TopR, BotL, NegL, NegR, AndL, AndR, OrL, OrR, ImpL, ImpR, AllL, AllR, ExL, ExR, DefL, DefR, Cut, Weak}
use Rattle.lk_rules.specs.RuleOrder.{formula_of}
use Rattle.lk_rules.specs.Rules.{IsFormedRule, is_unfolding_rule, Extra, on_left, on_right, premises, needs, has_shape, main, extra_at, aux}
use Rattle.proof_trees.specs.Occurrence.{passes}
use Rattle.def_laws.specs.Flat.{flat}
use Rattle.def_laws.specs.Unfolded.{flat_rule}
use Rattle.def_laws.proofs.FlatFormed.{formed_flat}
use Rattle.def_laws.proofs.FlatLaws.{flat-inst_at}
use Rattle.def_laws.proofs.FlatShapes.{body-flat, flat-plain}

pub needs-flat : (r : Rule) → needs (flat_rule r) ≡ needs r
needs-flat (Ax a) = refl
needs-flat r = refl

pub shape-flat : (r : Rule) → has_shape r ≡ true → has_shape (flat_rule r) ≡ true
shape-flat (Ax a) h = refl
shape-flat TopR h = refl
shape-flat BotL h = refl
shape-flat (NegL (not a)) h = refl
shape-flat (NegR (not a)) h = refl
shape-flat (AndL (and a b)) h = refl
shape-flat (AndR (and a b)) h = refl
shape-flat (OrL (or a b)) h = refl
shape-flat (OrR (or a b)) h = refl
shape-flat (ImpL (imp a b)) h = refl
shape-flat (ImpR (imp a b)) h = refl
shape-flat (AllL (all b) t) h = refl
shape-flat (AllR (all b) y) h = refl
shape-flat (ExL (ex b) y) h = refl
shape-flat (ExR (ex b) t) h = refl
shape-flat (DefL a) h = refl
shape-flat (DefR a) h = refl
shape-flat (Cut a) h = refl
shape-flat Weak h = refl
shape-flat r h = cc

-- the main formula

pub main-flat : (r : Rule) (side : Side) → is_unfolding_rule r ≡ false → main (flat_rule r) side ≡ map flat (main r side)
main-flat (Ax a) side p = refl
main-flat (DefL a) side p = cc
main-flat (DefR a) side p = cc
main-flat r Left p = refl
main-flat r Right p = refl

-- the auxiliary formulas

flat_extra : Extra → Extra
flat_extra e = record { left = map flat e.left; right = map flat e.right }

instance-flat : (b : Formula) (t : Term) → IsFormed (all b) → IsFormedTerm t → inst (flat b) t ≡ flat (inst b t)
instance-flat b t body term = sym (flat-inst_at t (closed_term_of t 0 term) b 0 1 body)

one_on_left : (f g : Formula) → f ≡ g → Some (on_left (f ∷ []) ∷ []) ≡ Some (on_left (g ∷ []) ∷ [])
one_on_left f g e = ap (λ (h : Formula). Some (on_left (h ∷ []) ∷ [])) e

one_on_right : (f g : Formula) → f ≡ g → Some (on_right (f ∷ []) ∷ []) ≡ Some (on_right (g ∷ []) ∷ [])
one_on_right f g e = ap (λ (h : Formula). Some (on_right (h ∷ []) ∷ [])) e

premises-flat : (r : Rule) → IsFormedRule r → is_unfolding_rule r ≡ false → has_shape r ≡ true → premises (flat_rule r) ≡ option_map (map flat_extra) (premises r)
unfolding flat_extra
premises-flat (Ax a) h p s = refl
premises-flat TopR h p s = refl
premises-flat BotL h p s = refl
premises-flat (NegL (not a)) h p s = refl
premises-flat (NegR (not a)) h p s = refl
premises-flat (AndL (and a b)) h p s = refl
premises-flat (AndR (and a b)) h p s = refl
premises-flat (OrL (or a b)) h p s = refl
premises-flat (OrR (or a b)) h p s = refl
premises-flat (ImpL (imp a b)) h p s = refl
premises-flat (ImpR (imp a b)) h p s = refl
premises-flat (AllL (all b) t) h p s = one_on_left _ _ (instance-flat b t (and_left _ _ h) (and_right (is_formed (all b)) _ h))
premises-flat (AllR (all b) y) h p s = one_on_right _ _ (instance-flat b (free y) (and_left _ _ h) (and_right (is_formed (all b)) _ h))
premises-flat (ExL (ex b) y) h p s = one_on_left _ _ (instance-flat b (free y) (and_left _ _ h) (and_right (is_formed (ex b)) _ h))
premises-flat (ExR (ex b) t) h p s = one_on_right _ _ (instance-flat b t (and_left _ _ h) (and_right (is_formed (ex b)) _ h))
premises-flat (DefL a) h p s = cc
premises-flat (DefR a) h p s = cc
premises-flat (Cut a) h p s = refl
premises-flat Weak h p s = refl
premises-flat r h p s = cc

extra-flat : (es : List Extra) (i : ℕ) (side : Side) → extra_at (map flat_extra es) i side ≡ map flat (extra_at es i side)
unfolding flat_extra
extra-flat [] i side = refl
extra-flat (e ∷ es) zero Left = refl
extra-flat (e ∷ es) zero Right = refl
extra-flat (e ∷ es) (suc i) side = extra-flat es i side

extra-option : (o : Option (List Extra)) (i : ℕ) (side : Side) → extra_at (unwrap_or (option_map (map flat_extra) o) []) i side ≡ map flat (extra_at (unwrap_or o []) i side)
extra-option None i side = refl
extra-option (Some es) i side = extra-flat es i side

pub aux-flat : (r : Rule) (i : ℕ) (side : Side) → IsFormedRule r → is_unfolding_rule r ≡ false → has_shape r ≡ true → aux (flat_rule r) i side ≡ map flat (aux r i side)
aux-flat r i side h p s = ap (λ o. extra_at (unwrap_or o []) i side) (premises-flat r h p s) ∙ extra-option (premises r) i side

-- it is well formed where few enough quantifiers stand inside one another

pub formed_rule-flat : (r : Rule) → IfSome (formula_of r) (λ a. nesting (flat a) ≤ 2 ^ 32) → IsFormedRule r → IsFormedRule (flat_rule r)
formed_rule-flat (Ax a) few h = formed_flat a few h
formed_rule-flat TopR few h = refl
formed_rule-flat BotL few h = refl
formed_rule-flat (NegL a) few h = formed_flat a few h
formed_rule-flat (NegR a) few h = formed_flat a few h
formed_rule-flat (AndL a) few h = formed_flat a few h
formed_rule-flat (AndR a) few h = formed_flat a few h
formed_rule-flat (OrL a) few h = formed_flat a few h
formed_rule-flat (OrR a) few h = formed_flat a few h
formed_rule-flat (ImpL a) few h = formed_flat a few h
formed_rule-flat (ImpR a) few h = formed_flat a few h
formed_rule-flat (AllL a t) few h = and_both _ _ (formed_flat a few (and_left _ _ h)) (and_right (is_formed a) _ h)
formed_rule-flat (AllR a y) few h = and_both _ _ (formed_flat a few (and_left _ _ h)) (and_right (is_formed a) _ h)
formed_rule-flat (ExL a y) few h = and_both _ _ (formed_flat a few (and_left _ _ h)) (and_right (is_formed a) _ h)
formed_rule-flat (ExR a t) few h = and_both _ _ (formed_flat a few (and_left _ _ h)) (and_right (is_formed a) _ h)
formed_rule-flat (DefL a) few h = refl
formed_rule-flat (DefR a) few h = refl
formed_rule-flat (Cut a) few h = formed_flat a few h
formed_rule-flat Weak few h = refl

-- no predicate symbol with a body

pub unfolding-flat : (r : Rule) → is_unfolding_rule (flat_rule r) ≡ false
unfolding-flat (Ax a) = refl
unfolding-flat r = refl

pub body-flat_rule : (r : Rule) → passes has_body (formula_of (flat_rule r)) ≡ false
body-flat_rule (Ax a) = body-flat a
body-flat_rule TopR = refl
body-flat_rule BotL = refl
body-flat_rule (NegL a) = body-flat a
body-flat_rule (NegR a) = body-flat a
body-flat_rule (AndL a) = body-flat a
body-flat_rule (AndR a) = body-flat a
body-flat_rule (OrL a) = body-flat a
body-flat_rule (OrR a) = body-flat a
body-flat_rule (ImpL a) = body-flat a
body-flat_rule (ImpR a) = body-flat a
body-flat_rule (AllL a t) = body-flat a
body-flat_rule (AllR a y) = body-flat a
body-flat_rule (ExL a y) = body-flat a
body-flat_rule (ExR a t) = body-flat a
body-flat_rule (DefL a) = refl
body-flat_rule (DefR a) = refl
body-flat_rule (Cut a) = body-flat a
body-flat_rule Weak = refl

-- a rule without one that unfolds nothing is left as it is

pub flat-plain_rule : (r : Rule) → is_unfolding_rule r ≡ false → passes has_body (formula_of r) ≡ false → flat_rule r ≡ r
flat-plain_rule (Ax a) p h = ap Ax (flat-plain a h)
flat-plain_rule TopR p h = refl
flat-plain_rule BotL p h = refl
flat-plain_rule (NegL a) p h = ap NegL (flat-plain a h)
flat-plain_rule (NegR a) p h = ap NegR (flat-plain a h)
flat-plain_rule (AndL a) p h = ap AndL (flat-plain a h)
flat-plain_rule (AndR a) p h = ap AndR (flat-plain a h)
flat-plain_rule (OrL a) p h = ap OrL (flat-plain a h)
flat-plain_rule (OrR a) p h = ap OrR (flat-plain a h)
flat-plain_rule (ImpL a) p h = ap ImpL (flat-plain a h)
flat-plain_rule (ImpR a) p h = ap ImpR (flat-plain a h)
flat-plain_rule (AllL a t) p h = ap (λ b. AllL b t) (flat-plain a h)
flat-plain_rule (AllR a y) p h = ap (λ b. AllR b y) (flat-plain a h)
flat-plain_rule (ExL a y) p h = ap (λ b. ExL b y) (flat-plain a h)
flat-plain_rule (ExR a t) p h = ap (λ b. ExR b t) (flat-plain a h)
flat-plain_rule (DefL a) p h = cc
flat-plain_rule (DefR a) p h = cc
flat-plain_rule (Cut a) p h = ap Cut (flat-plain a h)
flat-plain_rule Weak p h = refl
