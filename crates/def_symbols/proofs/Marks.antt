-- What is marked is well formed, and a rule with another formula.
use Rattle.std.proofs.Common.{◌≡◌, true, List, Some, None, Result, Ok, Err, IfOk, refl, sym, ap, subst, ◌∙◌}
use Rattle.std.specs.List.{All, list_all}
use Rattle.std.proofs.lemmas.List.Sums.{list_all-from_AllPass}
use Rattle.fol.specs.Syntax.{Pred, Formula}
use Rattle.fol.specs.Formed.{is_formed, IsFormed, IsFormedPred}
use Rattle.lk_rules.specs.declared.rule.Rule.{Rule}
use Rattle.lk_rules.specs.declared.rule.Rule.TheVariants.{Ax, TopR, BotL, NegL, NegR, AndL, AndR, OrL, OrR, ImpL, ImpR, AllL, AllR, ExL, ExR, DefL, DefR, Cut, Weak}
use Rattle.lk_rules.specs.RuleOrder.{formula_of, map_rule}
use Rattle.lk_rules.specs.Rules.{IsFormedRule}
use Rattle.def_laws.specs.Marking.{marked, marked_rule}
use Rattle.def_laws.proofs.MarkedFormulas.{formed-marked}
use Rattle.def_laws.proofs.MarkedSequents.{formed_marked_rule}

pub formed_mark : (ds : List Pred) (f g : Formula) → All IsFormedPred ds → IsFormed f → g ≡ marked ds f → IsFormed g
formed_mark ds f g each h is = subst (λ x. IsFormed x) (sym is) (formed-marked ds 0 f each h)

pub formed_listing : (fs gs : List Formula) → fs ≡ gs → All IsFormed fs → list_all is_formed gs ≡ true
formed_listing fs gs same each = ap (list_all is_formed) (sym same) ∙ list_all-from_AllPass is_formed fs each

pub formed_mark_rule : (ds : List Pred) (r q : Rule) → All IsFormedPred ds → IsFormedRule r → q ≡ marked_rule ds r → IsFormedRule q
formed_mark_rule ds r q each h is = subst (λ x. IsFormedRule x) (sym is) (formed_marked_rule ds each r h)

pub rule_without : (ds : List Pred) (r : Rule) → formula_of r ≡ None → marked_rule ds r ≡ r
rule_without ds TopR e = refl
rule_without ds BotL e = refl
rule_without ds Weak e = refl
rule_without ds r e = cc

pub rule_with : (ds : List Pred) (r : Rule) (f : Formula) → formula_of r ≡ Some f → map_rule (λ _. marked ds f) (λ t. t) (λ y. y) r ≡ marked_rule ds r
rule_with ds (Ax a) f e = let same : f ≡ a = cc in ap (λ x. Ax (marked ds x)) same
rule_with ds TopR f e = refl
rule_with ds BotL f e = refl
rule_with ds (NegL a) f e = let same : f ≡ a = cc in ap (λ x. NegL (marked ds x)) same
rule_with ds (NegR a) f e = let same : f ≡ a = cc in ap (λ x. NegR (marked ds x)) same
rule_with ds (AndL a) f e = let same : f ≡ a = cc in ap (λ x. AndL (marked ds x)) same
rule_with ds (AndR a) f e = let same : f ≡ a = cc in ap (λ x. AndR (marked ds x)) same
rule_with ds (OrL a) f e = let same : f ≡ a = cc in ap (λ x. OrL (marked ds x)) same
rule_with ds (OrR a) f e = let same : f ≡ a = cc in ap (λ x. OrR (marked ds x)) same
rule_with ds (ImpL a) f e = let same : f ≡ a = cc in ap (λ x. ImpL (marked ds x)) same
rule_with ds (ImpR a) f e = let same : f ≡ a = cc in ap (λ x. ImpR (marked ds x)) same
rule_with ds (AllL a t) f e = let same : f ≡ a = cc in ap (λ x. AllL (marked ds x) t) same
rule_with ds (AllR a y) f e = let same : f ≡ a = cc in ap (λ x. AllR (marked ds x) y) same
rule_with ds (ExL a y) f e = let same : f ≡ a = cc in ap (λ x. ExL (marked ds x) y) same
rule_with ds (ExR a t) f e = let same : f ≡ a = cc in ap (λ x. ExR (marked ds x) t) same
rule_with ds (DefL a) f e = let same : f ≡ a = cc in ap (λ x. DefL (marked ds x)) same
rule_with ds (DefR a) f e = let same : f ≡ a = cc in ap (λ x. DefR (marked ds x)) same
rule_with ds (Cut a) f e = let same : f ≡ a = cc in ap (λ x. Cut (marked ds x)) same
rule_with ds Weak f e = refl

pub formed_rule_answer : {E : Type 0} (ds : List Pred) (r : Rule) → All IsFormedPred ds → IsFormedRule r → (answer : Result Rule E) → IfOk answer (λ q. q ≡ marked_rule ds r) → IfOk answer IsFormedRule
formed_rule_answer ds r each h (Ok q) is = formed_mark_rule ds r q each h is
formed_rule_answer ds r each h (Err e) is = tt
