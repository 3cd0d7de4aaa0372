-- Only equal rules tie.
use Rattle.std.proofs.Common.{◌≡◌, ◌↔◌, ℕ, Bool, ◌==◌, if◌then◌else◌, IsTrue, Option, Some, None, unwrap_or, refl, sym, ap, ◌∙◌}
use Rattle.std.specs.declared.cmp.Ordering.{Ordering}
use Rattle.std.specs.declared.cmp.Ordering.TheVariants.{Less, Equal, Greater}
use Rattle.std.specs.Ordering.{nat_cmp, ordering_then, eq_by_cmp}
use Rattle.std.specs.Option.{option_cmp}
use Rattle.std.proofs.lemmas.Cmp.{ranked}
use Rattle.fol.specs.declared.symbols.Var.{Var}
use Rattle.fol.specs.declared.symbols.Var.TheVariants.{Num}
use Rattle.fol.specs.Syntax.{Term, bound, Formula, top}
use Rattle.fol.specs.Order.{var_cmp, term_cmp, formula_cmp}
use Rattle.fol.proofs.OrderTies.{var_ties, term_ties, formula_ties, order_same, equality_same}
use Rattle.lk_rules.specs.declared.rule.Rule.{Rule}
use Rattle.lk_rules.specs.declared.rule.Rule.TheVariants.{Ax, TopR, BotL, NegL, NegR, AndL, AndR, OrL, OrR, ImpL, ImpR, AllL, AllR, ExL, ExR, DefL, DefR, Cut, Weak}
use Rattle.lk_rules.specs.RuleOrder.{rule_kind, formula_of, term_of, variable_of, rule_cmp, rule_total}

then_ties : (a b : Ordering) → ordering_then a b ≡ Equal → (a ≡ Equal) × (b ≡ Equal)
then_ties Less b h = cc
then_ties Equal b h = (refl, h)
then_ties Greater b h = cc

option_ties : {K : Type 0} (R : K → K → Ordering) → ((x y : K) → R x y ≡ Equal → x ≡ y) → (x y : Option K) → option_cmp R x y ≡ Equal → x ≡ y
option_ties R ties None None h = refl
option_ties R ties None (Some y) h = cc
option_ties R ties (Some x) None h = cc
option_ties R ties (Some x) (Some y) h = ap Some (ties x y h)

-- a rule from its kind and what it names
abbrev rule_from : ℕ → Option Formula → Option Term → Option Var → Rule
rule_from n f t y =
    if n == 0 then Ax (unwrap_or f top) else (
    if n == 1 then TopR else (
    if n == 2 then BotL else (
    if n == 3 then NegL (unwrap_or f top) else (
    if n == 4 then NegR (unwrap_or f top) else (
    if n == 5 then AndL (unwrap_or f top) else (
    if n == 6 then AndR (unwrap_or f top) else (
    if n == 7 then OrL (unwrap_or f top) else (
    if n == 8 then OrR (unwrap_or f top) else (
    if n == 9 then ImpL (unwrap_or f top) else (
    if n == 10 then ImpR (unwrap_or f top) else (
    if n == 11 then AllL (unwrap_or f top) (unwrap_or t (bound 0)) else (
    if n == 12 then AllR (unwrap_or f top) (unwrap_or y (Num 0)) else (
    if n == 13 then ExL (unwrap_or f top) (unwrap_or y (Num 0)) else (
    if n == 14 then ExR (unwrap_or f top) (unwrap_or t (bound 0)) else (
    if n == 15 then DefL (unwrap_or f top) else (
    if n == 16 then DefR (unwrap_or f top) else (
    if n == 17 then Cut (unwrap_or f top) else (
    Weak))))))))))))))))))

rule_from-parts : (r : Rule) → rule_from (rule_kind r) (formula_of r) (term_of r) (variable_of r) ≡ r
rule_from-parts (Ax a) = refl
rule_from-parts TopR = refl
rule_from-parts BotL = refl
rule_from-parts (NegL a) = refl
rule_from-parts (NegR a) = refl
rule_from-parts (AndL a) = refl
rule_from-parts (AndR a) = refl
rule_from-parts (OrL a) = refl
rule_from-parts (OrR a) = refl
rule_from-parts (ImpL a) = refl
rule_from-parts (ImpR a) = refl
rule_from-parts (AllL a t) = refl
rule_from-parts (AllR a y) = refl
rule_from-parts (ExL a y) = refl
rule_from-parts (ExR a t) = refl
rule_from-parts (DefL a) = refl
rule_from-parts (DefR a) = refl
rule_from-parts (Cut a) = refl
rule_from-parts Weak = refl

pub rule_ties : (r q : Rule) → rule_cmp r q ≡ Equal → r ≡ q
rule_ties r q h =
    let kinds = then_ties (nat_cmp (rule_kind r) (rule_kind q)) _ h in
    let formulas = then_ties (option_cmp formula_cmp (formula_of r) (formula_of q)) _ kinds.1 in
    let terms = then_ties (option_cmp term_cmp (term_of r) (term_of q)) _ formulas.1 in
    let kind : rule_kind r ≡ rule_kind q = ranked _ _ Equal (sym kinds.0) in
    let formula = option_ties formula_cmp formula_ties (formula_of r) (formula_of q) formulas.0 in
    let term = option_ties term_cmp term_ties (term_of r) (term_of q) terms.0 in
    let variable = option_ties var_cmp var_ties (variable_of r) (variable_of q) terms.1 in
    sym (rule_from-parts r) ∙ (λ i. rule_from (kind i) (formula i) (term i) (variable i)) ∙ rule_from-parts q

pub rule_order_same : (x y : Rule) (r : Ordering) → r ≡ rule_cmp x y → (r ≡ Equal) ↔ (x ≡ y)
rule_order_same = order_same rule_total rule_ties

pub rule_equality_same : (x y : Rule) (r : Bool) → r ≡ eq_by_cmp rule_cmp x y → IsTrue r ↔ (x ≡ y)
rule_equality_same = equality_same rule_total rule_ties
