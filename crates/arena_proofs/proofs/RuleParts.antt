-- What stands at the numbers that a rule names.
use Rattle.std.proofs.Common.{◌≡◌, ℕ, List, Some, None, refl, sym, ap, ◌∙◌, subst}
use Rattle.std.specs.Prelude.{IfSome}
use Rattle.fol.specs.declared.symbols.Var.{Var}
use Rattle.fol.specs.Syntax.{Term, Formula}
use Rattle.lk_rules.specs.declared.rule.Rule.{Rule}
use Rattle.lk_rules.specs.declared.rule.Rule.TheVariants as rule
use Rattle.lk_rules.specs.RuleOrder.{formula_of, term_of, variable_of, map_rule}
use Rattle.arena_cells.specs.declared.key.RuleKey.{RuleKey}
use Rattle.arena_cells.specs.declared.key.RuleKey.TheVariants.{Ax, TopR, BotL, NegL, NegR, AndL, AndR, OrL, OrR, ImpL, ImpR, AllL, AllR, ExL, ExR, DefL, DefR, Cut, Weak}
use Rattle.arena_cells.specs.Items.{Item}
use Rattle.arena_cells.specs.Standing.{Extends, HasFormula, HasTerm, HasVariable, formula_at, term_at, variable_at, IsFormulaAt, IsTermAt, IsVariableAt}
use Rattle.arena_cells.specs.Meaning.{rule_at, HasRuleParts}
use Rattle.arena_cells.proofs.Facts.{formula_there, term_there, variable_there}
use Rattle.arena_cells.proofs.Reading.{some_same}
use Rattle.arena_cells.proofs.Staying.{is_formula, is_term, is_variable}
use Rattle.arena_proofs.specs.RuleNumbers.{formula_number, term_number, eigen_number, key_of}

-- a rule with nothing changed
map_same : (r : Rule) → map_rule (λ x. x) (λ t. t) (λ y. y) r ≡ r
map_same (rule.Ax x) = refl
map_same rule.TopR = refl
map_same rule.BotL = refl
map_same (rule.NegL x) = refl
map_same (rule.NegR x) = refl
map_same (rule.AndL x) = refl
map_same (rule.AndR x) = refl
map_same (rule.OrL x) = refl
map_same (rule.OrR x) = refl
map_same (rule.ImpL x) = refl
map_same (rule.ImpR x) = refl
map_same (rule.AllL x t) = refl
map_same (rule.AllR x y) = refl
map_same (rule.ExL x y) = refl
map_same (rule.ExR x t) = refl
map_same (rule.DefL x) = refl
map_same (rule.DefR x) = refl
map_same (rule.Cut x) = refl
map_same rule.Weak = refl

module _ (a : List Item) where
  -- the formula
  formula_here : (n f : ℕ) → IsFormulaAt a f → Some f ≡ Some n → IsFormulaAt a n × (Some (formula_at a f) ≡ Some (formula_at a n))
  formula_here n f there same =
      let is : f ≡ n = some_same f n same in
      (subst (λ (m : ℕ). IsFormulaAt a m) is there, ap (λ (m : ℕ). Some (formula_at a m)) is)

  pub named_formula : (r : RuleKey) (n : ℕ) → HasRuleParts a r → formula_number r ≡ Some n → IsFormulaAt a n × (formula_of (rule_at a r) ≡ Some (formula_at a n))
  named_formula (Ax f) n h e = formula_here n f h e
  named_formula TopR n h e = absurd (cc)
  named_formula BotL n h e = absurd (cc)
  named_formula (NegL f) n h e = formula_here n f h e
  named_formula (NegR f) n h e = formula_here n f h e
  named_formula (AndL f) n h e = formula_here n f h e
  named_formula (AndR f) n h e = formula_here n f h e
  named_formula (OrL f) n h e = formula_here n f h e
  named_formula (OrR f) n h e = formula_here n f h e
  named_formula (ImpL f) n h e = formula_here n f h e
  named_formula (ImpR f) n h e = formula_here n f h e
  named_formula (AllL f t) n h e = formula_here n f h.0 e
  named_formula (AllR f y) n h e = formula_here n f h.0 e
  named_formula (ExL f y) n h e = formula_here n f h.0 e
  named_formula (ExR f t) n h e = formula_here n f h.0 e
  named_formula (DefL f) n h e = formula_here n f h e
  named_formula (DefR f) n h e = formula_here n f h e
  named_formula (Cut f) n h e = formula_here n f h e
  named_formula Weak n h e = absurd (cc)

  pub no_formula : (r : RuleKey) → formula_number r ≡ None → formula_of (rule_at a r) ≡ None
  no_formula TopR e = refl
  no_formula BotL e = refl
  no_formula Weak e = refl
  no_formula r e = absurd (cc)

  -- the term
  named_term_here : (n t : ℕ) → IsTermAt a t → Some t ≡ Some n → IsTermAt a n × (Some (term_at a t) ≡ Some (term_at a n))
  named_term_here n t there same =
      let is : t ≡ n = some_same t n same in
      (subst (λ (m : ℕ). IsTermAt a m) is there, ap (λ (m : ℕ). Some (term_at a m)) is)

  pub named_term : (r : RuleKey) (n : ℕ) → HasRuleParts a r → term_number r ≡ Some n → IsTermAt a n × (term_of (rule_at a r) ≡ Some (term_at a n))
  named_term (AllL f t) n h e = named_term_here n t h.1 e
  named_term (ExR f t) n h e = named_term_here n t h.1 e
  named_term r n h e = absurd (cc)

  pub no_term : (r : RuleKey) → term_number r ≡ None → term_of (rule_at a r) ≡ None
  no_term (AllL f t) e = absurd (cc)
  no_term (ExR f t) e = absurd (cc)
  no_term r e = refl

  -- the eigenvariable
  eigen_here : (n y : ℕ) → IsVariableAt a y → Some y ≡ Some n → IsVariableAt a n × (Some (variable_at a y) ≡ Some (variable_at a n))
  eigen_here n y there same =
      let is : y ≡ n = some_same y n same in
      (subst (λ (m : ℕ). IsVariableAt a m) is there, ap (λ (m : ℕ). Some (variable_at a m)) is)

  pub named_eigen : (r : RuleKey) (n : ℕ) → HasRuleParts a r → eigen_number r ≡ Some n → IsVariableAt a n × (variable_of (rule_at a r) ≡ Some (variable_at a n))
  named_eigen (AllR f y) n h e = eigen_here n y h.1 e
  named_eigen (ExL f y) n h e = eigen_here n y h.1 e
  named_eigen r n h e = absurd (cc)

  pub no_eigen : (r : RuleKey) → eigen_number r ≡ None → variable_of (rule_at a r) ≡ None
  no_eigen (AllR f y) e = absurd (cc)
  no_eigen (ExL f y) e = absurd (cc)
  no_eigen r e = refl

-- The rule by the numbers m and n, at which what it names stands changed.
module _ (a b : List Item) (grown : Extends a b) (m n : ℕ) where
  module _ (f : Formula → Formula) (g : Term → Term) (h : Var → Var) where
    formula_stands : (x : Formula) → HasFormula a m (f x) → IsFormulaAt b m × (formula_at b m ≡ f x)
    formula_stands x s = (formula_there b m (f x) (grown m _ s), is_formula b m (f x) (grown m _ s))

    term_stands : (t : Term) → HasTerm b n (g t) → IsTermAt b n × (term_at b n ≡ g t)
    term_stands t s = (term_there b n (g t) s, is_term b n (g t) s)

    variable_stands : (y : Var) → HasVariable b n (h y) → IsVariableAt b n × (variable_at b n ≡ h y)
    variable_stands y s = (variable_there b n (h y) s, is_variable b n (h y) s)

    key_mapped : (r : Rule) → IfSome (formula_of r) (λ x. HasFormula a m (f x)) → IfSome (term_of r) (λ t. HasTerm b n (g t)) → IfSome (variable_of r) (λ y. HasVariable b n (h y))
        → HasRuleParts b (key_of r m n) × (rule_at b (key_of r m n) ≡ map_rule f g h r)
    key_mapped (rule.Ax x) main term variable = let p = formula_stands x main in (p.0, ap rule.Ax p.1)
    key_mapped rule.TopR main term variable = (tt, refl)
    key_mapped rule.BotL main term variable = (tt, refl)
    key_mapped (rule.NegL x) main term variable = let p = formula_stands x main in (p.0, ap rule.NegL p.1)
    key_mapped (rule.NegR x) main term variable = let p = formula_stands x main in (p.0, ap rule.NegR p.1)
    key_mapped (rule.AndL x) main term variable = let p = formula_stands x main in (p.0, ap rule.AndL p.1)
    key_mapped (rule.AndR x) main term variable = let p = formula_stands x main in (p.0, ap rule.AndR p.1)
    key_mapped (rule.OrL x) main term variable = let p = formula_stands x main in (p.0, ap rule.OrL p.1)
    key_mapped (rule.OrR x) main term variable = let p = formula_stands x main in (p.0, ap rule.OrR p.1)
    key_mapped (rule.ImpL x) main term variable = let p = formula_stands x main in (p.0, ap rule.ImpL p.1)
    key_mapped (rule.ImpR x) main term variable = let p = formula_stands x main in (p.0, ap rule.ImpR p.1)
    key_mapped (rule.AllL x t) main term variable = let p = formula_stands x main in let q = term_stands t term in ((p.0, q.0), λ i. rule.AllL (p.1 i) (q.1 i))
    key_mapped (rule.AllR x y) main term variable = let p = formula_stands x main in let q = variable_stands y variable in ((p.0, q.0), λ i. rule.AllR (p.1 i) (q.1 i))
    key_mapped (rule.ExL x y) main term variable = let p = formula_stands x main in let q = variable_stands y variable in ((p.0, q.0), λ i. rule.ExL (p.1 i) (q.1 i))
    key_mapped (rule.ExR x t) main term variable = let p = formula_stands x main in let q = term_stands t term in ((p.0, q.0), λ i. rule.ExR (p.1 i) (q.1 i))
    key_mapped (rule.DefL x) main term variable = let p = formula_stands x main in (p.0, ap rule.DefL p.1)
    key_mapped (rule.DefR x) main term variable = let p = formula_stands x main in (p.0, ap rule.DefR p.1)
    key_mapped (rule.Cut x) main term variable = let p = formula_stands x main in (p.0, ap rule.Cut p.1)
    key_mapped rule.Weak main term variable = (tt, refl)

  module _ (k : RuleKey) (r : Rule) (is : k ≡ key_of r m n) where
    pub mapped_there : (f : Formula → Formula) (g : Term → Term) (h : Var → Var) → IfSome (formula_of r) (λ x. HasFormula a m (f x)) → IfSome (term_of r) (λ t. HasTerm b n (g t)) → IfSome (variable_of r) (λ y. HasVariable b n (h y))
        → HasRuleParts b k × (rule_at b k ≡ map_rule f g h r)
    mapped_there f g h main term variable =
        subst (λ (q : RuleKey). HasRuleParts b q × (rule_at b q ≡ map_rule f g h r)) (sym is) (key_mapped f g h r main term variable)

    -- and where nothing is changed
    pub same_there : IfSome (formula_of r) (HasFormula a m) → IfSome (term_of r) (HasTerm b n) → IfSome (variable_of r) (HasVariable b n) → HasRuleParts b k × (rule_at b k ≡ r)
    same_there main term variable =
        let made = mapped_there (λ x. x) (λ t. t) (λ y. y) main term variable in
        (made.0, made.1 ∙ map_same r)
