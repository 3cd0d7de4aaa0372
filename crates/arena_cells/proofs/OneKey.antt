-- Where no thing stands twice, an item has one key.
use Rattle.std.proofs.Common.{◌≡◌, ℕ, List, [], ◌∷◌, cond, false, map, length, get_or, Option, is_some, refl, sym, ap, ◌∙◌, subst, arith}
use Rattle.std.specs.Prelude.{Some}
use Rattle.std.specs.List.{All}
use Rattle.std.specs.Ordering.{nat_cmp, eq_by_cmp, is_eq}
use Rattle.std.specs.Cmp.{tied_itself}
use Rattle.std.specs.declared.cmp.Ordering.TheVariants.{Less}
use Rattle.std.proofs.lemmas.Cmp.{nat_cmp_total}
use Rattle.std.proofs.lemmas.List.Elements.{All-head, All-tail}
use Rattle.finite.specs.Finite as set
use Rattle.finite.proofs.Finite.{same_members}
use Rattle.finite.proofs.Rising.{tail_rises, head_below, below_at, turned_less}
use Rattle.std.specs.FinMap as fin
use Rattle.fol.specs.declared.symbols.Sym.{Sym}
use Rattle.fol.specs.declared.symbols.Var.{Var}
use Rattle.fol.specs.Syntax as fol
use Rattle.fol.specs.Syntax.{Term, Terms, Formula}
use Rattle.fol.specs.Order.{var_cmp}
use Rattle.fol.specs.OrderLaws.{var_total, formula_total}
use Rattle.fol.proofs.OrderTies.{var_ties, formula_ties}
use Rattle.lk_rules.specs.declared.rule.Rule.{Rule}
use Rattle.lk_rules.specs.declared.rule.Rule.TheVariants as rule
use Rattle.proof_trees.specs.Trees.{node, Trees, none, more}
use Rattle.arena_cells.specs.declared.key.RuleKey.{RuleKey}
use Rattle.arena_cells.specs.declared.key.RuleKey.TheVariants.{Ax, TopR, BotL, NegL, NegR, AndL, AndR, OrL, OrR, ImpL, ImpR, AllL, AllR, ExL, ExR, DefL, DefR, Cut, Weak}
use Rattle.arena_cells.specs.declared.key.Parts.{Parts}
use Rattle.arena_cells.specs.declared.key.Parts.TheVariants.{Zero, One, Two}
use Rattle.arena_cells.specs.declared.key.Key.{Key}
use Rattle.arena_cells.specs.declared.key.Key.TheVariants.{Symbol, Free, Bound, App, Nil, Cons, Atom, Defined, Top, Bot, Not, And, Or, Imp, All as Forall, Ex, Variables, Map, Side, Sequent, Tree}
use Rattle.arena_cells.specs.Items.{Item, symbol, term, terms, formula, variables, substitution, side, sequent, tree}
use Rattle.arena_cells.specs.Standing.{Stands, IsDistinct, HasSymbol, HasTerm, HasVariable, HasTerms, HasFormula, HasSide, HasSequent, HasTree, variable_at, term_at, formula_at, IsTermAt, IsVariableAt, IsFormulaAt}
use Rattle.arena_cells.specs.Meaning.{rule_at, trees_at, formulas_of, vars_of, bindings, meaning, HasRuleParts, HasPremises, AreRisingVariables, AreRisingFormulas, AreBindings, HasParts}
use Rattle.arena_cells.proofs.Reading.{some_same}
use Rattle.arena_cells.proofs.Sets.{has-set_of, same_test, one_list}
use Rattle.arena_cells.proofs.Bindings.{value_in, get-bindings, is_some-bindings, same_lengths}

-- q has the numbers of what r names
NamesRule : List Item → Rule → RuleKey → Type 0
NamesRule a (rule.Ax f) q = (m : ℕ) × (q ≡ Ax m) × HasFormula a m f
NamesRule a rule.TopR q = q ≡ TopR
NamesRule a rule.BotL q = q ≡ BotL
NamesRule a (rule.NegL f) q = (m : ℕ) × (q ≡ NegL m) × HasFormula a m f
NamesRule a (rule.NegR f) q = (m : ℕ) × (q ≡ NegR m) × HasFormula a m f
NamesRule a (rule.AndL f) q = (m : ℕ) × (q ≡ AndL m) × HasFormula a m f
NamesRule a (rule.AndR f) q = (m : ℕ) × (q ≡ AndR m) × HasFormula a m f
NamesRule a (rule.OrL f) q = (m : ℕ) × (q ≡ OrL m) × HasFormula a m f
NamesRule a (rule.OrR f) q = (m : ℕ) × (q ≡ OrR m) × HasFormula a m f
NamesRule a (rule.ImpL f) q = (m : ℕ) × (q ≡ ImpL m) × HasFormula a m f
NamesRule a (rule.ImpR f) q = (m : ℕ) × (q ≡ ImpR m) × HasFormula a m f
NamesRule a (rule.AllL f t) q = (m : ℕ) × (n : ℕ) × (q ≡ AllL m n) × HasFormula a m f × HasTerm a n t
NamesRule a (rule.AllR f y) q = (m : ℕ) × (n : ℕ) × (q ≡ AllR m n) × HasFormula a m f × HasVariable a n y
NamesRule a (rule.ExL f y) q = (m : ℕ) × (n : ℕ) × (q ≡ ExL m n) × HasFormula a m f × HasVariable a n y
NamesRule a (rule.ExR f t) q = (m : ℕ) × (n : ℕ) × (q ≡ ExR m n) × HasFormula a m f × HasTerm a n t
NamesRule a (rule.DefL f) q = (m : ℕ) × (q ≡ DefL m) × HasFormula a m f
NamesRule a (rule.DefR f) q = (m : ℕ) × (q ≡ DefR m) × HasFormula a m f
NamesRule a (rule.Cut f) q = (m : ℕ) × (q ≡ Cut m) × HasFormula a m f
NamesRule a rule.Weak q = q ≡ Weak

-- ps has the numbers of the trees
NamesTrees : List Item → Trees → Parts → Type 0
NamesTrees a none ps = ps ≡ Zero
NamesTrees a (more t none) ps = (p : ℕ) × (ps ≡ One p) × HasTree a p t
NamesTrees a (more t (more u us)) ps = (p : ℕ) × (q : ℕ) × (ps ≡ Two p q) × HasTree a p t × HasTree a q u

-- k has the numbers of what the atom is made of
NamesBody : List Item → Sym → fol.Body → Terms → Key → Type 0
NamesBody a s fol.undefined ts k = (m : ℕ) × (n : ℕ) × (k ≡ Atom m n) × HasSymbol a m s × HasTerms a n ts
NamesBody a s (fol.defined f) ts k = (l : ℕ) × (m : ℕ) × (n : ℕ) × (k ≡ Defined l m n) × HasSymbol a l s × HasFormula a m f × HasTerms a n ts

NamesAtom : List Item → fol.Pred → Terms → Key → Type 0
unfolding NamesBody
NamesAtom a (fol.pred s b) ts k = NamesBody a s b ts k

-- k is a key of the item
Names : List Item → Item → Key → Type 0
unfolding NamesRule NamesTrees NamesAtom
Names a (symbol s) k = k ≡ Symbol s
Names a (term (fol.free v)) k = k ≡ Free v
Names a (term (fol.bound i)) k = k ≡ Bound i
Names a (term (fol.app s ts)) k = (m : ℕ) × (n : ℕ) × (k ≡ App m n) × HasSymbol a m s × HasTerms a n ts
Names a (terms fol.nil) k = k ≡ Nil
Names a (terms (fol.cons t ts)) k = (m : ℕ) × (n : ℕ) × (k ≡ Cons m n) × HasTerm a m t × HasTerms a n ts
Names a (formula (fol.atom p ts)) k = NamesAtom a p ts k
Names a (formula fol.top) k = k ≡ Top
Names a (formula fol.bot) k = k ≡ Bot
Names a (formula (fol.not f)) k = (m : ℕ) × (k ≡ Not m) × HasFormula a m f
Names a (formula (fol.and f g)) k = (m : ℕ) × (n : ℕ) × (k ≡ And m n) × HasFormula a m f × HasFormula a n g
Names a (formula (fol.or f g)) k = (m : ℕ) × (n : ℕ) × (k ≡ Or m n) × HasFormula a m f × HasFormula a n g
Names a (formula (fol.imp f g)) k = (m : ℕ) × (n : ℕ) × (k ≡ Imp m n) × HasFormula a m f × HasFormula a n g
Names a (formula (fol.all f)) k = (m : ℕ) × (k ≡ Forall m) × HasFormula a m f
Names a (formula (fol.ex f)) k = (m : ℕ) × (k ≡ Ex m) × HasFormula a m f
Names a (variables vs) k = (ns : List ℕ) × (k ≡ Variables ns) × AreRisingVariables a ns × (vs ≡ vars_of a ns)
Names a (substitution m) k = (vs : List ℕ) × (ts : List ℕ) × (k ≡ Map vs ts) × AreBindings a vs ts × (m ≡ bindings (map (variable_at a) vs) (map (term_at a) ts))
Names a (side s) k = (ns : List ℕ) × (k ≡ Side ns) × AreRisingFormulas a ns × (s ≡ formulas_of a ns)
Names a (sequent e) k = (l : ℕ) × (r : ℕ) × (k ≡ Sequent l r) × HasSide a l e.left × HasSide a r e.right
Names a (tree (node r e ts)) k = (q : RuleKey) × (n : ℕ) × (ps : Parts) × (k ≡ Tree q n ps) × NamesRule a r q × HasSequent a n e × NamesTrees a ts ps

rule_named : (a : List Item) (q : RuleKey) → HasRuleParts a q → NamesRule a (rule_at a q) q
unfolding NamesRule
rule_named a (Ax f) h = (f, refl, h)
rule_named a TopR h = refl
rule_named a BotL h = refl
rule_named a (NegL f) h = (f, refl, h)
rule_named a (NegR f) h = (f, refl, h)
rule_named a (AndL f) h = (f, refl, h)
rule_named a (AndR f) h = (f, refl, h)
rule_named a (OrL f) h = (f, refl, h)
rule_named a (OrR f) h = (f, refl, h)
rule_named a (ImpL f) h = (f, refl, h)
rule_named a (ImpR f) h = (f, refl, h)
rule_named a (AllL f t) h = (f, t, refl, h.0, h.1)
rule_named a (AllR f y) h = (f, y, refl, h.0, h.1)
rule_named a (ExL f y) h = (f, y, refl, h.0, h.1)
rule_named a (ExR f t) h = (f, t, refl, h.0, h.1)
rule_named a (DefL f) h = (f, refl, h)
rule_named a (DefR f) h = (f, refl, h)
rule_named a (Cut f) h = (f, refl, h)
rule_named a Weak h = refl

trees_named : (a : List Item) (ps : Parts) → HasPremises a ps → NamesTrees a (trees_at a ps) ps
unfolding NamesTrees
trees_named a Zero h = refl
trees_named a (One p) h = (p, refl, h)
trees_named a (Two p q) h = (p, q, refl, h.0, h.1)

-- a key whose parts stand is a key of what it means
named : (a : List Item) (k : Key) → HasParts a k → Names a (meaning a k) k
unfolding Names NamesAtom NamesBody
named a (Symbol s) h = refl
named a (Free v) h = refl
named a (Bound i) h = refl
named a (App s ts) h = (s, ts, refl, h.0, h.1)
named a Nil h = refl
named a (Cons t ts) h = (t, ts, refl, h.0, h.1)
named a (Atom s ts) h = (s, ts, refl, h.0, h.1)
named a (Defined s f ts) h = (s, f, ts, refl, h.0, h.1.0, h.1.1)
named a Top h = refl
named a Bot h = refl
named a (Not f) h = (f, refl, h)
named a (And f g) h = (f, g, refl, h.0, h.1)
named a (Or f g) h = (f, g, refl, h.0, h.1)
named a (Imp f g) h = (f, g, refl, h.0, h.1)
named a (Forall f) h = (f, refl, h)
named a (Ex f) h = (f, refl, h)
named a (Variables ns) h = (ns, refl, h, refl)
named a (Map vs ts) h = (vs, ts, refl, h, refl)
named a (Side ns) h = (ns, refl, h, refl)
named a (Sequent l r) h = (l, r, refl, h.0, h.1)
named a (Tree r e ps) h = (r, e, ps, refl, rule_named a r h.0, h.1.0, trees_named a ps h.1.1)

module _ (a : List Item) (distinct : IsDistinct a) where
  -- one number and another of one thing, in the keys that they make
  by_one : {K : Type 0} (make : ℕ → K) (k l : K) (m n : ℕ) (t : Item) → k ≡ make m → Stands a m t → l ≡ make n → Stands a n t → k ≡ l
  by_one make k l m n t e p f q = e ∙ ap make (distinct m n t p q) ∙ sym f

  by_two : {K : Type 0} (make : ℕ → ℕ → K) (k l : K) (m n x y : ℕ) (t u : Item) → k ≡ make m x → Stands a m t → Stands a x u → l ≡ make n y → Stands a n t → Stands a y u → k ≡ l
  by_two make k l m n x y t u e p s f q r = e ∙ (λ i. make (distinct m n t p q i) (distinct x y u s r i)) ∙ sym f

  by_three : {K : Type 0} (make : ℕ → ℕ → ℕ → K) (k l : K) (m n x y z w : ℕ) (t u v : Item) → k ≡ make m x z → Stands a m t → Stands a x u → Stands a z v
      → l ≡ make n y w → Stands a n t → Stands a y u → Stands a w v → k ≡ l
  by_three make k l m n x y z w t u v e p s c f q r d =
      e ∙ (λ i. make (distinct m n t p q i) (distinct x y u s r i) (distinct z w v c d i)) ∙ sym f

  one_rule : (r : Rule) (q p : RuleKey) → NamesRule a r q → NamesRule a r p → q ≡ p
  unfolding NamesRule
  one_rule (rule.Ax f) q p x y = by_one Ax q p x.0 y.0 _ x.1 x.2 y.1 y.2
  one_rule rule.TopR q p x y = x ∙ sym y
  one_rule rule.BotL q p x y = x ∙ sym y
  one_rule (rule.NegL f) q p x y = by_one NegL q p x.0 y.0 _ x.1 x.2 y.1 y.2
  one_rule (rule.NegR f) q p x y = by_one NegR q p x.0 y.0 _ x.1 x.2 y.1 y.2
  one_rule (rule.AndL f) q p x y = by_one AndL q p x.0 y.0 _ x.1 x.2 y.1 y.2
  one_rule (rule.AndR f) q p x y = by_one AndR q p x.0 y.0 _ x.1 x.2 y.1 y.2
  one_rule (rule.OrL f) q p x y = by_one OrL q p x.0 y.0 _ x.1 x.2 y.1 y.2
  one_rule (rule.OrR f) q p x y = by_one OrR q p x.0 y.0 _ x.1 x.2 y.1 y.2
  one_rule (rule.ImpL f) q p x y = by_one ImpL q p x.0 y.0 _ x.1 x.2 y.1 y.2
  one_rule (rule.ImpR f) q p x y = by_one ImpR q p x.0 y.0 _ x.1 x.2 y.1 y.2
  one_rule (rule.AllL f t) q p x y = by_two AllL q p x.0 y.0 x.1 y.1 _ _ x.2 x.3 x.4 y.2 y.3 y.4
  one_rule (rule.AllR f v) q p x y = by_two AllR q p x.0 y.0 x.1 y.1 _ _ x.2 x.3 x.4 y.2 y.3 y.4
  one_rule (rule.ExL f v) q p x y = by_two ExL q p x.0 y.0 x.1 y.1 _ _ x.2 x.3 x.4 y.2 y.3 y.4
  one_rule (rule.ExR f t) q p x y = by_two ExR q p x.0 y.0 x.1 y.1 _ _ x.2 x.3 x.4 y.2 y.3 y.4
  one_rule (rule.DefL f) q p x y = by_one DefL q p x.0 y.0 _ x.1 x.2 y.1 y.2
  one_rule (rule.DefR f) q p x y = by_one DefR q p x.0 y.0 _ x.1 x.2 y.1 y.2
  one_rule (rule.Cut f) q p x y = by_one Cut q p x.0 y.0 _ x.1 x.2 y.1 y.2
  one_rule rule.Weak q p x y = x ∙ sym y

  one_premises : (ts : Trees) (q p : Parts) → NamesTrees a ts q → NamesTrees a ts p → q ≡ p
  unfolding NamesTrees
  one_premises none q p x y = x ∙ sym y
  one_premises (more t none) q p x y = by_one One q p x.0 y.0 _ x.1 x.2 y.1 y.2
  one_premises (more t (more u us)) q p x y = by_two Two q p x.0 y.0 x.1 y.1 _ _ x.2 x.3 x.4 y.2 y.3 y.4

  pub one_variable : (m n : ℕ) → IsVariableAt a m → IsVariableAt a n → variable_at a m ≡ variable_at a n → m ≡ n
  one_variable m n p q e = distinct m n _ p (q ∙ ap (λ v. Some (term (fol.free v))) (sym e))

  pub one_formula : (m n : ℕ) → IsFormulaAt a m → IsFormulaAt a n → formula_at a m ≡ formula_at a n → m ≡ n
  one_formula m n p q e = distinct m n _ p (q ∙ ap (λ f. Some (formula f)) (sym e))

  pub variables_once : (ns ms : List ℕ) → AreRisingVariables a ns → AreRisingVariables a ms → vars_of a ns ≡ vars_of a ms → ns ≡ ms
  variables_once ns ms h g e = one_list var_total var_ties (variable_at a) (IsVariableAt a) one_variable ns ms h.rises g.rises h.members g.members e

  pub formulas_once : (ns ms : List ℕ) → AreRisingFormulas a ns → AreRisingFormulas a ms → formulas_of a ns ≡ formulas_of a ms → ns ≡ ms
  formulas_once ns ms h g e = one_list formula_total formula_ties (formula_at a) (IsFormulaAt a) one_formula ns ms h.rises g.rises h.members g.members e

  pub one_term : (m n : ℕ) → IsTermAt a m → IsTermAt a n → term_at a m ≡ term_at a n → m ≡ n
  one_term m n p q e = distinct m n _ p (q ∙ ap (λ t. Some (term t)) (sym e))

  domains_once : (f : ℕ → Term) (vs ts us ws : List ℕ) → set.IsRising nat_cmp vs → set.IsRising nat_cmp us → All (IsVariableAt a) vs → All (IsVariableAt a) us
      → length vs ≡ length ts → length us ≡ length ws → bindings (map (variable_at a) vs) (map f ts) ≡ bindings (map (variable_at a) us) (map f ws) → vs ≡ us
  domains_once f vs ts us ws up rises h g l k e =
      one_list var_total var_ties (variable_at a) (IsVariableAt a) one_variable vs us up rises h g (
      same_members var_total var_ties _ _ (λ q.
      has-set_of var_total (variable_at a) vs q
      ∙ sym (is_some-bindings (map (variable_at a) vs) (map f ts) q (same_lengths (variable_at a) f vs ts l))
      ∙ ap (λ m. is_some (fin.get m q)) e
      ∙ is_some-bindings (map (variable_at a) us) (map f ws) q (same_lengths (variable_at a) f us ws k)
      ∙ sym (has-set_of var_total (variable_at a) us q)))

  -- the value at the first variable, and at another one
  pub at_first : (v : ℕ) (t : Term) (x : Option Term) → cond (eq_by_cmp var_cmp (variable_at a v) (variable_at a v)) (Some t) x ≡ Some t
  at_first v t x = ap (λ b. cond b (Some t) x) (ap is_eq (tied_itself var_total (variable_at a v)))

  pub at_other : (v m : ℕ) (t : Term) (x : Option Term) → IsVariableAt a v → IsVariableAt a m → nat_cmp v m ≡ Less
      → cond (eq_by_cmp var_cmp (variable_at a m) (variable_at a v)) (Some t) x ≡ x
  at_other v m t x p q below =
      let apart : eq_by_cmp nat_cmp m v ≡ false = ap is_eq (turned_less nat_cmp nat_cmp_total v m below) in
      ap (λ b. cond b (Some t) x) (same_test var_total var_ties (variable_at a) (IsVariableAt a) one_variable m v q p ∙ apart)

  by_values : (vs ts ws : List ℕ) → set.IsRising nat_cmp vs → All (IsVariableAt a) vs → All (IsTermAt a) ts → All (IsTermAt a) ws
      → length vs ≡ length ts → length vs ≡ length ws
      → All (λ m. value_in (map (variable_at a) vs) (map (term_at a) ts) (variable_at a m) ≡ value_in (map (variable_at a) vs) (map (term_at a) ws) (variable_at a m)) vs → ts ≡ ws
  by_values [] [] [] up h p q l k same = refl
  by_values [] (t ∷ ts) ws up h p q l k same = absurd (omega arith)
  by_values [] [] (w ∷ ws) up h p q l k same = absurd (omega arith)
  by_values (v ∷ vs) [] ws up h p q l k same = absurd (omega arith)
  by_values (v ∷ vs) (t ∷ ts) [] up h p q l k same = absurd (omega arith)
  by_values (v ∷ vs) (t ∷ ts) (w ∷ ws) up h p q l k same =
      let here : IsVariableAt a v = All-head (IsVariableAt a) v vs h in
      let first : Some (term_at a t) ≡ Some (term_at a w) =
      sym (at_first v _ _) ∙ All-head (λ m. value_in (map (variable_at a) (v ∷ vs)) (map (term_at a) (t ∷ ts)) (variable_at a m) ≡ value_in (map (variable_at a) (v ∷ vs)) (map (term_at a) (w ∷ ws)) (variable_at a m)) v vs same ∙ at_first v _ _ in
      let number : t ≡ w = one_term t w (All-head (IsTermAt a) t ts p) (All-head (IsTermAt a) w ws q) (some_same _ _ first) in
      let rest : ts ≡ ws = by_values vs ts ws (tail_rises nat_cmp v vs up) (All-tail (IsVariableAt a) v vs h) (All-tail (IsTermAt a) t ts p) (All-tail (IsTermAt a) w ws q) (omega arith) (omega arith) (λ i d within.
      let there : IsVariableAt a (get_or vs i d) = All-tail (IsVariableAt a) v vs h i d within in
      let below : nat_cmp v (get_or vs i d) ≡ Less = below_at nat_cmp v vs (head_below nat_cmp v vs up) i d within in
      sym (at_other v (get_or vs i d) _ _ here there below)
      ∙ All-tail (λ m. value_in (map (variable_at a) (v ∷ vs)) (map (term_at a) (t ∷ ts)) (variable_at a m) ≡ value_in (map (variable_at a) (v ∷ vs)) (map (term_at a) (w ∷ ws)) (variable_at a m)) v vs same i d within
      ∙ at_other v (get_or vs i d) _ _ here there below) in
      λ i. number i ∷ rest i

  values_once : (vs ts ws : List ℕ) → set.IsRising nat_cmp vs → All (IsVariableAt a) vs → All (IsTermAt a) ts → All (IsTermAt a) ws
      → length vs ≡ length ts → length vs ≡ length ws
      → ((q : Var) → fin.get (bindings (map (variable_at a) vs) (map (term_at a) ts)) q ≡ fin.get (bindings (map (variable_at a) vs) (map (term_at a) ws)) q) → ts ≡ ws
  values_once vs ts ws up h p q l k same =
      by_values vs ts ws up h p q l k (λ i d within. sym (get-bindings (map (variable_at a) vs) (map (term_at a) ts) _) ∙ same _ ∙ get-bindings (map (variable_at a) vs) (map (term_at a) ws) _)

  bindings_once : (vs ts us ws : List ℕ) → AreBindings a vs ts → AreBindings a us ws
      → bindings (map (variable_at a) vs) (map (term_at a) ts) ≡ bindings (map (variable_at a) us) (map (term_at a) ws) → Map vs ts ≡ Map us ws
  bindings_once vs ts us ws h g e =
      let first : vs ≡ us = domains_once (term_at a) vs ts us ws h.variables.rises g.variables.rises h.variables.members g.variables.members h.lengths g.lengths e in
      let second : ts ≡ ws = values_once vs ts ws h.variables.rises h.variables.members h.values g.values h.lengths (ap length first ∙ g.lengths) (λ q. ap (λ m. fin.get m q) (e ∙ ap (λ (ns : List ℕ). bindings (map (variable_at a) ns) (map (term_at a) ws)) (sym first))) in
      λ i. Map (first i) (second i)

  one_body : (s : Sym) (b : fol.Body) (ts : Terms) (k l : Key) → NamesBody a s b ts k → NamesBody a s b ts l → k ≡ l
  unfolding NamesBody
  one_body s fol.undefined ts k l x y = by_two Atom k l x.0 y.0 x.1 y.1 _ _ x.2 x.3 x.4 y.2 y.3 y.4
  one_body s (fol.defined f) ts k l x y =
      by_three Defined k l x.0 y.0 x.1 y.1 x.2 y.2 _ _ _ x.3 x.4 x.5 x.6 y.3 y.4 y.5 y.6

  one_atom : (p : fol.Pred) (ts : Terms) (k l : Key) → NamesAtom a p ts k → NamesAtom a p ts l → k ≡ l
  unfolding NamesAtom
  one_atom (fol.pred s b) ts k l x y = one_body s b ts k l x y

  -- a thing has one key
  names_one : (t : Item) (k l : Key) → Names a t k → Names a t l → k ≡ l
  unfolding Names
  names_one (symbol s) k l x y = x ∙ sym y
  names_one (term (fol.free v)) k l x y = x ∙ sym y
  names_one (term (fol.bound i)) k l x y = x ∙ sym y
  names_one (term (fol.app s ts)) k l x y = by_two App k l x.0 y.0 x.1 y.1 _ _ x.2 x.3 x.4 y.2 y.3 y.4
  names_one (terms fol.nil) k l x y = x ∙ sym y
  names_one (terms (fol.cons t ts)) k l x y = by_two Cons k l x.0 y.0 x.1 y.1 _ _ x.2 x.3 x.4 y.2 y.3 y.4
  names_one (formula (fol.atom p ts)) k l x y = one_atom p ts k l x y
  names_one (formula fol.top) k l x y = x ∙ sym y
  names_one (formula fol.bot) k l x y = x ∙ sym y
  names_one (formula (fol.not f)) k l x y = by_one Not k l x.0 y.0 _ x.1 x.2 y.1 y.2
  names_one (formula (fol.and f g)) k l x y = by_two And k l x.0 y.0 x.1 y.1 _ _ x.2 x.3 x.4 y.2 y.3 y.4
  names_one (formula (fol.or f g)) k l x y = by_two Or k l x.0 y.0 x.1 y.1 _ _ x.2 x.3 x.4 y.2 y.3 y.4
  names_one (formula (fol.imp f g)) k l x y = by_two Imp k l x.0 y.0 x.1 y.1 _ _ x.2 x.3 x.4 y.2 y.3 y.4
  names_one (formula (fol.all f)) k l x y = by_one Forall k l x.0 y.0 _ x.1 x.2 y.1 y.2
  names_one (formula (fol.ex f)) k l x y = by_one Ex k l x.0 y.0 _ x.1 x.2 y.1 y.2
  names_one (variables vs) k l x y = x.1 ∙ ap Variables (variables_once x.0 y.0 x.2 y.2 (sym x.3 ∙ y.3)) ∙ sym y.1
  names_one (substitution m) k l x y = x.2 ∙ bindings_once x.0 x.1 y.0 y.1 x.3 y.3 (sym x.4 ∙ y.4) ∙ sym y.2
  names_one (side s) k l x y = x.1 ∙ ap Side (formulas_once x.0 y.0 x.2 y.2 (sym x.3 ∙ y.3)) ∙ sym y.1
  names_one (sequent e) k l x y = by_two Sequent k l x.0 y.0 x.1 y.1 _ _ x.2 x.3 x.4 y.2 y.3 y.4
  names_one (tree (node r e ts)) k l x y =
      x.3 ∙ (λ i. Tree (one_rule r x.0 y.0 x.4 y.4 i) (distinct x.1 y.1 _ x.5 y.5 i) (one_premises ts x.2 y.2 x.6 y.6 i)) ∙ sym y.3

  pub one_key : (k l : Key) → HasParts a k → HasParts a l → meaning a k ≡ meaning a l → k ≡ l
  one_key k l h g e = names_one (meaning a l) k l (subst (λ (t : Item). Names a t k) e (named a k h)) (named a l g)
