-- A clause is a formula whose tokens stand where a clause has them.
use Rattle.std.proofs.Common.{◌≡◌, ℕ, zero, suc, Bool, true, false, List, [], ◌∷◌, ◌⊎◌, inl, inr, Some, None, refl, sym, ◌∙◌}
use Rattle.fol.specs.Syntax.{Term, app, Terms, plain, Formula, atom, not, or}
use Rattle.tptp_tokens.specs.declared.tokens.ChainOperator.{ChainOperator}
use Rattle.tptp_tokens.specs.declared.tokens.ChainOperator.TheVariants.{And, Or}
use Rattle.tptp_tokens.specs.declared.tokens.BinaryOperator.{BinaryOperator}
use Rattle.tptp_tokens.specs.declared.tokens.Token.{Token}
use Rattle.tptp_tokens.specs.declared.tokens.Token.TheVariants.{Truth, Equality, Negation as Tilde, Chain, Binary, Open, Close, Comma}
use Rattle.tptp_read.specs.declared.state.Limits.{Limits}
use Rattle.tptp_read.specs.Meaning.{equation}
use Rattle.tptp_read.specs.Grammar.{IsTerm, variable, constant, applied, IsArguments, last_argument, argument, IsUnit, truth_value, predicate, equality, negation, group, quantifier, IsFormula, alone, binary, chain, IsMembers, last_member, member}
use Rattle.tptp_problem.specs.declared.clause_places.AtomPlace.{AtomPlace}
use Rattle.tptp_problem.specs.declared.clause_places.AtomPlace.TheVariants.{Positive, Negative, Grouped}
use Rattle.tptp_problem.specs.declared.clause_places.ClausePlace.{ClausePlace}
use Rattle.tptp_problem.specs.declared.clause_places.ClausePlace.TheVariants.{Clause, Literal, Negation, NegatedGroup, Atom, BehindLiteral, BehindGroup}
use Rattle.tptp_problem.specs.ClausePlaces.{place_behind}
use Rattle.tptp_problem.specs.Clauses as clauses
use Rattle.tptp_problem.specs.Clauses.{IsAtom, IsLiteral, falsity, positive, negative, negative_group, inequality, IsLiterals, last_literal, literal, IsClause}

-- whether a clause has the tokens from a place on
abbrev pub accepts : ClausePlace → List Token → Bool
accepts p [] = true
accepts p (t ∷ ts) = elim (place_behind p t) [ None ↦ false | Some q ↦ accepts q ts ]

module _ (lim : Limits) where
  -- a term leaves the place
  mutual
    term_place : (a : AtomPlace) (n l : ℕ) (ts us : List Token) (x : Term) → IsTerm lim l ts x us → accepts (Atom a n) ts ≡ accepts (Atom a n) us
    term_place a zero l ts us x (variable l' us' v) = refl
    term_place a (suc n) l ts us x (variable l' us' v) = refl
    term_place a zero l ts us x (constant l' us' y) = refl
    term_place a (suc n) l ts us x (constant l' us' y) = refl
    term_place a zero l ts us x (applied l' ts' us' y xs args) = arguments_place a 0 l' ts' us' xs args
    term_place a (suc n) l ts us x (applied l' ts' us' y xs args) = arguments_place a (suc n) l' ts' us' xs args

    arguments_place : (a : AtomPlace) (n l : ℕ) (ts us : List Token) (xs : Terms) → IsArguments lim l ts xs us → accepts (Atom a (suc n)) ts ≡ accepts (Atom a n) us
    arguments_place a n l ts us xs (last_argument l' ts' us' t u) = term_place a (suc n) l' ts' (Close ∷ us') t u
    arguments_place a n l ts us xs (argument l' ts' us' vs' t ys u rest) = term_place a (suc n) l' ts' (Comma ∷ us') t u ∙ arguments_place a n l' us' vs' ys rest

  -- where an atom begins
  abbrev begins : AtomPlace → ClausePlace
  begins Positive = Literal
  begins Negative = Negation
  begins Grouped = NegatedGroup

  term_begins : (a : AtomPlace) (l : ℕ) (ts us : List Token) (x : Term) → IsTerm lim l ts x us → accepts (begins a) ts ≡ accepts (Atom a 0) us
  term_begins Positive l ts us x (variable l' us' v) = refl
  term_begins Negative l ts us x (variable l' us' v) = refl
  term_begins Grouped l ts us x (variable l' us' v) = refl
  term_begins Positive l ts us x (constant l' us' y) = refl
  term_begins Negative l ts us x (constant l' us' y) = refl
  term_begins Grouped l ts us x (constant l' us' y) = refl
  term_begins Positive l ts us x (applied l' ts' us' y xs args) = arguments_place Positive 0 l' ts' us' xs args
  term_begins Negative l ts us x (applied l' ts' us' y xs args) = arguments_place Negative 0 l' ts' us' xs args
  term_begins Grouped l ts us x (applied l' ts' us' y xs args) = arguments_place Grouped 0 l' ts' us' xs args

  term_clause : (l : ℕ) (ts us : List Token) (x : Term) → IsTerm lim l ts x us → accepts Clause ts ≡ accepts Literal ts
  term_clause l ts us x (variable l' us' v) = refl
  term_clause l ts us x (constant l' us' y) = refl
  term_clause l ts us x (applied l' ts' us' y xs args) = refl

  -- the sign of an equation
  sign_place : (a : AtomPlace) (us : List Token) → accepts (Atom a 0) (Equality true ∷ us) ≡ accepts (Atom a 0) us
  sign_place a us = refl

  equation_place : (a : AtomPlace) (l : ℕ) (ts us vs : List Token) (s t : Term) → IsTerm lim l ts s (Equality true ∷ us) → IsTerm lim l us t vs → accepts (begins a) ts ≡ accepts (Atom a 0) vs
  equation_place a l ts us vs s t x y = term_begins a l ts (Equality true ∷ us) s x ∙ (sign_place a us ∙ term_place a 0 l us vs t y)

  -- what stands behind a literal
  abbrev Behind : List Token → Type 0
  Behind us = (accepts (Atom Positive 0) us ≡ true) ⊎ ((accepts (Atom Negative 0) us ≡ true) ⊎ (accepts BehindLiteral us ≡ true))

  behind_or : (us : List Token) → Behind (Chain Or ∷ us) → accepts Literal us ≡ true
  behind_or us (inl p) = p
  behind_or us (inr (inl p)) = p
  behind_or us (inr (inr p)) = p

  behind_and : (us : List Token) → Behind (Chain And ∷ us) → ⊥
  behind_and us (inl p) = cc
  behind_and us (inr (inl p)) = cc
  behind_and us (inr (inr p)) = cc

  behind_binary : (b : BinaryOperator) (us : List Token) → Behind (Binary b ∷ us) → ⊥
  behind_binary b us (inl p) = cc
  behind_binary b us (inr (inl p)) = cc
  behind_binary b us (inr (inr p)) = cc

  behind_close : (us : List Token) → Behind (Close ∷ us) → accepts BehindGroup us ≡ true
  behind_close us (inl p) = p
  behind_close us (inr (inl p)) = p
  behind_close us (inr (inr p)) = p

  -- an atom behind `~ (`
  grouped_unit : (l : ℕ) (ts us : List Token) (f : Formula) → IsUnit lim l ts f us → accepts NegatedGroup ts ≡ true → IsAtom lim l ts f us × (accepts (Atom Grouped 0) us ≡ true)
  grouped_unit l ts us f (truth_value l' us' b) p = cc
  grouped_unit l ts us f (predicate l' ts' us' s xs t) p = (clauses.predicate l' ts' us' s xs t, sym (term_begins Grouped l' ts' us' (app s xs) t) ∙ p)
  grouped_unit l ts us f (equality l' ts' us' vs' true s t x y) p = (clauses.equality l' ts' us' vs' s t x y, sym (equation_place Grouped l' ts' us' vs' s t x y) ∙ p)
  grouped_unit l ts us f (equality l' ts' us' vs' false s t x y) p = let q : accepts (Atom Grouped 0) (Equality false ∷ us') ≡ true = sym (term_begins Grouped l' ts' (Equality false ∷ us') s x) ∙ p in cc
  grouped_unit l ts us f (negation l' ts' us' g u) p = cc
  grouped_unit l ts us f (group l' ts' us' g u) p = cc
  grouped_unit l ts us f (quantifier l' ts' us' q g u) p = cc

  grouped_formula : (l : ℕ) (ts us : List Token) (f : Formula) → IsFormula lim l ts f us → accepts NegatedGroup ts ≡ true → IsAtom lim l ts f us × (accepts (Atom Grouped 0) us ≡ true)
  grouped_formula l ts us f (alone l' ts' us' g u) p = grouped_unit l' ts' us' g u p
  grouped_formula l ts us f (binary l' ts' us' vs' b g h u v) p = let one = grouped_unit l' ts' (Binary b ∷ us') g u p in let q : accepts (Atom Grouped 0) (Binary b ∷ us') ≡ true = one.1 in cc
  grouped_formula l ts us f (chain l' ts' us' vs' c g h u rest) p = let one = grouped_unit l' ts' (Chain c ∷ us') g u p in let q : accepts (Atom Grouped 0) (Chain c ∷ us') ≡ true = one.1 in cc

  -- what stands behind `~`
  negated_unit : (l : ℕ) (ts us : List Token) (f : Formula) → IsUnit lim l ts f us → accepts Negation ts ≡ true → IsLiteral lim (suc l) (Tilde ∷ ts) (not f) us × Behind us
  negated_unit l ts us f (truth_value l' us' b) p = cc
  negated_unit l ts us f (predicate l' ts' us' s xs t) p = (negative l' ts' us' (atom (plain s) xs) (clauses.predicate l' ts' us' s xs t), inr (inl (sym (term_begins Negative l' ts' us' (app s xs) t) ∙ p)))
  negated_unit l ts us f (equality l' ts' us' vs' true s t x y) p = (negative l' ts' vs' (equation true s t) (clauses.equality l' ts' us' vs' s t x y), inr (inl (sym (equation_place Negative l' ts' us' vs' s t x y) ∙ p)))
  negated_unit l ts us f (equality l' ts' us' vs' false s t x y) p = let q : accepts (Atom Negative 0) (Equality false ∷ us') ≡ true = sym (term_begins Negative l' ts' (Equality false ∷ us') s x) ∙ p in cc
  negated_unit l ts us f (negation l' ts' us' g u) p = cc
  negated_unit l ts us f (group l' ts' us' g u) p = let one = grouped_formula l' ts' (Close ∷ us') g u p in (negative_group l' ts' us' g one.0, inr (inr one.1))
  negated_unit l ts us f (quantifier l' ts' us' q g u) p = cc

  literal_unit : (l : ℕ) (ts us : List Token) (f : Formula) → IsUnit lim l ts f us → accepts Literal ts ≡ true → IsLiteral lim l ts f us × Behind us
  literal_unit l ts us f (truth_value l' us' true) p = cc
  literal_unit l ts us f (truth_value l' us' false) p = (falsity l' us', inr (inr p))
  literal_unit l ts us f (predicate l' ts' us' s xs t) p = (positive l' ts' us' (atom (plain s) xs) (clauses.predicate l' ts' us' s xs t), inl (sym (term_begins Positive l' ts' us' (app s xs) t) ∙ p))
  literal_unit l ts us f (equality l' ts' us' vs' true s t x y) p = (positive l' ts' vs' (equation true s t) (clauses.equality l' ts' us' vs' s t x y), inl (sym (equation_place Positive l' ts' us' vs' s t x y) ∙ p))
  literal_unit l ts us f (equality l' ts' us' vs' false s t x y) p =
      (inequality l' ts' us' vs' s t x y, inl (sym (term_place Positive 0 l' us' vs' t y) ∙ (sym (term_begins Positive l' ts' (Equality false ∷ us') s x) ∙ p)))
  literal_unit l ts us f (negation l' ts' us' g u) p = negated_unit l' ts' us' g u p
  literal_unit l ts us f (group l' ts' us' g u) p = cc
  literal_unit l ts us f (quantifier l' ts' us' q g u) p = cc

  literal_members : (c : ChainOperator) (l n : ℕ) (f h : Formula) (ts us : List Token) → c ≡ Or → IsMembers lim c l n f ts h us → accepts Literal ts ≡ true → IsLiterals lim l n f ts h us × Behind us
  literal_members And l n f h ts us is m p = cc
  literal_members Or l n f h ts us is (last_member c' l' n' f' g' ts' us' fits u) p = let one = literal_unit l' ts' us' g' u p in (last_literal l' n' f' g' ts' us' fits one.0, one.1)
  literal_members Or l n f h ts us is (member c' l' n' f' g' h' ts' us' vs' fits u rest) p =
      let one = literal_unit l' ts' (Chain Or ∷ us') g' u p in
      let more = literal_members Or l' (suc n') (or f' g') h' us' vs' refl rest (behind_or us' one.1) in
      (literal l' n' f' g' h' ts' us' vs' fits one.0 more.0, more.1)

  -- what stands behind a clause
  abbrev BehindClause : List Token → Type 0
  BehindClause us = Behind us ⊎ (accepts BehindGroup us ≡ true)

  clause_close : (us : List Token) → BehindClause (Close ∷ us) → accepts BehindGroup us ≡ true
  clause_close us (inl p) = behind_close us p
  clause_close us (inr p) = p

  -- a unit is a literal, or a clause in parentheses
  abbrev UnitIs : ℕ → List Token → Formula → List Token → Type 0
  UnitIs l ts f us = (IsLiteral lim l ts f us × Behind us) ⊎ (IsClause lim l ts f us × (accepts BehindGroup us ≡ true))

  unit_alone : (l : ℕ) (ts us : List Token) (f : Formula) → UnitIs l ts f us → IsClause lim l ts f us × BehindClause us
  unit_alone l ts us f (inl (d, b)) = (clauses.alone l ts us f d, inl b)
  unit_alone l ts us f (inr (d, b)) = (d, inr b)

  unit_binary : (l : ℕ) (ts us : List Token) (f : Formula) (b : BinaryOperator) → UnitIs l ts f (Binary b ∷ us) → ⊥
  unit_binary l ts us f b (inl (d, p)) = behind_binary b us p
  unit_binary l ts us f b (inr (d, p)) = cc

  unit_chain : (l : ℕ) (ts us vs : List Token) (c : ChainOperator) (f g : Formula) → UnitIs l ts f (Chain c ∷ us) → IsMembers lim c l 1 f us g vs → IsClause lim l ts g vs × BehindClause vs
  unit_chain l ts us vs And f g (inl (d, p)) rest = absurd (behind_and us p)
  unit_chain l ts us vs Or f g (inl (d, p)) rest = let more = literal_members Or l 1 f g us vs refl rest (behind_or us p) in (clauses.chain l ts us vs f g d more.0, inl more.1)
  unit_chain l ts us vs c f g (inr (d, p)) rest = cc

  mutual
    clause_unit : (l : ℕ) (ts us : List Token) (f : Formula) → IsUnit lim l ts f us → accepts Clause ts ≡ true → UnitIs l ts f us
    clause_unit l ts us f (truth_value l' us' b) p = inl (literal_unit l' (Truth b ∷ us') us' f (truth_value l' us' b) p)
    clause_unit l ts us f (predicate l' ts' us' s xs t) p = inl (literal_unit l' ts' us' (atom (plain s) xs) (predicate l' ts' us' s xs t) (sym (term_clause l' ts' us' (app s xs) t) ∙ p))
    clause_unit l ts us f (equality l' ts' us' vs' sign s t x y) p = inl (literal_unit l' ts' vs' (equation sign s t) (equality l' ts' us' vs' sign s t x y) (sym (term_clause l' ts' (Equality sign ∷ us') s x) ∙ p))
    clause_unit l ts us f (negation l' ts' us' g u) p = inl (negated_unit l' ts' us' g u p)
    clause_unit l ts us f (group l' ts' us' g u) p = let one = clause_formula l' ts' (Close ∷ us') g u p in inr (clauses.group l' ts' us' g one.0, clause_close us' one.1)
    clause_unit l ts us f (quantifier l' ts' us' q g u) p = cc

    clause_formula : (l : ℕ) (ts us : List Token) (f : Formula) → IsFormula lim l ts f us → accepts Clause ts ≡ true → IsClause lim l ts f us × BehindClause us
    clause_formula l ts us f (alone l' ts' us' g u) p = unit_alone l' ts' us' g (clause_unit l' ts' us' g u p)
    clause_formula l ts us f (binary l' ts' us' vs' b g h u v) p = absurd (unit_binary l' ts' us' g b (clause_unit l' ts' (Binary b ∷ us') g u p))
    clause_formula l ts us f (chain l' ts' us' vs' c g h u rest) p = unit_chain l' ts' us' vs' c g h (clause_unit l' ts' (Chain c ∷ us') g u p) rest

  -- tokens of a formula that stand where a clause has them are a clause
  pub clause_of : (l : ℕ) (ts : List Token) (f : Formula) → IsFormula lim l ts f [] → accepts Clause ts ≡ true → IsClause lim l ts f []
  clause_of l ts f d p = (clause_formula l ts [] f d p).0

  -- a clause is a formula
  atom_unit : (l : ℕ) (ts us : List Token) (f : Formula) → IsAtom lim l ts f us → IsUnit lim l ts f us
  atom_unit l ts us f (clauses.predicate l' ts' us' s xs t) = predicate l' ts' us' s xs t
  atom_unit l ts us f (clauses.equality l' ts' us' vs' s t x y) = equality l' ts' us' vs' true s t x y

  unit_of_literal : (l : ℕ) (ts us : List Token) (f : Formula) → IsLiteral lim l ts f us → IsUnit lim l ts f us
  unit_of_literal l ts us f (falsity l' us') = truth_value l' us' false
  unit_of_literal l ts us f (positive l' ts' us' g a) = atom_unit l' ts' us' g a
  unit_of_literal l ts us f (negative l' ts' us' g a) = negation l' ts' us' g (atom_unit l' ts' us' g a)
  unit_of_literal l ts us f (negative_group l' ts' us' g a) = negation (suc l') (Open ∷ ts') us' g (group l' ts' us' g (alone l' ts' (Close ∷ us') g (atom_unit l' ts' (Close ∷ us') g a)))
  unit_of_literal l ts us f (inequality l' ts' us' vs' s t x y) = equality l' ts' us' vs' false s t x y

  members_of : (l n : ℕ) (f h : Formula) (ts us : List Token) → IsLiterals lim l n f ts h us → IsMembers lim Or l n f ts h us
  members_of l n f h ts us (last_literal l' n' f' g' ts' us' fits d) = last_member Or l' n' f' g' ts' us' fits (unit_of_literal l' ts' us' g' d)
  members_of l n f h ts us (literal l' n' f' g' h' ts' us' vs' fits d rest) =
      member Or l' n' f' g' h' ts' us' vs' fits (unit_of_literal l' ts' (Chain Or ∷ us') g' d) (members_of l' (suc n') (or f' g') h' us' vs' rest)

  pub formula_of_clause : (l : ℕ) (ts us : List Token) (f : Formula) → IsClause lim l ts f us → IsFormula lim l ts f us
  formula_of_clause l ts us f (clauses.group l' ts' us' g d) = alone (suc l') (Open ∷ ts') us' g (group l' ts' us' g (formula_of_clause l' ts' (Close ∷ us') g d))
  formula_of_clause l ts us f (clauses.alone l' ts' us' g d) = alone l' ts' us' g (unit_of_literal l' ts' us' g d)
  formula_of_clause l ts us f (clauses.chain l' ts' us' vs' g h d rest) = chain l' ts' us' vs' Or g h (unit_of_literal l' ts' (Chain Or ∷ us') g d) (members_of l' 1 g h us' vs' rest)

  -- the tokens of a clause stand where a clause has them
  abbrev MayFollow : List Token → Type 0
  MayFollow [] = Unit {0}
  MayFollow (Chain Or ∷ us) = Unit {0}
  MayFollow (Close ∷ us) = Unit {0}
  MayFollow us = ⊥

  -- behind an atom as behind any literal
  positive_follows : (us : List Token) → MayFollow us → accepts (Atom Positive 0) us ≡ accepts BehindLiteral us
  positive_follows [] m = refl
  positive_follows (Chain Or ∷ us) m = refl
  positive_follows (Chain And ∷ us) m = absurd m
  positive_follows (Close ∷ us) m = refl
  positive_follows (t ∷ us) m = absurd m

  negative_follows : (us : List Token) → MayFollow us → accepts (Atom Negative 0) us ≡ accepts BehindLiteral us
  negative_follows [] m = refl
  negative_follows (Chain Or ∷ us) m = refl
  negative_follows (Chain And ∷ us) m = absurd m
  negative_follows (Close ∷ us) m = refl
  negative_follows (t ∷ us) m = absurd m

  atom_place : (a : AtomPlace) (l : ℕ) (ts us : List Token) (f : Formula) → IsAtom lim l ts f us → accepts (begins a) ts ≡ accepts (Atom a 0) us
  atom_place a l ts us f (clauses.predicate l' ts' us' s xs t) = term_begins a l' ts' us' (app s xs) t
  atom_place a l ts us f (clauses.equality l' ts' us' vs' s t x y) = equation_place a l' ts' us' vs' s t x y

  -- behind `~` an atom begins that isn't in parentheses
  literal_place : (l : ℕ) (ts us : List Token) (f : Formula) → IsLiteral lim l ts f us → MayFollow us → accepts Literal ts ≡ accepts BehindLiteral us
  literal_place l ts us f (falsity l' us') m = refl
  literal_place l ts us f (positive l' ts' us' g a) m = atom_place Positive l' ts' us' g a ∙ positive_follows us' m
  literal_place l ts us f (negative l' ts' us' g a) m = atom_place Negative l' ts' us' g a ∙ negative_follows us' m
  literal_place l ts us f (negative_group l' ts' us' g a) m = atom_place Grouped l' ts' (Close ∷ us') g a
  literal_place l ts us f (inequality l' ts' us' vs' s t x y) m = term_begins Positive l' ts' (Equality false ∷ us') s x ∙ (term_place Positive 0 l' us' vs' t y ∙ positive_follows vs' m)

  -- a clause that is a literal
  literal_clause : (l : ℕ) (ts us : List Token) (f : Formula) → IsLiteral lim l ts f us → accepts Clause ts ≡ accepts Literal ts
  literal_clause l ts us f (falsity l' us') = refl
  literal_clause l ts us f (positive l' ts' us' g (clauses.predicate l'' ts'' us'' s xs t)) = term_clause l'' ts'' us'' (app s xs) t
  literal_clause l ts us f (positive l' ts' us' g (clauses.equality l'' ts'' us'' vs'' s t x y)) = term_clause l'' ts'' (Equality true ∷ us'') s x
  literal_clause l ts us f (negative l' ts' us' g a) = refl
  literal_clause l ts us f (negative_group l' ts' us' g a) = refl
  literal_clause l ts us f (inequality l' ts' us' vs' s t x y) = term_clause l' ts' (Equality false ∷ us') s x

  literals_place : (l n : ℕ) (f h : Formula) (ts us : List Token) → IsLiterals lim l n f ts h us → MayFollow us → accepts Literal ts ≡ accepts BehindLiteral us
  literals_place l n f h ts us (last_literal l' n' f' g' ts' us' fits d) m = literal_place l' ts' us' g' d m
  literals_place l n f h ts us (literal l' n' f' g' h' ts' us' vs' fits d rest) m = literal_place l' ts' (Chain Or ∷ us') g' d tt ∙ literals_place l' (suc n') (or f' g') h' us' vs' rest m

  -- what may end a clause
  abbrev MayEnd : List Token → Type 0
  MayEnd [] = Unit {0}
  MayEnd (Close ∷ us) = Unit {0}
  MayEnd us = ⊥

  end_follows : (us : List Token) → MayEnd us → MayFollow us
  end_follows [] m = tt
  end_follows (Close ∷ us) m = tt
  end_follows (t ∷ us) m = absurd m

  literal_ends : (us : List Token) → MayEnd us → accepts BehindLiteral us ≡ accepts BehindGroup us
  literal_ends [] m = refl
  literal_ends (Close ∷ us) m = refl
  literal_ends (t ∷ us) m = absurd m

  clause_place : (l : ℕ) (ts us : List Token) (f : Formula) → IsClause lim l ts f us → MayEnd us → accepts Clause ts ≡ accepts BehindGroup us
  clause_place l ts us f (clauses.group l' ts' us' g d) m = clause_place l' ts' (Close ∷ us') g d tt
  clause_place l ts us f (clauses.alone l' ts' us' g d) m = literal_clause l' ts' us' g d ∙ (literal_place l' ts' us' g d (end_follows us' m) ∙ literal_ends us' m)
  clause_place l ts us f (clauses.chain l' ts' us' vs' g h d rest) m =
      literal_clause l' ts' (Chain Or ∷ us') g d ∙ (literal_place l' ts' (Chain Or ∷ us') g d tt ∙ (literals_place l' 1 g h us' vs' rest (end_follows vs' m) ∙ literal_ends vs' m))

  pub clause_accepted : (l : ℕ) (ts : List Token) (f : Formula) → IsClause lim l ts f [] → accepts Clause ts ≡ true
  clause_accepted l ts f d = clause_place l ts [] f d tt
