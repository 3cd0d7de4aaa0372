-- Binding one variable after another is binding all of them at once.
use Rattle.std.proofs.Common.{◌≡◌, ℕ, zero, suc, ◌+◌, ◌-◌, ◌^◌, ◌<◌, ◌≤◌, max, Bool, true, false, cond, if◌then◌else◌, List, [], ◌∷◌, ◌++◌, length, take, get_or, Option, Some, None, IfSome, refl, sym, ap, subst, ◌∙◌, arith}
use Rattle.std.specs.Ordering.{eq_by_cmp}
use Rattle.fol.specs.declared.symbols.Var.{Var}
use Rattle.fol.specs.Syntax.{Term, free, bound, app, Terms, nil, cons, Formula, atom, top, bot, not, and, or, imp, all, ex}
use Rattle.fol.specs.Order.{var_cmp}
use Rattle.fol.specs.Formed.{IsFormed}
use Rattle.substitution.specs.Instance.{bind_term_at, bind_terms_at, bind_at, bind, nesting, IsOpenBody}
use Rattle.substitution.specs.Closing.{closed_over, innermost, level_from, indexed, bound_each_term, bound_each_terms, bound_each, enclosed, AreBelow}
use Rattle.std.proofs.lemmas.List.{take_more, length-take-le}
use Rattle.substitution.proofs.InstanceFormed.{formed-bind}

-- without levels nothing is bound
abbrev none : Var → Option ℕ
none w = None

mutual
  bound_none_term : (k : ℕ) (t : Term) → bound_each_term none k t ≡ t
  bound_none_term k (free w) = refl
  bound_none_term k (bound i) = refl
  bound_none_term k (app s ts) = ap (app s) (bound_none_terms k ts)

  bound_none_terms : (k : ℕ) (ts : Terms) → bound_each_terms none k ts ≡ ts
  bound_none_terms k nil = refl
  bound_none_terms k (cons t ts) = λ i. cons (bound_none_term k t i) (bound_none_terms k ts i)

bound_none : (k : ℕ) (f : Formula) → bound_each none k f ≡ f
bound_none k (atom s ts) = ap (atom s) (bound_none_terms k ts)
bound_none k top = refl
bound_none k bot = refl
bound_none k (not f) = ap not (bound_none k f)
bound_none k (and f g) = λ i. and (bound_none k f i) (bound_none k g i)
bound_none k (or f g) = λ i. or (bound_none k f i) (bound_none k g i)
bound_none k (imp f g) = λ i. imp (bound_none k f i) (bound_none k g i)
bound_none k (all f) = ap all (bound_none (k + 1) f)
bound_none k (ex f) = ap ex (bound_none (k + 1) f)

-- one variable more

abbrev more : (Var → Option ℕ) → Var → ℕ → Var → Option ℕ
more levels v l w = innermost (levels w) (eq_by_cmp var_cmp v w) l

at_level : (b : Bool) (j k l : ℕ) (w : Var) → j + (l + 1) ≡ k → (if b then bound j else free w) ≡ indexed (if b then Some l else None) k w
at_level true j k l w e = let same : j ≡ k - (l + 1) = omega arith in ap bound same
at_level false j k l w e = refl

bound_var : (o : Option ℕ) (v w : Var) (j k l : ℕ) → j + (l + 1) ≡ k → bind_term_at v j (indexed o k w) ≡ indexed (innermost o (eq_by_cmp var_cmp v w) l) k w
bound_var (Some m) v w j k l e = refl
bound_var None v w j k l e = at_level (eq_by_cmp var_cmp v w) j k l w e

mutual
  bound_more_term : (levels : Var → Option ℕ) (v : Var) (t : Term) (j k l : ℕ) → j + (l + 1) ≡ k → bind_term_at v j (bound_each_term levels k t) ≡ bound_each_term (more levels v l) k t
  bound_more_term levels v (free w) j k l e = bound_var (levels w) v w j k l e
  bound_more_term levels v (bound i) j k l e = refl
  bound_more_term levels v (app s ts) j k l e = ap (app s) (bound_more_terms levels v ts j k l e)

  bound_more_terms : (levels : Var → Option ℕ) (v : Var) (ts : Terms) (j k l : ℕ) → j + (l + 1) ≡ k → bind_terms_at v j (bound_each_terms levels k ts) ≡ bound_each_terms (more levels v l) k ts
  bound_more_terms levels v nil j k l e = refl
  bound_more_terms levels v (cons t ts) j k l e = λ i. cons (bound_more_term levels v t j k l e i) (bound_more_terms levels v ts j k l e i)

bound_more : (levels : Var → Option ℕ) (v : Var) (f : Formula) (j k l : ℕ) → j + (l + 1) ≡ k → bind_at v j (bound_each levels k f) ≡ bound_each (more levels v l) k f
bound_more levels v (atom s ts) j k l e = ap (atom s) (bound_more_terms levels v ts j k l e)
bound_more levels v top j k l e = refl
bound_more levels v bot j k l e = refl
bound_more levels v (not f) j k l e = ap not (bound_more levels v f j k l e)
bound_more levels v (and f g) j k l e = λ i. and (bound_more levels v f j k l e i) (bound_more levels v g j k l e i)
bound_more levels v (or f g) j k l e = λ i. or (bound_more levels v f j k l e i) (bound_more levels v g j k l e i)
bound_more levels v (imp f g) j k l e = λ i. imp (bound_more levels v f j k l e i) (bound_more levels v g j k l e i)
bound_more levels v (all f) j k l e = ap all (bound_more levels v f (j + 1) (k + 1) l (omega arith))
bound_more levels v (ex f) j k l e = ap ex (bound_more levels v f (j + 1) (k + 1) l (omega arith))

-- what binding does to a quantified formula
abbrev IsBinder : (Formula → Formula) → Type 0
IsBinder q = (v : Var) (k : ℕ) (f : Formula) → bind_at v k (q f) ≡ q (bind_at v (k + 1) f)

module _ (q : Formula → Formula) (binds : IsBinder q) where
  bound_inside : (v : Var) (j k n : ℕ) (f : Formula) → j + n ≡ k → bind_at v j (enclosed q n f) ≡ enclosed q n (bind_at v k f)
  bound_inside v j k zero f e = let same : j ≡ k = omega arith in ap (λ m. bind_at v m f) same
  bound_inside v j k (suc n) f e = binds v j (enclosed q n f) ∙ ap q (bound_inside v (j + 1) k n f (omega arith))

  closed_from : (vs : List Var) (l k : ℕ) (f : Formula) → l + length vs ≡ k → closed_over q vs f ≡ enclosed q (length vs) (bound_each (level_from l vs) k f)
  closed_from [] l k f e = sym (bound_none k f)
  closed_from (v ∷ vs) l k f e =
      ap (λ g. q (bind g v)) (closed_from vs (suc l) k f (omega arith))
      ∙ ap q (bound_inside v 0 (length vs) (length vs) (bound_each (level_from (suc l) vs) k f) (omega arith)
      ∙ ap (enclosed q (length vs)) (bound_more (level_from (suc l) vs) v f (length vs) k l (omega arith)))

  closed_is : (vs : List Var) (n : ℕ) (f g h : Formula) → length vs ≡ n → g ≡ bound_each (level_from 0 vs) (length vs) f → h ≡ enclosed q n g → h ≡ closed_over q vs f
  closed_is vs n f g h e is around =
      around ∙ ((λ i. enclosed q (sym e i) (is i)) ∙ sym (closed_from vs 0 (length vs) f (omega arith)))

-- the last variable has the greatest level

later_level : (b c : Bool) (o : Option ℕ) (m l : ℕ) → innermost (if b then Some m else o) c l ≡ (if b then Some m else innermost o c l)
later_level true c o m l = refl
later_level false c o m l = refl

last_level : (vs : List Var) (l m : ℕ) (v w : Var) → l + length vs ≡ m → level_from l (vs ++ v ∷ []) w ≡ (if eq_by_cmp var_cmp v w then Some m else level_from l vs w)
last_level [] l m v w e = let same : l ≡ m = omega arith in ap (λ k. if eq_by_cmp var_cmp v w then Some k else None) same
last_level (x ∷ vs) l m v w e =
    ap (λ o. innermost o (eq_by_cmp var_cmp x w) l) (last_level vs (suc l) m v w (omega arith))
    ∙ later_level (eq_by_cmp var_cmp v w) (eq_by_cmp var_cmp x w) (level_from (suc l) vs w) m l

-- the variables do not matter to how far quantifiers are nested

nesting-bind_at : (v : Var) (f : Formula) (k : ℕ) → nesting (bind_at v k f) ≡ nesting f
nesting-bind_at v (atom s ts) k = refl
nesting-bind_at v top k = refl
nesting-bind_at v bot k = refl
nesting-bind_at v (not f) k = nesting-bind_at v f k
nesting-bind_at v (and f g) k = λ i. max (nesting-bind_at v f k i) (nesting-bind_at v g k i)
nesting-bind_at v (or f g) k = λ i. max (nesting-bind_at v f k i) (nesting-bind_at v g k i)
nesting-bind_at v (imp f g) k = λ i. max (nesting-bind_at v f k i) (nesting-bind_at v g k i)
nesting-bind_at v (all f) k = ap (λ n. n + 1) (nesting-bind_at v f (k + 1))
nesting-bind_at v (ex f) k = ap (λ n. n + 1) (nesting-bind_at v f (k + 1))

module _ (q : Formula → Formula) (opened : (f : Formula) → IsOpenBody f → IsFormed (q f)) (deeper : (f : Formula) → nesting (q f) ≡ nesting f + 1) where
  nesting_closed : (vs : List Var) (f : Formula) → nesting (closed_over q vs f) ≡ nesting f + length vs
  nesting_closed [] f = let same : nesting f ≡ nesting f + 0 = omega arith in same
  nesting_closed (v ∷ vs) f =
      deeper (bind (closed_over q vs f) v) ∙ (ap (λ n. n + 1) (nesting-bind_at v (closed_over q vs f) 0 ∙ nesting_closed vs f)
      ∙ (let same : (nesting f + length vs) + 1 ≡ nesting f + suc (length vs) = omega arith in same))

  -- what is closed over few enough variables is well formed
  formed_closed : (vs : List Var) (f : Formula) (w : ℕ) → w ≡ 2 ^ 32 → length vs + nesting f < w → IsFormed f → IsFormed (closed_over q vs f)
  formed_closed [] f w is few h = h
  formed_closed (v ∷ vs) f w is few h =
      opened (bind (closed_over q vs f) v)
      (formed-bind (closed_over q vs f) v (omega (arith, nesting_closed vs f)) (formed_closed vs f w is (omega arith) h))

pub formed_closed_all : (vs : List Var) (f : Formula) → length vs + nesting f < 2 ^ 32 → IsFormed f → IsFormed (closed_over all vs f)
formed_closed_all vs f few h = formed_closed all (λ g o. o) (λ g. refl) vs f (2 ^ 32) refl few h

pub formed_closed_ex : (vs : List Var) (f : Formula) → length vs + nesting f < 2 ^ 32 → IsFormed f → IsFormed (closed_over ex vs f)
formed_closed_ex vs f few h = formed_closed ex (λ g o. o) (λ g. refl) vs f (2 ^ 32) refl few h

pub closed_all_is : (vs : List Var) (n : ℕ) (f g h : Formula) → length vs ≡ n → g ≡ bound_each (level_from 0 vs) (length vs) f → h ≡ enclosed all n g → h ≡ closed_over all vs f
closed_all_is = closed_is all (λ v k f. refl)

pub closed_ex_is : (vs : List Var) (n : ℕ) (f g h : Formula) → length vs ≡ n → g ≡ bound_each (level_from 0 vs) (length vs) f → h ≡ enclosed ex n g → h ≡ closed_over ex vs f
closed_ex_is = closed_is ex (λ v k f. refl)

length_take : (vs : List Var) (i : ℕ) → i ≤ length vs → 0 + length (take i vs) ≡ i
length_take vs i le = let same : length (take i vs) ≡ i = length-take-le i vs le in omega arith

-- the levels of one variable more
pub level_more : (vs : List Var) (i : ℕ) (v w : Var) → i < length vs → v ≡ get_or vs i v → level_from 0 (take (i + 1) vs) w ≡ cond (eq_by_cmp var_cmp v w) (Some i) (level_from 0 (take i vs) w)
level_more vs i v w l is =
    ap (λ us. level_from 0 us w) (take_more vs i v l ∙ ap (λ x. take i vs ++ x ∷ []) (sym is))
    ∙ last_level (take i vs) 0 i v w (length_take vs i (omega arith))

-- every level is below the number of variables

innermost_below : (o : Option ℕ) (b : Bool) (l k : ℕ) → l < k → IfSome o (λ m. m < k) → IfSome (innermost o b l) (λ m. m < k)
innermost_below (Some m) b l k le h = h
innermost_below None true l k le h = le
innermost_below None false l k le h = h

level_below : (vs : List Var) (l k : ℕ) (w : Var) → l + length vs ≡ k → IfSome (level_from l vs w) (λ m. m < k)
level_below [] l k w e = tt
level_below (v ∷ vs) l k w e = innermost_below (level_from (suc l) vs w) (eq_by_cmp var_cmp v w) l k (omega arith) (level_below vs (suc l) k w (omega arith))

pub levels_below : (vs : List Var) (levels : Var → Option ℕ) → ((w : Var) → levels w ≡ level_from 0 vs w) → AreBelow levels (length vs)
levels_below vs levels same w = subst (λ o. IfSome o (λ m. m < length vs)) (sym (same w)) (level_below vs 0 (length vs) w (omega arith))

deeper_option : (o : Option ℕ) (k : ℕ) → IfSome o (λ l. l < k) → IfSome o (λ l. l < k + 1)
deeper_option None k h = h
deeper_option (Some l) k h = omega arith

pub below_more : (levels : Var → Option ℕ) (k : ℕ) → AreBelow levels k → AreBelow levels (k + 1)
below_more levels k h v = deeper_option (levels v) k (h v)
