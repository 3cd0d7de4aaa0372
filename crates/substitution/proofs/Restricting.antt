-- A map without the bindings that a set of variables doesn't need: how it is made, and what it does.
use Rattle.std.proofs.Common.{◌≡◌, ◌↔◌, IsTrue, ℕ, ◌==◌, ◌+◌, ◌<◌, Bool, true, false, ◌&&◌, ◌||◌, not, cond, List, [], ◌∷◌, ◌++◌, length, take, get_or, Option, Some, None, is_some, T, IfSome, unwrap_or, refl, sym, ap, subst, ◌∙◌}
use Rattle.std.proofs.lemmas.Bool.Decides.{Decides-eqb}
use Rattle.std.proofs.lemmas.Cmp.{eq_by_cmp_equiv}
use Rattle.std.proofs.lemmas.List.{take_more}
use Rattle.std.specs.Cmp.{tied_itself, Equal-is}
use Rattle.std.specs.FinMap as fin
use Rattle.std.specs.List.{list_any}
use Rattle.std.specs.Ordering.{eq_by_cmp}
use Rattle.std.specs.declared.cmp.Ordering.TheVariants.{Equal}
use Rattle.fol.specs.declared.symbols.Var.{Var}
use Rattle.fol.specs.Syntax.{Term, free}
use Rattle.fol.specs.Formed.{IsFormedTerm}
use Rattle.fol.specs.Order.{var_cmp, term_cmp}
use Rattle.fol.specs.OrderLaws.{var_total, term_total}
use Rattle.fol.proofs.OrderTies.{var_ties, term_ties}
use Rattle.finite.specs.Finite as set
use Rattle.free_variables.specs.Sets.{VarSet}
use Rattle.substitution.specs.Image.{image_term, IsFormedMap}
use Rattle.substitution.specs.Maps.{Map}
use Rattle.substitution.specs.Restriction.{is_moved, restricted}
use Rattle.substitution.proofs.ImageLaws.{same_var}
use Rattle.substitution.proofs.Places.{keys, found, find_placed, place_of_tie}

-- whether the map keeps the variable's binding
abbrev pub is_kept : Map → VarSet → Var → Bool
is_kept m vs v = set.has vs v && is_moved m v

alike : (m : Map) (vs : VarSet) (q x : Var) → var_cmp q x ≡ Equal → is_kept m vs x ≡ is_kept m vs q
alike m vs q x tie = ap (is_kept m vs) (sym (var_ties q x tie))

pub get-restricted : (m : Map) (vs : VarSet) (v : Var) → fin.get (restricted m vs) v ≡ cond (is_kept m vs v) (fin.get m v) None
get-restricted m vs v = fin.get-retain_keys m (is_kept m vs) v (λ x tie. alike m vs v x tie)

-- what it does

unmoved : (m : Map) (v : Var) → is_moved m v ≡ false → image_term (fin.get m) (free v) ≡ free v
unmoved m v h =
    let t : Term = image_term (fin.get m) (free v) in
    term_ties t (free v) ((Equal-is (term_cmp t (free v))).0 (tied_of (eq_by_cmp term_cmp t (free v)) h))
  where
    tied_of : (b : Bool) → not b ≡ false → b ≡ true
    tied_of true e = refl
    tied_of false e = cc

kept_value : (b : Bool) (o : Option Term) (t : Term) → (b ≡ false → unwrap_or o t ≡ t) → unwrap_or (cond b o None) t ≡ unwrap_or o t
kept_value true o t f = refl
kept_value false o t f = sym (f refl)

pub restricted_agrees : (m : Map) (vs : VarSet) (v : Var) → set.has vs v ≡ true → image_term (fin.get (restricted m vs)) (free v) ≡ image_term (fin.get m) (free v)
restricted_agrees m vs v h =
    ap (λ o. unwrap_or o (free v)) (get-restricted m vs v)
    ∙ kept_value (is_kept m vs v) (fin.get m v) (free v) (λ e. unmoved m v (ap (λ b. b && is_moved m v) (sym h) ∙ e))

none_moved : (m : Map) (vs : VarSet) (v : Var) → (set.has vs v ≡ true → image_term (fin.get m) (free v) ≡ free v) → is_kept m vs v ≡ false
none_moved m vs v same = dropped (set.has vs v) (is_moved m v) (λ h. ap (λ t. not (eq_by_cmp term_cmp t (free v))) (same h) ∙ ap not ((eq_by_cmp_equiv term_total).refl (free v)))
  where
    dropped : (a b : Bool) → (a ≡ true → b ≡ false) → (a && b) ≡ false
    dropped true b f = f refl
    dropped false b f = refl

pub restricted_none : (m : Map) (vs : VarSet) → ((v : Var) → set.has vs v ≡ true → image_term (fin.get m) (free v) ≡ free v) → restricted m vs ≡ fin.empty
restricted_none m vs same = fin.same_map var_total var_ties (restricted m vs) fin.empty (λ w.
    get-restricted m vs w ∙ (ap (λ b. cond b (fin.get m w) None) (none_moved m vs w (same w)) ∙ sym (fin.get-empty var_cmp w)))

formed_cond : (b : Bool) (o : Option Term) → IfSome o IsFormedTerm → IfSome (cond b o None) IsFormedTerm
formed_cond true o h = h
formed_cond false o h = tt

pub restricted_formed : (m : Map) (vs : VarSet) → IsFormedMap (fin.get m) → IsFormedMap (fin.get (restricted m vs))
restricted_formed m vs formed v = subst (λ o. IfSome o IsFormedTerm) (sym (get-restricted m vs v)) (formed_cond (is_kept m vs v) (fin.get m v) (formed v))

-- how it is made

-- n has the bindings of a list that are kept
abbrev pub HasKept : Map → VarSet → List (Var × Term) → Map → Type 0
HasKept m vs es n = (w : Var) → fin.get n w ≡ cond (list_any (eq_by_cmp var_cmp w) (keys es) && is_kept m vs w) (fin.get m w) None

pub none_kept : (m : Map) (vs : VarSet) → HasKept m vs [] fin.empty
none_kept m vs w = fin.get-empty var_cmp w

-- a binding of the list gives what the map has
pub bound_at : (m : Map) (es : List (Var × Term)) → es ≡ fin.entries m → (i : ℕ) (b : Var × Term) → i < length es → b ≡ get_or es i b → fin.get m b.0 ≡ Some b.1
bound_at m es shown i b l is =
    let sorted : T (fin.is_sorted var_cmp es) = subst (λ fs. T (fin.is_sorted var_cmp fs)) (sym shown) (fin.entries_sorted m) in
    fin.get-entries m b.0 ∙ ap (fin.find var_cmp b.0) (sym shown) ∙ find_placed var_cmp var_total b.0 es b sorted
    ∙ ap (found es b) (sym (place_of_tie var_cmp var_total b.0 es sorted i b l is (tied_itself var_total b.0)))
    ∙ ap (λ (e : Var × Term). Some e.1) (sym is)

-- the test that code makes of a binding
pub kept_test : (m : Map) (vs : VarSet) (b : Var × Term) → fin.get m b.0 ≡ Some b.1 → (needed : Bool) → needed ≡ (set.has vs b.0 && not (eq_by_cmp term_cmp b.1 (free b.0))) → is_kept m vs b.0 ≡ needed
kept_test m vs b bound needed is =
    ap (λ o. set.has vs b.0 && not (eq_by_cmp term_cmp (unwrap_or o (free b.0)) (free b.0))) bound ∙ sym is

among-push : (w : Var) (es : List (Var × Term)) (b : Var × Term) → list_any (eq_by_cmp var_cmp w) (keys (es ++ b ∷ [])) ≡ (eq_by_cmp var_cmp w b.0 || list_any (eq_by_cmp var_cmp w) (keys es))
among-push w [] b = refl
among-push w (e ∷ es) b = ap (λ t. eq_by_cmp var_cmp w e.0 || t) (among-push w es b) ∙ swap (eq_by_cmp var_cmp w e.0) (eq_by_cmp var_cmp w b.0) (list_any (eq_by_cmp var_cmp w) (keys es))
  where
    swap : (p q r : Bool) → (p || (q || r)) ≡ (q || (p || r))
    swap true true r = refl
    swap true false r = refl
    swap false q r = refl

module _ (m : Map) (vs : VarSet) (es : List (Var × Term)) (i : ℕ) (b : Var × Term) (n : Map) (l : i < length es) (is : b ≡ get_or es i b) (so_far : HasKept m vs (take i es) n) where
  longer : (w : Var) → list_any (eq_by_cmp var_cmp w) (keys (take (i + 1) es)) ≡ (eq_by_cmp var_cmp w b.0 || list_any (eq_by_cmp var_cmp w) (keys (take i es)))
  longer w = ap (λ fs. list_any (eq_by_cmp var_cmp w) (keys fs)) (take_more es i b l ∙ ap (λ (e : Var × Term). take i es ++ e ∷ []) (sym is)) ∙ among-push w (take i es) b

  -- a binding that is kept
  pub one_kept : fin.get m b.0 ≡ Some b.1 → is_kept m vs b.0 ≡ true → HasKept m vs (take (i + 1) es) (fin.insert n b.0 b.1)
  one_kept bound kept w =
      fin.get-insert var_total n b.0 b.1 w
      ∙ step (eq_by_cmp var_cmp w b.0) (list_any (eq_by_cmp var_cmp w) (keys (take i es))) (is_kept m vs w) b.1 (fin.get m w) (fin.get n w)
      (λ e. ap (is_kept m vs) (same_var w b.0 e) ∙ kept) (λ e. ap (fin.get m) (same_var w b.0 e) ∙ bound) (so_far w)
      ∙ ap (λ t. cond (t && is_kept m vs w) (fin.get m w) None) (sym (longer w))
    where
      step : (e a k : Bool) (t : Term) (o p : Option Term) → (e ≡ true → k ≡ true) → (e ≡ true → o ≡ Some t) → p ≡ cond (a && k) o None → cond e (Some t) p ≡ cond ((e || a) && k) o None
      step true a k t o p f g h = sym (g refl) ∙ ap (λ c. cond c o None) (sym (f refl))
      step false a k t o p f g h = h

  -- a binding that isn't
  pub none_more : is_kept m vs b.0 ≡ false → HasKept m vs (take (i + 1) es) n
  none_more dropped w =
      so_far w
      ∙ step (eq_by_cmp var_cmp w b.0) (list_any (eq_by_cmp var_cmp w) (keys (take i es))) (is_kept m vs w) (fin.get m w) (λ e. ap (is_kept m vs) (same_var w b.0 e) ∙ dropped)
      ∙ ap (λ t. cond (t && is_kept m vs w) (fin.get m w) None) (sym (longer w))
    where
      step : (e a k : Bool) (o : Option Term) → (e ≡ true → k ≡ false) → cond (a && k) o None ≡ cond ((e || a) && k) o None
      step true true k o f = refl
      step true false k o f = ap (λ c. cond c o None) (sym (f refl))
      step false a k o f = refl

-- all that are kept
pub all_kept : (m : Map) (vs : VarSet) (n : Map) → HasKept m vs (fin.entries m) n → n ≡ restricted m vs
all_kept m vs n h = fin.same_map var_total var_ties n (restricted m vs) (λ w.
    h w ∙ (ap (λ t. cond (t && is_kept m vs w) (fin.get m w) None) (sym (fin.contains_key-keys m w))
    ∙ (one_test (fin.get m w) (is_kept m vs w) ∙ sym (get-restricted m vs w))))
  where
    one_test : (o : Option Term) (k : Bool) → cond (is_some o && k) o None ≡ cond k o None
    one_test None true = refl
    one_test None false = refl
    one_test (Some t) k = refl

-- a map with no bindings
pub empty_test : (m : Map) (es : List (Var × Term)) → es ≡ fin.entries m → (n : ℕ) → n ≡ length es → (b : Bool) → b ≡ (n == 0) → IsTrue b ↔ (m ≡ fin.empty)
empty_test m es shown n counted b is =
    let same : n ≡ fin.len m = counted ∙ ap length shown ∙ sym (fin.len-entries m) in
    (λ e. fin.empty_of_len m (sym same ∙ (Decides-eqb n 0).0 (sym is ∙ e)), λ e. is ∙ (Decides-eqb n 0).1 (same ∙ ap fin.len e ∙ fin.len-empty var_cmp Term))
