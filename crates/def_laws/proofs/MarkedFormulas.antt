-- Marking: it keeps which formulas are well formed and which variables are free, and marking once more changes nothing.
use Rattle.std.proofs.Common.{◌≡◌, ℕ, suc, ◌+◌, Bool, true, false, ◌==◌, ◌&&◌, ◌||◌, List, [], ◌∷◌, cond, Option, Some, find, unwrap_or, refl, sym, ap, ◌∙◌, arith}
use Rattle.std.specs.List.{All}
use Rattle.fol.specs.declared.symbols.Sym.{Sym}
use Rattle.fol.specs.declared.symbols.Var.{Var}
use Rattle.fol.specs.Syntax.{Terms, Pred, pred, pred_symbol, undefined, defined, Formula, atom, top, bot, not, and, or, imp, all, ex}
use Rattle.fol.specs.Formed.{count_terms, is_formed_pred, is_formed_at, are_formed_terms_at, IsFormedPred}
use Rattle.fol.proofs.OrderTies.{sym_equality_same}
use Rattle.free_variables.specs.Occurrence.{is_free_in}
use Rattle.substitution.proofs.Booleans.{and_left, and_right, and_both}
use Rattle.def_laws.specs.Marking.{is_like, marked_pred, marked}

-- symbols that are alike have one name and one number of arguments

pub alike_symbols : (p q : Pred) → is_like p q ≡ true → pred_symbol p ≡ pred_symbol q
alike_symbols p q e = (sym_equality_same (pred_symbol p) (pred_symbol q) (is_like p q) refl).0 e

-- what a search finds passes, and is as each of the list is

found_is : (b : Bool) (x p : Pred) (o : Option Pred) (C : Pred → Type 0) → (b ≡ true → C x) → C (unwrap_or o p) → C (unwrap_or (cond b (Some x) o) p)
found_is true x p o C here there = here refl
found_is false x p o C here there = there

marked_one : (C : Pred → Type 0) (test : Pred → Bool) (p : Pred) (ds : List Pred) → C p → ((d : Pred) → test d ≡ true → C d) → C (unwrap_or (find test ds) p)
marked_one C test p [] own found = own
marked_one C test p (d ∷ ds) own found = found_is (test d) d p (find test ds) C (found d) (marked_one C test p ds own found)

marked_listed : (C : Pred → Type 0) (test : Pred → Bool) (p : Pred) (ds : List Pred) → C p → All C ds → C (unwrap_or (find test ds) p)
marked_listed C test p [] own each = own
marked_listed C test p (d ∷ ds) own each = found_is (test d) d p (find test ds) C (λ e. each 0 d (omega arith)) (marked_listed C test p ds own (λ k x h. each (suc k) x (omega arith)))

pub marked_symbol : (ds : List Pred) (p : Pred) → pred_symbol (marked_pred ds p) ≡ pred_symbol p
marked_symbol ds (pred s undefined) =
    marked_one (λ q. pred_symbol q ≡ s) (is_like (pred s undefined)) (pred s undefined) ds refl (λ d e. sym (alike_symbols (pred s undefined) d e))
marked_symbol ds (pred s (defined f)) = refl

pub formed_marked_pred : (ds : List Pred) (p : Pred) → All IsFormedPred ds → IsFormedPred p → IsFormedPred (marked_pred ds p)
formed_marked_pred ds (pred s undefined) each h = marked_listed IsFormedPred (is_like (pred s undefined)) (pred s undefined) ds h each
formed_marked_pred ds (pred s (defined f)) each h = h

-- marking once more

again : (ds : List Pred) (s : Sym) (q : Pred) → q ≡ unwrap_or (find (is_like (pred s undefined)) ds) (pred s undefined) → pred_symbol q ≡ s → marked_pred ds q ≡ q
again ds s (pred r undefined) is e = ap (λ (t : Sym). unwrap_or (find (is_like (pred t undefined)) ds) (pred t undefined)) e ∙ sym is
again ds s (pred r (defined f)) is e = refl

pub marked_pred_twice : (ds : List Pred) (p : Pred) → marked_pred ds (marked_pred ds p) ≡ marked_pred ds p
marked_pred_twice ds (pred s undefined) = again ds s (marked_pred ds (pred s undefined)) refl (marked_symbol ds (pred s undefined))
marked_pred_twice ds (pred s (defined f)) = refl

-- formulas

formed_atom_of : (p q : Pred) (ts : Terms) (k : ℕ) → pred_symbol q ≡ pred_symbol p → IsFormedPred q → is_formed_at k (atom p ts) ≡ true → is_formed_at k (atom q ts) ≡ true
formed_atom_of p q ts k same h e =
    let counted : (count_terms ts == (pred_symbol p).arity) ≡ true = and_right (is_formed_pred p) _ (and_left _ (are_formed_terms_at k ts) e) in
    and_both _ _ (and_both _ _ h (ap (λ (s : Sym). count_terms ts == s.arity) same ∙ counted)) (and_right (is_formed_pred p && count_terms ts == (pred_symbol p).arity) _ e)

formed_symbol : (p : Pred) (ts : Terms) (k : ℕ) → is_formed_at k (atom p ts) ≡ true → IsFormedPred p
formed_symbol p ts k e = and_left _ _ (and_left _ (are_formed_terms_at k ts) e)

pub formed-marked : (ds : List Pred) (k : ℕ) (f : Formula) → All IsFormedPred ds → is_formed_at k f ≡ true → is_formed_at k (marked ds f) ≡ true
formed-marked ds k (atom p ts) each h = formed_atom_of p (marked_pred ds p) ts k (marked_symbol ds p) (formed_marked_pred ds p each (formed_symbol p ts k h)) h
formed-marked ds k top each h = refl
formed-marked ds k bot each h = refl
formed-marked ds k (not f) each h = formed-marked ds k f each h
formed-marked ds k (and f g) each h = and_both _ _ (formed-marked ds k f each (and_left _ _ h)) (formed-marked ds k g each (and_right (is_formed_at k f) _ h))
formed-marked ds k (or f g) each h = and_both _ _ (formed-marked ds k f each (and_left _ _ h)) (formed-marked ds k g each (and_right (is_formed_at k f) _ h))
formed-marked ds k (imp f g) each h = and_both _ _ (formed-marked ds k f each (and_left _ _ h)) (formed-marked ds k g each (and_right (is_formed_at k f) _ h))
formed-marked ds k (all f) each h = formed-marked ds (k + 1) f each h
formed-marked ds k (ex f) each h = formed-marked ds (k + 1) f each h

pub free-marked : (ds : List Pred) (v : Var) (f : Formula) → is_free_in v (marked ds f) ≡ is_free_in v f
free-marked ds v (atom p ts) = refl
free-marked ds v top = refl
free-marked ds v bot = refl
free-marked ds v (not f) = free-marked ds v f
free-marked ds v (and f g) = λ i. free-marked ds v f i || free-marked ds v g i
free-marked ds v (or f g) = λ i. free-marked ds v f i || free-marked ds v g i
free-marked ds v (imp f g) = λ i. free-marked ds v f i || free-marked ds v g i
free-marked ds v (all f) = free-marked ds v f
free-marked ds v (ex f) = free-marked ds v f

-- where each symbol stays as it is, the formula does
fixed : (ds es : List Pred) → ((p : Pred) → marked_pred ds (marked_pred es p) ≡ marked_pred es p) → (f : Formula) → marked ds (marked es f) ≡ marked es f
fixed ds es same (atom p ts) = ap (λ q. atom q ts) (same p)
fixed ds es same top = refl
fixed ds es same bot = refl
fixed ds es same (not f) = ap not (fixed ds es same f)
fixed ds es same (and f g) = λ i. and (fixed ds es same f i) (fixed ds es same g i)
fixed ds es same (or f g) = λ i. or (fixed ds es same f i) (fixed ds es same g i)
fixed ds es same (imp f g) = λ i. imp (fixed ds es same f i) (fixed ds es same g i)
fixed ds es same (all f) = ap all (fixed ds es same f)
fixed ds es same (ex f) = ap ex (fixed ds es same f)

pub marked_twice : (ds : List Pred) (f : Formula) → marked ds (marked ds f) ≡ marked ds f
marked_twice ds = fixed ds ds (marked_pred_twice ds)

none_pred : (p : Pred) → marked_pred [] p ≡ p
none_pred (pred s undefined) = refl
none_pred (pred s (defined f)) = refl

pub marked-none : (f : Formula) → marked [] f ≡ f
marked-none (atom p ts) = ap (λ q. atom q ts) (none_pred p)
marked-none top = refl
marked-none bot = refl
marked-none (not f) = ap not (marked-none f)
marked-none (and f g) = λ i. and (marked-none f i) (marked-none g i)
marked-none (or f g) = λ i. or (marked-none f i) (marked-none g i)
marked-none (imp f g) = λ i. imp (marked-none f i) (marked-none g i)
marked-none (all f) = ap all (marked-none f)
marked-none (ex f) = ap ex (marked-none f)
