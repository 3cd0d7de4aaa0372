-- Walks over a list of definitions: the table of those that are passed from the end, and the first that is like an earlier one.
use Rattle.std.proofs.Common.{◌≡◌, ℕ, suc, ◌+◌, ◌<◌, ◌≤◌, Bool, true, false, cond, ◌||◌, if◌then◌else◌, List, [], ◌∷◌, length, take, drop, get_or, find, reverse, Option, Some, None, option_map, refl, sym, ap, ◌∙◌, arith, drop-cons}
use Rattle.std.specs.List.{list_any}
use Rattle.std.specs.Ordering.{eq_by_cmp}
use Rattle.std.proofs.lemmas.Cmp.{eq_by_cmp_equiv}
use Rattle.std.proofs.lemmas.List.{take_more, reverse-append, drop_all}
use Rattle.fol.specs.declared.symbols.Sym.{Sym}
use Rattle.fol.specs.Syntax.{Pred, plain, pred_symbol}
use Rattle.fol.specs.Order.{sym_cmp}
use Rattle.fol.specs.OrderLaws.{sym_total}
use Rattle.def_laws.specs.Marking.{is_like, first_like}

turned : (s r : Sym) → eq_by_cmp sym_cmp s r ≡ eq_by_cmp sym_cmp r s
turned s r = (eq_by_cmp_equiv sym_total).symm s r

rest_of : (ds : List Pred) (i : ℕ) (d : Pred) → i < length ds → d ≡ get_or ds i d → drop i ds ≡ d ∷ drop (suc i) ds
rest_of ds i d below is = drop-cons ds i d below ∙ ap (λ x. x ∷ drop (suc i) ds) (sym is)

next : (i : ℕ) → suc i ≡ i + 1
next i = omega arith

-- the table from a place on, with one more definition before it
pub table_more : (m n : Sym → Option Pred) (ds : List Pred) (i j : ℕ) (d : Pred) → suc i ≡ j → i < length ds → d ≡ get_or ds i d → ((s : Sym) → m s ≡ find (is_like (plain s)) (drop j ds))
    → ((s : Sym) → n s ≡ cond (eq_by_cmp sym_cmp (pred_symbol d) s) (Some d) (m s)) → (s : Sym) → n s ≡ find (is_like (plain s)) (drop i ds)
table_more m n ds i j d level below is before updates s =
    updates s
    ∙ (λ k. cond (turned (pred_symbol d) s k) (Some d) (before s k))
    ∙ ap (λ k. cond (eq_by_cmp sym_cmp s (pred_symbol d)) (Some d) (find (is_like (plain s)) (drop k ds))) (sym level)
    ∙ sym (ap (find (is_like (plain s))) (rest_of ds i d below is))

-- the symbols that are passed are seen, and none of them is like an earlier one
pub record IsPassed (seen : Sym → Bool) (ds : List Pred) (i : ℕ) : Type 0 where
  pub members : (s : Sym) → seen s ≡ list_any (is_like (plain s)) (reverse (take i ds))
  pub rest : first_like [] ds ≡ option_map (λ n. n + i) (first_like (reverse (take i ds)) (drop i ds))

plus_none : (o : Option ℕ) → o ≡ option_map (λ n. n + 0) o
plus_none None = refl
plus_none (Some n) = let same : n ≡ n + 0 = omega arith in ap (λ k. Some k) same

pub passed_none : (seen : Sym → Bool) (ds : List Pred) → ((s : Sym) → seen s ≡ false) → IsPassed seen ds 0
passed_none seen ds none = record { members = none; rest = plus_none (first_like [] ds) }

first_of : (b : Bool) (o : Option ℕ) (i : ℕ) → b ≡ true → option_map (λ n. n + i) (if b then Some 0 else o) ≡ Some i
first_of b o i e = let same : 0 + i ≡ i = omega arith in rw e (ap (λ k. Some k) same)

pub found_here : (seen : Sym → Bool) (ds : List Pred) (i : ℕ) (d : Pred) → IsPassed seen ds i → i < length ds → d ≡ get_or ds i d → seen (pred_symbol d) ≡ true → first_like [] ds ≡ Some i
found_here seen ds i d passed below is e =
    passed.rest
    ∙ ap (λ xs. option_map (λ n. n + i) (first_like (reverse (take i ds)) xs)) (rest_of ds i d below is)
    ∙ first_of (list_any (is_like d) (reverse (take i ds))) (option_map suc (first_like (d ∷ reverse (take i ds)) (drop (suc i) ds))) i (sym (passed.members (pred_symbol d)) ∙ e)

later_of : (b : Bool) (o : Option ℕ) (i : ℕ) → b ≡ false → option_map (λ n. n + i) (if b then Some 0 else option_map suc o) ≡ option_map (λ n. n + (i + 1)) o
later_of b o i e = rw e (each o)
  where
    each : (o : Option ℕ) → option_map (λ n. n + i) (option_map suc o) ≡ option_map (λ n. n + (i + 1)) o
    each None = refl
    each (Some n) = let same : suc n + i ≡ n + (i + 1) = omega arith in ap (λ k. Some k) same

reversed_more : (ds : List Pred) (i : ℕ) (d : Pred) → i < length ds → d ≡ get_or ds i d → reverse (take (i + 1) ds) ≡ d ∷ reverse (take i ds)
reversed_more ds i d below is =
    ap reverse (take_more ds i d below)
    ∙ reverse-append (take i ds) (get_or ds i d ∷ [])
    ∙ ap (λ x. x ∷ reverse (take i ds)) (sym is)

chosen : (b c : Bool) → cond b true c ≡ (b || c)
chosen true c = refl
chosen false c = refl

pub passed_more : (seen more : Sym → Bool) (ds : List Pred) (i : ℕ) (d : Pred) → IsPassed seen ds i → i < length ds → d ≡ get_or ds i d → seen (pred_symbol d) ≡ false
    → ((s : Sym) → more s ≡ cond (eq_by_cmp sym_cmp (pred_symbol d) s) true (seen s)) → IsPassed more ds (i + 1)
passed_more seen more ds i d passed below is e updates = record {
  members = λ s.
      updates s
      ∙ (λ j. cond (turned (pred_symbol d) s j) true (passed.members s j))
      ∙ chosen (eq_by_cmp sym_cmp s (pred_symbol d)) (list_any (is_like (plain s)) (reverse (take i ds)))
      ∙ sym (ap (list_any (is_like (plain s))) (reversed_more ds i d below is));
  rest =
      passed.rest
      ∙ ap (λ xs. option_map (λ n. n + i) (first_like (reverse (take i ds)) xs)) (rest_of ds i d below is)
      ∙ later_of (list_any (is_like d) (reverse (take i ds))) (first_like (d ∷ reverse (take i ds)) (drop (suc i) ds)) i (sym (passed.members (pred_symbol d)) ∙ e)
      ∙ (λ j. option_map (λ n. n + (i + 1)) (first_like (sym (reversed_more ds i d below is) j) (drop (next i j) ds)));
}

none_after : (ds : List Pred) (i : ℕ) → length ds ≤ i → drop i ds ≡ []
none_after ds i h = drop_all i ds h

pub passed_all : (seen : Sym → Bool) (ds : List Pred) (i : ℕ) → IsPassed seen ds i → length ds ≤ i → first_like [] ds ≡ None
passed_all seen ds i passed h = passed.rest ∙ ap (λ xs. option_map (λ n. n + i) (first_like (reverse (take i ds)) xs)) (none_after ds i h)
