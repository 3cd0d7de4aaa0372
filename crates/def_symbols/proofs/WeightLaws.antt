-- The nodes of a formula with arguments put into it are the formula's weight with the weights of the arguments.
use Rattle.std.proofs.Common.{◌≡◌, ℕ, ◌+◌, ◌-◌, ◌<◌, ◌≤◌, Bool, true, false, ltb, eqb, ◌==◌, if◌then◌else◌, List, [], ◌∷◌, length, refl, sym, ap, ◌∙◌, arith}
use Rattle.std.proofs.lemmas.Bool.Decides.{nat_tests}
use Rattle.fol.specs.Syntax.{Term, free, bound, app, Terms, nil, cons, Formula, atom, top, bot, not, and, or, imp, all, ex}
use Rattle.fol.specs.Formed.{count_terms}
use Rattle.substitution.specs.Closed.{is_closed_term_at, are_closed_terms_at, is_closed_at}
use Rattle.substitution.specs.Unfolding.{argument, put_term_at, put_terms_at}
use Rattle.substitution.proofs.Booleans.{and_left, and_right}
use Rattle.def_laws.specs.Flat.{lifted_term, lifted_terms, lifted_put}
use Rattle.def_laws.specs.Nodes.{nodes_of_term, nodes_of_terms, nodes_of}
use Rattle.def_laws.proofs.Lifts.{lifted-none, lifted-lifted}
use Rattle.def_symbols.specs.Weights.{size_for, weight_of_term, weight_of_terms, weight_of}

-- without arguments

mutual
  weight-none_term : (l : ℕ) (t : Term) → weight_of_term [] l t ≡ nodes_of_term t
  weight-none_term l (free v) = refl
  weight-none_term l (bound i) = refl
  weight-none_term l (app s ts) = ap (λ n. n + 1) (weight-none_terms l ts)

  weight-none_terms : (l : ℕ) (ts : Terms) → weight_of_terms [] l ts ≡ nodes_of_terms ts
  weight-none_terms l nil = refl
  weight-none_terms l (cons t ts) = λ i. weight-none_term l t i + weight-none_terms l ts i

pub weight-none : (l : ℕ) (f : Formula) → weight_of [] l f ≡ nodes_of f
weight-none l (atom p ts) = ap (λ n. n + 1) (weight-none_terms l ts)
weight-none l top = refl
weight-none l bot = refl
weight-none l (not f) = ap (λ n. n + 1) (weight-none l f)
weight-none l (and f g) = λ i. weight-none l f i + weight-none l g i + 1
weight-none l (or f g) = λ i. weight-none l f i + weight-none l g i + 1
weight-none l (imp f g) = λ i. weight-none l f i + weight-none l g i + 1
weight-none l (all f) = ap (λ n. n + 1) (weight-none (l + 1) f)
weight-none l (ex f) = ap (λ n. n + 1) (weight-none (l + 1) f)

-- the sizes of a list's terms

abbrev pub sizes : List ℕ → ℕ → Terms → List ℕ
sizes ns l nil = []
sizes ns l (cons t ts) = weight_of_term ns l t ∷ sizes ns l ts

-- choices between numbers

chosen : (b : Bool) (m n : ℕ) → b ≡ true → (if b then m else n) ≡ m
chosen b m n h = rw h refl

other : (b : Bool) (m n : ℕ) → b ≡ false → (if b then m else n) ≡ n
other b m n h = rw h refl

-- a term inside more quantifiers

same_test : (i k l : ℕ) → eqb (i + k + 1) (l + k) ≡ eqb (i + 1) l
same_test i k l = grind (arith, nat_tests)

size-lifted : (ns : List ℕ) (i k l : ℕ) → length ns ≤ l → size_for ns (l + k) (i + k) ≡ size_for ns l i
size-lifted [] i k l few = refl
size-lifted (n ∷ ns) i k l few =
    let level : (l + k) - 1 ≡ (l - 1) + k = omega arith in
    (λ j. if same_test i k l j then n else size_for ns (level j) (i + k))
    ∙ ap (λ m. if i + 1 == l then n else m) (size-lifted ns i k (l - 1) (omega arith))

mutual
  weight-lifted_term : (ns : List ℕ) (k l : ℕ) (t : Term) → length ns ≤ l → weight_of_term ns (l + k) (lifted_term k t) ≡ weight_of_term ns l t
  weight-lifted_term ns k l (free v) few = refl
  weight-lifted_term ns k l (bound i) few = size-lifted ns i k l few
  weight-lifted_term ns k l (app s ts) few = ap (λ n. n + 1) (weight-lifted_terms ns k l ts few)

  weight-lifted_terms : (ns : List ℕ) (k l : ℕ) (ts : Terms) → length ns ≤ l → weight_of_terms ns (l + k) (lifted_terms k ts) ≡ weight_of_terms ns l ts
  weight-lifted_terms ns k l nil few = refl
  weight-lifted_terms ns k l (cons t ts) few = λ i. weight-lifted_term ns k l t few i + weight-lifted_terms ns k l ts few i

-- the index of a quantifier further in

inner_test : (i k l : ℕ) → 1 ≤ l → i < k → eqb (i + 1) (l + k) ≡ false
inner_test i k l h g = grind (arith, nat_tests)

size-inner : (ns : List ℕ) (i k l : ℕ) → length ns ≤ l → i < k → size_for ns (l + k) i ≡ 1
size-inner [] i k l few below = refl
size-inner (n ∷ ns) i k l few below =
    let level : (l + k) - 1 ≡ (l - 1) + k = omega arith in
    other (i + 1 == l + k) n (size_for ns ((l + k) - 1) i) (inner_test i k l (omega arith) below)
    ∙ ap (λ m. size_for ns m i) level
    ∙ size-inner ns i k (l - 1) (omega arith) below

-- the argument for an index

not_first : (i m : ℕ) → eqb (i + 1) m ≡ false → i < m → i < m - 1
not_first i m e h = grind (arith, nat_tests)

module _ (ns : List ℕ) (k l : ℕ) (few : length ns ≤ l) where
  weight-argument : (ts : Terms) (m i : ℕ) → m ≡ count_terms ts + k → i < m → weight_of_term ns (l + k) (argument (lifted_terms k ts) m i) ≡ size_for (sizes ns l ts) m i
  weight-argument nil m i level below = size-inner ns i k l few (omega arith)
  weight-argument (cons t ts) m i level below =
      choice (eqb (i + 1) m) refl (λ e. weight-argument ts (m - 1) i (omega arith) (not_first i m e below))
    where
      choice : (b : Bool) → eqb (i + 1) m ≡ b → (eqb (i + 1) m ≡ false → weight_of_term ns (l + k) (argument (lifted_terms k ts) (m - 1) i) ≡ size_for (sizes ns l ts) (m - 1) i)
          → weight_of_term ns (l + k) (if b then lifted_term k t else argument (lifted_terms k ts) (m - 1) i) ≡ (if b then weight_of_term ns l t else size_for (sizes ns l ts) (m - 1) i)
      choice true e rest = weight-lifted_term ns k l t few
      choice false e rest = rest e

  less : (i m : ℕ) → ltb i m ≡ true → i < m
  less i m e = grind (arith, nat_tests)

  mutual
    weight-put_term : (ts : Terms) (m : ℕ) (t : Term) → m ≡ count_terms ts + k → is_closed_term_at m t ≡ true → weight_of_term ns (l + k) (put_term_at (lifted_terms k ts) m t) ≡ weight_of_term (sizes ns l ts) m t
    weight-put_term ts m (free v) level h = refl
    weight-put_term ts m (bound i) level h = weight-argument ts m i level (less i m h)
    weight-put_term ts m (app s us) level h = ap (λ n. n + 1) (weight-put_terms ts m us level h)

    pub weight-put_terms : (ts : Terms) (m : ℕ) (us : Terms) → m ≡ count_terms ts + k → are_closed_terms_at m us ≡ true → weight_of_terms ns (l + k) (put_terms_at (lifted_terms k ts) m us) ≡ weight_of_terms (sizes ns l ts) m us
    weight-put_terms ts m nil level h = refl
    weight-put_terms ts m (cons u us) level h =
        λ i. weight-put_term ts m u level (and_left _ _ h) i + weight-put_terms ts m us level (and_right (is_closed_term_at m u) _ h) i

-- formulas

deeper : (ns : List ℕ) (k l : ℕ) (ts : Terms) (m : ℕ) (f : Formula) → weight_of ns (l + (k + 1)) (lifted_put (lifted_terms (k + 1) ts) m f) ≡ weight_of ns (l + k + 1) (lifted_put (lifted_terms 1 (lifted_terms k ts)) m f)
deeper ns k l ts m f =
    let level : l + (k + 1) ≡ l + k + 1 = omega arith in
    λ i. weight_of ns (level i) (lifted_put (sym (lifted-lifted 1 k ts) i) m f)

weight-put_deep : (ns : List ℕ) (k l : ℕ) → length ns ≤ l → (ts : Terms) (m : ℕ) (f : Formula) → m ≡ count_terms ts + k → is_closed_at m f ≡ true
    → weight_of ns (l + k) (lifted_put (lifted_terms k ts) m f) ≡ weight_of (sizes ns l ts) m f
weight-put_deep ns k l few ts m (atom p us) level h = ap (λ n. n + 1) (weight-put_terms ns k l few ts m us level h)
weight-put_deep ns k l few ts m top level h = refl
weight-put_deep ns k l few ts m bot level h = refl
weight-put_deep ns k l few ts m (not f) level h = ap (λ n. n + 1) (weight-put_deep ns k l few ts m f level h)
weight-put_deep ns k l few ts m (and f g) level h =
    λ i. weight-put_deep ns k l few ts m f level (and_left _ _ h) i + weight-put_deep ns k l few ts m g level (and_right (is_closed_at m f) _ h) i + 1
weight-put_deep ns k l few ts m (or f g) level h =
    λ i. weight-put_deep ns k l few ts m f level (and_left _ _ h) i + weight-put_deep ns k l few ts m g level (and_right (is_closed_at m f) _ h) i + 1
weight-put_deep ns k l few ts m (imp f g) level h =
    λ i. weight-put_deep ns k l few ts m f level (and_left _ _ h) i + weight-put_deep ns k l few ts m g level (and_right (is_closed_at m f) _ h) i + 1
weight-put_deep ns k l few ts m (all f) level h =
    ap (λ n. n + 1) (sym (deeper ns k l ts (m + 1) f) ∙ weight-put_deep ns (k + 1) l few ts (m + 1) f (omega arith) h)
weight-put_deep ns k l few ts m (ex f) level h =
    ap (λ n. n + 1) (sym (deeper ns k l ts (m + 1) f) ∙ weight-put_deep ns (k + 1) l few ts (m + 1) f (omega arith) h)

pub weight-put : (ns : List ℕ) (l : ℕ) → length ns ≤ l → (ts : Terms) (f : Formula) → is_closed_at (count_terms ts) f ≡ true
    → weight_of ns l (lifted_put ts (count_terms ts) f) ≡ weight_of (sizes ns l ts) (count_terms ts) f
weight-put ns l few ts f h =
    let level : l ≡ l + 0 = omega arith in
    (λ i. weight_of ns (level i) (lifted_put (sym (lifted-none ts) i) (count_terms ts) f))
    ∙ weight-put_deep ns 0 l few ts (count_terms ts) f (omega arith) h
