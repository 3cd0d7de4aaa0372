-- An atom whose symbol has a body, with all unfolded, weighs as much as the body under the sizes of the atom's arguments.
use Rattle.std.proofs.Common.{◌≡◌, ℕ, ◌+◌, ◌^◌, ◌<◌, ◌≤◌, true, List, length, Option, Some, None, MatchOption, Result, Ok, Err, IfOk, refl, sym, ap, subst, ◌∙◌, arith}
use Rattle.fol.specs.declared.symbols.Sym.{Sym}
use Rattle.fol.specs.Syntax.{Terms, nil, cons, pred, defined, Formula, atom, top, bot, not, and, or, imp, all, ex}
use Rattle.fol.specs.Facts.{terms_size, formula_size}
use Rattle.fol.specs.Formed.{count_terms, leading_all, is_formed_at}
use Rattle.fol.proofs.FormedPredicates.{formed_body, leading_body}
use Rattle.substitution.specs.Unfolding.{matrix_under}
use Rattle.substitution.proofs.Unfoldings.{count_within}
use Rattle.def_laws.specs.Flat.{flat}
use Rattle.def_laws.proofs.FlatShapes.{formed_pred, formed_count, closed_flat_matrix}
use Rattle.def_laws.proofs.Matrices.{none_leads}
use Rattle.def_symbols.specs.Weights.{weight_of, cut, cut_sizes}
use Rattle.def_symbols.proofs.WeightLaws.{weight-put}
use Rattle.def_symbols.proofs.Cuts.{cut-weight}

matrix-flat : (ts : Terms) (f : Formula) → count_terms ts ≤ leading_all f → matrix_under ts (flat f) ≡ flat (matrix_under ts f)
matrix-flat nil f few = refl
matrix-flat (cons t ts) (all f) few = matrix-flat ts f (omega arith)
matrix-flat (cons t ts) f few = none_leads _ few

formed-matrix : (ts : Terms) (f : Formula) (k l : ℕ) → l ≡ k + count_terms ts → count_terms ts ≤ leading_all f → is_formed_at k f ≡ true → is_formed_at l (matrix_under ts f) ≡ true
formed-matrix nil f k l level few h = let same : k ≡ l = omega arith in subst (λ (n : ℕ). is_formed_at n f ≡ true) same h
formed-matrix (cons t ts) (all f) k l level few h = formed-matrix ts f (k + 1) l (omega arith) (omega arith) h
formed-matrix (cons t ts) f k l level few h = none_leads _ few

module _ (s : Sym) (f : Formula) (ts : Terms) (k : ℕ) (h : is_formed_at k (atom (pred s (defined f)) ts) ≡ true) where
  leads : count_terms ts ≤ leading_all f
  leads = omega (arith, formed_count (pred s (defined f)) ts k h, leading_body s f (formed_pred (pred s (defined f)) ts k h))

  pub formed_matrix : is_formed_at (count_terms ts) (matrix_under ts f) ≡ true
  formed_matrix = formed-matrix ts f 0 (count_terms ts) (omega arith) leads (formed_body s f (formed_pred (pred s (defined f)) ts k h))

  pub weight-body : (ns : List ℕ) (l : ℕ) → length ns ≤ l
      → cut (weight_of (cut_sizes ns l ts) (count_terms ts) (flat (matrix_under ts f))) ≡ cut (weight_of ns l (flat (atom (pred s (defined f)) ts)))
  weight-body ns l few =
      cut-weight ns l ts (count_terms ts) (flat (matrix_under ts f))
      ∙ ap cut (
      ap (weight_of _ (count_terms ts)) (sym (matrix-flat ts f leads))
      ∙ sym (weight-put ns l few ts (matrix_under ts (flat f)) (closed_flat_matrix s f ts (formed_pred (pred s (defined f)) ts k h) (formed_count (pred s (defined f)) ts k h))))

-- the steps of the count

pub some_weight : (ns : List ℕ) (l : ℕ) (f : Formula) → 1 ≤ weight_of ns l f
some_weight ns l (atom p ts) = omega arith
some_weight ns l top = omega arith
some_weight ns l bot = omega arith
some_weight ns l (not f) = omega arith
some_weight ns l (and f g) = omega arith
some_weight ns l (or f g) = omega arith
some_weight ns l (imp f g) = omega arith
some_weight ns l (all f) = omega arith
some_weight ns l (ex f) = omega arith

pub formed_of_body : (a f m : Formula) (s : Sym) (ts : Terms) (k n : ℕ) → atom (pred s (defined f)) ts ≡ a → is_formed_at k a ≡ true → n ≡ count_terms ts → m ≡ matrix_under ts f → is_formed_at n m ≡ true
formed_of_body a f m s ts k n is h count matrix = (λ i. is_formed_at (count i) (matrix i)) ∙ formed_matrix s f ts k (ap (is_formed_at k) is ∙ h)

size-matrix : (ts : Terms) (f : Formula) → formula_size (matrix_under ts f) ≤ formula_size f
size-matrix nil f = omega arith
size-matrix (cons t ts) (all f) = omega (arith, size-matrix ts f)
size-matrix (cons t ts) f = omega arith

-- an atom has the nodes of its arguments and of the body
pub room_of_body : (a f m : Formula) (s : Sym) (ts : Terms) (l n : ℕ) → atom (pred s (defined f)) ts ≡ a → l + formula_size a ≤ 2 ^ 32 → n ≡ count_terms ts → m ≡ matrix_under ts f → n + formula_size m ≤ 2 ^ 32
room_of_body a f m s ts l n is room count matrix =
    let whole : terms_size ts + formula_size f + 1 ≡ formula_size a = ap formula_size is in
    let part : formula_size m ≡ formula_size (matrix_under ts f) = ap formula_size matrix in
    omega (arith, count_within ts, size-matrix ts f)

same_below : (a b left : ℕ) → cut a ≡ cut b → left ≤ 10000 → left < a → left < b
same_below a b left e few h = omega arith

same_rest : (a b left rest : ℕ) → cut a ≡ cut b → left ≤ 10000 → rest + a ≡ left → rest + b ≡ left
same_rest a b left rest e few h = omega arith

-- what is left after a formula with this weight, if it is enough
abbrev pub Leaves : ℕ → ℕ → Option ℕ → Type 0
Leaves left weight o = MatchOption o (left < weight) (λ rest. rest + weight ≡ left)

same_answer : (o : Option ℕ) (a b left : ℕ) → cut a ≡ cut b → left ≤ 10000 → Leaves left a o → Leaves left b o
same_answer None a b left e few h = same_below a b left e few h
same_answer (Some rest) a b left e few h = same_rest a b left rest e few h

pub counted_body : {E : Type 0} (r : Result (Option ℕ) E) (a f m : Formula) (s : Sym) (ts : Terms) (ns inner : List ℕ) (l n start left : ℕ)
    → atom (pred s (defined f)) ts ≡ a → is_formed_at l a ≡ true → length ns ≤ l → inner ≡ cut_sizes ns l ts → n ≡ count_terms ts → m ≡ matrix_under ts f → start ≤ 10000 → left ≡ start
    → IfOk r (Leaves left (weight_of inner n (flat m))) → IfOk r (Leaves start (weight_of ns l (flat a)))
counted_body (Err e) a f m s ts ns inner l n start left is h within sizes count matrix few same counted = tt
counted_body (Ok o) a f m s ts ns inner l n start left is h within sizes count matrix few same counted =
    let weights : cut (weight_of inner n (flat m)) ≡ cut (weight_of ns l (flat a)) =
    (λ i. cut (weight_of (sizes i) (count i) (flat (matrix i)))) ∙ weight-body s f ts l (ap (is_formed_at l) is ∙ h) ns l within ∙ ap (λ x. cut (weight_of ns l (flat x))) is in
    same_answer o (weight_of inner n (flat m)) (weight_of ns l (flat a)) start weights few (subst (λ k. Leaves k (weight_of inner n (flat m)) o) same counted)
