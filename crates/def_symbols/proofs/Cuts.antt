-- Sizes of arguments that are cut off give the same weight, where it is not cut off itself.
use Rattle.std.proofs.Common.{◌≡◌, ℕ, ◌+◌, ◌-◌, eqb, Bool, true, false, if◌then◌else◌, List, length, refl, arith}
use Rattle.fol.specs.Syntax.{Term, free, bound, app, Terms, nil, cons, Formula, atom, top, bot, not, and, or, imp, all, ex}
use Rattle.fol.specs.Formed.{count_terms}
use Rattle.def_symbols.specs.Weights.{size_for, weight_of_term, weight_of_terms, weight_of, cut, cut_sizes}
use Rattle.def_symbols.proofs.WeightLaws.{sizes}

pub length-cut_sizes : (ns : List ℕ) (l : ℕ) (ts : Terms) → length (cut_sizes ns l ts) ≡ count_terms ts
length-cut_sizes ns l nil = refl
length-cut_sizes ns l (cons t ts) = omega (arith, length-cut_sizes ns l ts)

cut-cut : (n : ℕ) → cut (cut n) ≡ cut n
cut-cut n = omega arith

cut-sum : (a b c d : ℕ) → cut a ≡ cut b → cut c ≡ cut d → cut (a + c) ≡ cut (b + d)
cut-sum a b c d e h = omega arith

cut-more : (a b : ℕ) → cut a ≡ cut b → cut (a + 1) ≡ cut (b + 1)
cut-more a b e = omega arith

module _ (ns : List ℕ) (m : ℕ) where
  cut-size_for : (ts : Terms) (l i : ℕ) → cut (size_for (cut_sizes ns m ts) l i) ≡ cut (size_for (sizes ns m ts) l i)
  cut-size_for nil l i = refl
  cut-size_for (cons t ts) l i = choice (eqb (i + 1) l) (cut-size_for ts (l - 1) i)
    where
      choice : (b : Bool) → cut (size_for (cut_sizes ns m ts) (l - 1) i) ≡ cut (size_for (sizes ns m ts) (l - 1) i)
          → cut (if b then cut (weight_of_term ns m t) else size_for (cut_sizes ns m ts) (l - 1) i) ≡ cut (if b then weight_of_term ns m t else size_for (sizes ns m ts) (l - 1) i)
      choice true rest = cut-cut (weight_of_term ns m t)
      choice false rest = rest

  module _ (ts : Terms) where
    mutual
      cut-weight_term : (l : ℕ) (t : Term) → cut (weight_of_term (cut_sizes ns m ts) l t) ≡ cut (weight_of_term (sizes ns m ts) l t)
      cut-weight_term l (free v) = refl
      cut-weight_term l (bound i) = cut-size_for ts l i
      cut-weight_term l (app s us) = cut-more _ _ (cut-weight_terms l us)

      cut-weight_terms : (l : ℕ) (us : Terms) → cut (weight_of_terms (cut_sizes ns m ts) l us) ≡ cut (weight_of_terms (sizes ns m ts) l us)
      cut-weight_terms l nil = refl
      cut-weight_terms l (cons u us) = cut-sum _ _ _ _ (cut-weight_term l u) (cut-weight_terms l us)

    both : (a b c d : ℕ) → cut a ≡ cut b → cut c ≡ cut d → cut (a + c + 1) ≡ cut (b + d + 1)
    both a b c d e h = cut-more (a + c) (b + d) (cut-sum a b c d e h)

    pub cut-weight : (l : ℕ) (f : Formula) → cut (weight_of (cut_sizes ns m ts) l f) ≡ cut (weight_of (sizes ns m ts) l f)
    cut-weight l (atom p us) = cut-more _ _ (cut-weight_terms l us)
    cut-weight l top = refl
    cut-weight l bot = refl
    cut-weight l (not f) = cut-more _ _ (cut-weight l f)
    cut-weight l (and f g) = both _ _ _ _ (cut-weight l f) (cut-weight l g)
    cut-weight l (or f g) = both _ _ _ _ (cut-weight l f) (cut-weight l g)
    cut-weight l (imp f g) = both _ _ _ _ (cut-weight l f) (cut-weight l g)
    cut-weight l (all f) = cut-more _ _ (cut-weight (l + 1) f)
    cut-weight l (ex f) = cut-more _ _ (cut-weight (l + 1) f)
