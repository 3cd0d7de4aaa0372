-- The connectives at the heads of formulas, one more, and their marks.
use Rattle.std.proofs.Common.{◌≡◌, ℕ, ◌+◌, ◌<◌, List, [], ◌∷◌, ◌++◌, length, get_or, Option, Some, None, is_some, below_more, sym, ap, subst, arith}
use Rattle.std.proofs.lemmas.List.{get_or_read, get_or_append_left, get_or_push}
use Rattle.fol.specs.Syntax.{Formula, top}
use Rattle.search_laws.specs.Search.{is_compound}
use Rattle.prop_search.specs.declared.connective.Connective.{Connective}
use Rattle.prop_search.specs.declared.connective.Connective.TheVariants.{Not, And, Or, Imp}
use Rattle.prop_search.specs.Formulas.{formula_at}
use Rattle.prop_search.specs.Numbering.{IsRoot}

module _ (fs : List Formula) where
  -- one more
  pub rooted_more : (rs : List (Option Connective)) (i : ℕ) (o : Option Connective) (f : Formula) → length rs ≡ i → i < length fs → f ≡ get_or fs i f → IsRoot fs o f
      → ((n : ℕ) → n < i → IsRoot fs (get_or rs n None) (formula_at fs n)) → (n : ℕ) → n < i + 1 → IsRoot fs (get_or (rs ++ o ∷ []) n None) (formula_at fs n)
  rooted_more rs i o f many l is here before =
      below_more (λ n. IsRoot fs (get_or (rs ++ o ∷ []) n None) (formula_at fs n)) i
      (λ n below. subst (λ r. IsRoot fs r (formula_at fs n)) (sym (get_or_append_left rs (o ∷ []) None n (omega arith))) (before n below))
      (subst (λ r. IsRoot fs r (formula_at fs i)) (sym (get_or_push rs o None i many)) (subst (IsRoot fs o) (get_or_read fs i f l is top) here))

  -- a formula has a connective at its head just where it is compound
  pub rooted_compound : (o : Option Connective) (f : Formula) → IsRoot fs o f → is_some o ≡ is_compound f
  rooted_compound None f h = sym h
  rooted_compound (Some (Not a)) f h = ap is_compound (sym h.1)
  rooted_compound (Some (And a b)) f h = ap is_compound (sym h.2)
  rooted_compound (Some (Or a b)) f h = ap is_compound (sym h.2)
  rooted_compound (Some (Imp a b)) f h = ap is_compound (sym h.2)
