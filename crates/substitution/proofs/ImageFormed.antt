-- Replacing variables by well-formed terms keeps well-formedness.
use Rattle.std.proofs.Common.{◌≡◌, ℕ, ◌+◌, true, Option, Some, None, IfSome, unwrap_or, refl, ap, arith}
use Rattle.fol.specs.declared.symbols.Var.{Var}
use Rattle.fol.specs.Syntax.{Term, free, bound, app, Terms, nil, cons, pred_symbol, Formula, atom, top, bot, not, and, or, imp, all, ex}
use Rattle.fol.specs.Formed.{is_formed_var, is_formed_sym, is_formed_pred, count_terms, is_formed_term_at, are_formed_terms_at, is_formed_at, IsFormedTerm}
use Rattle.substitution.proofs.Booleans.{and_left, and_right, and_both}
use Rattle.substitution.proofs.InstanceFormed.{formed_deeper, formed_atom}
use Rattle.substitution.specs.Image.{image_term, image_terms, image, IsFormedMap}

pub count-image_terms : (m : Var → Option Term) (ts : Terms) → count_terms (image_terms m ts) ≡ count_terms ts
count-image_terms m nil = refl
count-image_terms m (cons t ts) = ap (λ n. n + 1) (count-image_terms m ts)

formed_image_var : (o : Option Term) (v : Var) (k : ℕ) → IfSome o IsFormedTerm → is_formed_var v ≡ true → is_formed_term_at k (unwrap_or o (free v)) ≡ true
formed_image_var None v k map h = h
formed_image_var (Some t) v k map h = formed_deeper t 0 k (omega arith) map

mutual
  pub formed-image_term : (m : Var → Option Term) (t : Term) (k : ℕ) → IsFormedMap m → is_formed_term_at k t ≡ true → is_formed_term_at k (image_term m t) ≡ true
  formed-image_term m (free v) k map h = formed_image_var (m v) v k (map v) h
  formed-image_term m (bound i) k map h = h
  formed-image_term m (app s ts) k map h =
      formed_atom (is_formed_sym s) _ _ s.arity _ _ (count-image_terms m ts) (formed-image_terms m ts k map) h

  pub formed-image_terms : (m : Var → Option Term) (ts : Terms) (k : ℕ) → IsFormedMap m → are_formed_terms_at k ts ≡ true → are_formed_terms_at k (image_terms m ts) ≡ true
  formed-image_terms m nil k map h = refl
  formed-image_terms m (cons t ts) k map h =
      and_both _ _ (formed-image_term m t k map (and_left _ _ h)) (formed-image_terms m ts k map (and_right (is_formed_term_at k t) _ h))

pub formed-image : (m : Var → Option Term) (f : Formula) (k : ℕ) → IsFormedMap m → is_formed_at k f ≡ true → is_formed_at k (image m f) ≡ true
formed-image m (atom p ts) k map h = formed_atom (is_formed_pred p) _ _ (pred_symbol p).arity _ _ (count-image_terms m ts) (formed-image_terms m ts k map) h
formed-image m top k map h = refl
formed-image m bot k map h = refl
formed-image m (not a) k map h = formed-image m a k map h
formed-image m (and a b) k map h = and_both _ _ (formed-image m a k map (and_left _ _ h)) (formed-image m b k map (and_right (is_formed_at k a) _ h))
formed-image m (or a b) k map h = and_both _ _ (formed-image m a k map (and_left _ _ h)) (formed-image m b k map (and_right (is_formed_at k a) _ h))
formed-image m (imp a b) k map h = and_both _ _ (formed-image m a k map (and_left _ _ h)) (formed-image m b k map (and_right (is_formed_at k a) _ h))
formed-image m (all a) k map h = formed-image m a (k + 1) map h
formed-image m (ex a) k map h = formed-image m a (k + 1) map h

pub ruleset image_formed = (formed-image, formed-image_term)
