-- What is well formed in a well-formed predicate symbol: its name, and its body where it has one.
use Rattle.std.proofs.Common.{◌≡◌, ◌≤◌, Bool, true, false, not as negated, leb, ◌&&◌, refl, arith}
use Rattle.std.proofs.lemmas.Bool.Decides.{nat_tests}
use Rattle.fol.specs.declared.symbols.Sym.{Sym}
use Rattle.fol.specs.Syntax.{Pred, pred, pred_symbol, defined, Formula}
use Rattle.fol.specs.Facts.{is_open}
use Rattle.fol.specs.Formed.{is_formed_sym, is_formed_pred, is_formed_body, is_formed_at, leading_all}

and_left : (a b : Bool) → (a && b) ≡ true → a ≡ true
and_left true b e = refl
and_left false b e = e

and_right : (a b : Bool) → (a && b) ≡ true → b ≡ true
and_right true b e = e
and_right false b e = cc

-- its name is one
pub formed_symbol : (p : Pred) → is_formed_pred p ≡ true → is_formed_sym (pred_symbol p) ≡ true
formed_symbol (pred s b) h = and_right (is_formed_body s.arity b) _ h

-- its body is well formed
pub formed_body : (s : Sym) (f : Formula) → is_formed_pred (pred s (defined f)) ≡ true → is_formed_at 0 f ≡ true
formed_body s f h = and_left _ _ (and_left _ _ (and_left _ _ h))

-- no variable is free in its body
pub shut_body : (s : Sym) (f : Formula) → is_formed_pred (pred s (defined f)) ≡ true → is_open f ≡ false
shut_body s f h = shut (is_open f) (and_right (is_formed_at 0 f) _ (and_left _ _ (and_left _ _ h)))
  where
    shut : (b : Bool) → negated b ≡ true → b ≡ false
    shut true e = cc
    shut false e = refl

-- its body has a quantifier for each argument
pub leading_body : (s : Sym) (f : Formula) → is_formed_pred (pred s (defined f)) ≡ true → s.arity ≤ leading_all f
leading_body s f h =
    let test : leb s.arity (leading_all f) ≡ true = and_right (is_formed_at 0 f && negated (is_open f)) _ (and_left _ _ h) in
    grind (arith, nat_tests)
