-- The universal closure of a formula begins with a quantifier for each variable, and those variables are no longer free there.
use Rattle.std.proofs.Common.{◌≡◌, ℕ, ◌+◌, ◌^◌, ◌<◌, ◌≤◌, Bool, true, false, not as negated, leb, ◌&&◌, ◌||◌, List, [], ◌∷◌, length, refl, sym, ap, ◌∙◌, arith}
use Rattle.std.specs.Ordering.{eq_by_cmp}
use Rattle.std.proofs.lemmas.Bool.Decides.{nat_tests}
use Rattle.fol.specs.declared.symbols.Var.{Var}
use Rattle.fol.specs.Syntax.{Term, free, bound, app, Terms, nil, cons, Formula, atom, top, bot, not, and, or, imp, all, ex}
use Rattle.fol.specs.Facts.{is_term_open, are_terms_open, is_open}
use Rattle.fol.specs.Order.{var_cmp}
use Rattle.fol.specs.Formed.{is_name, is_formed_at, leading_all, IsFormed, IsFormedPred}
use Rattle.free_variables.proofs.ShutLaws.{or_left, or_right}
use Rattle.free_variables.specs.Fresh.{is_among}
use Rattle.free_variables.specs.Occurrence.{is_free_in, is_free_in_term, is_free_in_terms}
use Rattle.substitution.specs.Closing.{closed_over}
use Rattle.substitution.specs.Instance.{bind_at, nesting}
use Rattle.substitution.proofs.Booleans.{and_both}
use Rattle.substitution.proofs.ClosingLaws.{formed_closed_all}
use Rattle.substitution.proofs.FreeLaws.{free-bind_at}
use Rattle.substitution.proofs.ImageLaws.{itself}
use Rattle.def_laws.specs.Definitions.{definition}
use Rattle.def_laws.proofs.Arguments.{neither}

-- the quantifiers

leading-bind : (v : Var) (k : ℕ) (f : Formula) → leading_all (bind_at v k f) ≡ leading_all f
leading-bind v k (all f) = ap (λ n. n + 1) (leading-bind v (k + 1) f)
leading-bind v k (atom p ts) = refl
leading-bind v k f = refl

pub leading-closed_over : (vs : List Var) (f : Formula) → length vs ≤ leading_all (closed_over all vs f)
leading-closed_over [] f = omega arith
leading-closed_over (v ∷ vs) f = omega (arith, leading-bind v 0 (closed_over all vs f), leading-closed_over vs f)

-- the free variables

but_both : (a b c : Bool) → ((a && negated b) && negated c) ≡ (a && negated (c || b))
but_both true b true = no (negated b)
  where
    no : (d : Bool) → (d && false) ≡ false
    no true = refl
    no false = refl
but_both true true false = refl
but_both true false false = refl
but_both false b c = refl

but_none : (a : Bool) → a ≡ (a && true)
but_none true = refl
but_none false = refl

pub free-closed_over : (w : Var) (vs : List Var) (f : Formula) → is_free_in w (closed_over all vs f) ≡ (is_free_in w f && negated (is_among w vs))
free-closed_over w [] f = but_none (is_free_in w f)
free-closed_over w (v ∷ vs) f =
    free-bind_at w v (closed_over all vs f) 0
    ∙ ap (λ b. b && negated (eq_by_cmp var_cmp w v)) (free-closed_over w vs f)
    ∙ but_both (is_free_in w f) (is_among w vs) (eq_by_cmp var_cmp w v)

-- where none is free, the formula isn't open

mutual
  shut_of_free_term : (t : Term) → ((w : Var) → is_free_in_term w t ≡ false) → is_term_open t ≡ false
  shut_of_free_term (free v) h = sym (itself v) ∙ h v
  shut_of_free_term (bound i) h = refl
  shut_of_free_term (app s ts) h = shut_of_free_terms ts h

  shut_of_free_terms : (ts : Terms) → ((w : Var) → is_free_in_terms w ts ≡ false) → are_terms_open ts ≡ false
  shut_of_free_terms nil h = refl
  shut_of_free_terms (cons t ts) h =
      neither _ _ (shut_of_free_term t (λ w. or_left _ _ (h w))) (shut_of_free_terms ts (λ w. or_right (is_free_in_term w t) _ (h w)))

shut_of_free : (f : Formula) → ((w : Var) → is_free_in w f ≡ false) → is_open f ≡ false
shut_of_free (atom p ts) h = shut_of_free_terms ts h
shut_of_free top h = refl
shut_of_free bot h = refl
shut_of_free (not f) h = shut_of_free f h
shut_of_free (and f g) h = neither _ _ (shut_of_free f (λ w. or_left _ _ (h w))) (shut_of_free g (λ w. or_right (is_free_in w f) _ (h w)))
shut_of_free (or f g) h = neither _ _ (shut_of_free f (λ w. or_left _ _ (h w))) (shut_of_free g (λ w. or_right (is_free_in w f) _ (h w)))
shut_of_free (imp f g) h = neither _ _ (shut_of_free f (λ w. or_left _ _ (h w))) (shut_of_free g (λ w. or_right (is_free_in w f) _ (h w)))
shut_of_free (all f) h = shut_of_free f h
shut_of_free (ex f) h = shut_of_free f h

closed_out : (a b : Bool) → (a ≡ true → b ≡ true) → (a && negated b) ≡ false
closed_out true b f = ap negated (f refl)
closed_out false b f = refl

pub shut-closed_over : (vs : List Var) (f : Formula) → ((w : Var) → is_free_in w f ≡ true → is_among w vs ≡ true) → is_open (closed_over all vs f) ≡ false
shut-closed_over vs f h = shut_of_free (closed_over all vs f) (λ w. free-closed_over w vs f ∙ closed_out _ _ (h w))

-- so the symbol that stands for a formula is well formed

few_enough : (m n : ℕ) → m ≤ n → leb m n ≡ true
few_enough m n h = grind (arith, nat_tests)

pub formed_definition : (name : List ℕ) (vs : List Var) (f : Formula) → is_name name ≡ true → length vs + nesting f < 2 ^ 32 → IsFormed f → ((w : Var) → is_free_in w f ≡ true → is_among w vs ≡ true) → IsFormedPred (definition name vs f)
formed_definition name vs f named few h listed =
    let c : Formula = closed_over all vs f in
    and_both _ (is_name name)
    (and_both (is_formed_at 0 c && negated (is_open c)) _ (and_both _ _ (formed_closed_all vs f few h) (ap negated (shut-closed_over vs f listed))) (few_enough (length vs) (leading_all c) (leading-closed_over vs f)))
    named
