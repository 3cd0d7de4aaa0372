-- The numbers of variables in a program fit 64 bits, and what that says of an atom.
use Rattle.std.proofs.Common.{◌≡◌, ℕ, ◌+◌, ◌<◌, ◌≤◌, ◌^◌, Bool, true, false, not as negated, List, length, take, get_or, ◌||◌, refl, sym, ◌∙◌, subst, arith}
use Rattle.std.specs.List.{All}
use Rattle.std.specs.Ordering.{eq_by_cmp}
use Rattle.std.proofs.lemmas.Bool.{both_ways, not-true}
use Rattle.std.proofs.lemmas.List.{take_all}
use Rattle.std.proofs.lemmas.List.Elements.{All-more}
use Rattle.fol.specs.declared.symbols.Var.{Var}
use Rattle.fol.specs.declared.symbols.Var.TheVariants.{Num, Word}
use Rattle.fol.specs.Syntax.{Term, Terms, Pred, Formula, atom}
use Rattle.fol.specs.Facts.{is_term_open, are_terms_open, has_body}
use Rattle.fol.specs.Formed.{IsFormed}
use Rattle.fol.specs.Order.{var_cmp}
use Rattle.fol.proofs.OrderTies.{var_equality_same}
use Rattle.free_variables.specs.Occurrence.{is_free_in_term, is_free_in_terms}
use Rattle.free_variables.proofs.ShutLaws.{shut_free_term, shut_free_terms}
use Rattle.proof_trees.proofs.Booleans.{either}
use Rattle.finite.specs.Finite as set
use Rattle.lk_rules.specs.declared.sequent.Sequent.{Sequent}
use Rattle.refutations.specs.declared.step.ResStep.{ResStep}
use Rattle.refutations.specs.declared.step.ResStep.TheVariants.{Resolve}
use Rattle.reply_lines.specs.Shown.{IsShownFormula, IsShownStep, IsShownClause}

equal_vars : (x y : Var) → eq_by_cmp var_cmp x y ≡ true → x ≡ y
equal_vars x y e = (var_equality_same x y (eq_by_cmp var_cmp x y) refl).0 e

-- numbered variables that are equal have one number, and one with a word has none
pub same_number : (v : Var) (m n : ℕ) → v ≡ Num m → m < 2 ^ 64 → eq_by_cmp var_cmp (Num n) v ≡ true → n < 2 ^ 64
same_number v m n is below e =
    let same : Num n ≡ Num m = equal_vars (Num n) v e ∙ is in
    let numbers : n ≡ m = cc in
    subst (λ k. k < 2 ^ 64) (sym numbers) below

pub no_number : (v : Var) (x : List ℕ) (n : ℕ) → v ≡ Word x → eq_by_cmp var_cmp (Num n) v ≡ true → n < 2 ^ 64
no_number v x n is e =
    let same : Num n ≡ Word x = equal_vars (Num n) v e ∙ is in
    cc

-- where no variable is free, none is numbered
pub no_free_in_term : (t : Term) (n : ℕ) (b : Bool) → b ≡ is_term_open t → b ≡ false → is_free_in_term (Num n) t ≡ true → n < 2 ^ 64
no_free_in_term t n b is shut stands = absurd (both_ways _ (shut_free_term (Num n) t b is shut) stands)

pub no_free_in_terms : (ts : Terms) (n : ℕ) (b : Bool) → b ≡ are_terms_open ts → b ≡ false → is_free_in_terms (Num n) ts ≡ true → n < 2 ^ 64
no_free_in_terms ts n b is shut stands = absurd (both_ways _ (shut_free_terms (Num n) ts b is shut) stands)

-- what is free in a list of terms is free in the first one or in the rest
pub in_both : (t : Term) (ts : Terms) → ((n : ℕ) → is_free_in_term (Num n) t ≡ true → n < 2 ^ 64) → ((n : ℕ) → is_free_in_terms (Num n) ts ≡ true → n < 2 ^ 64)
    → (n : ℕ) → (is_free_in_term (Num n) t || is_free_in_terms (Num n) ts) ≡ true → n < 2 ^ 64
in_both t ts first rest n stands = either (is_free_in_term (Num n) t) (is_free_in_terms (Num n) ts) (first n) (rest n) stands

-- an atom has no quantifier, so no number is chosen for one
pub atom_shown : (f : Formula) (p : Pred) (ts : Terms) (b : Bool) → f ≡ atom p ts → b ≡ has_body f → IsFormed f
    → ((n : ℕ) → is_free_in_terms (Num n) ts ≡ true → n < 2 ^ 64) → negated b ≡ true → IsShownFormula f
atom_shown f p ts b is body formed numbers primitive =
    let none : has_body f ≡ false = sym body ∙ not-true b primitive in
    subst IsShownFormula (sym is)
    (subst (λ (g : Formula). has_body g ≡ false) is none, subst IsFormed is formed, (numbers, λ d below. absurd (omega arith)))

-- one more element of a list is shown, and in the end all are
pub one_more : {X : Type 0} (P : X → Type 0) (xs : List X) (i : ℕ) (x : X) (r : Bool) → i < length xs → x ≡ get_or xs i x → (r ≡ true → P x) → r ≡ true → All P (take i xs)
    → All P (take (i + 1) xs)
one_more P xs i x r within is tells found before = All-more P xs i x within before (subst P is (tells found))

pub each_shown : {X : Type 0} (P : X → Type 0) (xs : List X) (i : ℕ) → length xs ≤ i → All P (take i xs) → All P xs
each_shown P xs i past before = subst (All P) (take_all i xs past) before

-- a clause is shown where the atoms on both of its sides are
pub clause_shown : (c : Sequent) (ls rs : List Formula) (a b : Bool) → ls ≡ set.listing c.left → rs ≡ set.listing c.right → (a ≡ true → All IsShownFormula ls)
    → (b ≡ true → All IsShownFormula rs) → a ≡ true → b ≡ true → IsShownClause c
clause_shown c ls rs a b left right first second is_first is_second =
    (subst (All IsShownFormula) left (first is_first), subst (All IsShownFormula) right (second is_second))

-- a step by resolution is shown where its atom is
pub resolution_shown : (s : ResStep) (p n : ℕ) (a : Formula) (r : Bool) → s ≡ Resolve p n a → p < 2 ^ 64 → n < 2 ^ 64 → (r ≡ true → IsShownFormula a) → r ≡ true → IsShownStep s
resolution_shown s p n a r is first second tells found = subst IsShownStep (sym is) (first, second, tells found)
