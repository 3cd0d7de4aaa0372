-- A most general unifier of the equations between atoms is one of the atoms.
use Rattle.std.proofs.Common.{◌≡◌, true, false, ◌&&◌, ◌==◌, List, [], ◌∷◌, Option, refl, sym, ◌∙◌}
use Rattle.std.specs.List.{All, AllByRecursion, list_all}
use Rattle.std.specs.Ordering.{eq_by_cmp}
use Rattle.std.proofs.lemmas.List.Elements.{All-head, All-tail, All-cons, All-from_recursion, recursion_from_All}
use Rattle.std.proofs.lemmas.Bool.{false≢true}
use Rattle.fol.specs.declared.symbols.Var.{Var}
use Rattle.fol.specs.Syntax.{Term, app, pred, pred_symbol, Formula, atom, top, bot, not, and, or, imp, all, ex}
use Rattle.fol.specs.Order.{pred_cmp}
use Rattle.fol.specs.Formed.{IsFormed, IsFormedTerm, is_formed_pred, is_formed_sym, is_formed_body, count_terms, are_formed_terms_at}
use Rattle.fol.proofs.OrderTies.{pred_equality_same}
use Rattle.substitution.specs.Image.{image_term, image_terms, image}
use Rattle.substitution.proofs.Booleans.{and_both, and_left, and_right}
use Rattle.proof_trees.specs.FormulaSets.{is_atom}
use Rattle.unify_laws.specs.Equations.{Equation, AreFormed, Unifies}
use Rattle.clause_laws.specs.Unifiers.{term_of, same_predicate, equations}
use Rattle.res_prover.specs.Resolved.{IsAtomFormed}

abbrev Replacing : Type 0
Replacing = Var → Option Term

abbrev HasEqual : Replacing → Equation → Type 0
HasEqual h e = image_term h e.0 ≡ image_term h e.1

one_predicate : (h : Replacing) (f g : Formula) → is_atom f ≡ true → image h f ≡ image h g → same_predicate f g ≡ true
one_predicate h (atom p ts) (atom q us) is e = let same : p ≡ q = cc in (pred_equality_same p q (eq_by_cmp pred_cmp p q) refl).1 same
one_predicate h (atom p ts) g is e = cc
one_predicate h f g is e = cc

equal_terms : (h : Replacing) (f g : Formula) → same_predicate f g ≡ true → image h f ≡ image h g → image_term h (term_of f) ≡ image_term h (term_of g)
equal_terms h (atom p ts) (atom q us) one e =
    let same : p ≡ q = cc in
    let arguments : image_terms h ts ≡ image_terms h us = cc in
    λ i. app (pred_symbol (same i)) (arguments i)
equal_terms h (atom p ts) g one e = cc
equal_terms h f g one e = cc

equal_atoms : (h : Replacing) (f g : Formula) → same_predicate f g ≡ true → image_term h (term_of f) ≡ image_term h (term_of g) → image h f ≡ image h g
equal_atoms h (atom p ts) (atom q us) one e =
    let same : p ≡ q = (pred_equality_same p q (eq_by_cmp pred_cmp p q) refl).0 one in
    let arguments : image_terms h ts ≡ image_terms h us = cc in
    λ i. atom (same i) (arguments i)
equal_atoms h (atom p ts) g one e = cc
equal_atoms h f g one e = cc

-- each atom of a list becomes what the first one does

pub of_one : (h : Replacing) (f b : Formula) → is_atom f ≡ true → image h f ≡ b → (gs : List Formula) → AllByRecursion (λ g. image h g ≡ b) gs → list_all (same_predicate f) gs ≡ true
of_one h f b is e [] each = refl
of_one h f b is e (g ∷ gs) each = and_both (same_predicate f g) (list_all (same_predicate f) gs) (one_predicate h f g is (e ∙ sym each.0)) (of_one h f b is e gs each.1)

solved : (h : Replacing) (f b : Formula) → image h f ≡ b → (gs : List Formula) → list_all (same_predicate f) gs ≡ true → AllByRecursion (λ g. image h g ≡ b) gs → AllByRecursion (HasEqual h) (equations f gs)
solved h f b e [] one each = tt
solved h f b e (g ∷ gs) one each = (equal_terms h f g (and_left _ _ one) (e ∙ sym each.0), solved h f b e gs (and_right (same_predicate f g) _ one) each.1)

made : (h : Replacing) (f : Formula) (gs : List Formula) → list_all (same_predicate f) gs ≡ true → AllByRecursion (HasEqual h) (equations f gs) → AllByRecursion (λ g. image h g ≡ image h f) gs
made h f [] one each = tt
made h f (g ∷ gs) one each = (sym (equal_atoms h f g (and_left _ _ one) each.0), made h f gs (and_right (same_predicate f g) _ one) each.1)

pub solves : (h : Replacing) (f b : Formula) (gs : List Formula) → list_all (same_predicate f) gs ≡ true → All (λ g. image h g ≡ b) (f ∷ gs) → Unifies h (equations f gs)
solves h f b gs one each =
    All-from_recursion (HasEqual h) (equations f gs) (solved h f b (All-head (λ g. image h g ≡ b) f gs each) gs one (recursion_from_All (λ g. image h g ≡ b) gs (All-tail (λ g. image h g ≡ b) f gs each)))

pub makes : (h : Replacing) (f : Formula) (gs : List Formula) → list_all (same_predicate f) gs ≡ true → Unifies h (equations f gs) → All (λ g. image h g ≡ image h f) (f ∷ gs)
makes h f gs one each =
    All-cons (λ g. image h g ≡ image h f) f gs refl (All-from_recursion (λ g. image h g ≡ image h f) gs (made h f gs one (recursion_from_All (HasEqual h) (equations f gs) each)))

pub not_of_one : (h : Replacing) (f b : Formula) (gs : List Formula) → is_atom f ≡ true → list_all (same_predicate f) gs ≡ false → All (λ g. image h g ≡ b) (f ∷ gs) → ⊥
not_of_one h f b gs is apart each =
    false≢true (sym apart ∙ of_one h f b is (All-head (λ g. image h g ≡ b) f gs each) gs (recursion_from_All (λ g. image h g ≡ b) gs (All-tail (λ g. image h g ≡ b) f gs each)))

-- well-formed atoms make well-formed equations

formed_term : (f : Formula) → is_atom f ≡ true → IsFormed f → IsFormedTerm (term_of f)
formed_term (atom (pred s b) ts) is h =
    let head = and_left (is_formed_pred (pred s b) && count_terms ts == s.arity) (are_formed_terms_at 0 ts) h in
    and_both (is_formed_sym s && count_terms ts == s.arity) (are_formed_terms_at 0 ts)
    (and_both (is_formed_sym s) (count_terms ts == s.arity)
    (and_right (is_formed_body s.arity b) (is_formed_sym s) (and_left (is_formed_pred (pred s b)) (count_terms ts == s.arity) head))
    (and_right (is_formed_pred (pred s b)) (count_terms ts == s.arity) head))
    (and_right (is_formed_pred (pred s b) && count_terms ts == s.arity) (are_formed_terms_at 0 ts) h)
formed_term f is h = cc

formed_each : (f : Formula) → IsAtomFormed f → (gs : List Formula) → AllByRecursion IsAtomFormed gs → AllByRecursion (λ (e : Equation). IsFormedTerm e.0 × IsFormedTerm e.1) (equations f gs)
formed_each f h [] hs = tt
formed_each f h (g ∷ gs) hs = ((formed_term f h.0 h.1, formed_term g hs.0.0 hs.0.1), formed_each f h gs hs.1)

pub formed_equations : (f : Formula) (gs : List Formula) → All IsAtomFormed (f ∷ gs) → AreFormed (equations f gs)
formed_equations f gs h =
    All-from_recursion (λ (e : Equation). IsFormedTerm e.0 × IsFormedTerm e.1) (equations f gs)
    (formed_each f (All-head IsAtomFormed f gs h) gs (recursion_from_All IsAtomFormed gs (All-tail IsAtomFormed f gs h)))

pub atom_image : (m : Replacing) (f : Formula) → is_atom f ≡ true → is_atom (image m f) ≡ true
atom_image m (atom p ts) is = refl
atom_image m top is = cc
atom_image m bot is = cc
atom_image m (not f) is = cc
atom_image m (and f g) is = cc
atom_image m (or f g) is = cc
atom_image m (imp f g) is = cc
atom_image m (all f) is = cc
atom_image m (ex f) is = cc
