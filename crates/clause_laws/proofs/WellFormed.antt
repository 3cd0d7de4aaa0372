-- Of well-formed atoms the unifier is well formed, and the images, resolvents and variants of well-formed clauses are.
use Rattle.std.proofs.Common.{◌≡◌, ℕ, suc, Bool, true, false, ◌&&◌, ◌==◌, if◌then◌else◌, List, [], ◌∷◌, Option, Some, None, IfSome, refl, sym, subst, ap, ◌∙◌}
use Rattle.std.specs.FinMap as fin
use Rattle.std.specs.List.{All, AllByRecursion, list_all}
use Rattle.std.specs.Ordering.{eq_by_cmp}
use Rattle.std.proofs.lemmas.List.Elements.{recursion_from_All}
use Rattle.fol.specs.declared.symbols.Var.{Var}
use Rattle.fol.specs.declared.symbols.Var.TheVariants.{Num}
use Rattle.fol.specs.Syntax.{Term, free, pred, Formula, atom}
use Rattle.fol.specs.Order.{var_cmp, formula_cmp}
use Rattle.fol.specs.Formed.{is_formed_sym, is_formed_body, is_formed_pred, count_terms, are_formed_terms_at, is_formed, IsFormed, IsFormedTerm}
use Rattle.finite.specs.Finite as set
use Rattle.finite.proofs.Finite.{has-listing}
use Rattle.substitution.specs.Image.{IsFormedMap}
use Rattle.substitution.specs.Maps.{Map}
use Rattle.substitution.proofs.Booleans.{and_left, and_right, and_both}
use Rattle.substitution.proofs.ImageLaws.{formed_empty}
use Rattle.substitution.proofs.ImageFormed.{formed-image}
use Rattle.lk_rules.specs.declared.sequent.Sequent.{Sequent}
use Rattle.lk_rules.specs.Formulas.{FormulaSet}
use Rattle.lk_rules.specs.Sequents.{image_sequent}
use Rattle.proof_trees.specs.Conclusions.{IsFormedSequent}
use Rattle.proof_trees.specs.FormulaSets.{is_atom}
use Rattle.proof_trees.proofs.Booleans.{or_first, or_second, either}
use Rattle.proof_trees.proofs.FormulaSets.{equal, tied}
use Rattle.refutations.specs.Refutations.{resolvent}
use Rattle.unify_laws.specs.Unification.{mgu}
use Rattle.unify_laws.proofs.EachSide.{FormedSides}
use Rattle.unify_laws.proofs.WellFormed.{formed_unifier}
use Rattle.clause_laws.specs.Unifiers.{term_of, same_predicate, equations, unifier}
use Rattle.clause_laws.specs.Normal.{variables, numbered, normal}
use Rattle.clause_laws.proofs.Sets.{Replacing, is_in, from_image}
use Rattle.clause_laws.proofs.Sequents.{from_left, from_right}

-- unifiers

formed_term : (f : Formula) → is_atom f ≡ true → IsFormed f → IsFormedTerm (term_of f)
formed_term (atom (pred s b) ts) is h =
    let front = and_left (is_formed_pred (pred s b) && count_terms ts == s.arity) (are_formed_terms_at 0 ts) h in
    and_both (is_formed_sym s && count_terms ts == s.arity) (are_formed_terms_at 0 ts)
    (and_both (is_formed_sym s) (count_terms ts == s.arity)
    (and_right (is_formed_body s.arity b) (is_formed_sym s) (and_left (is_formed_pred (pred s b)) (count_terms ts == s.arity) front))
    (and_right (is_formed_pred (pred s b)) (count_terms ts == s.arity) front))
    (and_right (is_formed_pred (pred s b) && count_terms ts == s.arity) (are_formed_terms_at 0 ts) h)
formed_term f is h = cc

abbrev IsFormedAtom : Formula → Type 0
IsFormedAtom f = (is_atom f ≡ true) × IsFormed f

formed_equations : (f : Formula) → IsFormedAtom f → (gs : List Formula) → AllByRecursion IsFormedAtom gs → FormedSides (equations f gs)
formed_equations f h [] all = tt
formed_equations f h (g ∷ gs) all = ((formed_term f h.0 h.1, formed_term g all.0.0 all.0.1), formed_equations f h gs all.1)

formed_if : (f : Formula) → IsFormedAtom f → (gs : List Formula) → AllByRecursion IsFormedAtom gs → (m : Map) → (b : Bool) → (if b then mgu (equations f gs) else None) ≡ Some m → IsFormedMap (fin.get m)
formed_if f h gs all m true is = formed_unifier (equations f gs) m (formed_equations f h gs all) is
formed_if f h gs all m false is = cc

formed_by_recursion : (fs : List Formula) → AllByRecursion IsFormedAtom fs → (m : Map) → unifier fs ≡ Some m → IsFormedMap (fin.get m)
formed_by_recursion [] all m is = let same : fin.empty ≡ m = cc in subst (λ (n : Map). IsFormedMap (fin.get n)) same formed_empty
formed_by_recursion (f ∷ gs) all m is = formed_if f all.0 gs all.1 m (list_all (same_predicate f) gs) is

pub unifier_formed : (fs : List Formula) → All (λ f. (is_atom f ≡ true) × IsFormed f) fs → (m : Map) → unifier fs ≡ Some m → IsFormedMap (fin.get m)
unifier_formed fs all = formed_by_recursion fs (recursion_from_All IsFormedAtom fs all)

-- clauses, by their members

each_passes : (fs : List Formula) → list_all is_formed fs ≡ true → (q : Formula) → is_in fs q ≡ true → IsFormed q
each_passes [] all q e = cc
each_passes (f ∷ fs) all q e =
    either (eq_by_cmp formula_cmp q f) (is_in fs q)
    (λ here. ap is_formed (equal q f here) ∙ and_left (is_formed f) (list_all is_formed fs) all)
    (each_passes fs (and_right (is_formed f) (list_all is_formed fs) all) q)
    e

all_pass : (fs : List Formula) → ((q : Formula) → is_in fs q ≡ true → IsFormed q) → list_all is_formed fs ≡ true
all_pass [] each = refl
all_pass (f ∷ fs) each =
    and_both (is_formed f) (list_all is_formed fs)
    (each f (or_first (eq_by_cmp formula_cmp f f) (is_in fs f) (tied f f refl)))
    (all_pass fs (λ q later. each q (or_second (eq_by_cmp formula_cmp q f) (is_in fs q) later)))

abbrev AreFormedMembers : FormulaSet → Type 0
AreFormedMembers s = (q : Formula) → set.has s q ≡ true → IsFormed q

members_formed : (s : FormulaSet) → list_all is_formed (set.listing s) ≡ true → AreFormedMembers s
members_formed s all q e = each_passes (set.listing s) all q (sym (has-listing s q) ∙ e)

formed_of_members : (c : Sequent) → AreFormedMembers c.left → AreFormedMembers c.right → IsFormedSequent c
formed_of_members c left right = record {
  left = all_pass (set.listing c.left) (λ q e. left q (has-listing c.left q ∙ e));
  right = all_pass (set.listing c.right) (λ q e. right q (has-listing c.right q ∙ e));
}

pub image_formed : (m : Replacing) (c : Sequent) → IsFormedMap m → IsFormedSequent c → IsFormedSequent (image_sequent m c)
image_formed m c map h =
    formed_of_members (image_sequent m c)
    (λ q. from_image m c.left q (λ f e is. ap is_formed is ∙ formed-image m f 0 map (members_formed c.left h.left f e)))
    (λ q. from_image m c.right q (λ f e is. ap is_formed is ∙ formed-image m f 0 map (members_formed c.right h.right f e)))

pub resolvent_formed : (p n : Sequent) (a : Formula) → IsFormedSequent p → IsFormedSequent n → IsFormedSequent (resolvent p n a)
resolvent_formed p n a one two =
    formed_of_members (resolvent p n a)
    (λ q. from_left p n a q (members_formed p.left one.left q) (λ e _. members_formed n.left two.left q e))
    (λ q. from_right p n a q (λ e _. members_formed p.right one.right q e) (members_formed n.right two.right q))

-- numbers are well formed

some_formed : (b : Bool) (n : ℕ) (o : Option Term) → IfSome o IsFormedTerm → IfSome (if b then Some (free (Num n)) else o) IsFormedTerm
some_formed true n o h = refl
some_formed false n o h = h

numbered_formed : (n : ℕ) (ws : List Var) → IsFormedMap (numbered n ws)
numbered_formed n [] v = tt
numbered_formed n (w ∷ ws) v = some_formed (eq_by_cmp var_cmp v w) n (numbered (suc n) ws v) (numbered_formed (suc n) ws v)

pub normal_formed : (c : Sequent) → IsFormedSequent c → IsFormedSequent (normal c)
normal_formed c = image_formed (numbered 0 (variables c)) c (numbered_formed 0 (variables c))
