-- Ground clauses: the literals of a disjunction without variables, and the atoms of such clauses.
use Rattle.std.proofs.Common.{◌≡◌, Bool, true, false, not as negated, ◌||◌, List, [], ◌∷◌, refl, sym, ap, ◌∙◌}
use Rattle.std.specs.List.{list_all}
use Rattle.std.specs.Ordering.{eq_by_cmp}
use Rattle.std.proofs.lemmas.Bool.{and_parts, and_from, or_parts}
use Rattle.fol.specs.Syntax.{Formula}
use Rattle.fol.specs.Facts.{is_open}
use Rattle.fol.specs.Order.{formula_cmp}
use Rattle.finite.specs.Finite as set
use Rattle.finite.proofs.Finite.{has-listing}
use Rattle.lk_rules.specs.declared.sequent.Sequent.{Sequent}
use Rattle.proof_trees.proofs.Booleans.{or_first, or_second, either}
use Rattle.proof_trees.specs.FormulaSets.{is_atom}
use Rattle.refutations.specs.Clauses.{is_clause, literals_of}
use Rattle.proof_trees.proofs.FormulaSets.{equal, tied}
use Rattle.ground_laws.specs.Models.{is_ground_atom, is_ground, occurs}
use Rattle.ground_laws.proofs.Clauses.{among}
use Rattle.ground_laws.proofs.Literals.{each_literal}

-- tests that each member of a set passes

pub one_passes : (p : Formula → Bool) (fs : List Formula) (f : Formula) → list_all p fs ≡ true → among fs f ≡ true → p f ≡ true
one_passes p [] f each m = cc
one_passes p (g ∷ gs) f each m =
    let parts = and_parts (p g) (list_all p gs) each in
    either (eq_by_cmp formula_cmp f g) (among gs f) (λ e. ap p (equal f g e) ∙ parts.0) (one_passes p gs f parts.1) m

pub all_pass : (p : Formula → Bool) (fs : List Formula) → ((f : Formula) → among fs f ≡ true → p f ≡ true) → list_all p fs ≡ true
all_pass p [] each = refl
all_pass p (f ∷ fs) each =
    and_from (p f) (list_all p fs) (each f (or_first (eq_by_cmp formula_cmp f f) (among fs f) (tied f f refl)))
    (all_pass p fs (λ g m. each g (or_second (eq_by_cmp formula_cmp g f) (among fs g) m)))

-- a clause is ground exactly where its atoms are

atom_of_ground : (c : Sequent) (f : Formula) → is_ground c ≡ true → (set.has c.left f || set.has c.right f) ≡ true → is_ground_atom f ≡ true
atom_of_ground c f h =
    let parts = and_parts (list_all is_ground_atom (set.listing c.left)) (list_all is_ground_atom (set.listing c.right)) h in
    either (set.has c.left f) (set.has c.right f)
    (λ m. one_passes is_ground_atom (set.listing c.left) f parts.0 (sym (has-listing c.left f) ∙ m))
    (λ m. one_passes is_ground_atom (set.listing c.right) f parts.1 (sym (has-listing c.right f) ∙ m))

ground_by_atoms : (c : Sequent) → ((f : Formula) → (set.has c.left f || set.has c.right f) ≡ true → is_ground_atom f ≡ true) → is_ground c ≡ true
ground_by_atoms c each =
    and_from (list_all is_ground_atom (set.listing c.left)) (list_all is_ground_atom (set.listing c.right))
    (all_pass is_ground_atom (set.listing c.left) (λ f m. each f (or_first (set.has c.left f) (set.has c.right f) (has-listing c.left f ∙ m))))
    (all_pass is_ground_atom (set.listing c.right) (λ f m. each f (or_second (set.has c.left f) (set.has c.right f) (has-listing c.right f ∙ m))))

pub ground_atom : (cs : List Sequent) (f : Formula) → list_all is_ground cs ≡ true → occurs cs f ≡ true → is_ground_atom f ≡ true
ground_atom [] f h one = cc
ground_atom (c ∷ cs) f h one =
    let parts = and_parts (is_ground c) (list_all is_ground cs) h in
    either (set.has c.left f || set.has c.right f) (occurs cs f) (atom_of_ground c f parts.0) (ground_atom cs f parts.1) one

-- the literals of a disjunction

literal_ground : (f q : Formula) → is_clause f ≡ true → is_open f ≡ false → (set.has (literals_of f).left q || set.has (literals_of f).right q) ≡ true → is_ground_atom q ≡ true
literal_ground =
    each_literal (λ f. is_open f ≡ false) (λ f. is_ground_atom f ≡ true)
    (λ f g. or_parts (is_open f) (is_open g))
    (λ f shape closed. and_from (is_atom f) (negated (is_open f)) shape (ap negated closed))
    (λ f closed. closed)

pub literals_ground : (f : Formula) → is_clause f ≡ true → is_open f ≡ false → is_ground (literals_of f) ≡ true
literals_ground f shape closed = ground_by_atoms (literals_of f) (λ q. literal_ground f q shape closed)
