-- What holds of the atoms of a disjunction of literals holds of the members of its sequent.
use Rattle.std.proofs.Common.{◌≡◌, true, ◌||◌, sym, subst, ◌∙◌}
use Rattle.std.specs.Ordering.{eq_by_cmp}
use Rattle.std.proofs.lemmas.Bool.{both_ways, and_parts}
use Rattle.fol.specs.Syntax.{Formula, atom, top, bot, not, and, or, imp, all, ex}
use Rattle.fol.specs.Order.{formula_cmp}
use Rattle.fol.specs.OrderLaws.{formula_total}
use Rattle.finite.specs.Finite as set
use Rattle.finite.proofs.Finite.{has-empty, has-adds}
use Rattle.proof_trees.proofs.Booleans.{or_first, or_second, either}
use Rattle.proof_trees.specs.FormulaSets.{is_atom}
use Rattle.refutations.specs.Clauses.{is_clause, literals_of}
use Rattle.proof_trees.proofs.FormulaSets.{equal, in_either}

no_member : {P : Type 0} (q : Formula) → set.has (set.empty {R = formula_cmp}) q ≡ true → P
no_member q m = absurd (both_ways (set.has (set.empty {R = formula_cmp}) q) (has-empty formula_cmp q) m)

-- Whole is what is known of the disjunction, and Part is to hold of each atom
module _ (Whole Part : Formula → Type 0) (sides : (f g : Formula) → Whole (or f g) → Whole f × Whole g)
    (of_atom : (f : Formula) → is_atom f ≡ true → Whole f → Part f) (of_negation : (f : Formula) → Whole (not f) → Whole f)
  where
    only_one : (f q : Formula) → is_atom f ≡ true → Whole f → set.has (set.adds (set.empty {R = formula_cmp}) f) q ≡ true → Part q
    only_one f q shape whole m = either (eq_by_cmp formula_cmp q f) (set.has (set.empty {R = formula_cmp}) q)
        (λ e. subst Part (sym (equal q f e)) (of_atom f shape whole))
        (no_member q)
        (sym (has-adds formula_total set.empty f q) ∙ m)

    pub each_literal : (f q : Formula) → is_clause f ≡ true → Whole f → (set.has (literals_of f).left q || set.has (literals_of f).right q) ≡ true → Part q
    each_literal (or f g) q shape whole m =
        let shapes = and_parts (is_clause f) (is_clause g) shape in
        let parts = sides f g whole in
        let first = each_literal f q shapes.0 parts.0 in
        let second = each_literal g q shapes.1 parts.1 in
        either (set.has (literals_of (or f g)).left q) (set.has (literals_of (or f g)).right q)
        (in_either (literals_of f).left (literals_of g).left q
        (λ d. first (or_first (set.has (literals_of f).left q) (set.has (literals_of f).right q) d))
        (λ d. second (or_first (set.has (literals_of g).left q) (set.has (literals_of g).right q) d)))
        (in_either (literals_of f).right (literals_of g).right q
        (λ d. first (or_second (set.has (literals_of f).left q) (set.has (literals_of f).right q) d))
        (λ d. second (or_second (set.has (literals_of g).left q) (set.has (literals_of g).right q) d)))
        m
    each_literal (not f) q shape whole m = either (set.has (literals_of (not f)).left q) (set.has (literals_of (not f)).right q) (only_one f q shape (of_negation f whole)) (no_member q) m
    each_literal bot q shape whole m = either (set.has (literals_of bot).left q) (set.has (literals_of bot).right q) (no_member q) (no_member q) m
    each_literal (atom s ts) q shape whole m = either (set.has (literals_of (atom s ts)).left q) (set.has (literals_of (atom s ts)).right q) (no_member q) (only_one (atom s ts) q shape whole) m
    each_literal top q shape whole m = cc
    each_literal (and f g) q shape whole m = cc
    each_literal (imp f g) q shape whole m = cc
    each_literal (all f) q shape whole m = cc
    each_literal (ex f) q shape whole m = cc
