-- The proofs of input clauses are valid.
use Rattle.std.proofs.Common.{◌≡◌, ℕ, ◌+◌, ◌<◌, ◌^◌, max, length, true, false, ltb, List, [], ◌∷◌, refl, sym, subst, if◌then◌else◌, arith}
use Rattle.std.specs.List.{All}
use Rattle.std.specs.Ordering.{eq_by_cmp}
use Rattle.std.proofs.lemmas.Bool.Decides.{nat_tests}
use Rattle.std.proofs.lemmas.List.Elements.{All-head, All-tail}
use Rattle.fol.specs.declared.symbols.Var.{Var}
use Rattle.fol.specs.Syntax.{Term, free, bound, app, Terms, nil, cons, Formula, atom, top, bot, not, and, or, imp, all, ex}
use Rattle.fol.specs.Formed.{is_formed, IsFormedVar, IsFormed}
use Rattle.fol.specs.Order.{var_cmp}
use Rattle.finite.specs.Finite as set
use Rattle.substitution.specs.Closed.{is_closed_term_at, are_closed_terms_at, is_closed_at}
use Rattle.substitution.specs.Closing.{closed_over}
use Rattle.substitution.specs.Instance.{inst, bind, nesting, bind_term_at, bind_terms_at, bind_at}
use Rattle.substitution.proofs.Booleans.{and_left, and_right, and_both}
use Rattle.substitution.proofs.BindLaws.{inst-bind_itself}
use Rattle.substitution.proofs.ClosingLaws.{formed_closed_all}
use Rattle.substitution.proofs.ClosedLaws.{closed_of}
use Rattle.substitution.proofs.InstanceFormed.{formed-inst}
use Rattle.lk_rules.specs.declared.sequent.Sequent.{Sequent}
use Rattle.lk_rules.specs.declared.sequent.Side.TheVariants.{Left, Right}
use Rattle.lk_rules.specs.Sequents.{adds_to, IsSubsequent}
use Rattle.lk_rules.specs.declared.rule.Rule.TheVariants.{Ax}
use Rattle.proof_trees.specs.Trees.{Tree, node, none, concl, IsValid}
use Rattle.refutations.specs.Clauses.{is_clause, literals_of}
use Rattle.refutations.specs.Refutations.{over_literals, over_instances}
use Rattle.proof_trees.proofs.FormulaSets.{in_first, in_second, added, stays}
use Rattle.refutations.proofs.Inferences.{initial, falsity, negation, disjunction, instance}

pub concl-over_literals : (s : Sequent) (f : Formula) → concl (over_literals s f) ≡ s
concl-over_literals s (or f g) = refl
concl-over_literals s (not f) = refl
concl-over_literals s bot = refl
concl-over_literals s (atom p ts) = refl
concl-over_literals s top = refl
concl-over_literals s (and f g) = refl
concl-over_literals s (imp f g) = refl
concl-over_literals s (all f) = refl
concl-over_literals s (ex f) = refl

pub concl-over_instances : (s : Sequent) (xs : List Var) (f : Formula) → concl (over_instances s xs f) ≡ s
concl-over_instances s [] f = concl-over_literals s f
concl-over_instances s (x ∷ xs) f = refl

-- a subsequent of s is one of s with a formula more on the left
wider : (d s : Sequent) (f : Formula) → IsSubsequent d s → IsSubsequent d (adds_to s Left f)
wider d s f h = record { left = λ q e. stays s.left f q (h.left q e); right = h.right }

-- a clause on the left, and its literals on their sides
pub literals_valid : (s : Sequent) (f : Formula) → is_clause f ≡ true → IsFormed f → set.has s.left f ≡ true → IsSubsequent (literals_of f) s → IsValid (over_literals s f)
literals_valid s (or f g) shape formed stands literals =
    let first : IsSubsequent (literals_of f) s = record {
      left = λ q e. literals.left q (in_first (literals_of f).left (literals_of g).left q e);
      right = λ q e. literals.right q (in_first (literals_of f).right (literals_of g).right q e);
    } in
    let second : IsSubsequent (literals_of g) s = record {
      left = λ q e. literals.left q (in_second (literals_of f).left (literals_of g).left q e);
      right = λ q e. literals.right q (in_second (literals_of f).right (literals_of g).right q e);
    } in (
      disjunction s f g (over_literals (adds_to s Left f) f) (over_literals (adds_to s Left g) g) formed stands (concl-over_literals (adds_to s Left f) f) (concl-over_literals (adds_to s Left g) g),
      (
        literals_valid (adds_to s Left f) f (and_left _ _ shape) (and_left _ _ formed) (added s.left f) (wider (literals_of f) s f first),
        (literals_valid (adds_to s Left g) g (and_right (is_clause f) _ shape) (and_right (is_formed f) _ formed) (added s.left g) (wider (literals_of g) s g second), tt),
      ),
    )
literals_valid s (not f) shape formed stands literals = (
  negation s f over_atom formed stands refl,
  ((initial (adds_to s Right f) f formed (literals.left f (added set.empty f)) (added s.right f), tt), tt),
)
  where
    over_atom : Tree
    over_atom = node (Ax f) (adds_to s Right f) none
literals_valid s bot shape formed stands literals = (falsity s stands, tt)
literals_valid s (atom p ts) shape formed stands literals = (initial s (atom p ts) formed stands (literals.right (atom p ts) (added set.empty (atom p ts))), tt)
literals_valid s top shape formed stands literals = cc
literals_valid s (and f g) shape formed stands literals = cc
literals_valid s (imp f g) shape formed stands literals = cc
literals_valid s (all f) shape formed stands literals = cc
literals_valid s (ex f) shape formed stands literals = cc

-- a formula with a variable bound has no index but those of quantifiers around

index_below : (i k : ℕ) → ltb i k ≡ true → ltb i (k + 1) ≡ true
index_below i k h = grind (arith, nat_tests)

own_index : (k : ℕ) → ltb k (k + 1) ≡ true
own_index k = grind (arith, nat_tests)

mutual
  closed-bind_term : (v : Var) (t : Term) (k : ℕ) → is_closed_term_at k t ≡ true → is_closed_term_at (k + 1) (bind_term_at v k t) ≡ true
  closed-bind_term v (free w) k h =
      elim (eq_by_cmp var_cmp v w) as (λ b. is_closed_term_at (k + 1) (if b then bound k else free w) ≡ true) [
        | true ↦ own_index k
        | false ↦ refl
      ]
  closed-bind_term v (bound i) k h = index_below i k h
  closed-bind_term v (app s ts) k h = closed-bind_terms v ts k h

  closed-bind_terms : (v : Var) (ts : Terms) (k : ℕ) → are_closed_terms_at k ts ≡ true → are_closed_terms_at (k + 1) (bind_terms_at v k ts) ≡ true
  closed-bind_terms v nil k h = refl
  closed-bind_terms v (cons t ts) k h = and_both _ _ (closed-bind_term v t k (and_left _ _ h)) (closed-bind_terms v ts k (and_right (is_closed_term_at k t) _ h))

closed-bind_at : (v : Var) (f : Formula) (k : ℕ) → is_closed_at k f ≡ true → is_closed_at (k + 1) (bind_at v k f) ≡ true
closed-bind_at v (atom s ts) k h = closed-bind_terms v ts k h
closed-bind_at v top k h = refl
closed-bind_at v bot k h = refl
closed-bind_at v (not f) k h = closed-bind_at v f k h
closed-bind_at v (and f g) k h = and_both _ _ (closed-bind_at v f k (and_left _ _ h)) (closed-bind_at v g k (and_right (is_closed_at k f) _ h))
closed-bind_at v (or f g) k h = and_both _ _ (closed-bind_at v f k (and_left _ _ h)) (closed-bind_at v g k (and_right (is_closed_at k f) _ h))
closed-bind_at v (imp f g) k h = and_both _ _ (closed-bind_at v f k (and_left _ _ h)) (closed-bind_at v g k (and_right (is_closed_at k f) _ h))
closed-bind_at v (all f) k h = closed-bind_at v f (k + 1) h
closed-bind_at v (ex f) k h = closed-bind_at v f (k + 1) h

closed-closed_over : (vs : List Var) (f : Formula) → is_closed_at 0 f ≡ true → is_closed_at 0 (closed_over all vs f) ≡ true
closed-closed_over [] f h = h
closed-closed_over (v ∷ vs) f h = closed-bind_at v (closed_over all vs f) 0 (closed-closed_over vs f h)

-- the instance of a closure by its outermost variable is the closure without it
pub opened : (x : Var) (xs : List Var) (f : Formula) → IsFormed f → inst (bind (closed_over all xs f) x) (free x) ≡ closed_over all xs f
opened x xs f formed = inst-bind_itself (closed_over all xs f) x 0 (closed-closed_over xs f (closed_of f 0 formed))

pub opened_formed : (x : Var) (xs : List Var) (f : Formula) → IsFormed f → IsFormedVar x → IsFormed (closed_over all (x ∷ xs) f) → IsFormed (closed_over all xs f)
opened_formed x xs f formed var closed = subst IsFormed (opened x xs f formed) (formed-inst (bind (closed_over all xs f) x) (free x) closed var)

-- a universal closure on the left, and the literals of its matrix on their sides
pub instances_valid : (s : Sequent) (xs : List Var) (f : Formula) → is_clause f ≡ true → IsFormed f → All IsFormedVar xs → IsFormed (closed_over all xs f) → set.has s.left (closed_over all xs f) ≡ true
    → IsSubsequent (literals_of f) s → IsValid (over_instances s xs (closed_over all xs f))
instances_valid s [] f shape formed vars closed stands literals = literals_valid s f shape formed stands literals
instances_valid s (x ∷ xs) f shape formed vars closed stands literals =
    let var : IsFormedVar x = All-head IsFormedVar x xs vars in
    let body : Formula = bind (closed_over all xs f) x in
    let given : inst body (free x) ≡ closed_over all xs f = opened x xs f formed in
    let wide : Sequent = adds_to s Left (closed_over all xs f) in
    let above : IsValid (over_instances wide xs (closed_over all xs f)) =
    instances_valid wide xs f shape formed (All-tail IsFormedVar x xs vars) (opened_formed x xs f formed var closed) (added s.left (closed_over all xs f)) (wider (literals_of f) s (closed_over all xs f) literals) in (
      instance s body (free x) (over_instances (adds_to s Left (inst body (free x))) xs (inst body (free x))) (and_both _ _ closed var) stands (concl-over_instances (adds_to s Left (inst body (free x))) xs (inst body (free x))),
      (subst (λ (g : Formula). IsValid (over_instances (adds_to s Left g) xs g)) (sym given) above, tt),
    )

-- the closure of a clause over few enough variables is well formed

flat : (f : Formula) → is_clause f ≡ true → nesting f ≡ 0
flat (or f g) shape = λ i. max (flat f (and_left _ _ shape) i) (flat g (and_right (is_clause f) _ shape) i)
flat (not (atom p ts)) shape = refl
flat (not top) shape = cc
flat (not bot) shape = cc
flat (not (not f)) shape = cc
flat (not (and f g)) shape = cc
flat (not (or f g)) shape = cc
flat (not (imp f g)) shape = cc
flat (not (all f)) shape = cc
flat (not (ex f)) shape = cc
flat bot shape = refl
flat (atom p ts) shape = refl
flat top shape = cc
flat (and f g) shape = cc
flat (imp f g) shape = cc
flat (all f) shape = cc
flat (ex f) shape = cc

pub few_variables : (vs : List Var) (f : Formula) (w : ℕ) → w ≡ 2 ^ 32 → is_clause f ≡ true → IsFormed f → length vs < w → IsFormed (closed_over all vs f)
few_variables vs f w is shape formed few =
    let n : nesting f ≡ 0 = flat f shape in
    formed_closed_all vs f (subst (λ (m : ℕ). length vs + nesting f < m) is (omega (arith, n, few))) formed
