-- Of the trees at the two addresses of an axiom's formula one makes the sequent true.
use Rattle.std.proofs.Common.{◌≡◌, Bool, true, false, not as negated, ◌&&◌, ◌||◌, List, refl, ap, subst, ◌∙◌}
use Rattle.fol.specs.declared.symbols.Var.{Var}
use Rattle.fol.specs.Syntax.{free, Formula, not, and, or, imp}
use Rattle.finite.specs.Finite as set
use Rattle.lk_rules.specs.declared.sequent.Side.TheVariants.{Left, Right}
use Rattle.proof_trees.proofs.Booleans.{or_first, or_second, either}
use Rattle.search_laws.specs.Truth.{Assignment, value}
use Rattle.expansion_laws.specs.Helping.{helps, conjoined, disjoined}
use Rattle.extraction_laws.specs.Addresses.{Address, part, via, formula_at, side_at}
use Rattle.extraction_laws.specs.States.{State, opened, nth_outside, variable_at, Includes}
use Rattle.extraction_laws.specs.Extraction.{paired}
use Rattle.extraction_laws.proofs.Grades.{Share, PairRises, side_of_part, at_pairs}
use Rattle.extraction_laws.proofs.Marks.{stays_marked, is_there, own_place, next, marked}
use Rattle.extraction_laws.proofs.Growing.{grown_pair, includes-paired}
use Rattle.extraction_laws.proofs.Helping.{help, help-flat, help-not, help-and, help-or, help-imp, help_all_left, help_ex_right, help_all_right, help_ex_left}
use Rattle.extraction_laws.proofs.Unrolled.{both, by_variable, paired-not, paired-and, paired-or, paired-imp, paired-all, paired-ex}

-- tests

opposite : (b : Bool) → (negated b || b) ≡ true
opposite true = refl
opposite false = refl

turned_or : (a b : Bool) → (a || b) ≡ true → (b || a) ≡ true
turned_or a b = either a b (or_second b a) (or_first b a)

some_or_both : (a b c d : Bool) → (a || c) ≡ true → (b || d) ≡ true → ((a || b) || (c && d)) ≡ true
some_or_both true b c d h g = refl
some_or_both false true c d h g = refl
some_or_both false false true true h g = refl
some_or_both false false true false h g = cc
some_or_both false false false d h g = cc

both_or_some : (a b c d : Bool) → (a || c) ≡ true → (b || d) ≡ true → ((a && b) || (c || d)) ≡ true
both_or_some true true c d h g = refl
both_or_some true false c true h g = or_second c true refl
both_or_some true false c false h g = cc
both_or_some false b true d h g = refl
both_or_some false b false d h g = cc

module _ (vs : List Var) (st : State) (α : Assignment) where
  -- one of the trees does, once the formula is paired
  record Complement (l r : Address) : Type 0 where
    helped : (x : State) → Includes (paired vs l r x) st → side_at l ≡ Left → side_at r ≡ Right → (help vs st α l || help vs st α r) ≡ true

  -- both addresses are opened

  pub opened_left : (l r : Address) (x : State) → Includes (paired vs l r x) st → set.has st.opened l ≡ true
  opened_left l r x h = (next (grown_pair vs (formula_at l) l r x) h).used l (stays_marked (opened l x).opened l r (marked x.opened l))

  pub opened_right : (l r : Address) (x : State) → Includes (paired vs l r x) st → set.has st.opened r ≡ true
  opened_right l r x h = (next (grown_pair vs (formula_at l) l r x) h).used r (marked (opened l x).opened r)

  -- what is known after the instance by a variable: the strong address has it, and the weak one has the instance

  variable_kept : (s w : Address) (x : State) → Includes (by_variable vs s w (variable_at vs x s) x) st → variable_at vs st s ≡ variable_at vs x s
  variable_kept s w x h = ap (nth_outside vs) (h.places s (is_there s x.names) ∙ own_place s x.names)

  instance_there : (s w : Address) (v : Var) (x : State) → Includes (by_variable vs s w v x) st → set.has st.instances (via w (free v)) ≡ true
  instance_there s w v x h = h.instances (via w (free v)) (marked x.instances (via w (free v)))

  abbrev does : Address → Bool
  does = help vs st α

  -- the tests of the two trees by those of their parts

  by_negation : (f : Formula) (l r : Address) → Share l r (not f) → set.has st.opened l ≡ true → set.has st.opened r ≡ true → (does (part r 0) || does (part l 0)) ≡ true → (does l || does r) ≡ true
  by_negation f l r e used also h = (λ i. help-not vs st α f l e.left used i || help-not vs st α f r e.right also i) ∙ turned_or (does (part r 0)) (does (part l 0)) h

  by_conjunction : (f g : Formula) (l r : Address) → Share l r (and f g) → side_at l ≡ Left → side_at r ≡ Right → set.has st.opened l ≡ true → set.has st.opened r ≡ true
      → (does (part l 0) || does (part r 0)) ≡ true → (does (part l 1) || does (part r 1)) ≡ true → (does l || does r) ≡ true
  by_conjunction f g l r e left right used also h k =
      (λ i. (help-and vs st α f g l e.left used ∙ ap (λ s. conjoined s (does (part l 0)) (does (part l 1))) left) i
      || (help-and vs st α f g r e.right also ∙ ap (λ s. conjoined s (does (part r 0)) (does (part r 1))) right) i)
      ∙ some_or_both (does (part l 0)) (does (part l 1)) (does (part r 0)) (does (part r 1)) h k

  by_disjunction : (f g : Formula) (l r : Address) → Share l r (or f g) → side_at l ≡ Left → side_at r ≡ Right → set.has st.opened l ≡ true → set.has st.opened r ≡ true
      → (does (part l 0) || does (part r 0)) ≡ true → (does (part l 1) || does (part r 1)) ≡ true → (does l || does r) ≡ true
  by_disjunction f g l r e left right used also h k =
      (λ i. (help-or vs st α f g l e.left used ∙ ap (λ s. disjoined s (does (part l 0)) (does (part l 1))) left) i
      || (help-or vs st α f g r e.right also ∙ ap (λ s. disjoined s (does (part r 0)) (does (part r 1))) right) i)
      ∙ both_or_some (does (part l 0)) (does (part l 1)) (does (part r 0)) (does (part r 1)) h k

  by_implication : (f g : Formula) (l r : Address) → Share l r (imp f g) → side_at l ≡ Left → side_at r ≡ Right → set.has st.opened l ≡ true → set.has st.opened r ≡ true
      → (does (part r 0) || does (part l 0)) ≡ true → (does (part l 1) || does (part r 1)) ≡ true → (does l || does r) ≡ true
  by_implication f g l r e left right used also h k =
      (λ i. (help-imp vs st α f g l e.left used ∙ ap (λ s. disjoined s (does (part l 0)) (does (part l 1))) left) i
      || (help-imp vs st α f g r e.right also ∙ ap (λ s. disjoined s (does (part r 0)) (does (part r 1))) right) i)
      ∙ both_or_some (does (part l 0)) (does (part l 1)) (does (part r 0)) (does (part r 1)) (turned_or (does (part r 0)) (does (part l 0)) h) k

  complements : PairRises Complement
  complements = record {
    flat = λ l r f e flat. record {
      helped = λ x h left right.
          (λ i. (help-flat vs st α f l e.left flat (opened_left l r x h) ∙ ap (λ s. helps α s f) left) i || (help-flat vs st α f r e.right flat (opened_right l r x h) ∙ ap (λ s. helps α s f) right) i)
          ∙ opposite (value α f);
    };
    negation = λ l r f e p. record {
      helped = λ x h left right.
          by_negation f l r e (opened_left l r x h) (opened_right l r x h)
          (p.helped (both vs l r x) (subst (λ y. Includes y st) (paired-not vs f l r x e) h) (side_of_part r 0 (not f) Right e.right right) (side_of_part l 0 (not f) Left e.left left));
    };
    conjunction = λ l r f g e p q. record {
      helped = λ x h left right.
          let later : Includes (paired vs (part l 1) (part r 1) (paired vs (part l 0) (part r 0) (both vs l r x))) st = subst (λ y. Includes y st) (paired-and vs f g l r x e) h in
          by_conjunction f g l r e left right (opened_left l r x h) (opened_right l r x h)
          (p.helped (both vs l r x) (next (includes-paired vs (part l 1) (part r 1) _) later) (side_of_part l 0 (and f g) Left e.left left) (side_of_part r 0 (and f g) Right e.right right))
          (q.helped _ later (side_of_part l 1 (and f g) Left e.left left) (side_of_part r 1 (and f g) Right e.right right));
    };
    disjunction = λ l r f g e p q. record {
      helped = λ x h left right.
          let later : Includes (paired vs (part l 1) (part r 1) (paired vs (part l 0) (part r 0) (both vs l r x))) st = subst (λ y. Includes y st) (paired-or vs f g l r x e) h in
          by_disjunction f g l r e left right (opened_left l r x h) (opened_right l r x h)
          (p.helped (both vs l r x) (next (includes-paired vs (part l 1) (part r 1) _) later) (side_of_part l 0 (or f g) Left e.left left) (side_of_part r 0 (or f g) Right e.right right))
          (q.helped _ later (side_of_part l 1 (or f g) Left e.left left) (side_of_part r 1 (or f g) Right e.right right));
    };
    implication = λ l r f g e p q. record {
      helped = λ x h left right.
          let later : Includes (paired vs (part l 1) (part r 1) (paired vs (part r 0) (part l 0) (both vs l r x))) st = subst (λ y. Includes y st) (paired-imp vs f g l r x e) h in
          by_implication f g l r e left right (opened_left l r x h) (opened_right l r x h)
          (p.helped (both vs l r x) (next (includes-paired vs (part l 1) (part r 1) _) later) (side_of_part r 0 (imp f g) Right e.right right) (side_of_part l 0 (imp f g) Left e.left left))
          (q.helped _ later (side_of_part l 1 (imp f g) Left e.left left) (side_of_part r 1 (imp f g) Right e.right right));
    };
    universal = λ l r f e p. record {
      helped = λ x h left right.
          let v : Var = variable_at vs x r in
          let later : Includes (paired vs (via l (free v)) (via r (free v)) (by_variable vs r l v (both vs l r x))) st = subst (λ y. Includes y st) (paired-all vs f l r x e) h in
          let here : Includes (by_variable vs r l v (both vs l r x)) st = next (includes-paired vs (via l (free v)) (via r (free v)) _) later in
          either (help vs st α (via l (free v))) (help vs st α (via r (free v)))
          (λ k. or_first (does l) (does r) (help_all_left vs st α f l (free v) e.left left (opened_left l r x h) (instance_there r l v (both vs l r x) here) k))
          (λ k. or_second (does l) (does r) (help_all_right vs st α f r e.right right (opened_right l r x h) ∙ (ap (λ w. help vs st α (via r (free w))) (variable_kept r l (both vs l r x) here) ∙ k)))
          ((p (free v)).helped _ later left right);
    };
    existential = λ l r f e p. record {
      helped = λ x h left right.
          let v : Var = variable_at vs x l in
          let later : Includes (paired vs (via l (free v)) (via r (free v)) (by_variable vs l r v (both vs l r x))) st = subst (λ y. Includes y st) (paired-ex vs f l r x e) h in
          let here : Includes (by_variable vs l r v (both vs l r x)) st = next (includes-paired vs (via l (free v)) (via r (free v)) _) later in
          either (help vs st α (via l (free v))) (help vs st α (via r (free v)))
          (λ k. or_first (does l) (does r) (help_ex_left vs st α f l e.left left (opened_left l r x h) ∙ (ap (λ w. help vs st α (via l (free w))) (variable_kept l r (both vs l r x) here) ∙ k)))
          (λ k. or_second (does l) (does r) (help_ex_right vs st α f r (free v) e.right right (opened_right l r x h) (instance_there l r v (both vs l r x) here) k))
          ((p (free v)).helped _ later left right);
    };
  }

  pub pair_helps : (l r : Address) (f : Formula) (x : State) → Share l r f → Includes (paired vs l r x) st → side_at l ≡ Left → side_at r ≡ Right → (help vs st α l || help vs st α r) ≡ true
  pair_helps l r f x e = (at_pairs Complement complements f l r e).helped x
