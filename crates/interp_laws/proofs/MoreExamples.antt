-- Worked examples of a rule with two premises, of one that unfolds an atom, and of an eigenvariable that is free in a part. The conclusions in
-- the proofs do not matter.
use Rattle.std.proofs.Common.{◌≡◌, true, false, ◌||◌, ◌&&◌, if◌then◌else◌, [], ◌∷◌, sym, ap, ◌∙◌, arith}
use Rattle.std.specs.FinMap as fin
use Rattle.std.specs.List.{list_any}
use Rattle.fol.specs.declared.symbols.Var.{Var}
use Rattle.fol.specs.declared.symbols.Var.TheVariants.{Word, Num}
use Rattle.fol.specs.Syntax.{free, nil, cons, pred, plain, defined, Formula, atom, bot, not as negation, and, or, all}
use Rattle.fol.specs.Order.{formula_cmp}
use Rattle.fol.specs.OrderLaws.{formula_total}
use Rattle.finite.specs.Finite as set
use Rattle.finite.proofs.Finite.{has-listing, has-empty, has-adds}
use Rattle.free_variables.specs.Fresh.{least_outside, HasBelow}
use Rattle.free_variables.specs.Occurrence.{is_free_in}
use Rattle.free_variables.proofs.FreshVariables.{least_is}
use Rattle.substitution.specs.Maps.{only}
use Rattle.lk_rules.specs.declared.sequent.Sequent.{Sequent}
use Rattle.lk_rules.specs.declared.sequent.Side.TheVariants.{Left, Right}
use Rattle.lk_rules.specs.declared.rule.Rule.{Rule}
use Rattle.lk_rules.specs.declared.rule.Rule.TheVariants.{Ax, AndR, AllR, DefR}
use Rattle.lk_rules.specs.Sequents.{empty, adds_to, extended, is_free_in_sequent, vars_sequent, union_sequent, image_sequent}
use Rattle.lk_rules.specs.Rules.{aux}
use Rattle.lk_rules.proofs.SequentVariables.{sequent_var_members}
use Rattle.proof_trees.specs.Trees.{Tree, node, none, more}
use Rattle.proof_trees.specs.Substitution.{renamed, sub}
use Rattle.interp_laws.specs.Interpolation.{Interpolation, at_axiom, at_leaf, inferred, over_one, joined, by_premises, itp}
use Rattle.interp_laws.proofs.Examples.{listing_none, listing_one, listing_two}
use Rattle.interp_laws.proofs.Unrolled.{itp-unrolled}

abbrev p : Formula
p = atom (plain (record { name = 112 ∷ []; arity = 0 })) nil

abbrev q : Formula
q = atom (plain (record { name = 113 ∷ []; arity = 0 })) nil

-- the interpolant of `p` on the left and `p & q` on the right, the first part, and `q` on the left, the second, is `$false | ~q`
module _ (s e f : Sequent) where
  abbrev one : Sequent
  one = adds_to (adds_to empty Left p) Right (and p q)

  abbrev two : Sequent
  two = adds_to empty Left q

  abbrev rule : Rule
  rule = AndR (and p q)

  abbrev left : Tree
  left = node (Ax p) e none

  abbrev right : Tree
  right = node (Ax q) f none

  stands : (set.has one.right (and p q) && true) ≡ true
  stands = ap (λ b. b && true) (has-adds formula_total set.empty (and p q) (and p q))

  -- p stands on both sides of the first part
  left_is : itp left (extended one (aux rule 0)) two ≡ at_leaf Right (Ax p) (extended one (aux rule 0)) two
  left_is =
      itp-unrolled left (extended one (aux rule 0)) two
      ∙ λ i. at_axiom p (extended one (aux rule 0)) two (has-adds formula_total set.empty p p i) (has-adds formula_total one.right p p i)

  -- q on the right of the first part alone
  right_is : itp right (extended one (aux rule 1)) two ≡ at_axiom q (extended one (aux rule 1)) two false true
  right_is =
      itp-unrolled right (extended one (aux rule 1)) two
      ∙ λ i. at_axiom q (extended one (aux rule 1)) two ((has-adds formula_total set.empty p q ∙ has-empty formula_cmp q) i) (has-adds formula_total one.right q q i)

  pub conjunction : (itp (node rule s (more left (more right none))) one two).formula ≡ or bot (negation q)
  conjunction =
      ap (λ i. i.formula)
      (itp-unrolled (node rule s (more left (more right none))) one two
      ∙ (ap (λ b. by_premises itp (if b then Right else Left) rule (more left (more right none)) one two) stands
      ∙ λ i. joined Right rule one two (left_is i) (right_is i)))

-- An atom without arguments whose body is `p`. Where the proof of it on the right, the second part, from `p` on the left, the first, unfolds it,
-- the interpolant is `p`, which is no predicate symbol of the second part
abbrev d : Formula
d = atom (pred (record { name = 100 ∷ []; arity = 0 }) (defined p)) nil

module _ (s o : Sequent) where
  abbrev given : Sequent
  given = adds_to empty Left p

  abbrev wanted : Sequent
  wanted = adds_to empty Right d

  abbrev initial : Tree
  initial = node (Ax p) o none

  aside : (set.has given.right d && true) ≡ false
  aside = ap (λ b. b && true) (has-empty formula_cmp d)

  initial_is : itp initial given (extended wanted (aux (DefR d) 0)) ≡ at_axiom p given (extended wanted (aux (DefR d) 0)) true false
  initial_is =
      itp-unrolled initial given (extended wanted (aux (DefR d) 0))
      ∙ λ i. at_axiom p given (extended wanted (aux (DefR d) 0)) (has-adds formula_total set.empty p p i) (has-empty formula_cmp p i)

  pub unfolded : (itp (node (DefR d) s (more initial none)) given wanted).formula ≡ p
  unfolded =
      ap (λ i. i.formula)
      (itp-unrolled (node (DefR d) s (more initial none)) given wanted
      ∙ (ap (λ b. by_premises itp (if b then Right else Left) (DefR d) (more initial none) given wanted) aside
      ∙ ap (over_one Left (DefR d) given wanted) initial_is))

-- the eigenvariable Y of `![X]: p` on the right is free in the first part, which has `r(Y)` too: it becomes `V0`. The interpolant is `~p`
abbrev y : Var
y = Word (89 ∷ [])

abbrev r : Formula
r = atom (plain (record { name = 114 ∷ []; arity = 1 })) (cons (free y) nil)

abbrev goal : Formula
goal = all p

abbrev first : Sequent
first = adds_to (adds_to empty Right goal) Right r

abbrev second : Sequent
second = adds_to empty Left p

abbrev whole : Sequent
whole = union_sequent first second

-- the variables of both parts
free_in_whole : (v : Var) → is_free_in_sequent v whole ≡ (list_any (is_free_in v) (p ∷ []) || list_any (is_free_in v) (r ∷ goal ∷ []))
free_in_whole v = λ i. list_any (is_free_in v) (on_left i) || list_any (is_free_in v) (on_right i)
  where
    on_left : set.listing {R = formula_cmp} whole.left ≡ p ∷ []
    on_left = ap (λ fs. set.listing {R = formula_cmp} (set.of_list fs)) (listing_one formula_total p) ∙ listing_one formula_total p

    on_right : set.listing {R = formula_cmp} whole.right ≡ r ∷ goal ∷ []
    on_right = ap (λ fs. set.listing {R = formula_cmp} (set.adds_each first.right fs)) (listing_none formula_cmp) ∙ listing_two formula_total goal r

-- the least variable that isn't one of them
fresh_is : least_outside (set.listing (vars_sequent whole)) ≡ Num 0
fresh_is = sym (least_is (set.listing (vars_sequent whole)) 0 none_below (sym (has-listing (vars_sequent whole) (Num 0)) ∙ sequent_var_members whole (Num 0) ∙ free_in_whole (Num 0)))
  where
    none_below : HasBelow (set.listing (vars_sequent whole)) 0
    none_below k l = absurd (omega arith)

renamed_is : renamed y whole ≡ Num 0
unfolding renamed
renamed_is = ap (λ b. if b then least_outside (set.listing (vars_sequent whole)) else y) (free_in_whole y) ∙ fresh_is

module _ (s e : Sequent) where
  abbrev leaf : Tree
  leaf = node (Ax p) e none

  abbrev proof : Tree
  proof = node (AllR goal y) s (more leaf none)

  main_stands_first : (set.has first.right goal && true) ≡ true
  main_stands_first = ap (λ b. b && true) (has-adds formula_total (set.adds set.empty goal) r goal ∙ has-adds formula_total set.empty goal goal)

  abbrev above_it : Sequent
  above_it = extended first (aux (AllR goal (Num 0)) 0)

  premise_is : (o : Sequent) → itp (node (Ax p) o none) above_it second ≡ at_axiom p above_it second false true
  premise_is o =
      itp-unrolled (node (Ax p) o none) above_it second
      ∙ λ i. at_axiom p above_it second (has-empty formula_cmp p i) (has-adds formula_total first.right p p i)

  -- the proof of the first part ends with the renamed rule
  abbrev expected : Interpolation
  expected = inferred Right (AllR goal (Num 0)) first second (at_axiom p above_it second false true)

  pub renaming : itp proof first second ≡ expected
  renaming =
      itp-unrolled proof first second
      ∙ (ap (λ b. by_premises itp (if b then Right else Left) (AllR goal y) (more leaf none) first second) main_stands_first
      ∙ (λ i. inferred Right (AllR goal (renamed_is i)) first second (itp (if free_in_whole y i then sub leaf (only y (free (renamed_is i))) else leaf) (extended first (aux (AllR goal (renamed_is i)) 0)) second))
      ∙ ap (inferred Right (AllR goal (Num 0)) first second) (premise_is (image_sequent (fin.get (only y (free (Num 0)))) e)))
