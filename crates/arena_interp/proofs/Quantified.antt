-- Quantifiers that are put around an interpolant, by numbers.
use Rattle.std.proofs.Common.{◌≡◌, ◌<◌, ◌-◌, ℕ, List, [], ◌∷◌, length, get_or, take, drop, arith, Bool, true, false, not, cond, filter, refl, sym, ap, ◌∙◌}
use Rattle.std.specs.Prelude.{if◌then◌else◌}
use Rattle.std.proofs.lemmas.List.{take_rest}
use Rattle.fol.specs.declared.symbols.Var.{Var}
use Rattle.fol.specs.Syntax.{free, all, ex}
use Rattle.substitution.specs.Instance.{bind}
use Rattle.lk_rules.specs.declared.sequent.Sequent.{Sequent}
use Rattle.lk_rules.specs.declared.sequent.Side.{Side}
use Rattle.lk_rules.specs.declared.sequent.Side.TheVariants.{Left, Right}
use Rattle.lk_rules.specs.declared.rule.Rule.TheVariants as rule
use Rattle.lk_rules.specs.Sequents.{adds_to, is_free_in_sequent}
use Rattle.proof_trees.specs.Trees.{node, none, more}
use Rattle.interp_laws.specs.Interpolation.{Interpolation, part, quantified, closed_by}
use Rattle.arena_cells.specs.declared.key.RuleKey.TheVariants.{AllL, AllR, ExL, ExR}
use Rattle.arena_cells.specs.declared.key.Parts.TheVariants.{One}
use Rattle.arena_cells.specs.Items.{Item}
use Rattle.arena_cells.specs.Standing.{Stands, Extends, HasFormula, HasVariable, formula_at, variable_at, term_at, sequent_at, IsFormulaAt, IsVariableAt, IsSequentAt}
use Rattle.arena_cells.specs.Meaning.{meaning, HasParts}
use Rattle.arena_cells.proofs.Staying.{is_formula, is_term, is_variable, variable_term, variable_stays, variable_there, sequent_stays, tree_stays, tree_there}
use Rattle.arena_cells.proofs.Facts as facts
use Rattle.arena_interp.specs.declared.interpolated.Interpolated.{Interpolated}
use Rattle.arena_interp.specs.Closing.{closed_once, closed_outside}
use Rattle.arena_interp.specs.Endings.{IsEndingAt, concluded, concluded_on}
use Rattle.arena_interp.specs.BySide.{quantifier_key, variable_rule, term_rule}
use Rattle.arena_interp.specs.Partitions.{IsInterpolatedAt, interpolation_at, number_of, other_number, part_number}
use Rattle.arena_interp.proofs.LastInferences.{larger}

module _ (a b d : List Item) (grown : Extends a b) (more_grown : Extends b d) (one two v body f : ℕ) (made : Interpolated) (first : IsSequentAt a one) (second : IsSequentAt a two) (variable : IsVariableAt a v) (there : IsInterpolatedAt a made)
    (bound : HasFormula b body (bind (formula_at a made.formula) (variable_at a v))) where
  whole : Extends a d
  whole = larger a b d grown more_grown

  term_is : term_at d v ≡ free (variable_at a v)
  term_is = is_term d v _ (whole v _ variable)

  variable_later : IsVariableAt d v
  variable_later = variable_there a d whole v variable

  module _ (universal : HasFormula d f (all (formula_at b body))) where
    all_is : formula_at d f ≡ all (bind (formula_at a made.formula) (variable_at a v))
    all_is = is_formula d f _ universal ∙ ap all (is_formula b body _ bound)

    all_first : IsEndingAt d (record { rule = AllR f v; premises = One made.first })
    all_first = record { rule = (facts.formula_there d f _ universal, variable_later); premises = tree_there a d whole made.first there.first }

    all_second : IsEndingAt d (record { rule = AllL f v; premises = One made.second })
    all_second = record { rule = (facts.formula_there d f _ universal, variable_term d v variable_later); premises = tree_there a d whole made.second there.second }

    all_quantified : concluded d (sequent_at d one) (sequent_at d two) (formula_at d f) (record { rule = AllR f v; premises = One made.first }) (record { rule = AllL f v; premises = One made.second })
        ≡ quantified Right (sequent_at a one) (sequent_at a two) (variable_at a v) (interpolation_at a made)
    all_quantified = λ i. record {
      formula = all_is i;
      first = node (rule.AllR (all_is i) (variable_stays a d whole v variable i)) (adds_to (sequent_stays a d whole one first i) Right (all_is i)) (more (tree_stays a d whole made.first there.first i) none);
      second = node (rule.AllL (all_is i) (term_is i)) (adds_to (sequent_stays a d whole two second i) Left (all_is i)) (more (tree_stays a d whole made.second there.second i) none);
    }

  module _ (existential : HasFormula d f (ex (formula_at b body))) where
    ex_is : formula_at d f ≡ ex (bind (formula_at a made.formula) (variable_at a v))
    ex_is = is_formula d f _ existential ∙ ap ex (is_formula b body _ bound)

    ex_first : IsEndingAt d (record { rule = ExR f v; premises = One made.first })
    ex_first = record { rule = (facts.formula_there d f _ existential, variable_term d v variable_later); premises = tree_there a d whole made.first there.first }

    ex_second : IsEndingAt d (record { rule = ExL f v; premises = One made.second })
    ex_second = record { rule = (facts.formula_there d f _ existential, variable_later); premises = tree_there a d whole made.second there.second }

    ex_quantified : concluded d (sequent_at d one) (sequent_at d two) (formula_at d f) (record { rule = ExR f v; premises = One made.first }) (record { rule = ExL f v; premises = One made.second })
        ≡ quantified Left (sequent_at a one) (sequent_at a two) (variable_at a v) (interpolation_at a made)
    ex_quantified = λ i. record {
      formula = ex_is i;
      first = node (rule.ExR (ex_is i) (term_is i)) (adds_to (sequent_stays a d whole one first i) Right (ex_is i)) (more (tree_stays a d whole made.first there.first i) none);
      second = node (rule.ExL (ex_is i) (variable_stays a d whole v variable i)) (adds_to (sequent_stays a d whole two second i) Left (ex_is i)) (more (tree_stays a d whole made.second there.second i) none);
    }

  -- by sides
  pub quantifier_there : (m : Side) → Stands d f (meaning b (quantifier_key m body)) → IsFormulaAt d f
  quantifier_there Right h = facts.formula_there d f _ h
  quantifier_there Left h = facts.formula_there d f _ h

  pub own_ending : (m : Side) → Stands d f (meaning b (quantifier_key m body)) → IsEndingAt d (record { rule = variable_rule m f v; premises = One (number_of made m) })
  own_ending Right h = all_first h
  own_ending Left h = ex_second h

  pub other_ending : (m : Side) → Stands d f (meaning b (quantifier_key m body)) → IsEndingAt d (record { rule = term_rule m f v; premises = One (other_number made m) })
  other_ending Right h = all_second h
  other_ending Left h = ex_first h

  pub quantified_made : (m : Side) → Stands d f (meaning b (quantifier_key m body))
      → concluded_on d m (sequent_at d one) (sequent_at d two) (formula_at d f) (record { rule = variable_rule m f v; premises = One (number_of made m) }) (record { rule = term_rule m f v; premises = One (other_number made m) })
      ≡ quantified m (sequent_at a one) (sequent_at a two) (variable_at a v) (interpolation_at a made)
  quantified_made Right h = all_quantified h
  quantified_made Left h = ex_quantified h

pub quantifier_parts : (a : List Item) (m : Side) (body : ℕ) → IsFormulaAt a body → HasParts a (quantifier_key m body)
quantifier_parts a Right body h = h
quantifier_parts a Left body h = h

-- one variable after those of the rest of a list
pub closed_step : (m : Side) (s t : Sequent) (x : Var) (xs : List Var) (i : Interpolation) → closed_once m s t x (closed_outside m s t xs i) ≡ closed_outside m s t (x ∷ xs) i
closed_step m s t x xs i =
    elim (is_free_in_sequent x (part s t m)) as (λ b. (if b then closed_outside m s t xs i else quantified m s t x (closed_outside m s t xs i)) ≡ closed_by m s t (cond (not b) (x ∷ filter p xs) (filter p xs)) i) [
      | true ↦ refl
      | false ↦ refl
    ]
  where
    p : Var → Bool
    p y = not (is_free_in_sequent y (part s t m))

pub kept : (m : Side) (s t : Sequent) (x : Var) (i : Interpolation) (b : Bool) → b ≡ is_free_in_sequent x (part s t m) → b ≡ true → i ≡ closed_once m s t x i
kept m s t x i b is h = ap (λ c. if c then i else quantified m s t x i) (sym h ∙ is)

pub not_kept : (m : Side) (s t : Sequent) (x : Var) (i : Interpolation) (b : Bool) → b ≡ is_free_in_sequent x (part s t m) → b ≡ false → quantified m s t x i ≡ closed_once m s t x i
not_kept m s t x i b is h = ap (λ c. if c then i else quantified m s t x i) (sym h ∙ is)

-- the part of a name
pub part_there : (a : List Item) (m : Side) (one two : ℕ) → IsSequentAt a one → IsSequentAt a two → IsSequentAt a (part_number one two m)
part_there a Right one two h k = h
part_there a Left one two h k = k

pub part_is : (a : List Item) (m : Side) (one two : ℕ) → sequent_at a (part_number one two m) ≡ part (sequent_at a one) (sequent_at a two) m
part_is a Right one two = refl
part_is a Left one two = refl

-- whether a variable is free in its part, by numbers
pub is_free_there : (a b : List Item) → Extends a b → (m : Side) (one two v : ℕ) (r : Bool) (x : Var) (n : ℕ) → IsSequentAt a one → IsSequentAt a two → HasVariable b v x → n ≡ part_number one two m → r ≡ is_free_in_sequent (variable_at b v) (sequent_at b n)
    → r ≡ is_free_in_sequent x (part (sequent_at a one) (sequent_at a two) m)
is_free_there a b grown m one two v r x n first second variable number found =
    found ∙ (λ i. is_free_in_sequent (is_variable b v x variable i) (sequent_at b (number i))) ∙ ap (is_free_in_sequent x) (part_is b m one two ∙ λ i. part (sequent_stays a b grown one first i) (sequent_stays a b grown two second i) m)

-- a list by its first element and the rest
pub head_and_rest : (xs : List Var) (x : Var) → 0 < length xs → x ≡ get_or xs 0 x → x ∷ take (length xs - 1) (drop 1 xs) ≡ xs
head_and_rest xs x some is = ap (λ (ys : List Var). x ∷ ys) (take_rest xs 1) ∙ rest_of xs x some is
  where
    rest_of : (xs : List Var) (x : Var) → 0 < length xs → x ≡ get_or xs 0 x → x ∷ drop 1 xs ≡ xs
    rest_of [] x some is = absurd (omega arith)
    rest_of (y ∷ ys) x some is = λ i. is i ∷ ys
