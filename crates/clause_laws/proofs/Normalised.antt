-- A clause with its variables numbered is a variant, whose variables are the first numbered ones.
use Rattle.std.proofs.Common.{◌≡◌, ℕ, suc, ◌+◌, ◌<◌, ◌≤◌, Bool, true, false, not, ◌||◌, ◌&&◌, cond, if◌then◌else◌, List, [], ◌∷◌, ◌++◌, filter, length, Some, unwrap_or, refl, sym, ap, subst, ◌∙◌, ⊎_elim, arith}
use Rattle.std.specs.Ordering.{eq_by_cmp}
use Rattle.std.proofs.lemmas.Bool.{both_ways, cases_eq}
use Rattle.std.proofs.lemmas.Map.Views.{any-filter_same}
use Rattle.fol.specs.declared.symbols.Var.{Var}
use Rattle.fol.specs.declared.symbols.Var.TheVariants.{Num}
use Rattle.fol.specs.Syntax.{free}
use Rattle.fol.specs.Order.{var_cmp}
use Rattle.fol.specs.OrderLaws.{var_total}
use Rattle.finite.specs.Finite as set
use Rattle.finite.proofs.Finite.{has-adds_each, has-empty}
use Rattle.free_variables.specs.Fresh.{is_among}
use Rattle.free_variables.specs.Occurrence.{is_free_in_term}
use Rattle.substitution.specs.Image.{image_term}
use Rattle.substitution.proofs.ImageLaws.{itself, same_var}
use Rattle.lk_rules.specs.declared.sequent.Sequent.{Sequent}
use Rattle.lk_rules.specs.Formulas.{var_lists}
use Rattle.lk_rules.specs.Sequents.{is_free_in_sequent}
use Rattle.lk_rules.proofs.SequentVariables.{sequent_var_members}
use Rattle.proof_trees.proofs.Booleans.{or_first, or_second, either}
use Rattle.refutations.specs.Clauses.{first_occurrences}
use Rattle.unify_laws.proofs.Images.{split}
use Rattle.clause_laws.specs.Subsumption.{IsVariant}
use Rattle.clause_laws.specs.Normal.{IsNormal, variables, numbered, named, normal}
use Rattle.clause_laws.proofs.Sequents.{from_free_image_sequent}
use Rattle.clause_laws.proofs.Subsuming.{free_in_image, variant_renamed}

-- first occurrences: the same members, each once

same_way : (v w : Var) → eq_by_cmp var_cmp v w ≡ eq_by_cmp var_cmp w v
same_way v w =
    split (eq_by_cmp var_cmp v w)
    (λ e. let same = same_var v w e in e ∙ sym (ap (eq_by_cmp var_cmp w) same ∙ itself w))
    (λ e. e ∙ split (eq_by_cmp var_cmp w v)
    (λ d. absurd (both_ways (eq_by_cmp var_cmp v w) e (ap (eq_by_cmp var_cmp v) (same_var w v d) ∙ itself v)))
    (λ d. sym d))

not_first : (a b : Bool) → (a || (not a && b)) ≡ (a || b)
not_first true b = refl
not_first false b = refl

others_kept : (w v : Var) (vs : List Var) → is_among v (filter (λ u. not (eq_by_cmp var_cmp w u)) vs) ≡ (not (eq_by_cmp var_cmp w v) && is_among v vs)
others_kept w v vs = any-filter_same (eq_by_cmp var_cmp v) (λ u. not (eq_by_cmp var_cmp w u)) (not (eq_by_cmp var_cmp w v)) (λ u e. ap (λ x. not (eq_by_cmp var_cmp w x)) (sym (same_var v u e))) vs

first_members : (v : Var) (vs : List Var) → is_among v (first_occurrences vs) ≡ is_among v vs
first_members v [] = refl
first_members v (w ∷ vs) =
    ap (λ b. eq_by_cmp var_cmp v w || b) (others_kept w v (first_occurrences vs) ∙ ap (λ b. not b && is_among v (first_occurrences vs)) (same_way w v))
    ∙ not_first (eq_by_cmp var_cmp v w) (is_among v (first_occurrences vs))
    ∙ ap (λ b. eq_by_cmp var_cmp v w || b) (first_members v vs)

abbrev AreDistinct : List Var → Type 0
AreDistinct [] = Unit {0}
AreDistinct (v ∷ vs) = (is_among v vs ≡ false) × AreDistinct vs

and_false : (b : Bool) → (b && false) ≡ false
and_false true = refl
and_false false = refl

distinct_if : (v : Var) (vs : List Var) (b : Bool) → is_among v vs ≡ false → AreDistinct vs → AreDistinct (cond b (v ∷ vs) vs)
distinct_if v vs true out h = (out, h)
distinct_if v vs false out h = h

distinct_kept : (p : Var → Bool) (vs : List Var) → AreDistinct vs → AreDistinct (filter p vs)
distinct_kept p [] h = h
distinct_kept p (v ∷ vs) h =
    distinct_if v (filter p vs) (p v)
    (any-filter_same (eq_by_cmp var_cmp v) p (p v) (λ u e. ap p (sym (same_var v u e))) vs ∙ ap (λ b. p v && b) h.0 ∙ and_false (p v))
    (distinct_kept p vs h.1)

first_distinct : (vs : List Var) → AreDistinct (first_occurrences vs)
first_distinct [] = tt
first_distinct (v ∷ vs) = (
  others_kept v v (first_occurrences vs) ∙ ap (λ b. not b && is_among v (first_occurrences vs)) (itself v),
  distinct_kept (λ u. not (eq_by_cmp var_cmp v u)) (first_occurrences vs) (first_distinct vs),
)

-- the variables of a clause

pub variables-free : (c : Sequent) (v : Var) → is_among v (variables c) ≡ is_free_in_sequent v c
variables-free c v =
    let all = var_lists (set.listing c.left) ++ var_lists (set.listing c.right) in
    first_members v all
    ∙ sym (has-adds_each var_total set.empty all v ∙ ap (λ b. b || is_among v all) (has-empty var_cmp v))
    ∙ sequent_var_members c v

-- a variable of a list and its number

record HasNumber (n : ℕ) (ws : List Var) (v : Var) (k : ℕ) : Type 0 where
  pub from : n ≤ k
  pub below : k < n + length ws
  pub number : numbered n ws v ≡ Some (free (Num k))
  pub name : named n ws (Num k) ≡ Some (free v)

other_number : (n k : ℕ) → n < k → eq_by_cmp var_cmp (Num k) (Num n) ≡ false
other_number n k above =
    split (eq_by_cmp var_cmp (Num k) (Num n))
    (λ e. let same : Num k ≡ Num n = same_var (Num k) (Num n) e in let number : k ≡ n = cc in absurd (omega (arith, above, number)))
    (λ e. e)

number_first : (n : ℕ) (w : Var) (ws : List Var) → HasNumber n (w ∷ ws) w n
number_first n w ws = record {
  from = omega arith;
  below = omega arith;
  number = ap (λ b. if b then Some (free (Num n)) else numbered (suc n) ws w) (itself w);
  name = ap (λ b. if b then Some (free w) else named (suc n) ws (Num n)) (itself (Num n));
}

number_later : (n : ℕ) (w : Var) (ws : List Var) (v : Var) (k : ℕ) → eq_by_cmp var_cmp v w ≡ false → HasNumber (suc n) ws v k → HasNumber n (w ∷ ws) v k
number_later n w ws v k other h =
    let from = h.from in
    let below = h.below in
    record {
      from = omega (arith, from);
      below = omega (arith, below);
      number = ap (λ b. if b then Some (free (Num n)) else numbered (suc n) ws v) other ∙ h.number;
      name = ap (λ b. if b then Some (free w) else named (suc n) ws (Num k)) (other_number n k (omega (arith, from))) ∙ h.name;
    }

has_number : (n : ℕ) (ws : List Var) (v : Var) → is_among v ws ≡ true → (k : ℕ) × HasNumber n ws v k
has_number n [] v e = cc
has_number n (w ∷ ws) v e =
    split (eq_by_cmp var_cmp v w)
    (λ here. (n, subst (λ (u : Var). HasNumber n (w ∷ ws) u n) (sym (same_var v w here)) (number_first n w ws)))
    (λ other. let later = has_number (suc n) ws v (either (eq_by_cmp var_cmp v w) (is_among v ws) (λ here. absurd (both_ways (eq_by_cmp var_cmp v w) other here)) (λ d. d) e) in
    (later.0, number_later n w ws v later.0 other later.1))

record HasName (n : ℕ) (ws : List Var) (k : ℕ) : Type 0 where
  pub variable : Var
  pub among : is_among variable ws ≡ true
  pub number : HasNumber n ws variable k

-- each number is that of a variable, where no variable stands twice
has_name : (n : ℕ) (ws : List Var) (k : ℕ) → AreDistinct ws → n ≤ k → k < n + length ws → HasName n ws k
has_name n [] k distinct from below = absurd (omega (arith, from, below))
has_name n (w ∷ ws) k distinct from below =
    ⊎_elim
    (λ (here : n ≡ k). record {
      variable = w;
      among = or_first (eq_by_cmp var_cmp w w) (is_among w ws) (itself w);
      number = subst (λ (j : ℕ). HasNumber n (w ∷ ws) w j) here (number_first n w ws);
    })
    (λ (other : n ≡ k → ⊥).
    let later = has_name (suc n) ws k distinct.1 (omega (arith, from, other)) (omega (arith, below)) in
    record {
      variable = later.variable;
      among = or_second (eq_by_cmp var_cmp later.variable w) (is_among later.variable ws) later.among;
      number =
          number_later n w ws later.variable k
          (split (eq_by_cmp var_cmp later.variable w)
          (λ e. absurd (both_ways (is_among w ws) distinct.0 (ap (λ u. is_among u ws) (sym (same_var later.variable w e)) ∙ later.among)))
          (λ e. e))
          later.number;
    })
    (cases_eq n k)

-- the variant

pub normal_variant : (c : Sequent) → IsVariant c (normal c)
normal_variant c = variant_renamed c (normal c) (record {
  there = numbered 0 (variables c);
  back = named 0 (variables c);
  is = refl;
  undone = λ v own.
      let h = has_number 0 (variables c) v (variables-free c v ∙ own) in
      ap (λ o. image_term (named 0 (variables c)) (unwrap_or o (free v))) h.1.number ∙ ap (λ o. unwrap_or o (free (Num h.0))) h.1.name;
})

pub normal_is : (c : Sequent) → IsNormal (normal c)
normal_is c = record {
  count = length (variables c);
  variables = λ v. (
    from_free_image_sequent (numbered 0 (variables c)) v c (λ u own e.
        let h = has_number 0 (variables c) u (variables-free c u ∙ own) in
        let below = h.1.below in
        (h.0, omega (arith, below), same_var v (Num h.0) (sym (ap (λ o. is_free_in_term v (unwrap_or o (free u))) h.1.number) ∙ e))),
    λ (k, below, is).
        let h = has_name 0 (variables c) k (first_distinct (var_lists (set.listing c.left) ++ var_lists (set.listing c.right))) (omega arith) (omega (arith, below)) in
        free_in_image (numbered 0 (variables c)) h.variable v
        (ap (λ o. is_free_in_term v (unwrap_or o (free h.variable))) h.number.number ∙ ap (λ u. eq_by_cmp var_cmp u (Num k)) is ∙ itself (Num k))
        c (sym (variables-free c h.variable) ∙ h.among),
  );
}
