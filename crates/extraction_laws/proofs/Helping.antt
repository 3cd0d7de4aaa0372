-- When the tree at an address makes a sequent true, by the trees of the parts and of the instances.
use Rattle.std.proofs.Common.{◌≡◌, ℕ, Bool, true, false, ◌||◌, if◌then◌else◌, List, [], ◌∷◌, refl, sym, ap, subst, ◌∙◌}
use Rattle.std.specs.List.{list_any}
use Rattle.std.specs.Ordering.{eq_by_cmp}
use Rattle.fol.specs.declared.symbols.Var.{Var}
use Rattle.fol.specs.Syntax.{Term, free, Formula, not, and, or, imp, all, ex}
use Rattle.fol.specs.Order.{term_cmp}
use Rattle.fol.specs.OrderLaws.{term_total}
use Rattle.finite.specs.Finite as set
use Rattle.finite.proofs.Finite.{has-listing, has-empty, has-adds_each}
use Rattle.lk_rules.specs.declared.sequent.Side.{Side}
use Rattle.lk_rules.specs.declared.sequent.Side.TheVariants.{Left, Right}
use Rattle.proof_trees.proofs.Booleans.{or_first, or_second, either}
use Rattle.search_laws.specs.Truth.{Assignment}
use Rattle.search_laws.proofs.Tests.{same_truth}
use Rattle.expansion_laws.specs.Expansions.{Exp, wk}
use Rattle.expansion_laws.specs.Building.{is_flat}
use Rattle.expansion_laws.specs.Helping.{helps, conjoined, disjoined, helped, some_helped}
use Rattle.expansion_laws.proofs.Lists.{any_of}
use Rattle.extraction_laws.specs.Addresses.{Address, root, part, via, same_address, is_listed, part_side, formula_at, side_at}
use Rattle.extraction_laws.specs.States.{State, terms_of, terms_at, instances_by, if_opened, by_side, weak_at, strong_at, variable_at, tree_at}
use Rattle.extraction_laws.proofs.Equal.{equal_terms, tied_terms, equal_addresses, tied_addresses, tied_address}
use Rattle.extraction_laws.proofs.Unrolled.{of_part, of_instance, tree-flat, tree-not, tree-and, tree-or, tree-imp, tree-all, tree-ex}

-- the terms at an address

with_step : (a : Address) (t : Term) (x : Address) (xs : List Address) → list_any (eq_by_cmp term_cmp t) (terms_of a xs) ≡ true → list_any (eq_by_cmp term_cmp t) (terms_of a (x ∷ xs)) ≡ true
with_step a t (root s f) xs h = h
with_step a t (part b i) xs h = h
with_step a t (via b u) xs h =
    elim (same_address a b) as (λ x. list_any (eq_by_cmp term_cmp t) (if x then u ∷ terms_of a xs else terms_of a xs) ≡ true) [
      | true ↦ or_second (eq_by_cmp term_cmp t u) _ h
      | false ↦ h
    ]

term_listed : (a : Address) (t : Term) (xs : List Address) → is_listed (via a t) xs ≡ true → list_any (eq_by_cmp term_cmp t) (terms_of a xs) ≡ true
term_listed a t [] h = cc
term_listed a t (x ∷ xs) h =
    either (same_address (via a t) x) (is_listed (via a t) xs)
    (λ here.
    subst (λ y. list_any (eq_by_cmp term_cmp t) (terms_of a (y ∷ xs)) ≡ true) (equal_addresses (via a t) x here)
    (ap (λ b. list_any (eq_by_cmp term_cmp t) (if b then t ∷ terms_of a xs else terms_of a xs)) (tied_address a) ∙ or_first _ _ (tied_terms t t refl)))
    (λ later. with_step a t x xs (term_listed a t xs later))
    h

-- and only its terms are

from_step : (a : Address) (t : Term) (x : Address) (xs : List Address) → (list_any (eq_by_cmp term_cmp t) (terms_of a xs) ≡ true → is_listed (via a t) xs ≡ true)
    → list_any (eq_by_cmp term_cmp t) (terms_of a (x ∷ xs)) ≡ true → is_listed (via a t) (x ∷ xs) ≡ true
from_step a t (root s f) xs before h = or_second (same_address (via a t) (root s f)) _ (before h)
from_step a t (part b i) xs before h = or_second (same_address (via a t) (part b i)) _ (before h)
from_step a t (via b u) xs before h =
    elim (same_address a b) as (λ x. same_address a b ≡ x → list_any (eq_by_cmp term_cmp t) (if x then u ∷ terms_of a xs else terms_of a xs) ≡ true → is_listed (via a t) (via b u ∷ xs) ≡ true) [
      | true ↦ λ is. either (eq_by_cmp term_cmp t u) (list_any (eq_by_cmp term_cmp t) (terms_of a xs))
          (λ e. or_first _ (is_listed (via a t) xs) (tied_addresses (via a t) (via b u) (λ i. via (equal_addresses a b is i) (equal_terms t u e i))))
          (λ e. or_second (same_address (via a t) (via b u)) _ (before e))
      | false ↦ λ _ e. or_second (same_address (via a t) (via b u)) _ (before e)
    ] refl h

listed_term : (a : Address) (t : Term) (xs : List Address) → list_any (eq_by_cmp term_cmp t) (terms_of a xs) ≡ true → is_listed (via a t) xs ≡ true
listed_term a t [] h = cc
listed_term a t (x ∷ xs) h = from_step a t x xs (listed_term a t xs) h

pub terms-marked : (st : State) (a : Address) (t : Term) → list_any (eq_by_cmp term_cmp t) (terms_at st a) ≡ set.has st.instances (via a t)
terms-marked st a t =
    let listed : List Term = terms_of a (set.listing st.instances) in
    sym (has-listing (set.of_list listed) t)
    ∙ (has-adds_each term_total set.empty listed t
    ∙ (ap (λ b. b || list_any (eq_by_cmp term_cmp t) listed) (has-empty term_cmp t)
    ∙ (same_truth _ _ (listed_term a t (set.listing st.instances)) (term_listed a t (set.listing st.instances))
    ∙ sym (has-listing st.instances (via a t)))))

module _ (vs : List Var) (st : State) (α : Assignment) where
  -- whether the tree at an address makes the sequent true
  abbrev pub help : Address → Bool
  help a = helped α (side_at a) (tree_at vs st a)

  used_tree : (a : Address) (e : Exp) → set.has st.opened a ≡ true → tree_at vs st a ≡ if_opened st a e → help a ≡ helped α (side_at a) e
  used_tree a e used is = ap (helped α (side_at a)) (is ∙ ap (λ b. if b then e else wk (formula_at a)) used)

  part_help : (a : Address) (i : ℕ) (f : Formula) (s : Side) → formula_at a ≡ f → part_side f i (side_at a) ≡ s → helped α s (of_part vs st a i) ≡ help (part a i)
  part_help a i f s e side = ap (λ x. helped α x (of_part vs st a i)) (sym (ap (λ x. part_side x i (side_at a)) e ∙ side))

  pub help-flat : (f : Formula) (a : Address) → formula_at a ≡ f → is_flat f ≡ true → set.has st.opened a ≡ true → help a ≡ helps α (side_at a) f
  help-flat f a e h used = used_tree a _ used (tree-flat vs st f a e h) ∙ ap (helps α (side_at a)) e

  pub help-not : (f : Formula) (a : Address) → formula_at a ≡ not f → set.has st.opened a ≡ true → help a ≡ help (part a 0)
  help-not f a e used = used_tree a _ used (tree-not vs st f a e) ∙ part_help a 0 (not f) _ e refl

  pub help-and : (f g : Formula) (a : Address) → formula_at a ≡ and f g → set.has st.opened a ≡ true → help a ≡ conjoined (side_at a) (help (part a 0)) (help (part a 1))
  help-and f g a e used = used_tree a _ used (tree-and vs st f g a e) ∙ λ i. conjoined (side_at a) (part_help a 0 (and f g) _ e refl i) (part_help a 1 (and f g) _ e refl i)

  pub help-or : (f g : Formula) (a : Address) → formula_at a ≡ or f g → set.has st.opened a ≡ true → help a ≡ disjoined (side_at a) (help (part a 0)) (help (part a 1))
  help-or f g a e used = used_tree a _ used (tree-or vs st f g a e) ∙ λ i. disjoined (side_at a) (part_help a 0 (or f g) _ e refl i) (part_help a 1 (or f g) _ e refl i)

  pub help-imp : (f g : Formula) (a : Address) → formula_at a ≡ imp f g → set.has st.opened a ≡ true → help a ≡ disjoined (side_at a) (help (part a 0)) (help (part a 1))
  help-imp f g a e used = used_tree a _ used (tree-imp vs st f g a e) ∙ λ i. disjoined (side_at a) (part_help a 0 (imp f g) _ e refl i) (part_help a 1 (imp f g) _ e refl i)

  -- one instance that does is enough

  some-instances : (s : Side) (e : Term → Exp) (ts : List Term) → some_helped α s (instances_by e ts) ≡ list_any (λ t. helped α s (e t)) ts
  some-instances s e [] = refl
  some-instances s e (t ∷ ts) = ap (λ b. helped α s (e t) || b) (some-instances s e ts)

  weak_help : (a : Address) (t : Term) → set.has st.instances (via a t) ≡ true → help (via a t) ≡ true → helped α (side_at a) (weak_at st a (of_instance vs st a)) ≡ true
  weak_help a t there h =
      some-instances (side_at a) (of_instance vs st a) (terms_at st a)
      ∙ any_of (eq_by_cmp term_cmp) equal_terms (λ u. helped α (side_at a) (of_instance vs st a u)) (terms_at st a) t (terms-marked st a t ∙ there) h

  pub help_all_left : (f : Formula) (a : Address) (t : Term) → formula_at a ≡ all f → side_at a ≡ Left → set.has st.opened a ≡ true → set.has st.instances (via a t) ≡ true → help (via a t) ≡ true → help a ≡ true
  help_all_left f a t e side used there h =
      used_tree a _ used (tree-all vs st f a e)
      ∙ (ap (λ s. helped α (side_at a) (by_side s (weak_at st a (of_instance vs st a)) (strong_at vs st a (of_instance vs st a)))) side
      ∙ weak_help a t there h)

  pub help_ex_right : (f : Formula) (a : Address) (t : Term) → formula_at a ≡ ex f → side_at a ≡ Right → set.has st.opened a ≡ true → set.has st.instances (via a t) ≡ true → help (via a t) ≡ true → help a ≡ true
  help_ex_right f a t e side used there h =
      used_tree a _ used (tree-ex vs st f a e)
      ∙ (ap (λ s. helped α (side_at a) (by_side s (strong_at vs st a (of_instance vs st a)) (weak_at st a (of_instance vs st a)))) side
      ∙ weak_help a t there h)

  -- the instance by the variable does

  pub help_all_right : (f : Formula) (a : Address) → formula_at a ≡ all f → side_at a ≡ Right → set.has st.opened a ≡ true → help a ≡ help (via a (free (variable_at vs st a)))
  help_all_right f a e side used =
      used_tree a _ used (tree-all vs st f a e)
      ∙ ap (λ s. helped α (side_at a) (by_side s (weak_at st a (of_instance vs st a)) (strong_at vs st a (of_instance vs st a)))) side

  pub help_ex_left : (f : Formula) (a : Address) → formula_at a ≡ ex f → side_at a ≡ Left → set.has st.opened a ≡ true → help a ≡ help (via a (free (variable_at vs st a)))
  help_ex_left f a e side used =
      used_tree a _ used (tree-ex vs st f a e)
      ∙ ap (λ s. helped α (side_at a) (by_side s (strong_at vs st a (of_instance vs st a)) (weak_at st a (of_instance vs st a)))) side
