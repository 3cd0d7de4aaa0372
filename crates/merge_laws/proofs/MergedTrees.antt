-- The tree that is read off united marks is the merge of those that are read off either.
use Rattle.std.proofs.Common.{◌≡◌, ℕ, Bool, true, false, ◌||◌, if◌then◌else◌, List, refl, sym, ap, ◌∙◌}
use Rattle.fol.specs.declared.symbols.Var.{Var}
use Rattle.fol.specs.Syntax.{Term, free, Formula}
use Rattle.fol.specs.Order.{term_cmp}
use Rattle.fol.specs.OrderLaws.{term_total}
use Rattle.fol.proofs.OrderTies.{term_ties}
use Rattle.finite.specs.Finite as set
use Rattle.finite.proofs.Finite.{has-listing, listing_rises, same_members}
use Rattle.free_variables.specs.Union.{union_of}
use Rattle.lk_rules.specs.declared.sequent.Side.{Side}
use Rattle.lk_rules.specs.declared.sequent.Side.TheVariants.{Left, Right}
use Rattle.search_laws.proofs.Tests.{clash, fails}
use Rattle.expansion_laws.specs.Expansions.{Exp, wk, neg, conj, disj, impl, weak, strong, shallow}
use Rattle.expansion_laws.specs.Proofs.{is_weak_on}
use Rattle.extraction_laws.specs.Addresses.{Address, part, via, address_total, formula_at, side_at}
use Rattle.extraction_laws.specs.States.{State, variable_at, terms_of, terms_at, instances_by, if_opened, by_side, weak_at, strong_at, tree_at}
use Rattle.extraction_laws.proofs.Built.{shallow-tree}
use Rattle.extraction_laws.proofs.Grades.{Rises, at_each}
use Rattle.extraction_laws.proofs.Helping.{terms-marked}
use Rattle.extraction_laws.proofs.Read.{tree-unused}
use Rattle.extraction_laws.proofs.Unrolled.{of_part, of_instance, tree-flat, tree-not, tree-and, tree-or, tree-imp, tree-all, tree-ex}
use Rattle.exp_tree.specs.Merging.{merged}
use Rattle.merge_laws.specs.United.{united, IsPrefixClosed, HaveSameVariables}
use Rattle.merge_laws.proofs.MergedInstances.{is_in, joined, Alone, merged-instances}
use Rattle.merge_laws.proofs.Unions.{has-union, listing-union}

-- a tree of a formula with the formula unused
merged-unused : (d : Exp) (f : Formula) → shallow d ≡ f → merged d (wk f) ≡ d
merged-unused (wk g) f h = ap wk (sym h)
merged-unused d f h = refl

-- the merge where both trees are used, the first alone is, or the second alone
merged_if : (p q : Bool) (f : Formula) (b d e : Exp) → (p ≡ true → q ≡ true → b ≡ merged d e) → (q ≡ false → b ≡ merged d (wk f)) → (p ≡ false → q ≡ true → b ≡ e)
    → (if (p || q) then b else wk f) ≡ merged (if p then d else wk f) (if q then e else wk f)
merged_if true true f b d e both first second = both refl refl
merged_if true false f b d e both first second = first refl
merged_if false true f b d e both first second = second refl refl
merged_if false false f b d e both first second = refl

-- the terms at an address

abbrev term_set : State → Address → set.Finite term_cmp
term_set x a = set.of_list (terms_of a (set.listing x.instances))

has-term_set : (x : State) (a : Address) (t : Term) → set.has (term_set x a) t ≡ set.has x.instances (via a t)
has-term_set x a t = has-listing (term_set x a) t ∙ terms-marked x a t

terms_rise : (x : State) (a : Address) → set.IsRising term_cmp (terms_at x a)
terms_rise x a = listing_rises (term_set x a)

same_terms : (x y : State) (a : Address) → ((t : Term) → set.has x.instances (via a t) ≡ set.has y.instances (via a t)) → terms_at x a ≡ terms_at y a
same_terms x y a same = ap set.listing (same_members term_total term_ties (term_set x a) (term_set y a) (λ t. has-term_set x a t ∙ (same t ∙ sym (has-term_set y a t))))

terms-united : (x y : State) (a : Address) → terms_at (united x y) a ≡ joined (terms_at x a) (terms_at y a)
terms-united x y a =
    ap set.listing (same_members term_total term_ties (term_set (united x y) a) (union_of (term_set x a) (term_set y a)) (λ t.
    has-term_set (united x y) a t
    ∙ (has-union address_total x.instances y.instances (via a t)
    ∙ ((λ i. sym (has-term_set x a t) i || sym (has-term_set y a t) i)
    ∙ sym (has-union term_total (term_set x a) (term_set y a) t)))))
    ∙ listing-union term_total term_ties (term_set x a) (term_set y a)

or_nothing : (p q : Bool) → q ≡ false → (p || q) ≡ p
or_nothing true q e = refl
or_nothing false q e = e

module _ (vs : List Var) (x y : State) (h : IsPrefixClosed x) (k : IsPrefixClosed y) (same : HaveSameVariables vs x y) where
  abbrev both : State
  both = united x y

  abbrev Merges : Address → Type 0
  Merges a = tree_at vs both a ≡ merged (tree_at vs x a) (tree_at vs y a)

  -- what one state doesn't use is as in the other

  first_alone : (a : Address) → Merges a → set.has y.opened a ≡ false → tree_at vs both a ≡ tree_at vs x a
  first_alone a is out = is ∙ (ap (merged (tree_at vs x a)) (tree-unused vs y a out) ∙ merged-unused (tree_at vs x a) (formula_at a) (shallow-tree vs x a))

  second_alone : (a : Address) → Merges a → set.has x.opened a ≡ false → tree_at vs both a ≡ tree_at vs y a
  second_alone a is out = is ∙ ap (λ d. merged d (tree_at vs y a)) (tree-unused vs x a out)

  -- nothing is used in what isn't used

  part_out : (z : State) → IsPrefixClosed z → (a : Address) (i : ℕ) → set.has z.opened a ≡ false → set.has z.opened (part a i) ≡ false
  part_out z closed a i out = fails _ (λ there. clash _ (closed.opened (part a i) there) out)

  via_out : (z : State) → IsPrefixClosed z → (a : Address) (t : Term) → set.has z.opened a ≡ false → set.has z.opened (via a t) ≡ false
  via_out z closed a t out = fails _ (λ there. clash _ (closed.opened (via a t) there).0 out)

  instance_out : (z : State) → IsPrefixClosed z → (a : Address) (t : Term) → set.has z.opened a ≡ false → set.has z.instances (via a t) ≡ false
  instance_out z closed a t out = fails _ (λ there. clash _ (closed.instances a t there) out)

  first_part : (a : Address) (i : ℕ) → Merges (part a i) → set.has y.opened a ≡ false → of_part vs both a i ≡ of_part vs x a i
  first_part a i is out = first_alone (part a i) is (part_out y k a i out)

  second_part : (a : Address) (i : ℕ) → Merges (part a i) → set.has x.opened a ≡ false → of_part vs both a i ≡ of_part vs y a i
  second_part a i is out = second_alone (part a i) is (part_out x h a i out)

  first_instance : (a : Address) (t : Term) → Merges (via a t) → set.has y.opened a ≡ false → of_instance vs both a t ≡ of_instance vs x a t
  first_instance a t is out = first_alone (via a t) is (via_out y k a t out)

  second_instance : (a : Address) (t : Term) → Merges (via a t) → set.has x.opened a ≡ false → of_instance vs both a t ≡ of_instance vs y a t
  second_instance a t is out = second_alone (via a t) is (via_out x h a t out)

  -- the trees that may be at an address: b of both, d of the first and e of the second
  record AreMerged (a : Address) (b d e : Exp) : Type 0 where
    used : set.has x.opened a ≡ true → set.has y.opened a ≡ true → b ≡ merged d e
    first : set.has y.opened a ≡ false → b ≡ merged d (wk (formula_at a))
    second : set.has x.opened a ≡ false → set.has y.opened a ≡ true → b ≡ e

  merged_at : (a : Address) (b d e : Exp) → tree_at vs both a ≡ if_opened both a b → tree_at vs x a ≡ if_opened x a d → tree_at vs y a ≡ if_opened y a e → AreMerged a b d e → Merges a
  merged_at a b d e u l r m =
      u
      ∙ (ap (λ p. if p then b else wk (formula_at a)) (has-union address_total x.opened y.opened a)
      ∙ (merged_if (set.has x.opened a) (set.has y.opened a) (formula_at a) b d e m.used m.first m.second
      ∙ sym (λ i. merged (l i) (r i))))

  merged_on_side : (s : Side) (a : Address) (b d e b' d' e' : Exp) → tree_at vs both a ≡ if_opened both a (by_side s b b') → tree_at vs x a ≡ if_opened x a (by_side s d d') → tree_at vs y a ≡ if_opened y a (by_side s e e')
      → (s ≡ Left → AreMerged a b d e) → (s ≡ Right → AreMerged a b' d' e') → Merges a
  merged_on_side Left a b d e b' d' e' u l r f g = merged_at a b d e u l r (f refl)
  merged_on_side Right a b d e b' d' e' u l r f g = merged_at a b' d' e' u l r (g refl)

  -- a weak quantifier

  terms_of_first : (a : Address) → set.has y.opened a ≡ false → terms_at both a ≡ terms_at x a
  terms_of_first a out = same_terms both x a (λ t. has-union address_total x.instances y.instances (via a t) ∙ or_nothing _ _ (instance_out y k a t out))

  terms_of_second : (a : Address) → set.has x.opened a ≡ false → terms_at both a ≡ terms_at y a
  terms_of_second a out = same_terms both y a (λ t. has-union address_total x.instances y.instances (via a t) ∙ ap (λ p. p || set.has y.instances (via a t)) (instance_out x h a t out))

  -- the instance by a term that isn't among those at a weak quantifier isn't used
  not_used : (z : State) → IsPrefixClosed z → (a : Address) (t : Term) → is_weak_on (side_at a) (formula_at a) ≡ true → is_in t (terms_at z a) ≡ false → set.has z.opened (via a t) ≡ false
  not_used z closed a t on out = fails _ (λ there. clash (is_in t (terms_at z a)) (terms-marked z a t ∙ (closed.opened (via a t) there).1 on) out)

  instances_alone : (a : Address) → is_weak_on (side_at a) (formula_at a) ≡ true → ((t : Term) → Merges (via a t)) → Alone (of_instance vs x a) (of_instance vs y a) (terms_at x a) (terms_at y a)
  instances_alone a on each = record {
    first = λ t _ out. sym (each t) ∙ first_alone (via a t) (each t) (not_used y k a t on out);
    second = λ t _ out. sym (each t) ∙ second_alone (via a t) (each t) (not_used x h a t on out);
  }

  merged_weak : (a : Address) → is_weak_on (side_at a) (formula_at a) ≡ true → ((t : Term) → Merges (via a t)) → AreMerged a (weak_at both a (of_instance vs both a)) (weak_at x a (of_instance vs x a)) (weak_at y a (of_instance vs y a))
  merged_weak a on each = record {
    used = λ _ _. ap (weak (formula_at a)) (
        (λ i. instances_by (λ t. each t i) (terms-united x y a i))
        ∙ sym (merged-instances (of_instance vs x a) (of_instance vs y a) (terms_at x a) (terms_at y a) (terms_rise x a) (terms_rise y a) (instances_alone a on each)));
    first = λ out i. weak (formula_at a) (instances_by (λ t. first_instance a t (each t) out i) (terms_of_first a out i));
    second = λ out _ i. weak (formula_at a) (instances_by (λ t. second_instance a t (each t) out i) (terms_of_second a out i));
  }

  -- a strong quantifier

  merged_strong : (a : Address) → ((t : Term) → Merges (via a t)) → AreMerged a (strong_at vs both a (of_instance vs both a)) (strong_at vs x a (of_instance vs x a)) (strong_at vs y a (of_instance vs y a))
  merged_strong a each =
      let v : Var = variable_at vs x a in record {
        used = λ _ there. ap (strong (formula_at a) v) (each (free v) ∙ ap (λ w. merged (of_instance vs x a (free v)) (of_instance vs y a (free w))) (same a there));
        first = λ out. ap (strong (formula_at a) v) (first_instance a (free v) (each (free v)) out);
        second = λ out there. ap (strong (formula_at a) v) (second_instance a (free v) (each (free v)) out) ∙ ap (λ w. strong (formula_at a) w (of_instance vs y a (free w))) (same a there);
      }

  merging : Rises Merges
  merging = record {
    flat = λ a flat. merged_at a _ _ _ (tree-flat vs both (formula_at a) a refl flat) (tree-flat vs x (formula_at a) a refl flat) (tree-flat vs y (formula_at a) a refl flat)
        (record { used = λ _ _. refl; first = λ _. refl; second = λ _ _. refl });
    negation = λ a f e m. merged_at a _ _ _ (tree-not vs both f a e) (tree-not vs x f a e) (tree-not vs y f a e)
        (record { used = λ _ _. ap neg m; first = λ out. ap neg (first_part a 0 m out); second = λ out _. ap neg (second_part a 0 m out) });
    conjunction = λ a f g e m n. merged_at a _ _ _ (tree-and vs both f g a e) (tree-and vs x f g a e) (tree-and vs y f g a e)
        (record { used = λ _ _ i. conj (m i) (n i); first = λ out i. conj (first_part a 0 m out i) (first_part a 1 n out i); second = λ out _ i. conj (second_part a 0 m out i) (second_part a 1 n out i) });
    disjunction = λ a f g e m n. merged_at a _ _ _ (tree-or vs both f g a e) (tree-or vs x f g a e) (tree-or vs y f g a e)
        (record { used = λ _ _ i. disj (m i) (n i); first = λ out i. disj (first_part a 0 m out i) (first_part a 1 n out i); second = λ out _ i. disj (second_part a 0 m out i) (second_part a 1 n out i) });
    implication = λ a f g e m n. merged_at a _ _ _ (tree-imp vs both f g a e) (tree-imp vs x f g a e) (tree-imp vs y f g a e)
        (record { used = λ _ _ i. impl (m i) (n i); first = λ out i. impl (first_part a 0 m out i) (first_part a 1 n out i); second = λ out _ i. impl (second_part a 0 m out i) (second_part a 1 n out i) });
    universal = λ a f e each. merged_on_side (side_at a) a _ _ _ _ _ _ (tree-all vs both f a e) (tree-all vs x f a e) (tree-all vs y f a e)
        (λ s. merged_weak a (λ i. is_weak_on (s i) (e i)) each)
        (λ s. merged_strong a each);
    existential = λ a f e each. merged_on_side (side_at a) a _ _ _ _ _ _ (tree-ex vs both f a e) (tree-ex vs x f a e) (tree-ex vs y f a e)
        (λ s. merged_strong a each)
        (λ s. merged_weak a (λ i. is_weak_on (s i) (e i)) each);
  }

  pub merged-trees : (a : Address) → tree_at vs (united x y) a ≡ merged (tree_at vs x a) (tree_at vs y a)
  merged-trees = at_each Merges merging
