-- What holds of the tree that has the marks of two: it is of the same formula, stands where both do, and is rightly built.
use Rattle.std.proofs.Common.{◌≡◌, true, ◌&&◌, refl, sym, ap, ◌∙◌, subst}
use Rattle.std.specs.declared.cmp.Ordering.{Ordering}
use Rattle.std.specs.declared.cmp.Ordering.TheVariants.{Less, Equal, Greater}
use Rattle.std.specs.Ordering.{ordering_reverse, eq_by_cmp}
use Rattle.std.proofs.lemmas.Bool.{and_parts}
use Rattle.std.specs.Cmp.Derive.{both_true}
use Rattle.std.specs.Cmp.{Equal-is}
use Rattle.fol.specs.Syntax.{Term, free, Formula, not, and, or, imp, all, ex}
use Rattle.fol.proofs.OrderTies.{term_ties, formula_ties}
use Rattle.substitution.specs.Instance.{inst}
use Rattle.fol.specs.Order.{term_cmp, formula_cmp}
use Rattle.fol.specs.OrderLaws.{term_total}
use Rattle.fol.specs.Formed.{is_formed, is_formed_var, is_formed_term}
use Rattle.lk_rules.specs.declared.sequent.Side.{Side}
use Rattle.expansion_laws.specs.Expansions.{Exp as Tree, wk, neg, conj, disj, impl, weak, strong, Insts, none, more, shallow, turn}
use Rattle.expansion_laws.specs.Building.{is_instance, is_less, is_below, is_quantified, is_built, are_built}
use Rattle.expansion_laws.specs.Proofs.{is_weak_on, is_strong_on, stands, stand_in}
use Rattle.expansion_laws.specs.Formed.{is_formed_exp, are_formed_insts}
use Rattle.exp_tree.specs.Merging.{by_order, among, merged, merged_in, AtTerm, Agree, AgreeIn}

-- what holds in each of the three cases
by_each : (P : Insts → Type 0) (r : Ordering) (x y z : Insts) → (r ≡ Less → P x) → (r ≡ Equal → P y) → (r ≡ Greater → P z) → P (by_order r x y z)
by_each P Less x y z f g h = f refl
by_each P Equal x y z f g h = g refl
by_each P Greater x y z f g h = h refl

-- the formula

pub shallow-merged : (d e : Tree) → shallow d ≡ shallow e → shallow (merged d e) ≡ shallow d
shallow-merged (wk f) e h = sym h
shallow-merged (neg d) (neg e) h = let k : shallow d ≡ shallow e = cc in λ i. not (shallow-merged d e k i)
shallow-merged (conj a b) (conj c d) h =
    let first : shallow a ≡ shallow c = cc in
    let second : shallow b ≡ shallow d = cc in
    λ i. and (shallow-merged a c first i) (shallow-merged b d second i)
shallow-merged (disj a b) (disj c d) h =
    let first : shallow a ≡ shallow c = cc in
    let second : shallow b ≡ shallow d = cc in
    λ i. or (shallow-merged a c first i) (shallow-merged b d second i)
shallow-merged (impl a b) (impl c d) h =
    let first : shallow a ≡ shallow c = cc in
    let second : shallow b ≡ shallow d = cc in
    λ i. imp (shallow-merged a c first i) (shallow-merged b d second i)
shallow-merged (weak f is) (weak g js) h = refl
shallow-merged (strong f y d) (strong g z e) h = refl
shallow-merged d e h = refl

-- the side

stand_among : (s : Side) (t : Term) (d : Tree) (with : Tree → Tree) (on : Insts → Insts) (js : Insts) → stands s d ≡ true → ((e : Tree) → stands s e ≡ true → stands s (with e) ≡ true)
    → ((ks : Insts) → stand_in s ks ≡ true → stand_in s (on ks) ≡ true) → stand_in s js ≡ true → stand_in s (among t d with on js) ≡ true
stand_among s t d with on none h one rest k = both_true h (rest none refl)
stand_among s t d with on (more u e js) h one rest k =
    let parts = and_parts (stands s e) (stand_in s js) k in
    by_each (λ ks. stand_in s ks ≡ true) (term_cmp t u) _ _ _
    (λ _. both_true h (rest (more u e js) k))
    (λ _. both_true (one e parts.0) (rest js parts.1))
    (λ _. both_true parts.0 (stand_among s t d with on js h one rest parts.1))

mutual
  pub stands-merged : (s : Side) (d e : Tree) → stands s d ≡ true → stands s e ≡ true → stands s (merged d e) ≡ true
  stands-merged s (wk f) e h k = k
  stands-merged s (neg d) (neg e) h k = stands-merged (turn s) d e h k
  stands-merged s (conj a b) (conj c d) h k =
      let first = and_parts (stands s a) (stands s b) h in
      let second = and_parts (stands s c) (stands s d) k in
      both_true (stands-merged s a c first.0 second.0) (stands-merged s b d first.1 second.1)
  stands-merged s (disj a b) (disj c d) h k =
      let first = and_parts (stands s a) (stands s b) h in
      let second = and_parts (stands s c) (stands s d) k in
      both_true (stands-merged s a c first.0 second.0) (stands-merged s b d first.1 second.1)
  stands-merged s (impl a b) (impl c d) h k =
      let first = and_parts (stands (turn s) a) (stands s b) h in
      let second = and_parts (stands (turn s) c) (stands s d) k in
      both_true (stands-merged (turn s) a c first.0 second.0) (stands-merged s b d first.1 second.1)
  stands-merged s (weak f is) (weak g js) h k =
      let first = and_parts (is_weak_on s f) (stand_in s is) h in
      let second = and_parts (is_weak_on s g) (stand_in s js) k in
      both_true first.0 (stand-merged s is js first.1 second.1)
  stands-merged s (strong f y d) (strong g z e) h k =
      let first = and_parts (is_strong_on s f) (stands s d) h in
      let second = and_parts (is_strong_on s g) (stands s e) k in
      both_true first.0 (stands-merged s d e first.1 second.1)
  stands-merged s d e h k = h

  stand-merged : (s : Side) (is js : Insts) → stand_in s is ≡ true → stand_in s js ≡ true → stand_in s (merged_in is js) ≡ true
  stand-merged s none js h k = k
  stand-merged s (more t d is) js h k =
      let parts = and_parts (stands s d) (stand_in s is) h in
      stand_among s t d (merged d) (merged_in is) js parts.0 (λ e. stands-merged s d e parts.0) (λ ks. stand-merged s is ks parts.1) k

-- what is named is well formed

formed_among : (t : Term) (d : Tree) (with : Tree → Tree) (on : Insts → Insts) (js : Insts) → is_formed_term t ≡ true → is_formed_exp d ≡ true
    → ((e : Tree) → is_formed_exp e ≡ true → is_formed_exp (with e) ≡ true) → ((ks : Insts) → are_formed_insts ks ≡ true → are_formed_insts (on ks) ≡ true)
    → are_formed_insts js ≡ true → are_formed_insts (among t d with on js) ≡ true
formed_among t d with on none term h one rest k = both_true (both_true term h) (rest none refl)
formed_among t d with on (more u e js) term h one rest k =
    let parts = and_parts (is_formed_term u && is_formed_exp e) (are_formed_insts js) k in
    by_each (λ ks. are_formed_insts ks ≡ true) (term_cmp t u) _ _ _
    (λ _. both_true (both_true term h) (rest (more u e js) k))
    (λ _. both_true (both_true term (one e (and_parts (is_formed_term u) (is_formed_exp e) parts.0).1)) (rest js parts.1))
    (λ _. both_true parts.0 (formed_among t d with on js term h one rest parts.1))

mutual
  pub formed-merged : (d e : Tree) → is_formed_exp d ≡ true → is_formed_exp e ≡ true → is_formed_exp (merged d e) ≡ true
  formed-merged (wk f) e h k = k
  formed-merged (neg d) (neg e) h k = formed-merged d e h k
  formed-merged (conj a b) (conj c d) h k =
      let first = and_parts (is_formed_exp a) (is_formed_exp b) h in
      let second = and_parts (is_formed_exp c) (is_formed_exp d) k in
      both_true (formed-merged a c first.0 second.0) (formed-merged b d first.1 second.1)
  formed-merged (disj a b) (disj c d) h k =
      let first = and_parts (is_formed_exp a) (is_formed_exp b) h in
      let second = and_parts (is_formed_exp c) (is_formed_exp d) k in
      both_true (formed-merged a c first.0 second.0) (formed-merged b d first.1 second.1)
  formed-merged (impl a b) (impl c d) h k =
      let first = and_parts (is_formed_exp a) (is_formed_exp b) h in
      let second = and_parts (is_formed_exp c) (is_formed_exp d) k in
      both_true (formed-merged a c first.0 second.0) (formed-merged b d first.1 second.1)
  formed-merged (weak f is) (weak g js) h k =
      let first = and_parts (is_formed f) (are_formed_insts is) h in
      let second = and_parts (is_formed g) (are_formed_insts js) k in
      both_true first.0 (formed-insts is js first.1 second.1)
  formed-merged (strong f y d) (strong g z e) h k =
      let first = and_parts (is_formed f && is_formed_var y) (is_formed_exp d) h in
      let second = and_parts (is_formed g && is_formed_var z) (is_formed_exp e) k in
      both_true first.0 (formed-merged d e first.1 second.1)
  formed-merged d e h k = h

  formed-insts : (is js : Insts) → are_formed_insts is ≡ true → are_formed_insts js ≡ true → are_formed_insts (merged_in is js) ≡ true
  formed-insts none js h k = k
  formed-insts (more t d is) js h k =
      let parts = and_parts (is_formed_term t && is_formed_exp d) (are_formed_insts is) h in
      let own = and_parts (is_formed_term t) (is_formed_exp d) parts.0 in
      formed_among t d (merged d) (merged_in is) js own.0 own.1 (λ e. formed-merged d e own.1) (λ ks. formed-insts is ks parts.1) k

-- terms rise

less_is : (r : Ordering) → r ≡ Less → is_less r ≡ true
less_is r e = ap is_less e

is_less_back : (r : Ordering) → is_less r ≡ true → r ≡ Less
is_less_back Less h = refl
is_less_back Equal h = cc
is_less_back Greater h = cc

turned : (t u : Term) → term_cmp t u ≡ Greater → term_cmp u t ≡ Less
turned t u e = term_total.antisymm u t ∙ ap ordering_reverse e

-- a term that is below the first instances of two lists is below the first of what comes of both
below_among : (v t : Term) (d : Tree) (with : Tree → Tree) (on : Insts → Insts) (js : Insts) → is_less (term_cmp v t) ≡ true → is_below v js ≡ true
    → is_below v (among t d with on js) ≡ true
below_among v t d with on none h k = h
below_among v t d with on (more u e js) h k = by_each (λ ks. is_below v ks ≡ true) (term_cmp t u) _ _ _ (λ _. h) (λ _. h) (λ _. k)

below_merged : (v : Term) (is js : Insts) → is_below v is ≡ true → is_below v js ≡ true → is_below v (merged_in is js) ≡ true
below_merged v none js h k = k
below_merged v (more t d is) js h k = below_among v t d (merged d) (merged_in is) js h k

-- trees are rightly built

record AreBuilt (f : Formula) (t : Term) (e : Tree) (is : Insts) : Type 0 where
  own : is_instance f t (shallow e) ≡ true
  built : is_built e ≡ true
  below : is_below t is ≡ true
  rest : are_built f is ≡ true

built_parts : (f : Formula) (t : Term) (e : Tree) (is : Insts) → are_built f (more t e is) ≡ true → AreBuilt f t e is
built_parts f t e is h =
    let both = and_parts (is_instance f t (shallow e) && is_built e) (is_below t is && are_built f is) h in
    let first = and_parts (is_instance f t (shallow e)) (is_built e) both.0 in
    let second = and_parts (is_below t is) (are_built f is) both.1 in
    record { own = first.0; built = first.1; below = second.0; rest = second.1 }

built_whole : (f : Formula) (t : Term) (e : Tree) (is : Insts) → AreBuilt f t e is → are_built f (more t e is) ≡ true
built_whole f t e is h = both_true (both_true h.own h.built) (both_true h.below h.rest)

equal_formulas : (f g : Formula) → eq_by_cmp formula_cmp f g ≡ true → f ≡ g
equal_formulas f g h = formula_ties f g ((Equal-is (formula_cmp f g)).0 h)

-- there is one instance by a term
pub one_instance : (f : Formula) (t u : Term) (g h : Formula) → t ≡ u → is_instance f t g ≡ true → is_instance f u h ≡ true → g ≡ h
one_instance (all b) t u g h e p q = equal_formulas g (inst b t) p ∙ ap (inst b) e ∙ sym (equal_formulas h (inst b u) q)
one_instance (ex b) t u g h e p q = equal_formulas g (inst b t) p ∙ ap (inst b) e ∙ sym (equal_formulas h (inst b u) q)
one_instance f t u g h e p q = cc

-- what agrees with a list agrees with its rest

agree_nothing : (is : Insts) → AgreeIn is none
agree_nothing none = tt
agree_nothing (more t d is) = (tt, agree_nothing is)

agree_rest : (is : Insts) (u : Term) (e : Tree) (js : Insts) → AgreeIn is (more u e js) → AgreeIn is js
agree_rest none u e js h = tt
agree_rest (more t d is) u e js h = (h.0.1, agree_rest is u e js h.1)

-- one instance and those after it among others
module _ (f : Formula) (t : Term) (d : Tree) (is : Insts) (with : Tree → Tree) (on : Insts → Insts) where
  record MergesWell : Type 0 where
    own : AreBuilt f t d is
    shape : (e : Tree) → shallow d ≡ shallow e → shallow (with e) ≡ shallow d
    built : (e : Tree) → Agree d e → shallow d ≡ shallow e → is_built e ≡ true → is_built (with e) ≡ true
    below : (ks : Insts) → is_below t ks ≡ true → is_below t (on ks) ≡ true
    rest : (ks : Insts) → AgreeIn is ks → are_built f ks ≡ true → are_built f (on ks) ≡ true

  built_among : MergesWell → (js : Insts) → AtTerm t (Agree d) js → AgreeIn is js → are_built f js ≡ true → are_built f (among t d with on js) ≡ true
  built_among w none at agree k =
      built_whole f t d (on none) (record { own = w.own.own; built = w.own.built; below = w.below none refl; rest = w.rest none (agree_nothing is) refl })
  built_among w (more u e js) at agree k =
      let parts = built_parts f u e js k in
      by_each (λ ks. are_built f ks ≡ true) (term_cmp t u) _ _ _
      (λ less. built_whole f t d (on (more u e js)) (record { own = w.own.own; built = w.own.built; below = w.below (more u e js) (less_is (term_cmp t u) less); rest = w.rest (more u e js) agree k }))
      (λ tied.
      let terms = term_ties t u tied in
      let same = one_instance f t u (shallow d) (shallow e) terms w.own.own parts.own in
      built_whole f t (with e) (on js) (record {
        own = subst (λ g. is_instance f t g ≡ true) (sym (w.shape e same)) w.own.own;
        built = w.built e (at.0 terms) same parts.built;
        below = w.below js (subst (λ x. is_below x js ≡ true) (sym terms) parts.below);
        rest = w.rest js (agree_rest is u e js agree) parts.rest;
      }))
      (λ greater. built_whole f u e (among t d with on js) (record {
        own = parts.own;
        built = parts.built;
        below = below_among u t d with on js (less_is (term_cmp u t) (turned t u greater)) parts.below;
        rest = built_among w js at.1 (agree_rest is u e js agree) parts.rest;
      }))

mutual
  pub built-merged : (d e : Tree) → Agree d e → shallow d ≡ shallow e → is_built d ≡ true → is_built e ≡ true → is_built (merged d e) ≡ true
  built-merged (wk f) e agree same h k = k
  built-merged (neg d) (neg e) agree same h k = let inner : shallow d ≡ shallow e = cc in built-merged d e agree inner h k
  built-merged (conj a b) (conj c d) agree same h k =
      let first = and_parts (is_built a) (is_built b) h in
      let second = and_parts (is_built c) (is_built d) k in
      let left : shallow a ≡ shallow c = cc in
      let right : shallow b ≡ shallow d = cc in
      both_true (built-merged a c agree.0 left first.0 second.0) (built-merged b d agree.1 right first.1 second.1)
  built-merged (disj a b) (disj c d) agree same h k =
      let first = and_parts (is_built a) (is_built b) h in
      let second = and_parts (is_built c) (is_built d) k in
      let left : shallow a ≡ shallow c = cc in
      let right : shallow b ≡ shallow d = cc in
      both_true (built-merged a c agree.0 left first.0 second.0) (built-merged b d agree.1 right first.1 second.1)
  built-merged (impl a b) (impl c d) agree same h k =
      let first = and_parts (is_built a) (is_built b) h in
      let second = and_parts (is_built c) (is_built d) k in
      let left : shallow a ≡ shallow c = cc in
      let right : shallow b ≡ shallow d = cc in
      both_true (built-merged a c agree.0 left first.0 second.0) (built-merged b d agree.1 right first.1 second.1)
  built-merged (weak f is) (weak g js) agree same h k =
      let first = and_parts (is_quantified f) (are_built f is) h in
      let second = and_parts (is_quantified g) (are_built g js) k in
      both_true first.0 (built-insts f is js agree first.1 (subst (λ x. are_built x js ≡ true) (sym same) second.1))
  built-merged (strong f y d) (strong g z e) agree same h k =
      let first = and_parts (is_instance f (free y) (shallow d)) (is_built d) h in
      let second = and_parts (is_instance g (free z) (shallow e)) (is_built e) k in
      let inner = one_instance f (free y) (free z) (shallow d) (shallow e) (ap free agree.0) first.0 (subst (λ x. is_instance x (free z) (shallow e) ≡ true) (sym same) second.0) in
      both_true (subst (λ x. is_instance f (free y) x ≡ true) (sym (shallow-merged d e inner)) first.0) (built-merged d e agree.1 inner first.1 second.1)
  built-merged d e agree same h k = h

  built-insts : (f : Formula) (is js : Insts) → AgreeIn is js → are_built f is ≡ true → are_built f js ≡ true → are_built f (merged_in is js) ≡ true
  built-insts f none js agree h k = k
  built-insts f (more t d is) js agree h k =
      let own = built_parts f t d is h in
      built_among f t d is (merged d) (merged_in is) (record {
        own = own;
        shape = shallow-merged d;
        built = λ e a same. built-merged d e a same own.built;
        below = λ ks below. below_merged t is ks own.below below;
        rest = λ ks a. built-insts f is ks a own.rest;
      }) js agree.0 agree.1 k
