-- What can be merged at a strong quantifier and at instances of one term.
use Rattle.std.proofs.Common.{◌≡◌, ℕ, zero, suc, ◌<◌, true, ◌&&◌, List, [], ◌∷◌, length, get_or, sym, ap, subst, ◌∙◌, arith}
use Rattle.std.proofs.lemmas.Bool.{and_parts}
use Rattle.fol.specs.declared.symbols.Var.{Var}
use Rattle.fol.specs.Syntax.{Term, free, Formula}
use Rattle.lk_rules.specs.declared.sequent.Side.{Side}
use Rattle.expansion_laws.specs.Expansions.{Exp as Tree, weak, strong, Insts, shallow}
use Rattle.expansion_laws.specs.Building.{is_instance, is_below, is_built, are_built}
use Rattle.expansion_laws.specs.Proofs.{is_strong_on, stands, stand_in}
use Rattle.exp_tree.specs.declared.expansion.Inst.{Inst}
use Rattle.expansion_laws.specs.Formed.{is_formed_exp, IsProper}
use Rattle.exp_tree.specs.Shown.{insts_of}
use Rattle.exp_tree.specs.Merging.{merged, merged_in, AtTerm, Agree, AgreeIn, CanMerge, CanMergeInsts}
use Rattle.exp_tree.proofs.Merged.{one_instance, formed-merged, built-merged}

-- trees that are equal to others can be merged as they
can_as : (x y d e : Tree) → x ≡ d → y ≡ e → CanMerge x y → CanMerge d e
can_as x y d e p q h = subst (λ (v : Tree). CanMerge d v) q (subst (λ (u : Tree). CanMerge u y) p h)

pub can_strong : (x y : Tree) (f g : Formula) (v w : Var) (d e : Tree) → x ≡ strong f v d → y ≡ strong g w e → CanMerge x y → IsProper x → IsProper y → CanMerge d e
can_strong x y f g v w d e p q k px py =
    let h = can_as x y (strong f v d) (strong g w e) p q k in
    let one = and_parts (is_instance f (free v) (shallow d)) (is_built d) (sym (ap is_built p) ∙ px.built) in
    let two = and_parts (is_instance g (free w) (shallow e)) (is_built e) (sym (ap is_built q) ∙ py.built) in
    record {
      formulas = one_instance f (free v) (free w) (shallow d) (shallow e) (ap free h.variables.0) one.0 (subst (λ (u : Formula). is_instance u (free w) (shallow e) ≡ true) (sym h.formulas) two.0);
      side = h.side;
      first = (and_parts (is_strong_on h.side f) (stands h.side d) h.first).1;
      second = (and_parts (is_strong_on h.side g) (stands h.side e) h.second).1;
      variables = h.variables.1;
    }

-- instances of one term

instance_at : (f : Formula) (xs : List Inst) (i : ℕ) (d : Inst) → i < length xs → are_built f (insts_of xs) ≡ true → is_instance f (get_or xs i d).term (shallow (get_or xs i d).child) ≡ true
instance_at f [] i d h k = absurd (omega arith)
instance_at f (x ∷ xs) zero d h k =
    (and_parts (is_instance f x.term (shallow x.child)) (is_built x.child) (and_parts (is_instance f x.term (shallow x.child) && is_built x.child) (is_below x.term (insts_of xs) && are_built f (insts_of xs)) k).0).0
instance_at f (x ∷ xs) (suc i) d h k =
    instance_at f xs i d (omega arith) (and_parts (is_below x.term (insts_of xs)) (are_built f (insts_of xs)) (and_parts (is_instance f x.term (shallow x.child) && is_built x.child) (is_below x.term (insts_of xs) && are_built f (insts_of xs)) k).1).1

stands_at : (s : Side) (xs : List Inst) (i : ℕ) (d : Inst) → i < length xs → stand_in s (insts_of xs) ≡ true → stands s (get_or xs i d).child ≡ true
stands_at s [] i d h k = absurd (omega arith)
stands_at s (x ∷ xs) zero d h k = (and_parts (stands s x.child) (stand_in s (insts_of xs)) k).0
stands_at s (x ∷ xs) (suc i) d h k = stands_at s xs i d (omega arith) (and_parts (stands s x.child) (stand_in s (insts_of xs)) k).1

at_term : (t : Term) (P : Tree → Type 0) (ys : List Inst) (j : ℕ) (d : Inst) → j < length ys → AtTerm t P (insts_of ys) → t ≡ (get_or ys j d).term → P (get_or ys j d).child
at_term t P [] j d h k e = absurd (omega arith)
at_term t P (y ∷ ys) zero d h k e = k.0 e
at_term t P (y ∷ ys) (suc j) d h k e = at_term t P ys j d (omega arith) k.1 e

agree_at : (xs : List Inst) (i : ℕ) (d : Inst) (js : Insts) → i < length xs → AgreeIn (insts_of xs) js → AtTerm (get_or xs i d).term (Agree (get_or xs i d).child) js
agree_at [] i d js h k = absurd (omega arith)
agree_at (x ∷ xs) zero d js h k = k.0
agree_at (x ∷ xs) (suc i) d js h k = agree_at xs i d js (omega arith) k.1

can_there : (xs ys : List Inst) (i j : ℕ) (d e : Inst) → i < length xs → j < length ys → CanMergeInsts (insts_of xs) (insts_of ys) → (get_or xs i d).term ≡ (get_or ys j e).term
    → CanMerge (get_or xs i d).child (get_or ys j e).child
can_there xs ys i j d e here there h same = record {
  formulas = one_instance h.formula (get_or xs i d).term (get_or ys j e).term (shallow (get_or xs i d).child) (shallow (get_or ys j e).child) same (instance_at h.formula xs i d here h.first_built) (instance_at h.formula ys j e there h.second_built);
  side = h.side;
  first = stands_at h.side xs i d here h.first;
  second = stands_at h.side ys j e there h.second;
  variables = at_term (get_or xs i d).term (Agree (get_or xs i d).child) ys j e there (agree_at xs i d (insts_of ys) here h.variables) same;
}

pub can_at : (xs ys : List Inst) (i j : ℕ) (x y : Inst) → i < length xs → j < length ys → x ≡ get_or xs i x → y ≡ get_or ys j y → CanMergeInsts (insts_of xs) (insts_of ys) → x.term ≡ y.term
    → CanMerge x.child y.child
can_at xs ys i j x y here there p q h same =
    let found = can_there xs ys i j x y here there h (ap (λ (u : Inst). u.term) (sym p) ∙ same ∙ ap (λ (u : Inst). u.term) q) in
    subst (λ (v : Tree). CanMerge x.child v) (ap (λ (u : Inst). u.child) (sym q)) (subst (λ (v : Tree). CanMerge v (get_or ys j y).child) (ap (λ (u : Inst). u.child) (sym p)) found)

-- what is built of merged parts is the merged tree, which is rightly built

pub weak_proper : (x y : Tree) (f g h : Formula) (is js ks : Insts) → x ≡ weak f is → y ≡ weak g js → CanMerge x y → IsProper x → IsProper y → h ≡ f → ks ≡ merged_in is js → IsProper (weak h ks)
weak_proper x y f g h is js ks p q can px py formula insts =
    let whole : weak h ks ≡ merged x y = (λ i. weak (formula i) (insts i)) ∙ sym (λ i. merged (p i) (q i)) in
    record { built = ap is_built whole ∙ built-merged x y can.variables can.formulas px.built py.built; formed = ap is_formed_exp whole ∙ formed-merged x y px.formed py.formed }

pub strong_instance : (x y : Tree) (f g h : Formula) (v w u : Var) (d e m : Tree) → x ≡ strong f v d → y ≡ strong g w e → CanMerge x y → IsProper x → IsProper y → h ≡ f → u ≡ v → m ≡ merged d e
    → is_instance h (free u) (shallow m) ≡ true
strong_instance x y f g h v w u d e m p q can px py formula variable child =
    let whole : strong h u m ≡ merged x y = (λ i. strong (formula i) (variable i) (child i)) ∙ sym (λ i. merged (p i) (q i)) in
    (and_parts (is_instance h (free u) (shallow m)) (is_built m) (ap is_built whole ∙ built-merged x y can.variables can.formulas px.built py.built)).0
