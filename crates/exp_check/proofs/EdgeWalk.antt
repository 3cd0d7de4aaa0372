-- The walk that collects edges.
use Rattle.std.proofs.Common.{◌≡◌, ℕ, ◌+◌, ◌<◌, Bool, false, ◌||◌, List, [], ◌∷◌, ◌++◌, ◌≤◌, take, drop, length, get_or, sym, ap, ◌∙◌, arith}
use Rattle.std.specs.List.{list_any}
use Rattle.std.specs.Ordering.{eq_by_cmp}
use Rattle.std.proofs.lemmas.List.{take_more, at_drop_more}
use Rattle.std.proofs.lemmas.List.Folds.{list_any-append}
use Rattle.std.proofs.Math.Bool.{or_assoc, or-false}
use Rattle.finite.specs.Finite as set
use Rattle.finite.proofs.Finite.{has-adds_each, has-listing}
use Rattle.fol.specs.declared.symbols.Var.{Var}
use Rattle.fol.specs.Order.{var_cmp}
use Rattle.fol.specs.OrderLaws.{var_total}
use Rattle.free_variables.specs.Sets.{VarSet}
use Rattle.free_variables.specs.Union.{union_of}
use Rattle.free_variables.specs.Occurrence.{is_free_in_term}
use Rattle.expansion_laws.specs.Expansions.{Exp}
use Rattle.expansion_laws.specs.Dependency.{is_above, is_above_in}
use Rattle.exp_tree.specs.Sizes.{insts_nodes}
use Rattle.exp_tree.specs.Shown.{insts_of}
use Rattle.exp_tree.specs.declared.expansion.Inst.{Inst}

-- what is in a union
pub has_union : (s t : VarSet) (y : Var) → set.has (union_of s t) y ≡ (set.has s y || set.has t y)
has_union s t y = has-adds_each var_total s (set.listing t) y ∙ ap (λ b. set.has s y || b) (sym (has-listing t y))

-- one more instance
above_push : (y z : Var) (a : Bool) (is : List Inst) (i : Inst) → is_above_in y z a (insts_of (is ++ i ∷ [])) ≡ (is_above_in y z a (insts_of is) || is_above y z (a || is_free_in_term y i.term) i.child)
above_push y z a [] i = or-false (is_above y z (a || is_free_in_term y i.term) i.child)
above_push y z a (j ∷ is) i =
    ap (λ b. is_above y z (a || is_free_in_term y j.term) j.child || b) (above_push y z a is i)
    ∙ sym (or_assoc (is_above y z (a || is_free_in_term y j.term) j.child) (is_above_in y z a (insts_of is)) (is_above y z (a || is_free_in_term y i.term) i.child))

pub next_instance : (y z : Var) (a : Bool) (is : List Inst) (k : ℕ) (i : Inst) (old now more inner : Bool) → k < length is → i ≡ get_or is k i
    → now ≡ (old || is_above_in y z a (insts_of (take k is))) → inner ≡ (a || is_free_in_term y i.term) → more ≡ (now || is_above y z inner i.child)
    → more ≡ (old || is_above_in y z a (insts_of (take (k + 1) is)))
next_instance y z a is k i old now more inner within it so_far deeper new =
    new ∙ (λ j. so_far j || is_above y z (deeper j) i.child) ∙ or_assoc old (is_above_in y z a (insts_of (take k is))) (is_above y z (a || is_free_in_term y i.term) i.child)
    ∙ ap (λ b. old || b) (sym (above_push y z a (take k is) i) ∙ ap (λ js. is_above_in y z a (insts_of js)) (sym (take_more is k i within ∙ ap (λ j. take k is ++ j ∷ []) (sym it))))

pub next_tree : (y z : Var) (es : List Exp) (k : ℕ) (e : Exp) (old now more : Bool) (above : VarSet) → k < length es → e ≡ get_or es k e → set.has above y ≡ false
    → now ≡ (old || list_any (is_above y z false) (take k es)) → more ≡ (now || is_above y z (set.has above y) e)
    → more ≡ (old || list_any (is_above y z false) (take (k + 1) es))
next_tree y z es k e old now more above within it none so_far new =
    new ∙ (λ j. so_far j || is_above y z (none j) e) ∙ or_assoc old (list_any (is_above y z false) (take k es)) (is_above y z false e)
    ∙ ap (λ b. old || b) (
    ap (λ b. list_any (is_above y z false) (take k es) || b) (sym (or-false (is_above y z false e))) ∙ sym (list_any-append (is_above y z false) (take k es) (e ∷ []))
    ∙ ap (list_any (is_above y z false)) (sym (take_more es k e within ∙ ap (λ d. take k es ++ d ∷ []) (sym it))))

-- the instances after a place have no more nodes than those from it on
pub fewer_after : (is : List Inst) (k : ℕ) (i : Inst) (n : ℕ) → k < length is → insts_nodes (insts_of (drop k is)) ≤ n → insts_nodes (insts_of (drop (k + 1) is)) ≤ n
fewer_after is k i n within few =
    let cut = at_drop_more (λ (js : List Inst). insts_nodes (insts_of js)) is k i within in
    omega (arith, cut, few)

pub among_above : (vs : VarSet) (listed : List Var) (y : Var) → listed ≡ set.listing vs → list_any (eq_by_cmp var_cmp y) listed ≡ set.has vs y
among_above vs listed y same = ap (list_any (eq_by_cmp var_cmp y)) same ∙ sym (has-listing vs y)
