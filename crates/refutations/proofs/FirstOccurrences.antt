-- How a list without repeats grows.
use Rattle.std.proofs.Common.{◌≡◌, Bool, true, false, not, ◌&&◌, cond, List, [], ◌∷◌, ◌++◌, filter, append_assoc, refl, sym, ◌∙◌, ap, subst}
use Rattle.std.specs.Ordering.{eq_by_cmp}
use Rattle.fol.specs.declared.symbols.Var.{Var}
use Rattle.fol.specs.Syntax.{Term, Terms, Formula}
use Rattle.fol.specs.Order.{var_cmp}
use Rattle.fol.specs.Facts.{is_term_open, are_terms_open, is_open}
use Rattle.free_variables.specs.Occurrence.{var_list_term, var_list_terms, var_list}
use Rattle.free_variables.proofs.ShutLaws.{shut_list, shut_list_term, shut_list_terms}
use Rattle.std.proofs.lemmas.List.{append-nil}
use Rattle.substitution.proofs.ImageLaws.{same_var}
use Rattle.refutations.specs.Clauses.{first_occurrences}
use Rattle.refutations.specs.FirstOccurrences.{unseen, GoesOn}

filter_alike : (p q : Var → Bool) (vs : List Var) → ((v : Var) → p v ≡ q v) → filter p vs ≡ filter q vs
filter_alike p q vs same = λ i. filter (λ v. same v i) vs

filter_twice : (p q : Var → Bool) (vs : List Var) → filter p (filter q vs) ≡ filter (λ v. q v && p v) vs
filter_twice p q [] = refl
filter_twice p q (v ∷ vs) =
    elim (q v) as (λ (b : Bool). filter p (cond b (v ∷ filter q vs) (filter q vs)) ≡ cond (b && p v) (v ∷ filter (λ w. q w && p w) vs) (filter (λ w. q w && p w) vs)) [
      | true ↦ ap (λ (ws : List Var). cond (p v) (v ∷ ws) ws) (filter_twice p q vs)
      | false ↦ filter_twice p q vs
    ]

filter_all : (vs : List Var) → filter (λ v. true) vs ≡ vs
filter_all [] = refl
filter_all (v ∷ vs) = ap (λ (ws : List Var). v ∷ ws) (filter_all vs)

neither : (a b c : Bool) → c ≡ cond a true b → (not a && not b) ≡ not c
neither true b c is = ap not (sym is)
neither false b c is = ap not (sym is)

-- nothing is seen at the start
pub unseen_none : (seen : Var → Bool) (vs : List Var) → ((v : Var) → seen v ≡ false) → unseen seen vs ≡ first_occurrences vs
unseen_none seen vs none = filter_alike (λ v. not (seen v)) (λ v. true) (first_occurrences vs) (λ v. ap not (none v)) ∙ filter_all (first_occurrences vs)

both_alike : (a b c : Bool) → (a ≡ true → b ≡ true) → c ≡ b → (not a && not b) ≡ not c
both_alike true b c f is = λ i. not (sym (is ∙ f refl) i)
both_alike false b c f is = λ i. not (sym is i)

-- a variable that is seen changes nothing
pub unseen_old : (seen : Var → Bool) (v : Var) (vs : List Var) → seen v ≡ true → unseen seen (v ∷ vs) ≡ unseen seen vs
unseen_old seen v vs is =
    ap (λ (b : Bool). cond (not b) (v ∷ filter (λ w. not (seen w)) (filter (λ w. not (eq_by_cmp var_cmp v w)) (first_occurrences vs))) (filter (λ w. not (seen w)) (filter (λ w. not (eq_by_cmp var_cmp v w)) (first_occurrences vs)))) is
    ∙ (filter_twice (λ w. not (seen w)) (λ w. not (eq_by_cmp var_cmp v w)) (first_occurrences vs)
    ∙ filter_alike (λ w. not (eq_by_cmp var_cmp v w) && not (seen w)) (λ w. not (seen w)) (first_occurrences vs) (λ w. both_alike (eq_by_cmp var_cmp v w) (seen w) (seen w) (λ same. subst (λ (u : Var). seen u ≡ true) (same_var v w same) is) refl))

-- one that isn't comes next and is seen from then on
pub unseen_new : (seen after : Var → Bool) (v : Var) (vs : List Var) → seen v ≡ false → ((w : Var) → after w ≡ cond (eq_by_cmp var_cmp v w) true (seen w)) → unseen seen (v ∷ vs) ≡ v ∷ unseen after vs
unseen_new seen after v vs is made =
    ap (λ (b : Bool). cond (not b) (v ∷ filter (λ w. not (seen w)) (filter (λ w. not (eq_by_cmp var_cmp v w)) (first_occurrences vs))) (filter (λ w. not (seen w)) (filter (λ w. not (eq_by_cmp var_cmp v w)) (first_occurrences vs)))) is
    ∙ ap (λ (ws : List Var). v ∷ ws) (filter_twice (λ w. not (seen w)) (λ w. not (eq_by_cmp var_cmp v w)) (first_occurrences vs)
    ∙ filter_alike (λ w. not (eq_by_cmp var_cmp v w) && not (seen w)) (λ w. not (after w)) (first_occurrences vs) (λ w. neither (eq_by_cmp var_cmp v w) (seen w) (after w) (made w)))

goes_on_new : (firsts more : List Var) (seen after : Var → Bool) (v : Var) → more ≡ firsts ++ v ∷ [] → seen v ≡ false → ((w : Var) → after w ≡ cond (eq_by_cmp var_cmp v w) true (seen w)) → (vs : List Var) → more ++ unseen after vs ≡ firsts ++ unseen seen (v ∷ vs)
goes_on_new firsts more seen after v grown is made vs =
    ap (λ (ws : List Var). ws ++ unseen after vs) grown ∙ (append_assoc firsts (v ∷ []) (unseen after vs) ∙ ap (λ (ws : List Var). firsts ++ ws) (sym (unseen_new seen after v vs is made)))

-- one variable: it has been seen, or copies k and u of it go into the set and the list
pub old_on : (firsts : List Var) (seen : Var → Bool) (v : Var) (b : Bool) → b ≡ seen v → b ≡ true → GoesOn firsts seen firsts seen (v ∷ [])
old_on firsts seen v b was is = record { same = λ ws. ap (λ (us : List Var). firsts ++ us) (sym (unseen_old seen v ws (sym was ∙ is))) }

pub new_on : (firsts more : List Var) (seen after : Var → Bool) (v k u : Var) (b : Bool) → b ≡ seen v → b ≡ false → k ≡ v → u ≡ v → more ≡ firsts ++ u ∷ [] → ((w : Var) → after w ≡ cond (eq_by_cmp var_cmp k w) true (seen w)) → GoesOn firsts seen more after (v ∷ [])
new_on firsts more seen after v k u b was is one two grown made = record {
  same = goes_on_new firsts more seen after v (grown ∙ ap (λ (w : Var). firsts ++ w ∷ []) two) (sym was ∙ is) (λ w. made w ∙ ap (λ (x : Var). cond (eq_by_cmp var_cmp x w) true (seen w)) one);
}

-- no variables, and one list of them behind another
pub none_on : (firsts : List Var) (seen : Var → Bool) → GoesOn firsts seen firsts seen []
none_on firsts seen = record { same = λ ws. refl }

pub both_on : (firsts some more : List Var) (seen then after : Var → Bool) (vs us : List Var) → GoesOn firsts seen some then vs → GoesOn some then more after us → GoesOn firsts seen more after (vs ++ us)
both_on firsts some more seen then after vs us one two = record {
  same = λ ws. two.same ws ∙ (one.same (us ++ ws) ∙ ap (λ (all : List Var). firsts ++ unseen seen all) (sym (append_assoc vs us ws)));
}

-- what has no free variable
no_more : (firsts : List Var) (seen : Var → Bool) (vs : List Var) → vs ≡ [] → GoesOn firsts seen firsts seen vs
no_more firsts seen vs none = record { same = λ ws. ap (λ (us : List Var). firsts ++ unseen seen (us ++ ws)) (sym none) }

pub shut_on : (firsts : List Var) (seen : Var → Bool) (f : Formula) (b : Bool) → b ≡ is_open f → b ≡ false → GoesOn firsts seen firsts seen (var_list f)
shut_on firsts seen f b is shut = no_more firsts seen (var_list f) (shut_list [] f b is shut)

pub shut_on_term : (firsts : List Var) (seen : Var → Bool) (t : Term) (b : Bool) → b ≡ is_term_open t → b ≡ false → GoesOn firsts seen firsts seen (var_list_term t)
shut_on_term firsts seen t b is shut = no_more firsts seen (var_list_term t) (shut_list_term [] t b is shut)

pub shut_on_terms : (firsts : List Var) (seen : Var → Bool) (ts : Terms) (b : Bool) → b ≡ are_terms_open ts → b ≡ false → GoesOn firsts seen firsts seen (var_list_terms ts)
shut_on_terms firsts seen ts b is shut = no_more firsts seen (var_list_terms ts) (shut_list_terms [] ts b is shut)

-- all first occurrences, from nothing
pub all_on : (more : List Var) (seen after : Var → Bool) (vs : List Var) → GoesOn [] seen more after vs → ((v : Var) → seen v ≡ false) → more ≡ first_occurrences vs
all_on more seen after vs goes none =
    sym (append-nil more) ∙ (goes.same [] ∙ (ap (λ (us : List Var). unseen seen us) (append-nil vs) ∙ unseen_none seen vs none))
