-- The proof that a refutation stands for: its end sequent, and why it is valid.
use Rattle.std.proofs.Common.{◌≡◌, ℕ, Bool, true, false, List, [], ◌∷◌, refl, sym, ap, subst, ◌∙◌, arith}
use Rattle.std.specs.Prelude.{Some, slice_get, Ok}
use Rattle.std.specs.FinMap as fin
use Rattle.std.specs.List.{All, list_any}
use Rattle.std.specs.Ordering.{eq_by_cmp}
use Rattle.std.proofs.lemmas.List.Elements.{All-cons}
use Rattle.fol.specs.declared.symbols.Var.{Var}
use Rattle.fol.specs.Syntax.{Formula}
use Rattle.fol.specs.Order.{var_cmp, formula_cmp}
use Rattle.fol.specs.Formed.{IsFormedVar, IsFormed}
use Rattle.finite.specs.Finite as set
use Rattle.free_variables.specs.Union.{union_of}
use Rattle.free_variables.specs.Occurrence.{var_list}
use Rattle.free_variables.proofs.OccurrenceLaws.{is_free-var_list}
use Rattle.free_variables.proofs.FormedMembers.{formed_var_of}
use Rattle.substitution.specs.Maps.{Map}
use Rattle.substitution.proofs.ImageLaws.{itself}
use Rattle.lk_rules.specs.declared.sequent.Sequent.{Sequent}
use Rattle.lk_rules.specs.declared.rule.Rule.TheVariants.{Cut}
use Rattle.lk_rules.specs.Formulas.{FormulaSet}
use Rattle.lk_rules.specs.Sequents.{union_sequent, image_sequent}
use Rattle.lk_rules.specs.Rules.{IsWithin}
use Rattle.proof_trees.specs.Trees.{Tree, concl, IsValid}
use Rattle.proof_trees.proofs.Booleans.{or_first, or_second}
use Rattle.proof_trees.proofs.Substituted.{concl-sub, sub_valid}
use Rattle.refutations.specs.declared.clause.Clause.{Clause}
use Rattle.refutations.specs.declared.step.ResStep.{ResStep}
use Rattle.refutations.specs.Clauses.{literals_of, IsClauseOf, closure_of, closures}
use Rattle.refutations.specs.DerivedSteps.{image_of, resolved}
use Rattle.refutations.specs.Refutations.{Derived, of_input, resolvent, refutation, AreFormedSteps}
use Rattle.proof_trees.specs.FormulaSets.{without}
use Rattle.proof_trees.proofs.FormulaSets.{equal, in_first, in_second, in_either, added, stays, union-empty_sequent, image-union_sequent, without_member}
use Rattle.refutations.proofs.Closures.{among_first, closure_stands, image-closures}
use Rattle.refutations.proofs.Inferences.{cut}
use Rattle.refutations.proofs.InputTrees.{concl-over_instances, instances_valid}
use Rattle.refutations.proofs.Derivations.{found_in, IsLast, last_of_steps}

-- the tree has the closures and the clause as its end sequent
abbrev pub HasEnd : List Clause → Derived → Type 0
HasEnd cs d = concl d.tree ≡ union_sequent (closures cs) d.clause

pub end-input : (cs : List Clause) (c : Clause) → HasEnd cs (of_input (closures cs) c)
end-input cs c = concl-over_instances (union_sequent (closures cs) (literals_of c.matrix)) c.vars (closure_of c)

pub end-image : (cs : List Clause) → All IsClauseOf cs → (m : Map) (d : Derived) → HasEnd cs d → HasEnd cs (image_of m d)
end-image cs clauses m d h =
    concl-sub d.tree m ∙ ap (image_sequent (fin.get m)) h
    ∙ image-union_sequent (fin.get m) (closures cs) d.clause
    ∙ ap (λ s. union_sequent s (image_sequent (fin.get m) d.clause)) (image-closures (fin.get m) cs clauses)

end_of_last : (cs : List Clause) (t : Tree) (P : Derived → Type 0) → ((d : Derived) → P d → HasEnd cs d) → IsLast P t → concl t ≡ closures cs
end_of_last cs t P ends last =
    ap concl (sym last.tree) ∙ ends last.last last.holds ∙ ap (union_sequent (closures cs)) last.nothing ∙ union-empty_sequent (closures cs)

-- the proof of a refutation has the closures of all clauses on the left, and nothing on the right
pub end_of_refutation : (cs : List Clause) (steps : List ResStep) (t : Tree) → All IsClauseOf cs → AreFormedSteps steps → refutation cs steps ≡ Ok t → concl t ≡ closures cs
unfolding refutation
end_of_refutation cs steps t clauses formed is =
    end_of_last cs t (HasEnd cs) (λ d h. h)
    (last_of_steps cs (closures cs) (HasEnd cs) (λ i c at. end-input cs c) (λ m d map h. end-image cs clauses m d h) (λ a p n atom first second. refl) steps formed t is)

-- variables of a clause are well formed

each_formed : (vs : List Var) → ((v : Var) → list_any (eq_by_cmp var_cmp v) vs ≡ true → IsFormedVar v) → All IsFormedVar vs
each_formed [] h = λ k d l. absurd (omega arith)
each_formed (v ∷ vs) h =
    All-cons IsFormedVar v vs (h v (or_first (eq_by_cmp var_cmp v v) _ (itself v))) (each_formed vs (λ w e. h w (or_second (eq_by_cmp var_cmp w v) _ e)))

pub variables_formed : (c : Clause) → IsClauseOf c → All IsFormedVar c.vars
variables_formed c h =
    each_formed c.vars (λ v e. formed_var_of v c.matrix 0 h.formed (
    sym (is_free-var_list v c.matrix) ∙ sym (among_first v (var_list c.matrix)) ∙ ap (list_any (eq_by_cmp var_cmp v)) (sym h.vars) ∙ e))

-- the proof of an input clause is valid, where its closure is well formed
pub valid-input : (cs : List Clause) (i : ℕ) (c : Clause) → slice_get cs i ≡ Some c → IsClauseOf c → IsFormed (closure_of c) → IsValid (of_input (closures cs) c).tree
valid-input cs i c at h closed =
    instances_valid (union_sequent (closures cs) (literals_of c.matrix)) c.vars c.matrix h.shape h.formed (variables_formed c h) closed
    (in_first (closures cs).left (literals_of c.matrix).left (closure_of c) (closure_stands cs i c at))
    (record {
      left = in_second (closures cs).left (literals_of c.matrix).left;
      right = in_second (closures cs).right (literals_of c.matrix).right;
    })

-- both premises of a resolution fit its conclusion

kept_or_cut : (g s t : FormulaSet) (a q : Formula) (b : Bool) → eq_by_cmp formula_cmp a q ≡ b → set.has s q ≡ true → set.has (set.adds (union_of g (union_of (without s a) t)) a) q ≡ true
kept_or_cut g s t a q true e h =
    let all_of = union_of g (union_of (without s a) t) in
    ap (set.has (set.adds all_of a)) (sym (equal a q e)) ∙ added all_of a
kept_or_cut g s t a q false e h =
    stays (union_of g (union_of (without s a) t)) a q (in_second g (union_of (without s a) t) q (in_first (without s a) t q (without_member s a q h e)))

other_or_cut : (g s t : FormulaSet) (a q : Formula) (b : Bool) → eq_by_cmp formula_cmp a q ≡ b → set.has s q ≡ true → set.has (set.adds (union_of g (union_of t (without s a))) a) q ≡ true
other_or_cut g s t a q true e h =
    let all_of = union_of g (union_of t (without s a)) in
    ap (set.has (set.adds all_of a)) (sym (equal a q e)) ∙ added all_of a
other_or_cut g s t a q false e h =
    stays (union_of g (union_of t (without s a))) a q (in_second g (union_of t (without s a)) q (in_second t (without s a) q (without_member s a q h e)))

module _ (g p n : Sequent) (a : Formula) where
  pub positive_fits : IsWithin (Cut a) (union_sequent g (resolvent p n a)) 0 (union_sequent g p)
  positive_fits = record {
    left = λ q. in_either g.left p.left q
        (in_first g.left (resolvent p n a).left q)
        (λ h. in_second g.left (resolvent p n a).left q (in_first p.left (without n.left a) q h));
    right = λ q. in_either g.right p.right q
        (λ h. stays (union_sequent g (resolvent p n a)).right a q (in_first g.right (resolvent p n a).right q h))
        (kept_or_cut g.right p.right n.right a q (eq_by_cmp formula_cmp a q) refl);
  }

  pub negative_fits : IsWithin (Cut a) (union_sequent g (resolvent p n a)) 1 (union_sequent g n)
  negative_fits = record {
    left = λ q. in_either g.left n.left q
        (λ h. stays (union_sequent g (resolvent p n a)).left a q (in_first g.left (resolvent p n a).left q h))
        (other_or_cut g.left n.left p.left a q (eq_by_cmp formula_cmp a q) refl);
    right = λ q. in_either g.right n.right q
        (in_first g.right (resolvent p n a).right q)
        (λ h. in_second g.right (resolvent p n a).right q (in_second (without p.right a) n.right q h));
  }

abbrev IsSound : List Clause → Derived → Type 0
IsSound cs d = IsValid d.tree × HasEnd cs d

sound-resolution : (cs : List Clause) (a : Formula) (p n : Derived) → IsFormed a → IsSound cs p → IsSound cs n → IsSound cs (resolved (closures cs) p n a)
sound-resolution cs a p n formed first second = (
  (
    cut (union_sequent (closures cs) (resolvent p.clause n.clause a)) a p.tree n.tree (union_sequent (closures cs) p.clause) (union_sequent (closures cs) n.clause) formed first.1 second.1
        (positive_fits (closures cs) p.clause n.clause a) (negative_fits (closures cs) p.clause n.clause a),
    (first.0, (second.0, tt)),
  ),
  refl,
)

-- the proof of a refutation is valid, where the closures of the clauses are well formed
pub valid_refutation : (cs : List Clause) (steps : List ResStep) (t : Tree) → All IsClauseOf cs → All (λ c. IsFormed (closure_of c)) cs → AreFormedSteps steps → refutation cs steps ≡ Ok t → IsValid t
unfolding refutation
valid_refutation cs steps t clauses closed formed is =
    let last : IsLast (IsSound cs) t =
    last_of_steps cs (closures cs) (IsSound cs)
    (λ i c at. (valid-input cs i c at (found_in IsClauseOf cs i c clauses at) (found_in (λ d. IsFormed (closure_of d)) cs i c closed at), end-input cs c))
    (λ m d map h. (sub_valid d.tree m map h.0, end-image cs clauses m d h.1))
    (sound-resolution cs)
    steps formed t is in
    subst IsValid last.tree last.holds.0
