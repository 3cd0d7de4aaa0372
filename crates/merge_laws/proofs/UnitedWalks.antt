-- A walk over a proof adds the same marks to a state that is united with another.
use Rattle.std.proofs.Common.{◌≡◌, ℕ, suc, List, refl, ap, ◌∙◌}
use Rattle.std.specs.FinMap as fin
use Rattle.fol.specs.declared.symbols.Var.{Var}
use Rattle.fol.specs.Syntax.{Term, free, Formula, atom, top, bot, not, and, or, imp, all, ex}
use Rattle.substitution.specs.Image.{image_term}
use Rattle.substitution.specs.Maps.{Map}
use Rattle.lk_rules.specs.declared.sequent.Side.TheVariants.{Left, Right}
use Rattle.lk_rules.specs.declared.rule.Rule.{Rule}
use Rattle.lk_rules.specs.declared.rule.Rule.TheVariants.{Ax, AllL, AllR, ExL, ExR, DefL, DefR, Cut, Weak}
use Rattle.proof_trees.specs.Trees.{Tree, node, Trees, none, more}
use Rattle.extraction_laws.specs.Addresses.{Address, part, via, formula_at}
use Rattle.extraction_laws.specs.States.{State, opened, instantiated, named, variable_at}
use Rattle.extraction_laws.specs.Extraction.{paired_by, Context, main_address, met, inner_context, inner_map, walked, walked_each}
use Rattle.merge_laws.specs.United.{united}
use Rattle.merge_laws.proofs.Unions.{opened-united, both-united, instantiated-united}

module _ (vs : List Var) (y : State) where
  -- two parts, one after the other
  parts-united : (f g : Formula) (a b c d l r : Address) (x : State)
      → ((z : State) → paired_by vs f a b (united z y) ≡ united (paired_by vs f a b z) y) → ((z : State) → paired_by vs g c d (united z y) ≡ united (paired_by vs g c d z) y)
      → paired_by vs g c d (paired_by vs f a b (opened r (opened l (united x y)))) ≡ united (paired_by vs g c d (paired_by vs f a b (opened r (opened l x)))) y
  parts-united f g a b c d l r x first second =
      ap (λ z. paired_by vs g c d (paired_by vs f a b z)) (both-united l r x y)
      ∙ (ap (paired_by vs g c d) (first (opened r (opened l x)))
      ∙ second (paired_by vs f a b (opened r (opened l x))))

  -- a quantifier's marks: the strong address s has its variable, and the weak one w the instance
  by_variable-united : (s w l r : Address) (t : Term) (x : State) → instantiated w t (named s (opened r (opened l (united x y)))) ≡ united (instantiated w t (named s (opened r (opened l x)))) y
  by_variable-united s w l r t x = ap (λ z. instantiated w t (named s z)) (both-united l r x y) ∙ instantiated-united w t (named s (opened r (opened l x))) y

  paired-united : (f : Formula) (l r : Address) (x : State) → paired_by vs f l r (united x y) ≡ united (paired_by vs f l r x) y
  paired-united (atom s ts) l r x = both-united l r x y
  paired-united top l r x = both-united l r x y
  paired-united bot l r x = both-united l r x y
  paired-united (not f) l r x = ap (paired_by vs f (part r 0) (part l 0)) (both-united l r x y) ∙ paired-united f (part r 0) (part l 0) (opened r (opened l x))
  paired-united (and f g) l r x = parts-united f g (part l 0) (part r 0) (part l 1) (part r 1) l r x (paired-united f (part l 0) (part r 0)) (paired-united g (part l 1) (part r 1))
  paired-united (or f g) l r x = parts-united f g (part l 0) (part r 0) (part l 1) (part r 1) l r x (paired-united f (part l 0) (part r 0)) (paired-united g (part l 1) (part r 1))
  paired-united (imp f g) l r x = parts-united f g (part r 0) (part l 0) (part l 1) (part r 1) l r x (paired-united f (part r 0) (part l 0)) (paired-united g (part l 1) (part r 1))
  paired-united (all f) l r x =
      let t : Term = free (variable_at vs x r) in
      ap (paired_by vs f (via l t) (via r t)) (by_variable-united r l l r t x) ∙ paired-united f (via l t) (via r t) (instantiated l t (named r (opened r (opened l x))))
  paired-united (ex f) l r x =
      let t : Term = free (variable_at vs x l) in
      ap (paired_by vs f (via l t) (via r t)) (by_variable-united l r l r t x) ∙ paired-united f (via l t) (via r t) (instantiated r t (named l (opened r (opened l x))))

  instance-united : (a : Address) (t : Term) (x : State) → instantiated a t (opened a (united x y)) ≡ united (instantiated a t (opened a x)) y
  instance-united a t x = ap (instantiated a t) (opened-united a x y) ∙ instantiated-united a t (opened a x) y

  met-united : (r : Rule) (m : Map) (c : Context) (x : State) → met vs r m c (united x y) ≡ united (met vs r m c x) y
  met-united (Ax f) m c x = paired-united (formula_at (c Left f)) (c Left f) (c Right f) x
  met-united (AllL f t) m c x = instance-united (c Left f) (image_term (fin.get m) t) x
  met-united (AllR f v) m c x = ap (named (c Right f)) (opened-united (c Right f) x y)
  met-united (ExL f v) m c x = ap (named (c Left f)) (opened-united (c Left f) x y)
  met-united (ExR f t) m c x = instance-united (c Right f) (image_term (fin.get m) t) x
  met-united (DefL f) m c x = refl
  met-united (DefR f) m c x = refl
  met-united (Cut f) m c x = refl
  met-united Weak m c x = refl
  met-united r m c x = opened-united (main_address r c) x y

  mutual
    pub walked-united : (t : Tree) (m : Map) (c : Context) (x : State) → walked vs t m c (united x y) ≡ united (walked vs t m c x) y
    walked-united (node r s ts) m c x =
        (λ i.
        let v : Var = variable_at vs (met-united r m c x i) (main_address r c) in
        walked_each vs ts (inner_map r m v) (inner_context r s m c v) 0 (met-united r m c x i))
        ∙ (let v : Var = variable_at vs (met vs r m c x) (main_address r c) in each-united ts (inner_map r m v) (inner_context r s m c v) 0 (met vs r m c x))

    each-united : (ts : Trees) (m : Map) (cs : ℕ → Context) (i : ℕ) (x : State) → walked_each vs ts m cs i (united x y) ≡ united (walked_each vs ts m cs i x) y
    each-united none m cs i x = refl
    each-united (more t ts) m cs i x = ap (walked_each vs ts m cs (suc i)) (walked-united t m (cs i) x) ∙ each-united ts m cs (suc i) (walked vs t m (cs i) x)
