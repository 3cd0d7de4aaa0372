-- A walk gives the same marks where the addresses that get variables have got them before.
use Rattle.std.proofs.Common.{◌≡◌, ℕ, suc, List, refl, sym, ap, ◌∙◌}
use Rattle.fol.specs.declared.symbols.Var.{Var}
use Rattle.fol.specs.Syntax.{Term, free, Formula, atom, top, bot, not, and, or, imp, all, ex}
use Rattle.substitution.specs.Maps.{Map}
use Rattle.lk_rules.specs.declared.sequent.Sequent.{Sequent}
use Rattle.lk_rules.specs.declared.sequent.Side.TheVariants.{Left, Right}
use Rattle.lk_rules.specs.declared.rule.Rule.{Rule}
use Rattle.lk_rules.specs.declared.rule.Rule.TheVariants.{Ax, AllL, AllR, ExL, ExR, DefL, DefR, Cut, Weak}
use Rattle.proof_trees.specs.Trees.{Tree, node, Trees, none, more}
use Rattle.extraction_laws.specs.Addresses.{Address, part, via, formula_at}
use Rattle.extraction_laws.specs.States.{State, opened, instantiated, named, nth_outside, variable_at, Includes}
use Rattle.extraction_laws.specs.Extraction.{paired_by, Context, met, inner_context, inner_map, inner_variable, walked, walked_each}
use Rattle.extraction_laws.proofs.Growing.{includes-both, grown_pair, includes-walked_each}
use Rattle.extraction_laws.proofs.Marks.{is_there, already_there, own_place, includes-instantiated, itself, next}
use Rattle.merge_laws.specs.Inferences.{with_names}

module _ (vs : List Var) (z : State) where
  -- the state, with the variables of z
  abbrev given : State → State
  given x = with_names z.names x

  named-given : (a : Address) (x : State) → Includes (named a x) z → named a (given x) ≡ given (named a x)
  named-given a x h = ap (λ xs. with_names xs x) (already_there a z.names (h.names a (is_there a x.names)))

  -- an address that gets its variable has that of z
  variable-given : (a : Address) (x : State) → Includes (named a x) z → variable_at vs (given x) a ≡ variable_at vs x a
  variable-given a x h = ap (nth_outside vs) (h.places a (is_there a x.names) ∙ own_place a x.names)

  includes-pair : (f : Formula) (l r : Address) (x : State) → Includes x (paired_by vs f l r x)
  includes-pair f l r x = next (includes-both l r x) (grown_pair vs f l r x)

  -- two parts, one after the other
  parts-given : (f g : Formula) (a b c d : Address) (x : State) → Includes (paired_by vs g c d (paired_by vs f a b x)) z
      → ((w : State) → Includes (paired_by vs f a b w) z → paired_by vs f a b (given w) ≡ given (paired_by vs f a b w))
      → ((w : State) → Includes (paired_by vs g c d w) z → paired_by vs g c d (given w) ≡ given (paired_by vs g c d w))
      → paired_by vs g c d (paired_by vs f a b (given x)) ≡ given (paired_by vs g c d (paired_by vs f a b x))
  parts-given f g a b c d x h first second =
      let one : State = paired_by vs f a b x in
      ap (paired_by vs g c d) (first x (next (includes-pair g c d one) h)) ∙ second one h

  -- a quantifier: the strong address s gets its variable, and the weak one w the instance by that
  by_variable-given : (f : Formula) (s w l r : Address) (x : State)
      → let t : Term = free (variable_at vs x s) in Includes (paired_by vs f (via l t) (via r t) (instantiated w t (named s x))) z
      → ((y : State) → Includes (paired_by vs f (via l t) (via r t) y) z → paired_by vs f (via l t) (via r t) (given y) ≡ given (paired_by vs f (via l t) (via r t) y))
      → let u : Term = free (variable_at vs (given x) s) in paired_by vs f (via l u) (via r u) (instantiated w u (named s (given x))) ≡ given (paired_by vs f (via l t) (via r t) (instantiated w t (named s x)))
  by_variable-given f s w l r x h on =
      let t : Term = free (variable_at vs x s) in
      let y : State = instantiated w t (named s x) in
      let name : Includes (named s x) z = next (includes-instantiated w t (named s x)) (next (includes-pair f (via l t) (via r t) y) h) in
      ap (λ v. paired_by vs f (via l (free v)) (via r (free v)) (instantiated w (free v) (named s (given x)))) (variable-given s x name)
      ∙ (ap (λ n. paired_by vs f (via l t) (via r t) (instantiated w t n)) (named-given s x name)
      ∙ on y h)

  paired-given : (f : Formula) (l r : Address) (x : State) → Includes (paired_by vs f l r x) z → paired_by vs f l r (given x) ≡ given (paired_by vs f l r x)
  paired-given (atom s ts) l r x h = refl
  paired-given top l r x h = refl
  paired-given bot l r x h = refl
  paired-given (not f) l r x h = paired-given f (part r 0) (part l 0) (opened r (opened l x)) h
  paired-given (and f g) l r x h = parts-given f g (part l 0) (part r 0) (part l 1) (part r 1) (opened r (opened l x)) h (paired-given f (part l 0) (part r 0)) (paired-given g (part l 1) (part r 1))
  paired-given (or f g) l r x h = parts-given f g (part l 0) (part r 0) (part l 1) (part r 1) (opened r (opened l x)) h (paired-given f (part l 0) (part r 0)) (paired-given g (part l 1) (part r 1))
  paired-given (imp f g) l r x h = parts-given f g (part r 0) (part l 0) (part l 1) (part r 1) (opened r (opened l x)) h (paired-given f (part r 0) (part l 0)) (paired-given g (part l 1) (part r 1))
  paired-given (all f) l r x h = by_variable-given f r l l r (opened r (opened l x)) h (paired-given f _ _)
  paired-given (ex f) l r x h = by_variable-given f l r l r (opened r (opened l x)) h (paired-given f _ _)

  met-given : (r : Rule) (m : Map) (c : Context) (x : State) → Includes (met vs r m c x) z → met vs r m c (given x) ≡ given (met vs r m c x)
  met-given (Ax f) m c x h = paired-given (formula_at (c Left f)) (c Left f) (c Right f) x h
  met-given (AllL f t) m c x h = refl
  met-given (AllR f v) m c x h = named-given (c Right f) (opened (c Right f) x) h
  met-given (ExL f v) m c x h = named-given (c Left f) (opened (c Left f) x) h
  met-given (ExR f t) m c x h = refl
  met-given (DefL f) m c x h = refl
  met-given (DefR f) m c x h = refl
  met-given (Cut f) m c x h = refl
  met-given Weak m c x h = refl
  met-given r m c x h = refl

  -- a named address has its variable after the rule
  kept : (a : Address) (x : State) → Includes (named a x) z → variable_at vs (named a (given x)) a ≡ variable_at vs (named a x) a
  kept a x h = ap (λ y. variable_at vs y a) (named-given a x h) ∙ ap (nth_outside vs) (h.places a (is_there a x.names))

  -- so the premises get the same map and the same addresses

  same_map : (r : Rule) (m : Map) (c : Context) (x : State) → Includes (met vs r m c x) z → inner_map r m (inner_variable vs r m c (given x)) ≡ inner_map r m (inner_variable vs r m c x)
  same_map (AllR f v) m c x h = ap (inner_map (AllR f v) m) (kept (c Right f) (opened (c Right f) x) h)
  same_map (ExL f v) m c x h = ap (inner_map (ExL f v) m) (kept (c Left f) (opened (c Left f) x) h)
  same_map r m c x h = refl

  same_context : (r : Rule) (s : Sequent) (m : Map) (c : Context) (x : State) → Includes (met vs r m c x) z → inner_context r s m c (inner_variable vs r m c (given x)) ≡ inner_context r s m c (inner_variable vs r m c x)
  same_context (AllR f v) s m c x h = ap (inner_context (AllR f v) s m c) (kept (c Right f) (opened (c Right f) x) h)
  same_context (ExL f v) s m c x h = ap (inner_context (ExL f v) s m c) (kept (c Left f) (opened (c Left f) x) h)
  same_context r s m c x h = refl

  mutual
    walked-given : (t : Tree) (m : Map) (c : Context) (x : State) → Includes (walked vs t m c x) z → walked vs t m c (given x) ≡ given (walked vs t m c x)
    walked-given (node r s ts) m c x h =
        let y : State = met vs r m c x in
        let n : Map = inner_map r m (inner_variable vs r m c x) in
        let cs : ℕ → Context = inner_context r s m c (inner_variable vs r m c x) in
        let marks : Includes y z = next (includes-walked_each vs ts n cs 0 y) h in
        (λ i. walked_each vs ts (same_map r m c x marks i) (same_context r s m c x marks i) 0 (met-given r m c x marks i))
        ∙ each-given ts n cs 0 y h

    each-given : (ts : Trees) (m : Map) (cs : ℕ → Context) (i : ℕ) (x : State) → Includes (walked_each vs ts m cs i x) z → walked_each vs ts m cs i (given x) ≡ given (walked_each vs ts m cs i x)
    each-given none m cs i x h = refl
    each-given (more t ts) m cs i x h =
        let y : State = walked vs t m (cs i) x in
        ap (walked_each vs ts m cs (suc i)) (walked-given t m (cs i) x (next (includes-walked_each vs ts m cs (suc i) y) h))
        ∙ each-given ts m cs (suc i) y h

  -- where the variables of z are those of the state, the walk gives none

  pub no_new_by_rule : (r : Rule) (m : Map) (c : Context) (x : State) → Includes (met vs r m c x) z → z.names ≡ x.names → (met vs r m c x).names ≡ z.names
  no_new_by_rule r m c x h e =
      let same : given x ≡ x = λ i. with_names (e i) x in
      let states : met vs r m c x ≡ given (met vs r m c x) = sym (ap (met vs r m c) same) ∙ met-given r m c x h in
      ap (λ (w : State). w.names) states

  pub no_new_by_walk : (t : Tree) (m : Map) (c : Context) (x : State) → Includes (walked vs t m c x) z → z.names ≡ x.names → (walked vs t m c x).names ≡ z.names
  no_new_by_walk t m c x h e =
      let same : given x ≡ x = λ i. with_names (e i) x in
      let states : walked vs t m c x ≡ given (walked vs t m c x) = sym (ap (walked vs t m c) same) ∙ walked-given t m c x h in
      ap (λ (w : State). w.names) states

-- the variables that a walk gives may have been given before
pub walked_with_names : (vs : List Var) (t : Tree) (m : Map) (c : Context) (x : State) → walked vs t m c (with_names (walked vs t m c x).names x) ≡ walked vs t m c x
walked_with_names vs t m c x = let z : State = walked vs t m c x in walked-given vs z t m c x (itself z)
