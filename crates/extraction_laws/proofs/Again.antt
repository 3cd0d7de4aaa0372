-- A proof that was gone through leaves no new marks when it is gone through again, with the same map and the same addresses.
use Rattle.std.proofs.Common.{◌≡◌, ℕ, suc, List, refl, ap, ◌∙◌}
use Rattle.std.specs.FinMap as fin
use Rattle.fol.specs.declared.symbols.Var.{Var}
use Rattle.fol.specs.Syntax.{Term, free, Formula, atom, top, bot, not, and, or, imp, all, ex}
use Rattle.substitution.specs.Image.{image_term}
use Rattle.substitution.specs.Maps.{Map}
use Rattle.lk_rules.specs.declared.sequent.Sequent.{Sequent}
use Rattle.lk_rules.specs.declared.sequent.Side.TheVariants.{Left, Right}
use Rattle.lk_rules.specs.declared.rule.Rule.{Rule}
use Rattle.lk_rules.specs.declared.rule.Rule.TheVariants.{Ax, AllL, AllR, ExL, ExR, DefL, DefR, Cut, Weak}
use Rattle.proof_trees.specs.Trees.{Tree, node, Trees, none, more}
use Rattle.extraction_laws.specs.Addresses.{Address, part, via, formula_at}
use Rattle.extraction_laws.specs.States.{State, opened, instantiated, named, nth_outside, variable_at, Includes}
use Rattle.extraction_laws.specs.Extraction.{paired_by, Context, main_address, met, inner_context, inner_map, inner_variable, walked, walked_each}
use Rattle.extraction_laws.proofs.Growing.{includes-both, grown_pair, includes-walked_each}
use Rattle.extraction_laws.proofs.Marks.{is_there, already_there, marked_already, own_place, includes-opened, includes-instantiated, includes-named, next, marked}

-- marks

opened_again : (a : Address) (x y : State) → Includes (opened a x) y → opened a y ≡ y
opened_again a x y h = ap (λ xs. record y { opened = xs }) (marked_already y.opened a (h.used a (marked x.opened a)))

instantiated_again : (a : Address) (t : Term) (x y : State) → Includes (instantiated a t x) y → instantiated a t y ≡ y
instantiated_again a t x y h = ap (λ xs. record y { instances = xs }) (marked_already y.instances (via a t) (h.instances (via a t) (marked x.instances (via a t))))

named_again : (a : Address) (x y : State) → Includes (named a x) y → named a y ≡ y
named_again a x y h = ap (λ xs. record y { names = xs }) (already_there a y.names (h.names a (is_there a x.names)))

both_again : (l r : Address) (x y : State) → Includes (opened r (opened l x)) y → opened r (opened l y) ≡ y
both_again l r x y h = ap (opened r) (opened_again l x y (next (includes-opened r (opened l x)) h)) ∙ opened_again r (opened l x) y h

module _ (vs : List Var) where
  -- the variable of an address stays
  same_variable : (a : Address) (x y : State) → Includes (named a x) y → variable_at vs y a ≡ variable_at vs x a
  same_variable a x y h = ap (nth_outside vs) (h.places a (is_there a x.names) ∙ own_place a x.names)

  -- a quantifier's marks
  by_variable_again : (s w l r : Address) (t : Term) (x y : State) → Includes (instantiated w t (named s (opened r (opened l x)))) y → instantiated w t (named s (opened r (opened l y))) ≡ y
  by_variable_again s w l r t x y h =
      let named_part : Includes (named s (opened r (opened l x))) y = next (includes-instantiated w t (named s (opened r (opened l x)))) h in
      let opened_part : Includes (opened r (opened l x)) y = next (includes-named s (opened r (opened l x))) named_part in
      ap (λ z. instantiated w t (named s z)) (both_again l r x y opened_part)
      ∙ (ap (instantiated w t) (named_again s (opened r (opened l x)) y named_part)
      ∙ instantiated_again w t (named s (opened r (opened l x))) y h)

  includes-pair : (f : Formula) (l r : Address) (x : State) → Includes x (paired_by vs f l r x)
  includes-pair f l r x = next (includes-both l r x) (grown_pair vs f l r x)

  -- two parts, one after the other
  parts_again : (f g : Formula) (a b c d l r : Address) (x y : State) → Includes (paired_by vs g c d (paired_by vs f a b (opened r (opened l x)))) y
      → ((z w : State) → Includes (paired_by vs f a b z) w → paired_by vs f a b w ≡ w) → ((z w : State) → Includes (paired_by vs g c d z) w → paired_by vs g c d w ≡ w)
      → paired_by vs g c d (paired_by vs f a b (opened r (opened l y))) ≡ y
  parts_again f g a b c d l r x y h first second =
      let both : State = opened r (opened l x) in
      let one : State = paired_by vs f a b both in
      let of_one : Includes one y = next (includes-pair g c d one) h in
      ap (λ z. paired_by vs g c d (paired_by vs f a b z)) (both_again l r x y (next (includes-pair f a b both) of_one))
      ∙ (ap (paired_by vs g c d) (first both y of_one) ∙ second one y h)

  paired_again : (f : Formula) (l r : Address) (x y : State) → Includes (paired_by vs f l r x) y → paired_by vs f l r y ≡ y
  paired_again (atom s ts) l r x y h = both_again l r x y h
  paired_again top l r x y h = both_again l r x y h
  paired_again bot l r x y h = both_again l r x y h
  paired_again (not f) l r x y h =
      let both : State = opened r (opened l x) in
      ap (paired_by vs f (part r 0) (part l 0)) (both_again l r x y (next (includes-pair f (part r 0) (part l 0) both) h))
      ∙ paired_again f (part r 0) (part l 0) both y h
  paired_again (and f g) l r x y h = parts_again f g (part l 0) (part r 0) (part l 1) (part r 1) l r x y h (paired_again f (part l 0) (part r 0)) (paired_again g (part l 1) (part r 1))
  paired_again (or f g) l r x y h = parts_again f g (part l 0) (part r 0) (part l 1) (part r 1) l r x y h (paired_again f (part l 0) (part r 0)) (paired_again g (part l 1) (part r 1))
  paired_again (imp f g) l r x y h = parts_again f g (part r 0) (part l 0) (part l 1) (part r 1) l r x y h (paired_again f (part r 0) (part l 0)) (paired_again g (part l 1) (part r 1))
  paired_again (all f) l r x y h =
      let t : Term = free (variable_at vs x r) in
      let z : State = instantiated l t (named r (opened r (opened l x))) in
      let marks : Includes z y = next (includes-pair f (via l t) (via r t) z) h in
      let same : free (variable_at vs y r) ≡ t = ap free (same_variable r (opened r (opened l x)) y (next (includes-instantiated l t (named r (opened r (opened l x)))) marks)) in
      ap (λ u. paired_by vs f (via l u) (via r u) (instantiated l u (named r (opened r (opened l y))))) same
      ∙ (ap (paired_by vs f (via l t) (via r t)) (by_variable_again r l l r t x y marks)
      ∙ paired_again f (via l t) (via r t) z y h)
  paired_again (ex f) l r x y h =
      let t : Term = free (variable_at vs x l) in
      let z : State = instantiated r t (named l (opened r (opened l x))) in
      let marks : Includes z y = next (includes-pair f (via l t) (via r t) z) h in
      let same : free (variable_at vs y l) ≡ t = ap free (same_variable l (opened r (opened l x)) y (next (includes-instantiated r t (named l (opened r (opened l x)))) marks)) in
      ap (λ u. paired_by vs f (via l u) (via r u) (instantiated r u (named l (opened r (opened l y))))) same
      ∙ (ap (paired_by vs f (via l t) (via r t)) (by_variable_again l r l r t x y marks)
      ∙ paired_again f (via l t) (via r t) z y h)

  instance_again : (a : Address) (t : Term) (x y : State) → Includes (instantiated a t (opened a x)) y → instantiated a t (opened a y) ≡ y
  instance_again a t x y h = ap (instantiated a t) (opened_again a x y (next (includes-instantiated a t (opened a x)) h)) ∙ instantiated_again a t (opened a x) y h

  name_again : (a : Address) (x y : State) → Includes (named a (opened a x)) y → named a (opened a y) ≡ y
  name_again a x y h = ap (named a) (opened_again a x y (next (includes-named a (opened a x)) h)) ∙ named_again a (opened a x) y h

  met_again : (r : Rule) (m : Map) (c : Context) (x y : State) → Includes (met vs r m c x) y → met vs r m c y ≡ y
  met_again (Ax f) m c x y h = paired_again (formula_at (c Left f)) (c Left f) (c Right f) x y h
  met_again (AllL f t) m c x y h = instance_again (c Left f) (image_term (fin.get m) t) x y h
  met_again (AllR f v) m c x y h = name_again (c Right f) x y h
  met_again (ExL f v) m c x y h = name_again (c Left f) x y h
  met_again (ExR f t) m c x y h = instance_again (c Right f) (image_term (fin.get m) t) x y h
  met_again (DefL f) m c x y h = refl
  met_again (DefR f) m c x y h = refl
  met_again (Cut f) m c x y h = refl
  met_again Weak m c x y h = refl
  met_again r m c x y h = opened_again (main_address r c) x y h

  -- a named address has its variable after the rule, as it has again
  kept : (a : Address) (x y : State) → Includes (named a (opened a x)) y → variable_at vs (named a (opened a y)) a ≡ variable_at vs (named a (opened a x)) a
  kept a x y h = ap (λ z. variable_at vs z a) (name_again a x y h) ∙ ap (nth_outside vs) (h.places a (is_there a x.names))

  -- so the premises get the same map and the same addresses

  same_map : (r : Rule) (m : Map) (c : Context) (x y : State) → Includes (met vs r m c x) y → inner_map r m (inner_variable vs r m c y) ≡ inner_map r m (inner_variable vs r m c x)
  same_map (AllR f v) m c x y h = ap (inner_map (AllR f v) m) (kept (c Right f) x y h)
  same_map (ExL f v) m c x y h = ap (inner_map (ExL f v) m) (kept (c Left f) x y h)
  same_map r m c x y h = refl

  same_context : (r : Rule) (s : Sequent) (m : Map) (c : Context) (x y : State) → Includes (met vs r m c x) y → inner_context r s m c (inner_variable vs r m c y) ≡ inner_context r s m c (inner_variable vs r m c x)
  same_context (AllR f v) s m c x y h = ap (inner_context (AllR f v) s m c) (kept (c Right f) x y h)
  same_context (ExL f v) s m c x y h = ap (inner_context (ExL f v) s m c) (kept (c Left f) x y h)
  same_context r s m c x y h = refl

  mutual
    pub walked_again : (t : Tree) (m : Map) (c : Context) (x y : State) → Includes (walked vs t m c x) y → walked vs t m c y ≡ y
    walked_again (node r s ts) m c x y h =
        let z : State = met vs r m c x in
        let n : Map = inner_map r m (inner_variable vs r m c x) in
        let cs : ℕ → Context = inner_context r s m c (inner_variable vs r m c x) in
        let marks : Includes z y = next (includes-walked_each vs ts n cs 0 z) h in
        (λ i. walked_each vs ts (same_map r m c x y marks i) (same_context r s m c x y marks i) 0 (met_again r m c x y marks i))
        ∙ each_again ts n cs 0 z y h

    each_again : (ts : Trees) (m : Map) (cs : ℕ → Context) (i : ℕ) (x y : State) → Includes (walked_each vs ts m cs i x) y → walked_each vs ts m cs i y ≡ y
    each_again none m cs i x y h = refl
    each_again (more t ts) m cs i x y h =
        let z : State = walked vs t m (cs i) x in
        ap (walked_each vs ts m cs (suc i)) (walked_again t m (cs i) x y (next (includes-walked_each vs ts m cs (suc i) z) h))
        ∙ each_again ts m cs (suc i) z y h
