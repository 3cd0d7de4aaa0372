-- What the classes and the pairs that are left say after a step.
use Rattle.std.proofs.Common.{◌≡◌, ℕ, ◌<◌, ⊎_elim, List, [], ◌∷◌, ◌++◌, length, refl, sym, ap, subst, ◌∙◌, arith}
use Rattle.std.specs.Prelude.{Option, slice_set}
use Rattle.std.proofs.lemmas.List.{length-set}
use Rattle.std.proofs.lemmas.List.Elements.{All-append, All-push}
use Rattle.std.proofs.lemmas.Bool.{cases_eq}
use Rattle.fol.specs.declared.symbols.Var.{Var}
use Rattle.fol.specs.Syntax.{Term}
use Rattle.unify_laws.specs.Equations.{Equation, Unifies}
use Rattle.arena_cells.specs.Items.{Item}
use Rattle.arena_cells.specs.Standing.{item_at}
use Rattle.fol_unify.specs.Classes.{next, Leads}
use Rattle.fol_unify.specs.Solving.{kind_of, image_at, Ties, Respects, AreAlike, IsPair, IsUnifying}
use Rattle.fol_unify.specs.Shapes.{Decomposes}
use Rattle.fol_unify.specs.Joining.{IsJoined}
use Rattle.fol_unify.proofs.Lists.{All-front, All-back, All-one, next_written}
use Rattle.fol_unify.proofs.Walks.{at_root, root_below, same_at_root}

module _ (a : List Item) (es : List Equation) (ls : List ℕ) (ps : List (ℕ × ℕ)) (m n : ℕ) (un : IsUnifying a es ls (ps ++ (m, n) ∷ [])) where
  pub pair_is : IsPair a (length a) (m, n)
  pair_is = All-one (IsPair a (length a)) ps (m, n) un.pairs

  m_below : m < length ls
  m_below = omega (arith, pair_is.one_below, un.so_many)

  n_below : n < length ls
  n_below = omega (arith, pair_is.two_below, un.so_many)

  -- a function that respects the classes and ties m and n ties their roots
  ties_roots : {X : Type 0} (f : ℕ → X) → Respects f ls (ps ++ (m, n) ∷ []) → (r s : ℕ) → Leads ls m r → Leads ls n s → f r ≡ f s
  ties_roots f given r s lm ln =
      sym (same_at_root f ls un.within given.links m r m_below lm) ∙ All-one (Ties f) ps (m, n) given.pairs ∙ same_at_root f ls un.within given.links n s n_below ln

  pub root_kinds : (r s : ℕ) → Leads ls m r → Leads ls n s → (kind_of (item_at a r) ≡ kind_of (item_at a s)) × (kind_of (item_at a m) ≡ kind_of (item_at a r))
  root_kinds r s lm ln =
      let one = same_at_root (λ k. kind_of (item_at a k)) ls un.within un.kinds m r m_below lm in
      let two = same_at_root (λ k. kind_of (item_at a k)) ls un.within un.kinds n s n_below ln in
      (sym one ∙ pair_is.kinds ∙ two, one)

  -- no map solves the equations where none makes the roots equal
  pub clashes : (r s : ℕ) → Leads ls m r → Leads ls n s → ((h : Var → Option Term) → image_at a h r ≡ image_at a h s → ⊥) → (h : Var → Option Term) → Unifies h es → ⊥
  clashes r s lm ln none h all = none h (ties_roots (image_at a h) (un.sound h all) r s lm ln)

  respects_more : (r : ℕ) → Leads ls m r → Leads ls n r → (f : ℕ → ℕ) → Respects f ls ps → Respects f ls (ps ++ (m, n) ∷ [])
  respects_more r lm ln f given = record {
    links = given.links;
    pairs = All-push (Ties f) ps (m, n) given.pairs (same_at_root f ls un.within given.links m r m_below lm ∙ sym (same_at_root f ls un.within given.links n r n_below ln));
  }

  -- nothing is to be done where both have one root
  pub dropped : (r : ℕ) → Leads ls m r → Leads ls n r → IsUnifying a es ls ps
  dropped r lm ln =
      let more = respects_more r lm ln in
      record {
        so_many = un.so_many;
        within = un.within;
        kinds = un.kinds;
        pairs = All-front (IsPair a (length a)) ps ((m, n) ∷ []) un.pairs;
        sound = λ h all. record { links = (un.sound h all).links; pairs = All-front (Ties (image_at a h)) ps ((m, n) ∷ []) (un.sound h all).pairs };
        alike = λ f given. un.alike f (more f given);
        equal = λ f given. un.equal f (more f given);
      }

  -- a function that respects the classes as one root leads to the other respects the earlier ones
  earlier : (f : ℕ → ℕ) (r s : ℕ) → Leads ls m r → Leads ls n s → (qs : List (ℕ × ℕ)) → Respects f (slice_set ls r s) (ps ++ qs) → Respects f ls (ps ++ (m, n) ∷ [])
  earlier f r s lm ln qs given =
      let rb = root_below ls un.within m r m_below lm in
      let at = at_root ls m r lm in
      let written = length-set ls r s in
      let links = λ (k : ℕ) (below : k < length ls). ⊎_elim {C = f k ≡ f (next ls k)}
      (λ e. ap f (e ∙ sym at ∙ ap (next ls) (sym e)))
      (λ apart. next_written ls r s rb (λ v. f k ≡ f v → f k ≡ f (next ls k)) k (λ e. absurd (apart e)) (λ _ e. e) (given.links k (omega (arith, written))))
      (cases_eq k r) in
      let root : f r ≡ f s = next_written ls r s rb (λ v. f r ≡ f v → f r ≡ f s) r (λ _ e. e) (λ apart. absurd (apart refl)) (given.links r (omega (arith, written))) in
      record {
        links = links;
        pairs = All-push (Ties f) ps (m, n) (All-front (Ties f) ps qs given.pairs) (same_at_root f ls un.within links m r m_below lm ∙ root ∙ sym (same_at_root f ls un.within links n s n_below ln));
      }

  -- one root leads to the other, and the pairs that this takes are left
  pub joined : (r s : ℕ) → Leads ls m r → Leads ls n s → (r ≡ s → ⊥) → (qs : List (ℕ × ℕ)) → Decomposes a r s qs → IsUnifying a es (slice_set ls r s) (ps ++ qs)
  joined r s lm ln apart qs d =
      let rb = root_below ls un.within m r m_below lm in
      let sb = root_below ls un.within n s n_below ln in
      let written = length-set ls r s in
      let ks = slice_set ls r s in
      record {
        so_many = written ∙ un.so_many;
        within = λ k below. next_written ls r s rb (λ v. v < length ks) k (λ _. omega (arith, written)) (λ _. let old = un.within k (omega (arith, written)) in omega (arith, written, old));
        kinds = λ k below. next_written ls r s rb (λ v. kind_of (item_at a k) ≡ kind_of (item_at a v)) k
            (λ e. ap (λ j. kind_of (item_at a j)) e ∙ (root_kinds r s lm ln).0)
            (λ _. un.kinds k (omega (arith, written)));
        pairs = All-append (IsPair a (length a)) ps qs (All-front (IsPair a (length a)) ps ((m, n) ∷ []) un.pairs) d.pairs;
        sound = λ h all.
            let old = un.sound h all in
            let same = ties_roots (image_at a h) old r s lm ln in
            record {
              links = λ k below. next_written ls r s rb (λ v. image_at a h k ≡ image_at a h v) k (λ e. ap (image_at a h) e ∙ same) (λ _. old.links k (omega (arith, written)));
              pairs = All-append (Ties (image_at a h)) ps qs (All-front (Ties (image_at a h)) ps ((m, n) ∷ []) old.pairs) (d.images h same);
            };
        alike = λ f given k below. next_written ls r s rb (λ v. (v ≡ k → ⊥) → AreAlike a (length a) f (item_at a k) (item_at a v)) k
            (λ e _. subst (λ j. AreAlike a (length a) f (item_at a j) (item_at a s)) (sym e) (d.alike f (All-back (Ties f) ps qs given.pairs)))
            (λ _ moved. un.alike f (earlier f r s lm ln qs given) k (omega (arith, written)) moved);
        equal = λ f given. un.equal f (earlier f r s lm ln qs given);
      }

-- the same with the pair the other way round

respects_turned : (ls : List ℕ) (ps : List (ℕ × ℕ)) (m n : ℕ) (f : ℕ → ℕ) → Respects f ls (ps ++ (n, m) ∷ []) → Respects f ls (ps ++ (m, n) ∷ [])
respects_turned ls ps m n f given = record {
  links = given.links;
  pairs = All-push (Ties f) ps (m, n) (All-front (Ties f) ps ((n, m) ∷ []) given.pairs) (sym (All-one (Ties f) ps (n, m) given.pairs));
}

turned : (a : List Item) (es : List Equation) (ls : List ℕ) (ps : List (ℕ × ℕ)) (m n : ℕ) → IsUnifying a es ls (ps ++ (m, n) ∷ []) → IsUnifying a es ls (ps ++ (n, m) ∷ [])
turned a es ls ps m n un =
    let turn = respects_turned ls ps m n in
    let pair = All-one (IsPair a (length a)) ps (m, n) un.pairs in
    record {
      so_many = un.so_many;
      within = un.within;
      kinds = un.kinds;
      pairs = All-push (IsPair a (length a)) ps (n, m) (All-front (IsPair a (length a)) ps ((m, n) ∷ []) un.pairs) (record {
        one_below = pair.two_below;
        two_below = pair.one_below;
        kinds = sym pair.kinds;
        known = λ e. pair.known (pair.kinds ∙ e);
      });
      sound = λ h all. record {
        links = (un.sound h all).links;
        pairs = All-push (Ties (image_at a h)) ps (n, m) (All-front (Ties (image_at a h)) ps ((m, n) ∷ []) (un.sound h all).pairs) (sym (All-one (Ties (image_at a h)) ps (m, n) (un.sound h all).pairs));
      };
      alike = λ f given. un.alike f (turn f given);
      equal = λ f given. un.equal f (turn f given);
    }

-- whichever root leads to the other
pub after_joining : (a : List Item) (es : List Equation) (ls ks : List ℕ) (ps : List (ℕ × ℕ)) (m n r s : ℕ) (qs : List (ℕ × ℕ)) → IsUnifying a es ls (ps ++ (m, n) ∷ []) → Leads ls m r → Leads ls n s → (r ≡ s → ⊥)
    → IsJoined a ls ks r s qs → IsUnifying a es ks (ps ++ qs)
after_joining a es ls ks ps m n r s qs un lm ln apart step =
    ⊎_elim {C = IsUnifying a es ks (ps ++ qs)}
    (λ one. subst (λ k. IsUnifying a es k (ps ++ qs)) (sym one.0) (joined a es ls ps m n un r s lm ln apart qs one.1))
    (λ two. subst (λ k. IsUnifying a es k (ps ++ qs)) (sym two.0) (joined a es ls ps n m (turned a es ls ps m n un) s r ln lm (λ e. apart (sym e)) qs two.1))
    step
