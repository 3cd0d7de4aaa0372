-- What a tree stands for helps a sequent exactly where the tree does by its parts.
use Rattle.std.proofs.Common.{◌≡◌, Bool, true, false, not as negated, ◌&&◌, ◌||◌, refl, sym, ap, ◌∙◌}
use Rattle.std.proofs.Math.Bool.{not-not, or-false, or_assoc}
use Rattle.fol.specs.Syntax.{Formula, not, and, or, imp}
use Rattle.lk_rules.specs.declared.sequent.Side.{Side}
use Rattle.lk_rules.specs.declared.sequent.Side.TheVariants.{Left, Right}
use Rattle.search_laws.specs.Truth.{Assignment, value}
use Rattle.search_laws.proofs.Tests.{not-or}
use Rattle.expansion_laws.specs.Expansions.{Exp, wk, leaf, neg, conj, disj, impl, weak, strong, Insts, none, more, turn, nothing_on, joined, deep, deep_first, deep_rest}
use Rattle.expansion_laws.specs.Helping.{helps, conjoined, disjoined, helped, some_helped}

-- two tests don't both pass exactly where one of them fails
not-and : (b c : Bool) → negated (b && c) ≡ (negated b || negated c)
not-and true c = refl
not-and false c = refl

-- an implication fails exactly where its premise holds and its conclusion doesn't
not-implied : (b c : Bool) → negated (negated b || c) ≡ (b && negated c)
not-implied true c = refl
not-implied false c = refl

module _ (a : Assignment) where
  -- what says nothing on a side helps nothing there
  helps-nothing : (s : Side) → helps a s (nothing_on s) ≡ false
  helps-nothing Left = refl
  helps-nothing Right = refl

  -- a negation helps where its part does on the other side
  pub helps-not : (s : Side) (f : Formula) → helps a s (not f) ≡ helps a (turn s) f
  helps-not Left f = not-not (value a f)
  helps-not Right f = refl

  -- a conjunction helps on the left where one part does, and on the right where both do
  pub helps-and : (s : Side) (f g : Formula) → helps a s (and f g) ≡ conjoined s (helps a s f) (helps a s g)
  helps-and Left f g = not-and (value a f) (value a g)
  helps-and Right f g = refl

  -- a disjunction helps on the left where both parts do, and on the right where one does
  pub helps-or : (s : Side) (f g : Formula) → helps a s (or f g) ≡ disjoined s (helps a s f) (helps a s g)
  helps-or Left f g = not-or (value a f) (value a g)
  helps-or Right f g = refl

  -- an implication helps as a disjunction does, with its premise on the other side
  pub helps-imp : (s : Side) (f g : Formula) → helps a s (imp f g) ≡ disjoined s (helps a (turn s) f) (helps a s g)
  helps-imp Left f g = not-implied (value a f) (value a g)
  helps-imp Right f g = refl

  -- instances together help where one does
  helps-joined : (s : Side) (f g : Formula) → helps a s (joined s f g) ≡ (helps a s f || helps a s g)
  helps-joined Left f g = not-and (value a f) (value a g)
  helps-joined Right f g = refl

  mutual
    -- what a tree stands for helps exactly where the tree does
    pub helps-deep : (s : Side) (e : Exp) → helps a s (deep s e) ≡ helped a s e
    helps-deep s (wk f) = helps-nothing s
    helps-deep s (leaf f) = refl
    helps-deep s (neg e) = helps-not s (deep (turn s) e) ∙ helps-deep (turn s) e
    helps-deep s (conj d e) = helps-and s (deep s d) (deep s e) ∙ (λ i. conjoined s (helps-deep s d i) (helps-deep s e i))
    helps-deep s (disj d e) = helps-or s (deep s d) (deep s e) ∙ (λ i. disjoined s (helps-deep s d i) (helps-deep s e i))
    helps-deep s (impl d e) = helps-imp s (deep (turn s) d) (deep s e) ∙ (λ i. disjoined s (helps-deep (turn s) d i) (helps-deep s e i))
    helps-deep s (weak f is) = helps-first s is
    helps-deep s (strong f y e) = helps-deep s e

    -- the instances at a weak quantifier help where one does
    helps-first : (s : Side) (is : Insts) → helps a s (deep_first s is) ≡ some_helped a s is
    helps-first s none = helps-nothing s
    helps-first s (more t e is) = helps-rest s (deep s e) is ∙ ap (λ b. b || some_helped a s is) (helps-deep s e)

    -- so do they joined to what is in front
    helps-rest : (s : Side) (front : Formula) (is : Insts) → helps a s (deep_rest s front is) ≡ (helps a s front || some_helped a s is)
    helps-rest s front none = sym (or-false (helps a s front))
    helps-rest s front (more t e is) =
        helps-rest s (joined s front (deep s e)) is
        ∙ (ap (λ b. b || some_helped a s is) (helps-joined s front (deep s e) ∙ ap (λ b. helps a s front || b) (helps-deep s e))
        ∙ or_assoc (helps a s front) (helped a s e) (some_helped a s is))
