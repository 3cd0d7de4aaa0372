-- Arguments put into a formula: the same as without lifting where they have no index, and instances and images of what that gives.
use Rattle.std.proofs.Common.{◌≡◌, ℕ, ◌+◌, ◌≤◌, true, false, Option, refl, ap, ◌∙◌, arith}
use Rattle.fol.specs.declared.symbols.Var.{Var}
use Rattle.fol.specs.Syntax.{Term, Terms, Formula, atom, top, bot, not, and, or, imp, all, ex}
use Rattle.fol.specs.Facts.{is_open}
use Rattle.fol.specs.Formed.{count_terms}
use Rattle.free_variables.proofs.ShutLaws.{or_left, or_right}
use Rattle.substitution.specs.Closed.{are_closed_terms_at, is_closed_at, IsClosedTerm, IsClosedMap}
use Rattle.substitution.specs.Image.{image_terms, image}
use Rattle.substitution.specs.Instance.{inst_terms_at, inst_at}
use Rattle.substitution.specs.Unfolding.{put_at}
use Rattle.substitution.proofs.Booleans.{and_left, and_right}
use Rattle.def_laws.specs.Flat.{lifted_terms, lifted_put}
use Rattle.def_laws.proofs.Lifts.{count-lifted, lifted-closed_terms, image-lifted_terms, inst-lifted_terms}
use Rattle.def_laws.proofs.Arguments.{inst-put_terms, image-put_terms}

-- arguments without an index need no lifting
pub put-closed : (us : Terms) (l : ℕ) (f : Formula) → are_closed_terms_at 0 us ≡ true → lifted_put us l f ≡ put_at us l f
put-closed us l (atom p ts) h = refl
put-closed us l top h = refl
put-closed us l bot h = refl
put-closed us l (not f) h = ap not (put-closed us l f h)
put-closed us l (and f g) h = λ i. and (put-closed us l f h i) (put-closed us l g h i)
put-closed us l (or f g) h = λ i. or (put-closed us l f h i) (put-closed us l g h i)
put-closed us l (imp f g) h = λ i. imp (put-closed us l f h i) (put-closed us l g h i)
put-closed us l (all f) h = ap all (ap (λ vs. lifted_put vs (l + 1) f) (lifted-closed_terms 1 us h) ∙ put-closed us (l + 1) f h)
put-closed us l (ex f) h = ap ex (ap (λ vs. lifted_put vs (l + 1) f) (lifted-closed_terms 1 us h) ∙ put-closed us (l + 1) f h)

-- an instance of what that gives has the instances of the arguments
pub inst-put : (u : Term) → IsClosedTerm u → (us : Terms) (f : Formula) (k l : ℕ) → l ≤ k + count_terms us → is_closed_at l f ≡ true → inst_at u k (lifted_put us l f) ≡ lifted_put (inst_terms_at u k us) l f
inst-put u closed us (atom p ts) k l few h = ap (atom p) (inst-put_terms u us ts k l few h)
inst-put u closed us top k l few h = refl
inst-put u closed us bot k l few h = refl
inst-put u closed us (not f) k l few h = ap not (inst-put u closed us f k l few h)
inst-put u closed us (and f g) k l few h =
    λ i. and (inst-put u closed us f k l few (and_left _ _ h) i) (inst-put u closed us g k l few (and_right (is_closed_at l f) _ h) i)
inst-put u closed us (or f g) k l few h =
    λ i. or (inst-put u closed us f k l few (and_left _ _ h) i) (inst-put u closed us g k l few (and_right (is_closed_at l f) _ h) i)
inst-put u closed us (imp f g) k l few h =
    λ i. imp (inst-put u closed us f k l few (and_left _ _ h) i) (inst-put u closed us g k l few (and_right (is_closed_at l f) _ h) i)
inst-put u closed us (all f) k l few h =
    ap all (
    inst-put u closed (lifted_terms 1 us) f (k + 1) (l + 1) (omega (arith, count-lifted 1 us)) h
    ∙ ap (λ vs. lifted_put vs (l + 1) f) (inst-lifted_terms u closed k us))
inst-put u closed us (ex f) k l few h =
    ap ex (
    inst-put u closed (lifted_terms 1 us) f (k + 1) (l + 1) (omega (arith, count-lifted 1 us)) h
    ∙ ap (λ vs. lifted_put vs (l + 1) f) (inst-lifted_terms u closed k us))

-- an image of what that gives has the images of the arguments, where no variable is free in the formula
pub image-put : (m : Var → Option Term) → IsClosedMap m → (us : Terms) (l : ℕ) (f : Formula) → is_open f ≡ false → image m (lifted_put us l f) ≡ lifted_put (image_terms m us) l f
image-put m closed us l (atom p ts) h = ap (atom p) (image-put_terms m us l ts h)
image-put m closed us l top h = refl
image-put m closed us l bot h = refl
image-put m closed us l (not f) h = ap not (image-put m closed us l f h)
image-put m closed us l (and f g) h =
    λ i. and (image-put m closed us l f (or_left _ _ h) i) (image-put m closed us l g (or_right (is_open f) _ h) i)
image-put m closed us l (or f g) h =
    λ i. or (image-put m closed us l f (or_left _ _ h) i) (image-put m closed us l g (or_right (is_open f) _ h) i)
image-put m closed us l (imp f g) h =
    λ i. imp (image-put m closed us l f (or_left _ _ h) i) (image-put m closed us l g (or_right (is_open f) _ h) i)
image-put m closed us l (all f) h =
    ap all (image-put m closed (lifted_terms 1 us) (l + 1) f h ∙ ap (λ vs. lifted_put vs (l + 1) f) (image-lifted_terms m closed us))
image-put m closed us l (ex f) h =
    ap ex (image-put m closed (lifted_terms 1 us) (l + 1) f h ∙ ap (λ vs. lifted_put vs (l + 1) f) (image-lifted_terms m closed us))
