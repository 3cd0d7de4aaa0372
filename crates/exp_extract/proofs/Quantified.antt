-- Quantifiers on their sides.
use Rattle.std.proofs.Common.{◌≡◌, true, false, refl}
use Rattle.fol.specs.Syntax.{Formula, atom, top, bot, not, and, or, imp, all, ex}
use Rattle.lk_rules.specs.declared.sequent.Side.{Side}
use Rattle.lk_rules.specs.declared.sequent.Side.TheVariants.{Left, Right}
use Rattle.exp_extract.specs.Quantifiers.{is_weak, is_strong}

-- a strong quantifier isn't weak
pub not_weak : (f : Formula) (s : Side) → is_strong f s ≡ true → is_weak f s ≡ false
not_weak (all f) Left h = cc
not_weak (all f) Right h = refl
not_weak (ex f) Left h = refl
not_weak (ex f) Right h = cc
not_weak (atom p ts) s h = refl
not_weak top s h = refl
not_weak bot s h = refl
not_weak (not f) s h = refl
not_weak (and f g) s h = refl
not_weak (or f g) s h = refl
not_weak (imp f g) s h = refl
