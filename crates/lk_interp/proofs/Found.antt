-- What isn't something is nothing.
use Rattle.std.proofs.Common.{◌≡◌, Option, Some, None, refl}

-- what isn't something is nothing
pub none_left : {X : Type 0} (o : Option X) → ((x : X) → o ≡ Some x → ⊥) → o ≡ None
none_left None h = refl
none_left (Some x) h = absurd (h x refl)
