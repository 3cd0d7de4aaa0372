-- Walks to roots: a function that gives the same to each number and the next gives the same to a number and its root, and there is one root.
use Rattle.std.proofs.Common.{◌≡◌, ℕ, ◌<◌, List, length, refl, sym, ap, ◌∙◌}
use Rattle.fol_unify.specs.Classes.{next, Leads, here, further}

pub at_root : (ls : List ℕ) (n r : ℕ) → Leads ls n r → next ls r ≡ r
at_root ls n r (here r' e) = e
at_root ls n r (further n' r' h) = at_root ls (next ls n') r' h

pub root_below : (ls : List ℕ) → ((n : ℕ) → n < length ls → next ls n < length ls) → (n r : ℕ) → n < length ls → Leads ls n r → r < length ls
root_below ls within n r below (here r' e) = below
root_below ls within n r below (further n' r' h) = root_below ls within (next ls n') r' (within n' below) h

pub same_at_root : {X : Type 0} (f : ℕ → X) (ls : List ℕ) → ((n : ℕ) → n < length ls → next ls n < length ls) → ((n : ℕ) → n < length ls → f n ≡ f (next ls n))
    → (n r : ℕ) → n < length ls → Leads ls n r → f n ≡ f r
same_at_root f ls within same n r below (here r' e) = refl
same_at_root f ls within same n r below (further n' r' h) = same n' below ∙ same_at_root f ls within same (next ls n') r' (within n' below) h

-- from a root a walk goes nowhere
stays_at : (ls : List ℕ) (m n s : ℕ) → next ls n ≡ n → m ≡ n → Leads ls m s → s ≡ n
stays_at ls m n s e p (here s' d) = p
stays_at ls m n s e p (further m' s' h) = stays_at ls (next ls m') n s' e (ap (next ls) p ∙ e) h

pub root_stays : (ls : List ℕ) (n s : ℕ) → next ls n ≡ n → Leads ls n s → s ≡ n
root_stays ls n s e h = stays_at ls n n s e refl h

one_root : (ls : List ℕ) (m n r s : ℕ) → m ≡ n → Leads ls m r → Leads ls n s → r ≡ s
one_root ls m n r s p (here r' e) k = sym (stays_at ls n r' s e (sym p) k)
one_root ls m n r s p (further m' r' h) (here s' d) = stays_at ls (next ls m') s' r' d (ap (next ls) p ∙ d) h
one_root ls m n r s p (further m' r' h) (further n' s' k) = one_root ls (next ls m') (next ls n') r' s' (ap (next ls) p) h k

pub same_root : (ls : List ℕ) (n r s : ℕ) → Leads ls n r → Leads ls n s → r ≡ s
same_root ls n r s h k = one_root ls n n r s refl h k
