-- Within a budget the elimination gives what is reached, by the least number of replacements.
use Rattle.std.proofs.Common.{◌≡◌, ◌↔◌, ℕ, zero, suc, ◌<◌, ◌≤◌, true, false, Some, refl, ap, ◌∙◌, arith}
use Rattle.proof_trees.specs.Trees.{Tree, cut_free}
use Rattle.cut_laws.specs.Elimination.{next, after, Reaches, one_more, elimination}
use Rattle.cut_laws.proofs.Unrolled.{finished, stepped, of_result}

reaches_itself : (t : Tree) → cut_free t ≡ true → Reaches t 0 t
reaches_itself t e = record { is = refl; done = e; least = λ j below. absurd (omega arith) }

least_later : (t : Tree) (k : ℕ) → cut_free t ≡ false → ((j : ℕ) → j < k → cut_free (after (next t) j) ≡ false) → (j : ℕ) → j < suc k → cut_free (after t j) ≡ false
least_later t k e before zero below = e
least_later t k e before (suc j) below = before j (omega arith)

reaches_later : (t u : Tree) (k : ℕ) → cut_free t ≡ false → Reaches (next t) k u → Reaches t (suc k) u
reaches_later t u k e r = record { is = r.is; done = r.done; least = least_later t k e r.least }

elimination_reaches : (t u : Tree) (k n : ℕ) → elimination t n ≡ Some (u, k) → Reaches t k u × (k ≤ n)
elimination_reaches =
    of_result (λ t n u k. Reaches t k u × (k ≤ n)) (λ t n e. (reaches_itself t e, omega arith)) (λ t n u k e h. let below : k ≤ n = h.1 in (reaches_later t u k e h.0, omega arith))

reached_elimination : (t : Tree) (n : ℕ) (u : Tree) (k : ℕ) → Reaches t k u → k ≤ n → elimination t n ≡ Some (u, k)
reached_elimination t n u zero r h = finished t n (ap cut_free r.is ∙ r.done) ∙ ap (λ v. Some (v, 0)) r.is
reached_elimination t zero u (suc k) r h = absurd (omega arith)
reached_elimination t (suc n) u (suc k) r h =
    stepped t n (r.least 0 (omega arith))
    ∙ ap one_more (reached_elimination (next t) n u k (record { is = r.is; done = r.done; least = λ j below. r.least (suc j) (omega arith) }) (omega arith))

pub least_reached : (t : Tree) (n : ℕ) (u : Tree) (k : ℕ) → (elimination t n ≡ Some (u, k)) ↔ (Reaches t k u × (k ≤ n))
least_reached t n u k = (elimination_reaches t u k n, λ h. reached_elimination t n u k h.0 h.1)
