-- The work that a tree makes within a budget is more than that of its parts.
use Rattle.std.proofs.Common.{◌≡◌, ℕ, zero, suc, ◌+◌, ◌-◌, ◌<◌, ◌≤◌, true, false, if◌then◌else◌, Option, Some, None, IfSome, option_map, unwrap_or, refl, ap, arith}
use Rattle.fol.specs.Syntax.{Formula}
use Rattle.lk_rules.specs.declared.sequent.Sequent.{Sequent}
use Rattle.lk_rules.specs.declared.rule.Rule.{Rule}
use Rattle.proof_trees.specs.Trees.{Tree, node, Trees, none, more, is_cut, cut_free, cut_free_all, count_rules_all, size}
use Rattle.cut_laws.specs.Contraction.{cut, con}
use Rattle.cut_laws.specs.Elimination.{next, elimination}
use Rattle.cut_laws.specs.Budgets.{work, work_all}
use Rattle.cut_laws.proofs.Numbered.{minus_zero, minus_suc}
use Rattle.cut_laws.proofs.Unrolled.{split, by_replacements}
use Rattle.cut_laws.proofs.Places.{IsPlace, joined, place_at}
use Rattle.cut_laws.proofs.BigSteps.{elimination_free, joined_first, joined_free, next_cut, left_place, right_place}

abbrev pub sizes : Trees → ℕ
sizes = count_rules_all (λ r. true)

pub size_positive : (t : Tree) → 0 < size t
size_positive (node q s ts) = omega arith

work_finished : (n : ℕ) (t : Tree) → cut_free t ≡ true → work n t ≡ size t
work_finished zero t e = refl
work_finished (suc n) t e = ap (λ b. if b then size t else size t + work n (next t)) e

work_stepped : (n : ℕ) (t : Tree) → cut_free t ≡ false → work (suc n) t ≡ size t + work n (next t)
work_stepped n t e = ap (λ b. if b then size t else size t + work n (next t)) e

size_in_work : (n : ℕ) (t : Tree) → size t ≤ work n t
size_in_work zero t = omega arith
size_in_work (suc n) t = split (cut_free t)
    (λ e. let is : work (suc n) t ≡ size t = work_finished (suc n) t e in omega arith)
    (λ e. let is : work (suc n) t ≡ size t + work n (next t) = work_stepped n t e in omega arith)

-- a part, beside which there are more nodes
part_in_work : (c : Tree → Tree) → IsPlace c → (beside : ℕ) → ((t : Tree) → beside + size t < size (c t)) → (n : ℕ) (t : Tree) → beside + work n t < work n (c t)
part_in_work c place beside less zero t = less t
part_in_work c place beside less (suc n) t =
    let here : beside + size t < size (c t) = less t in
    split (cut_free t)
    (λ e. let is : work (suc n) t ≡ size t = work_finished (suc n) t e in
    let whole : size (c t) ≤ work (suc n) (c t) = size_in_work (suc n) (c t) in omega arith)
    (λ e. let is : work (suc n) t ≡ size t + work n (next t) = work_stepped n t e in
    let whole : work (suc n) (c t) ≡ size (c t) + work n (next (c t)) = work_stepped n (c t) (place.dirty t e) in
    let alike : work n (next (c t)) ≡ work n (c (next t)) = ap (work n) (place.step t e) in
    let further : beside + work n (next t) < work n (c (next t)) = part_in_work c place beside less n (next t) in omega arith)

-- what comes of a part is in the work of that part, and the work after it is in that of the whole
pub record IsLater (c : Tree → Tree) (n : ℕ) (t : Tree) (p : Tree × ℕ) : Type 0 where
  pub result : size p.0 ≤ work n t
  pub rest : work n t + work (n - p.1) (c p.0) ≤ work n (c t) + size p.0

module _ (c : Tree → Tree) (place : IsPlace c) (less : (t : Tree) → size t < size (c t)) where
  later_finished : (n : ℕ) (t : Tree) → cut_free t ≡ true → IsLater c n t (t, 0)
  later_finished n t e =
      let is : work n t ≡ size t = work_finished n t e in
      let same : work (n - 0) (c t) ≡ work n (c t) = ap (λ m. work m (c t)) (minus_zero n) in
      record { result = omega arith; rest = omega arith }

  later_stepped : (n : ℕ) (t u : Tree) (k : ℕ) → cut_free t ≡ false → IsLater c n (next t) (u, k) → IsLater c (suc n) t (u, suc k)
  later_stepped n t u k e h =
      let here : size t < size (c t) = less t in
      let is : work (suc n) t ≡ size t + work n (next t) = work_stepped n t e in
      let whole : work (suc n) (c t) ≡ size (c t) + work n (next (c t)) = work_stepped n (c t) (place.dirty t e) in
      let alike : work n (next (c t)) ≡ work n (c (next t)) = ap (work n) (place.step t e) in
      let same : work (suc n - suc k) (c u) ≡ work (n - k) (c u) = ap (λ m. work m (c u)) (minus_suc n k) in
      let result : size u ≤ work n (next t) = h.result in
      let rest : work n (next t) + work (n - k) (c u) ≤ work n (c (next t)) + size u = h.rest in
      record { result = omega arith; rest = omega arith }

  later : (t : Tree) (n : ℕ) → IfSome (elimination t n) (IsLater c n t)
  later = by_replacements (λ t n u k. IsLater c n t (u, k)) (λ t n. later_finished n t) (λ t n u k. later_stepped n t u k)

  after_part : (n k : ℕ) (t u : Tree) → elimination t n ≡ Some (u, k) → work (n - k) (c u) ≤ work n (c t)
  after_part n k t u e =
      let h : IsLater c n t (u, k) = rw e at (later t n) in
      let result : size u ≤ work n t = h.result in
      let rest : work n t + work (n - k) (c u) ≤ work n (c t) + size u = h.rest in
      omega arith

-- cuts

pub work_left : (s : Sequent) (a : Formula) (l r : Tree) (n : ℕ) → work n l < work n (cut s a l r)
work_left s a l r n =
    let h : 0 + work n l < work n (cut s a l r) = part_in_work (λ t. cut s a t r) (left_place s a r) 0 (λ t. omega arith) n l in
    omega arith

after_left : (s : Sequent) (a : Formula) (l r u : Tree) (k n : ℕ) → elimination l n ≡ Some (u, k) → work (n - k) (cut s a u r) ≤ work n (cut s a l r)
after_left s a l r u k n e = after_part (λ t. cut s a t r) (left_place s a r) (λ t. omega arith) n k l u e

after_right : (s : Sequent) (a : Formula) (u r v : Tree) (k n : ℕ) → cut_free u ≡ true → elimination r n ≡ Some (v, k) → work (n - k) (cut s a u v) ≤ work n (cut s a u r)
after_right s a u r v k n clean e = after_part (λ t. cut s a u t) (right_place s a u clean) (λ t. omega arith) n k r v e

clean : (t u : Tree) (k n : ℕ) → elimination t n ≡ Some (u, k) → cut_free u ≡ true
clean t u k n e = rw e at (elimination_free t n)

pub work_right : (s : Sequent) (a : Formula) (l r u : Tree) (k n : ℕ) → elimination l n ≡ Some (u, k) → work (n - k) r < work n (cut s a l r)
work_right s a l r u k n e =
    let whole : work (n - k) (cut s a u r) ≤ work n (cut s a l r) = after_left s a l r u k n e in
    let h : 0 + work (n - k) r < work (n - k) (cut s a u r) = part_in_work (λ t. cut s a u t) (right_place s a u (clean l u k n e)) 0 (λ t. omega arith) (n - k) r in
    omega arith

pub work_root : (s : Sequent) (a : Formula) (l r u v : Tree) (i j k n : ℕ) → elimination l n ≡ Some (u, i) → elimination r (n - i) ≡ Some (v, j) → n - i - j ≡ suc k
    → work k (con s a u v) < work n (cut s a l r)
work_root s a l r u v i j k n e f left =
    let first : work (n - i) (cut s a u r) ≤ work n (cut s a l r) = after_left s a l r u i n e in
    let second : work (n - i - j) (cut s a u v) ≤ work (n - i) (cut s a u r) = after_right s a u r v j (n - i) (clean l u i n e) f in
    let last : work (n - i - j) (cut s a u v) ≡ work (suc k) (cut s a u v) = ap (λ m. work m (cut s a u v)) left in
    let step : work (suc k) (cut s a u v) ≡ size (cut s a u v) + work k (next (cut s a u v)) = work_stepped k (cut s a u v) refl in
    let is : work k (next (cut s a u v)) ≡ work k (con s a u v) = ap (work k) (next_cut s a u v (clean l u i n e) (clean r v j (n - i) f)) in
    let positive : 0 < size (cut s a u v) = size_positive (cut s a u v) in
    omega arith

-- premises

sizes_joined : (front ts : Trees) → sizes (joined front ts) ≡ sizes front + sizes ts
sizes_joined none ts = omega arith
sizes_joined (more t front) ts = let h : sizes (joined front ts) ≡ sizes front + sizes ts = sizes_joined front ts in omega arith

module _ (q : Rule) (s : Sequent) (front ts : Trees) where
  beside_less : (t : Tree) → sizes front + size t < size (node q s (joined front (more t ts)))
  beside_less t = let h : sizes (joined front (more t ts)) ≡ sizes front + sizes (more t ts) = sizes_joined front (more t ts) in omega arith

  part_less : (t : Tree) → size t < size (node q s (joined front (more t ts)))
  part_less t = let h : sizes front + size t < size (node q s (joined front (more t ts))) = beside_less t in omega arith

  works_after : (n : ℕ) (t : Tree) → cut_free_all front ≡ true
      → ((u : Tree) (m : ℕ) → cut_free_all (joined front (more u none)) ≡ true → sizes (joined front (more u none)) + work_all m ts < work m (node q s (joined (joined front (more u none)) ts)))
      → (o : Option (Tree × ℕ)) → IfSome o (λ p. cut_free p.0 ≡ true) → IfSome o (IsLater (λ u. node q s (joined front (more u ts))) n t)
      → sizes front + (work n t + unwrap_or (option_map (λ p. work_all (n - p.1) ts) o) 0) < work n (node q s (joined front (more t ts)))
  works_after n t free others None h later =
      let h : sizes front + work n t < work n (node q s (joined front (more t ts))) =
      part_in_work (λ u. node q s (joined front (more u ts))) (place_at q s front ts free) (sizes front) beside_less n t in
      omega arith
  works_after n t free others (Some p) h later =
      let after : sizes (joined front (more p.0 none)) + work_all (n - p.1) ts < work (n - p.1) (node q s (joined (joined front (more p.0 none)) ts)) =
      others p.0 (n - p.1) (joined_free front p.0 free h) in
      let same : work (n - p.1) (node q s (joined front (more p.0 ts))) ≡ work (n - p.1) (node q s (joined (joined front (more p.0 none)) ts)) =
      ap (λ us. work (n - p.1) (node q s us)) (joined_first front p.0 ts) in
      let nodes : sizes (joined front (more p.0 none)) ≡ sizes front + sizes (more p.0 none) = sizes_joined front (more p.0 none) in
      let rest : work n t + work (n - p.1) (node q s (joined front (more p.0 ts))) ≤ work n (node q s (joined front (more t ts))) + size p.0 = later.rest in
      omega arith

works_below : (q : Rule) (s : Sequent) (front ts : Trees) (n : ℕ) → cut_free_all front ≡ true → sizes front + work_all n ts < work n (node q s (joined front ts))
works_below q s front none n free =
    let h : sizes (joined front none) ≡ sizes front + sizes none = sizes_joined front none in
    let whole : size (node q s (joined front none)) ≤ work n (node q s (joined front none)) = size_in_work n (node q s (joined front none)) in
    omega arith
works_below q s front (more t ts) n free =
    works_after q s front ts n t free (λ u m e. works_below q s (joined front (more u none)) ts m e) (elimination t n) (elimination_free t n)
    (later (λ u. node q s (joined front (more u ts))) (place_at q s front ts free) (part_less q s front ts) t n)

pub work_other : (q : Rule) (s : Sequent) (ts : Trees) (n : ℕ) → is_cut q ≡ false → work_all n ts < work n (node q s ts)
work_other q s ts n other = let h : sizes none + work_all n ts < work n (node q s ts) = works_below q s none ts n refl in omega arith

pub work_first : (t : Tree) (ts : Trees) (n : ℕ) → work n t ≤ work_all n (more t ts)
work_first t ts n = omega arith

pub work_rest : (t u : Tree) (ts : Trees) (k n : ℕ) → elimination t n ≡ Some (u, k) → work_all (n - k) ts < work_all n (more t ts)
work_rest t u ts k n e =
    let is : work_all n (more t ts) ≡ work n t + work_all (n - k) ts = ap (λ o. work n t + unwrap_or (option_map (λ p. work_all (n - p.1) ts) o) 0) e in
    let positive : 0 < size t = size_positive t in
    let here : size t ≤ work n t = size_in_work n t in
    omega arith
