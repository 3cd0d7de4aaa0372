-- Ranks along links: a number from which the rank rises along each link lies on no cycle.
use Rattle.std.proofs.Common.{◌≡◌, ℕ, zero, suc, ◌<◌, ◌≤◌, true, false, ◌&&◌, List, [], ◌∷◌, get_or, eqb, sym, ap, ◌∙◌, arith}
use Rattle.std.specs.List.{list_any}
use Rattle.std.proofs.lemmas.Bool.{and_parts}
use Rattle.std.proofs.lemmas.Bool.Decides.{nat_tests}
use Rattle.std.proofs.lemmas.List.Elements.{All-head, All-tail}
use Rattle.lk_rules.proofs.Subsequents.{and_left, and_right}
use Rattle.proof_trees.proofs.Booleans.{either}
use Rattle.search_laws.proofs.Tests.{fails, clash}
use Rattle.expansion_laws.proofs.Lists.{some_passes}
use Rattle.expansion_laws.specs.Cycles.{leads}
use Rattle.exp_check.specs.Links.{is_link, has_link}
use Rattle.exp_check.specs.Ranks.{is_level, NeverFall}
use Rattle.exp_check.specs.declared.links.Link.{Link}
use Rattle.expansion_laws.proofs.Times.{or_parts}

pub eqb_is : (a b : ℕ) → eqb a b ≡ true → a ≡ b
eqb_is a b e = grind (arith, nat_tests)

pub eqb_of : (a b : ℕ) → a ≡ b → eqb a b ≡ true
eqb_of a b e = grind (arith, nat_tests)

pub eqb_not : (a b : ℕ) → ((a ≡ b) → ⊥) → eqb a b ≡ false
eqb_not a b e = fails (eqb a b) (λ k. absurd (e (eqb_is a b k)))

module _ (ranks : List ℕ) where
  -- no rank falls along a link
  never : (ls : List Link) → NeverFall ranks ls → (i j : ℕ) → has_link ls i j ≡ true → get_or ranks i 0 ≤ get_or ranks j 0
  never [] h i j e = cc
  never (l ∷ ls) h i j e =
      either (is_link i j l) (has_link ls i j)
      (λ here.
      let both = and_parts (eqb l.before i) (eqb l.after j) here in
      let low : get_or ranks l.before 0 ≤ get_or ranks l.after 0 = All-head (λ (m : Link). get_or ranks m.before 0 ≤ get_or ranks m.after 0) l ls h in
      let first : get_or ranks l.before 0 ≡ get_or ranks i 0 = ap (λ k. get_or ranks k 0) (eqb_is l.before i both.0) in
      let second : get_or ranks l.after 0 ≡ get_or ranks j 0 = ap (λ k. get_or ranks k 0) (eqb_is l.after j both.1) in
      omega arith)
      (λ later. never ls (All-tail (λ (m : Link). get_or ranks m.before 0 ≤ get_or ranks m.after 0) l ls h) i j later)
      e

  -- it rises where it doesn't stay
  rises : (ls : List Link) → NeverFall ranks ls → (i j : ℕ) → list_any (is_level ranks i) ls ≡ false → has_link ls i j ≡ true → get_or ranks i 0 < get_or ranks j 0
  rises [] h i j none e = cc
  rises (l ∷ ls) h i j none e =
      let no = or_parts (is_level ranks i l) (list_any (is_level ranks i) ls) none in
      either (is_link i j l) (has_link ls i j)
      (λ here.
      let both = and_parts (eqb l.before i) (eqb l.after j) here in
      let low : get_or ranks l.before 0 ≤ get_or ranks l.after 0 = All-head (λ (m : Link). get_or ranks m.before 0 ≤ get_or ranks m.after 0) l ls h in
      let first : get_or ranks l.before 0 ≡ get_or ranks i 0 = ap (λ k. get_or ranks k 0) (eqb_is l.before i both.0) in
      let second : get_or ranks l.after 0 ≡ get_or ranks j 0 = ap (λ k. get_or ranks k 0) (eqb_is l.after j both.1) in
      let not_level : eqb (get_or ranks l.before 0) (get_or ranks l.after 0) ≡ false =
      ap (λ b. b && eqb (get_or ranks l.before 0) (get_or ranks l.after 0)) (sym both.0) ∙ no.0 in
      let apart : (get_or ranks l.before 0 ≡ get_or ranks l.after 0) → ⊥ = λ k. clash (eqb (get_or ranks l.before 0) (get_or ranks l.after 0)) (eqb_of (get_or ranks l.before 0) (get_or ranks l.after 0) k) not_level in
      omega (arith, apart))
      (λ later. rises ls (All-tail (λ (m : Link). get_or ranks m.before 0 ≤ get_or ranks m.after 0) l ls h) i j no.1 later)
      e

  module _ (ls : List Link) (h : NeverFall ranks ls) (all : List ℕ) where
    leads_never : (k i j : ℕ) → leads (has_link ls) all k i j ≡ true → get_or ranks i 0 ≤ get_or ranks j 0
    leads_never zero i j e = never ls h i j e
    leads_never (suc k) i j e =
        some_passes (λ w. has_link ls i w && leads (has_link ls) all k w j) all
        (λ w p.
        let first = never ls h i w (and_left (has_link ls i w) (leads (has_link ls) all k w j) p) in
        let rest = leads_never k w j (and_right (has_link ls i w) (leads (has_link ls) all k w j) p) in
        omega arith)
        e

    leads_back : (k i : ℕ) → list_any (is_level ranks i) ls ≡ false → leads (has_link ls) all k i i ≡ true → ⊥
    leads_back zero i none e = let up = rises ls h i i none e in absurd (omega arith)
    leads_back (suc k) i none e =
        some_passes (λ w. has_link ls i w && leads (has_link ls) all k w i) all
        (λ w p.
        let first = rises ls h i w none (and_left (has_link ls i w) (leads (has_link ls) all k w i) p) in
        let rest = leads_never k w i (and_right (has_link ls i w) (leads (has_link ls) all k w i) p) in
        let no : ⊥ = absurd (omega arith) in no)
        e

    pub on_no_cycle : (k i : ℕ) → list_any (is_level ranks i) ls ≡ false → leads (has_link ls) all k i i ≡ false
    on_no_cycle k i none = fails (leads (has_link ls) all k i i) (λ e. absurd (leads_back k i none e))
