-- The law of reading by turns: what a reader answers is what it answers where its turns lead.
use Rattle.std.proofs.Common.{◌≡◌, ℕ, zero, suc, ◌<◌, List, [], ◌∷◌, ◌++◌, Option, Some, None, Result, Ok, Err, refl, sym, ◌∙◌, ap, subst, arith}
use Rattle.tptp_tokens.specs.declared.tokens.Token.{Token}
use Rattle.tptp_tokens.specs.declared.tokens.TextKind.{TextKind}
use Rattle.tptp_read.specs.declared.state.Limits.{Limits}
use Rattle.tptp_read.specs.Reader.{Move, checked, ◌>>=◌, led}
use Rattle.tptp_read.specs.Turns.{Turn, on, answer, by_turn, run, Leads, here, behind, Look, token, ends, bad, Passes, no_token, more_tokens, Answers, stepped, unless, at_front, token_turn}
use Rattle.tptp_read.proofs.ReaderLaw.{then_ok}

-- an answer, and where it is given
pub record IsAnswered {C R : Type 0} (turn : C → Turn C R) (c : C) (r : R) : Type 0 where
  pub place : C
  pub leads : Leads turn c place
  pub given : turn place ≡ answer r

-- what holds where a turn leads, or of its answer
abbrev pub MatchTurn : {C R : Type 0} → Turn C R → (C → Type 0) → (R → Type 0) → Type 0
MatchTurn (on c) P Q = P c
MatchTurn (answer r) P Q = Q r

module _ {C R : Type 0} (turn : C → Turn C R) where
  pub leads_on : (c d e : C) → Leads turn c d → Leads turn d e → Leads turn c e
  leads_on c d e (here c') more = more
  leads_on c d e (behind c' x d' is rest) more = behind c' x e is (leads_on x d' e rest more)

  pub leads_one : (c d e : C) → Leads turn c d → turn d ≡ on e → Leads turn c e
  leads_one c d e before is = leads_on c d e before (behind d e e is (here e))

  module _ (f : C → R) (turns : (c : C) → f c ≡ by_turn f (turn c)) where
    pub leads_same : (c d : C) → Leads turn c d → f c ≡ f d
    leads_same c d (here c') = refl
    leads_same c d (behind c' x d' is rest) = turns c' ∙ (ap (by_turn f) is ∙ leads_same x d' rest)

    pub answers : (c : C) (r : R) → IsAnswered turn c r → f c ≡ r
    answers c r a = leads_same c a.place a.leads ∙ (turns a.place ∙ ap (by_turn f) a.given)

    -- each turn makes what is left smaller
    module _ (size : C → ℕ) (smaller : (c d : C) → turn c ≡ on d → size d < size c) where
      answered_by : (n : ℕ) (c : C) → size c < n → IsAnswered turn c (f c)
      answered_by zero c fits = absurd (omega arith)
      answered_by (suc n) c fits =
          elim (turn c) as (λ (t : Turn C R). turn c ≡ t → IsAnswered turn c (f c)) [
            | on d ↦ λ is.
                let less : size d < size c = smaller c d is in
                let rest = answered_by n d (omega arith) in
                record { place = rest.place; leads = behind c d rest.place is rest.leads; given = rest.given ∙ ap answer (sym (turns c ∙ ap (by_turn f) is)) }
            | answer r ↦ λ is. record { place = c; leads = here c; given = is ∙ ap answer (sym (turns c ∙ ap (by_turn f) is)) }
          ] refl

      pub answered : (c : C) → IsAnswered turn c (f c)
      answered c = answered_by (suc (size c)) c (omega arith)

  -- what holds of each place, and of the answer that is given there
  pub says_by : (f : C → R) → ((c : C) → f c ≡ by_turn f (turn c)) → (size : C → ℕ) → ((c d : C) → turn c ≡ on d → size d < size c) → (P : C → Type 0) (Q : R → Type 0) → ((c : C) → P c → MatchTurn (turn c) P Q) → (c : C) → P c → Q (f c)
  says_by f turns size smaller P Q turned c h =
      let a = answered f turns size smaller c in
      subst (λ (t : Turn C R). MatchTurn t P Q) a.given (turned a.place (kept c a.place a.leads h))
    where
      kept : (c d : C) → Leads turn c d → P c → P d
      kept c d (here c') p = p
      kept c d (behind c' x d' is rest) p = kept x d' rest (subst (λ (t : Turn C R). MatchTurn t P Q) is (turned c' p))

  -- with turns enough
  module _ (late : R) (size : C → ℕ) (smaller : (c d : C) → turn c ≡ on d → size d < size c) where
    abbrev pub whole : C → R
    whole c = run turn late (suc (size c)) c

    enough : (m n : ℕ) (c : C) → size c < m → size c < n → run turn late m c ≡ run turn late n c
    enough zero n c p q = absurd (omega arith)
    enough (suc m) zero c p q = absurd (omega arith)
    enough (suc m) (suc n) c p q =
        elim (turn c) as (λ (t : Turn C R). turn c ≡ t → by_turn (run turn late m) t ≡ by_turn (run turn late n) t) [
          | on d ↦ λ is. let less : size d < size c = smaller c d is in enough m n d (omega arith) (omega arith)
          | answer r ↦ λ is. refl
        ] refl

    pub whole_turn : (c : C) → whole c ≡ by_turn whole (turn c)
    whole_turn c =
        elim (turn c) as (λ (t : Turn C R). turn c ≡ t → by_turn (run turn late (size c)) t ≡ by_turn whole t) [
          | on d ↦ λ is. let less : size d < size c = smaller c d is in enough (size c) (suc (size d)) d (omega arith) (omega arith)
          | answer r ↦ λ is. refl
        ] refl

-- the last of the tokens
pub passes_last : {X : Type 0} (look : X → Look X) (x z : X) (ts : List Token) (t : Token) → Passes look x (ts ++ t ∷ []) z → (y : X) × ((at : ℕ) × (Passes look x ts y × (look y ≡ token at t z)))
passes_last {X = X} look x z ts t all = split ts x (ts ++ t ∷ []) refl all
  where
    split : (us : List Token) (v : X) (vs : List Token) → vs ≡ us ++ t ∷ [] → Passes look v vs z → (y : X) × ((at : ℕ) × (Passes look v us y × (look y ≡ token at t z)))
    split [] v vs is (no_token w) = cc
    split (u ∷ us) v vs is (no_token w) = cc
    split [] v vs is (more_tokens w y z' at u rest stands more) =
        let same : u ≡ t = cc in
        let none : rest ≡ [] = cc in
        (w, (at, (no_token w, stands ∙ (λ i. token at (same i) (nothing y z' rest none more i)))))
      where
        nothing : (a b : X) (us : List Token) → us ≡ [] → Passes look a us b → a ≡ b
        nothing a b us none (no_token c) = refl
        nothing a b us none (more_tokens c d e at u rest stands more) = cc
    split (u ∷ us) v vs is (more_tokens w y z' at u' rest stands more) =
        let same : u' ≡ u = cc in
        let others : rest ≡ us ++ t ∷ [] = cc in
        let (q, (n, (front, end))) = split us y rest others more in
        (q, (n, (more_tokens w y q at u us (stands ∙ ap (λ (x : Token). token at x y) same) front, end)))

-- Readers of tokens: where turns lead there are tokens, and where tokens lead there are turns.
module _ {S X R : Type 0} (a : Answers S X R) (lim : Limits) (move : S → Token → Move S) (look : X → Look X) where
  stepped_on : (s : S) (at : ℕ) (y : X) (r : Result S TextKind) (d : S × X) → stepped a s at y r ≡ on d → (r ≡ Ok d.0) × (y ≡ d.1)
  stepped_on s at y (Ok z) d is = let same : (z, y) ≡ d = cc in (ap (λ (c : S × X). Ok c.0) same, ap (λ (c : S × X). c.1) same)
  stepped_on s at y (Err k) d is = cc

  unless_on : (o : Option R) (go : Turn (S × X) R) (d : S × X) → unless o go ≡ on d → go ≡ on d
  unless_on None go d is = is
  unless_on (Some r) go d is = cc

  pub front_on : (s : S) (l : Look X) (d : S × X) → at_front a lim move s l ≡ on d → (at : ℕ) × ((t : Token) × ((l ≡ token at t d.1) × (checked lim (move s t) ≡ Ok d.0)))
  front_on s (token at t y) d is =
      let (made, same) = stepped_on s at y (checked lim (move s t)) d (unless_on (a.closes s at t y) (stepped a s at y (checked lim (move s t))) d is) in (at, (t, (ap (token at t) same, made)))
  front_on s (ends at) d is = cc
  front_on s (bad at k) d is = cc

  pub tokens_of : (c d : S × X) → Leads (token_turn a lim move look) c d → (ts : List Token) × (Passes look c.1 ts d.1 × (led move lim c.0 ts ≡ Ok d.0))
  tokens_of c d (here c') = ([], (no_token c'.1, refl))
  tokens_of c d (behind c' x d' is rest) =
      let (at, (t, (stands, made))) = front_on c'.0 (look c'.1) x is in
      let (ts, (passes, leads)) = tokens_of x d' rest in
      (t ∷ ts, (more_tokens c'.1 x.1 d'.1 at t ts stands passes, ap (λ (r : Result S TextKind). r >>= λ (z : S). led move lim z ts) made ∙ leads))

  pub tokens_lead : ((s z : S) (at : ℕ) (t : Token) (y : X) → checked lim (move s t) ≡ Ok z → a.closes s at t y ≡ None) → (s z : S) (x y : X) (ts : List Token) → Passes look x ts y → led move lim s ts ≡ Ok z → Leads (token_turn a lim move look) (s, x) (z, y)
  tokens_lead open_on s z x y ts (no_token x') e = let same : s ≡ z = cc in subst (λ (r : S). Leads (token_turn a lim move look) (s, x') (r, x')) same (here (s, x'))
  tokens_lead open_on s z x y ts (more_tokens x' w y' at t us stands passes) e =
      let (r, (made, rest)) = then_ok (checked lim (move s t)) (λ (q : S). led move lim q us) z e in
      let goes : token_turn a lim move look (s, x') ≡ on (r, w) = ap (at_front a lim move s) stands ∙ (λ i. unless (open_on s r at t w made i) (stepped a s at w (made i))) in
      behind (s, x') (r, w) (z, y') goes (tokens_lead open_on r z w y' us passes rest)
