-- Reading by turns: from each place a reader goes on to another one, or it has its answer.
use Rattle.std.specs.Prelude.{◌≡◌, ℕ, zero, suc, List, [], ◌∷◌, Option, Some, None, Result, Ok, Err}
use Rattle.tptp_tokens.specs.declared.tokens.Token.{Token}
use Rattle.tptp_tokens.specs.declared.tokens.TextKind.{TextKind}
use Rattle.tptp_read.specs.declared.state.Limits.{Limits}
use Rattle.tptp_read.specs.Reader.{Move, checked}

pub data Turn (C R : Type 0) : Type 0 where
  on : C → Turn C R
  answer : R → Turn C R

abbrev pub by_turn : {C R : Type 0} → (C → R) → Turn C R → R
by_turn f (on c) = f c
by_turn f (answer r) = r

-- the answer from a place on, if it comes within n turns
abbrev pub run : {C R : Type 0} → (C → Turn C R) → R → ℕ → C → R
run turn late zero c = late
run turn late (suc n) c = by_turn (run turn late n) (turn c)

-- the turns lead from one place to another
pub data Leads {C R : Type 0} (turn : C → Turn C R) : C → C → Type 0 where
  here : (c : C) → Leads turn c c
  behind : (c d e : C) → turn c ≡ on d → Leads turn d e → Leads turn c e

-- what stands at the front of a text: a token and its place, and what is behind it; the end; or bytes that are no token
pub data Look (X : Type 0) : Type 0 where
  token : ℕ → Token → X → Look X
  ends : ℕ → Look X
  bad : ℕ → TextKind → Look X

-- the tokens stand at the front, and the second text is behind them
pub data Passes {X : Type 0} (look : X → Look X) : X → List Token → X → Type 0 where
  no_token : (x : X) → Passes look x [] x
  more_tokens : (x y z : X) (at : ℕ) (t : Token) (ts : List Token) → look x ≡ token at t y → Passes look y ts z → Passes look x (t ∷ ts) z

-- what is answered: at a token that ends the text, if it does; at one that is refused; at the end; and at bytes that are no token
pub record Answers (S X R : Type 0) : Type 0 where
  pub closes : S → ℕ → Token → X → Option R
  pub stops : S → ℕ → TextKind → R
  pub ends_text : S → ℕ → R
  pub breaks : ℕ → TextKind → R

-- one turn of a reader of tokens
abbrev pub stepped : {S X R : Type 0} → Answers S X R → S → ℕ → X → Result S TextKind → Turn (S × X) R
stepped a s at y (Ok z) = on (z, y)
stepped a s at y (Err k) = answer (a.stops s at k)

abbrev pub unless : {C R : Type 0} → Option R → Turn C R → Turn C R
unless None go = go
unless (Some r) go = answer r

abbrev pub at_front : {S X R : Type 0} → Answers S X R → Limits → (S → Token → Move S) → S → Look X → Turn (S × X) R
at_front a lim move s (token at t y) = unless (a.closes s at t y) (stepped a s at y (checked lim (move s t)))
at_front a lim move s (ends at) = answer (a.ends_text s at)
at_front a lim move s (bad at k) = answer (a.breaks at k)

abbrev pub token_turn : {S X R : Type 0} → Answers S X R → Limits → (S → Token → Move S) → (X → Look X) → S × X → Turn (S × X) R
token_turn a lim move look c = at_front a lim move c.0 (look c.1)
