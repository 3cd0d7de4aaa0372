-- A reader that goes token by token within limits: what a token does to what has been read, and what a text means that ends there.
use Rattle.std.specs.Prelude.{◌≡◌, ◌⊎◌, ℕ, if◌then◌else◌, nat_le, List, [], ◌∷◌, ◌++◌, Option, Some, None, Result, Ok, Err}
use Rattle.tptp_tokens.specs.declared.tokens.Token.{Token}
use Rattle.tptp_tokens.specs.declared.tokens.Token.TheVariants.{Comma}
use Rattle.tptp_tokens.specs.declared.tokens.TextKind.{TextKind}
use Rattle.tptp_tokens.specs.declared.tokens.TextKind.TheVariants.{Expected, Deep}
use Rattle.tptp_read.specs.declared.state.Limits.{Limits}

-- what a token does: it can't stand there; it leads on; or it does so within a limit, of which it is the n-th
pub data Limit : Type 0 where
  levels : Limit
  operators : Limit
  variables : Limit

pub data Move (S : Type 0) : Type 0 where
  refused : Move S
  goes : S → Move S
  limited : Limit → ℕ → S → Move S

pub record Reader (S W : Type 0) : Type 0 where
  pub start : S
  pub move : S → Token → Move S
  pub ending : S → Option W

-- the limits are asked last
abbrev pub bound_by : Limits → Limit → ℕ
bound_by lim levels = lim.levels
bound_by lim operators = lim.operators
bound_by lim variables = lim.variables

abbrev pub checked : {S : Type 0} → Limits → Move S → Result S TextKind
checked lim refused = Err Expected
checked lim (goes s) = Ok s
checked lim (limited x n s) = if nat_le n (bound_by lim x) then Ok s else Err Deep

-- what ends too early wants more
abbrev pub or_expected : {W : Type 0} → Option W → Result W TextKind
or_expected None = Err Expected
or_expected (Some w) = Ok w

infixl 10 ◌>>=◌
abbrev pub ◌>>=◌ : {E A B : Type 0} → Result A E → (A → Result B E) → Result B E
(Ok x) >>= f = f x
(Err e) >>= f = Err e

-- how far a list of tokens leads
abbrev pub led : {S : Type 0} → (S → Token → Move S) → Limits → S → List Token → Result S TextKind
led move lim s [] = Ok s
led move lim s (t ∷ ts) = checked lim (move s t) >>= λ z. led move lim z ts

-- A grammar `Means lim ts w` says that the tokens ts are a whole text within the limits that means w. The tokens begin a text within the
-- limits; and within any.
abbrev pub IsFrontIn : {W : Type 0} → (Limits → List Token → W → Type 0) → Limits → List Token → Type 0
IsFrontIn {W} Means lim ts = (more : List Token) × ((w : W) × Means lim (ts ++ more) w)

abbrev pub IsAnyFrontIn : {W : Type 0} → (Limits → List Token → W → Type 0) → List Token → Type 0
IsAnyFrontIn Means ts = (lim : Limits) × IsFrontIn Means lim ts

-- The tokens begin a text within the limits; or they do so without their last token, a comma. (Behind the last variable that a
-- quantifier may have a comma is no fault, though nothing within the limits can follow it.)
abbrev pub IsCleanIn : {W : Type 0} → (Limits → List Token → W → Type 0) → Limits → List Token → Type 0
IsCleanIn Means lim ts = IsFrontIn Means lim ts ⊎ ((front : List Token) × ((ts ≡ front ++ Comma ∷ []) × IsFrontIn Means lim front))

abbrev pub IsNoComma : Token → Type 0
IsNoComma Comma = ⊥
IsNoComma t = Unit {0}

-- why the token t is a fault behind the tokens `before`: no text goes on so; or none within the limits does
abbrev pub BecauseIn : {W : Type 0} → (Limits → List Token → W → Type 0) → Limits → List Token → Token → TextKind → Type 0
BecauseIn Means lim before t Expected = IsAnyFrontIn Means (before ++ t ∷ []) → ⊥
BecauseIn Means lim before t Deep = (IsFrontIn Means lim (before ++ t ∷ []) → ⊥) × (IsAnyFrontIn Means (before ++ t ∷ []) × IsNoComma t)
BecauseIn Means lim before t k = ⊥
