-- The line of a switch is one.
use Rattle.std.proofs.Common.{◌≡◌, ℕ, ◌≤◌, List, [], ◌∷◌, ◌++◌, codes, refl, ap, arith}
use Rattle.std.specs.Prelude.{zero, suc, Some, decimal}
use Rattle.std.specs.Fmt.{digits}
use Rattle.sessions.specs.Switches.{session_of, switch_to, kind_of}
use Rattle.proof_server.specs.Bundles.{switch_line}

-- the number of a session is read as that session
named : (session : ℕ) → session ≤ 15 → session_of (decimal session) ≡ Some session
unfolding digits
named zero few = refl
named (suc zero) few = refl
named (suc (suc zero)) few = refl
named (suc (suc (suc zero))) few = refl
named (suc (suc (suc (suc zero)))) few = refl
named (suc (suc (suc (suc (suc zero))))) few = refl
named (suc (suc (suc (suc (suc (suc zero)))))) few = refl
named (suc (suc (suc (suc (suc (suc (suc zero))))))) few = refl
named (suc (suc (suc (suc (suc (suc (suc (suc zero)))))))) few = refl
named (suc (suc (suc (suc (suc (suc (suc (suc (suc zero))))))))) few = refl
named (suc (suc (suc (suc (suc (suc (suc (suc (suc (suc zero)))))))))) few = refl
named (suc (suc (suc (suc (suc (suc (suc (suc (suc (suc (suc zero))))))))))) few = refl
named (suc (suc (suc (suc (suc (suc (suc (suc (suc (suc (suc (suc zero)))))))))))) few = refl
named (suc (suc (suc (suc (suc (suc (suc (suc (suc (suc (suc (suc (suc zero))))))))))))) few = refl
named (suc (suc (suc (suc (suc (suc (suc (suc (suc (suc (suc (suc (suc (suc zero)))))))))))))) few = refl
named (suc (suc (suc (suc (suc (suc (suc (suc (suc (suc (suc (suc (suc (suc (suc zero))))))))))))))) few = refl
named (suc (suc (suc (suc (suc (suc (suc (suc (suc (suc (suc (suc (suc (suc (suc (suc n)))))))))))))))) few = absurd (omega (arith, few))

pub is_switch : (session : ℕ) → session ≤ 15 → (line : List ℕ) × (switch_line session ≡ line ++ 10 ∷ []) × (kind_of line ≡ switch_to (Some session))
is_switch session few = (codes "@" ++ decimal session, refl, ap switch_to (named session few))
