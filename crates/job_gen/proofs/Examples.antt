-- Worked examples: a derivation, the elimination of its cuts, the chain of two implications, and a derivation with one further cut.
use Rattle.std.proofs.Common.{◌≡◌, [], ◌∷◌, ◌++◌, codes, refl}
use Rattle.std.specs.Fmt.{digits}
use Rattle.json.specs.Print.{escape_byte}
use Rattle.job_gen.specs.Generated.{job_data, generated_line, generated}

-- a derivation without further cuts
first_line : generated_line 0 ≡
    codes "{\"job\":\"g0\",\"op\":\"lk\",\"steps\":["
    ++ (codes "{\"left\":[\"p\"],\"main\":\"p\",\"premises\":[],\"right\":[\"p\"],\"rule\":\"ax\"},"
    ++ (codes "{\"left\":[\"q\"],\"main\":\"q\",\"premises\":[],\"right\":[\"q\"],\"rule\":\"ax\"},"
    ++ (codes "{\"left\":[\"p\",\"q\"],\"main\":\"p & q\",\"premises\":[0,1],\"right\":[\"p & q\"],\"rule\":\"andR\"},"
    ++ (codes "{\"left\":[\"p & q\"],\"main\":\"p & q\",\"premises\":[0],\"right\":[\"p\"],\"rule\":\"andL\"},"
    ++ (codes "{\"left\":[\"p\",\"q\"],\"main\":\"p & q\",\"premises\":[2,3],\"right\":[\"p\"],\"rule\":\"cut\"}]}" ++ 10 ∷ [])))))
unfolding generated_line job_data escape_byte digits
first_line = refl

-- its cuts are eliminated
second_line : generated_line 1 ≡
    codes "{\"job\":\"g1\",\"op\":\"cutelim\",\"proof\":\"g0\"}" ++ 10 ∷ []
unfolding generated_line job_data escape_byte digits
second_line = refl

-- the chain of two links
fifth_line : generated_line 4 ≡
    codes "{\"job\":\"g4\",\"left\":[7,6],\"nodes\":["
    ++ (codes "{\"formula\":\"p(a)\",\"kind\":\"leaf\"},{\"formula\":\"p(f(a))\",\"kind\":\"leaf\"},{\"kind\":\"imp\",\"of\":[0,1]},"
    ++ (codes "{\"formula\":\"p(f(a))\",\"kind\":\"leaf\"},{\"formula\":\"p(f(f(a)))\",\"kind\":\"leaf\"},{\"kind\":\"imp\",\"of\":[3,4]},"
    ++ (codes "{\"formula\":\"![X]: (p(X) => p(f(X)))\",\"instances\":[{\"of\":2,\"term\":\"a\"},{\"of\":5,\"term\":\"f(a)\"}],\"kind\":\"weak\"},"
    ++ (codes "{\"formula\":\"p(a)\",\"kind\":\"leaf\"},{\"formula\":\"p(f(f(a)))\",\"kind\":\"leaf\"}],\"op\":\"expansion\",\"right\":[8]}" ++ 10 ∷ []))))
unfolding generated_line job_data escape_byte digits
fifth_line = refl

-- a derivation with one further cut
ninth_line : generated_line 8 ≡
    codes "{\"job\":\"g8\",\"op\":\"lk\",\"steps\":["
    ++ (codes "{\"left\":[\"p\"],\"main\":\"p\",\"premises\":[],\"right\":[\"p\"],\"rule\":\"ax\"},"
    ++ (codes "{\"left\":[\"q\"],\"main\":\"q\",\"premises\":[],\"right\":[\"q\"],\"rule\":\"ax\"},"
    ++ (codes "{\"left\":[\"p\",\"q\"],\"main\":\"p & q\",\"premises\":[0,1],\"right\":[\"p & q\"],\"rule\":\"andR\"},"
    ++ (codes "{\"left\":[\"p & q\"],\"main\":\"p & q\",\"premises\":[0],\"right\":[\"p\"],\"rule\":\"andL\"},"
    ++ (codes "{\"left\":[\"p\",\"q\"],\"main\":\"p & q\",\"premises\":[2,3],\"right\":[\"p\"],\"rule\":\"cut\"},"
    ++ (codes "{\"left\":[\"p\",\"q\"],\"main\":\"p\",\"premises\":[4,0],\"right\":[\"p\"],\"rule\":\"cut\"}]}" ++ 10 ∷ []))))))
unfolding generated_line job_data escape_byte digits
ninth_line = refl

-- two jobs, one line behind the other
two_lines : generated 2 ≡ generated_line 0 ++ (generated_line 1 ++ [])
unfolding generated
two_lines = refl
