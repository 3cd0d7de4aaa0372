-- A part that has a session's number gets bytes.
use Rattle.std.proofs.Common.{◌≡◌, ℕ, suc, ◌<◌, cond, Bool, List, ◌∷◌, ◌++◌, length, get_or, set, take, drop, sym, ap, ◌∙◌}
use Rattle.std.proofs.Common.{eq-eqb, arith, length-set, append-nil}
use Rattle.std.specs.Prelude.{Result, Ok, Err, OnOk, is_ok}
use Rattle.std.proofs.lemmas.List.{set_split, map-append, take_all, drop_all}
use Rattle.std.proofs.Math.Seq.{drop-cons}
use Rattle.sessions.specs.declared.parts.Part.{Part}
use Rattle.sessions.specs.Parts.{Section, section_of, sections, add_to}

-- the first of these parts is the session's
add_to_first : (session : ℕ) (bytes : List ℕ) (part : Part) (parts : List Part) → part.session ≡ session
    → add_to session bytes (sections (part ∷ parts)) ≡ record { session = part.session; bytes = part.bytes.items ++ bytes } ∷ sections parts
add_to_first session bytes part parts same =
    let longer : Section = record { session = part.session; bytes = part.bytes.items ++ bytes } in
    ap (λ (t : Bool). cond t (longer ∷ sections parts) (section_of part ∷ add_to session bytes (sections parts))) (eq-eqb part.session session same)

-- the part at a place got the bytes, behind parts that are not the session's
added_at : (session : ℕ) (bytes : List ℕ) (parts : List Part) (i : ℕ) (d new : Part) → i < length parts
    → (get_or parts i d).session ≡ session
    → section_of new ≡ record { session = (get_or parts i d).session; bytes = (get_or parts i d).bytes.items ++ bytes }
    → add_to session bytes (sections parts) ≡ sections (take i parts) ++ add_to session bytes (sections (drop i parts))
    → sections (set parts i new) ≡ add_to session bytes (sections parts)
added_at session bytes parts i d new within same adds passed =
    ap sections (set_split parts i new within)
    ∙ map-append section_of (take i parts) (new ∷ drop (suc i) parts)
    ∙ ap (λ (x : Section). sections (take i parts) ++ x ∷ sections (drop (suc i) parts)) adds
    ∙ ap (λ (x : List Section). sections (take i parts) ++ x) (sym (add_to_first session bytes (get_or parts i d) (drop (suc i) parts) same))
    ∙ ap (λ (x : List Part). sections (take i parts) ++ add_to session bytes (sections x)) (sym (drop-cons parts i d within))
    ∙ sym passed

-- a list written back to a vector of its length is all that it holds
written_back : (len : ℕ) (now parts : List Part) → length now ≡ len → length parts ≡ len → take len (now ++ drop (length now) parts) ≡ now
written_back len now parts full size =
    ap (λ (x : List Part). take len (now ++ x)) (drop_all (length now) parts (omega arith))
    ∙ ap (take len) (append-nil now)
    ∙ take_all len now (omega arith)

-- so it did, if there was memory
pub added_if : {E : Type 0} (r : Result (Unit {0}) E) (session : ℕ) (bytes more : List ℕ) (parts now : List Part) (len i : ℕ) (d new : Part)
    → length parts ≡ len → now ≡ parts → i < length now → (get_or now i d).session ≡ session → new.session ≡ (get_or now i d).session
    → new.bytes.items ≡ cond (is_ok r) ((get_or now i d).bytes.items ++ more) ((get_or now i d).bytes.items) → more ≡ bytes
    → add_to session bytes (sections parts) ≡ sections (take i now) ++ add_to session bytes (sections (drop i now))
    → OnOk r (sections (take len (set now i new ++ drop (length (set now i new)) parts)) ≡ add_to session bytes (sections parts))
added_if (Ok x) session bytes more parts now len i d new size same within here kept got all passed =
    let adds : section_of new ≡ record { session = (get_or now i d).session; bytes = (get_or now i d).bytes.items ++ bytes } =
    ap (λ (n : ℕ). let s : Section = record { session = n; bytes = new.bytes.items } in s) kept
    ∙ ap (λ (x : List ℕ). let s : Section = record { session = (get_or now i d).session; bytes = x } in s)
    (got ∙ ap (λ (x : List ℕ). (get_or now i d).bytes.items ++ x) all) in
    let passed' : add_to session bytes (sections now) ≡ sections (take i now) ++ add_to session bytes (sections (drop i now)) =
    ap (λ (x : List Part). add_to session bytes (sections x)) same ∙ passed in
    ap sections (written_back len (set now i new) parts (omega (arith, length-set now i new, ap length same)) size)
    ∙ added_at session bytes now i d new within here adds passed'
    ∙ ap (λ (x : List Part). add_to session bytes (sections x)) same
added_if (Err e) session bytes more parts now len i d new size same within here kept got all passed = tt
