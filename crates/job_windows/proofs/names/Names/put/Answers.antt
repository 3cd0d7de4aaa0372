use Rattle.std.proofs.Common.{◌≡◌, ℕ, List, cond, string_bytes, sym, ◌∙◌, subst}
use Rattle.std.specs.Prelude.{Some}
use Rattle.std.specs.HashMap.{get_by_text}
use Rattle.std.specs.Str.{bytes_eq}
use Rattle.std.proofs.lemmas.Map.Text.{hash_map_updates_text}
use Rattle.job_windows.proofs.Learned.{known_already, known_more}
use Rattle.job_windows.proofs.names.Names.put.Goals as goal

pub returns-then-contains_key : goal.returns-then-contains_key
returns-then-contains_key c held earlier job known named next =
    known_already earlier job c.args.name.now named c.args.self.now held known (sym c.contains_key.ensures ∙ c.if-contains_key.true)

pub returns : goal.returns
returns c held earlier job known named next =
    let places = c.args.self.now.places in
    let after = c.insert.new.self in
    known_more earlier job c.args.name.now named c.args.self.now (record { places = after }) held c.args.place known next (sym c.contains_key.ensures ∙ c.if-contains_key.false)
    (subst (λ (name : List ℕ). (q : List ℕ) → get_by_text after q ≡ cond (bytes_eq name q) (Some c.args.place) (get_by_text places q)) c.in_ok-name.ensures.ok
    (hash_map_updates_text (string_bytes c.in_ok-name.name) places after (Some c.args.place) c.in_ok-insert.ensures.updates))
