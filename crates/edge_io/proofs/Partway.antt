-- The steps of `next_line`, over plain variables.
use Rattle.std.proofs.Common.{◌≡◌, ℕ, ◌+◌, ◌<◌, ◌≤◌, true, false, List, [], ◌∷◌, ◌++◌, length, take, drop, get_or, Some, None, refl, sym, ap, ◌∙◌, subst, inl, inr, arith, append_assoc, append-nil, length-append, length-take, take-append-drop}
use Rattle.std.proofs.KnownBytes.{Consumes-trans}
use Rattle.std.proofs.lemmas.Bool.Decides.{nat_tests}
use Rattle.std.proofs.lemmas.List.{get_or-take, drop_more, drop_all}
use Rattle.std.proofs.lemmas.List.Elements.{All-from_get_or, All-append}
use Rattle.std.proofs.lemmas.List.Quantifiers.{position-Some}
use Rattle.std.proofs.lemmas.List.Sums.{fails_before_first}
use Rattle.std.specs.List.{position, position_or_len}
use Rattle.std.specs.Prelude.{Option}
use Rattle.std.specs.Io.KnownBytes.{Consumes, IsAtEnd}
use Rattle.edge_io.specs.declared.lines.LineSoFar.{LineSoFar}
use Rattle.edge_io.specs.declared.lines.LineSoFar.TheVariants.{Kept, Skipped}
use Rattle.edge_io.specs.Causes.{Rose}
use Rattle.edge_io.specs.Lines.{is_newline, OneLine}
use Rattle.edge_io.specs.LineSoFar.{IsSoFar, is_nothing, next_of, Grows, TakesPiece}
use Rattle.edge_io.specs.Reader.{Reader, allowance}
use Rattle.edge_io.specs.Reading.{Tells, HandsOn, CutsOff, Overflows, LacksMemory, Answers}
use Rattle.edge_io.specs.Refilling.{TakesBytes, TakesByteTooMany}

-- the first newline cuts the bytes in two
pub newline_cuts : (bytes : List ℕ) (i : ℕ) → position is_newline bytes ≡ Some i
    → (i < length bytes) × OneLine (take i bytes) × (bytes ≡ take i bytes ++ 10 ∷ drop (i + 1) bytes)
newline_cuts bytes i at =
    let found = position-Some is_newline bytes i 0 at in
    let within : i < length bytes = found.0 in
    let ten : get_or bytes i 0 ≡ 10 = grind (arith, nat_tests, found.1) in (
      within,
      All-from_get_or (λ b. is_newline b ≡ false) (take i bytes) 0
          (λ k h. let below : k < i = omega (arith, length-take i bytes) in
          ap is_newline (get_or-take i bytes k 0 below) ∙ found.2 k below),
      sym (take-append-drop i bytes) ∙ ap (λ (l : List ℕ). take i bytes ++ l)
          (drop_more bytes i 0 within ∙ ap (λ (b : ℕ). b ∷ drop (i + 1) bytes) ten),
    )

-- with no newline all bytes are of one line
pub no_newline : (bytes : List ℕ) → position is_newline bytes ≡ None → OneLine bytes
no_newline bytes none =
    let all : length bytes ≤ position_or_len is_newline bytes = grind (arith, nat_tests, none) in
    All-from_get_or (λ b. is_newline b ≡ false) bytes 0
    (λ k h. fails_before_first is_newline bytes k 0 (omega arith))

-- a piece before a newline went to the line
pub takes_whole : (max i : ℕ) (old new : LineSoFar) (from to : Reader) (pending : List ℕ) → pending ≡ from.pending
    → position is_newline pending ≡ Some i → Grows old new max (take i pending) → to ≡ record from { pending = drop (i + 1) from.pending }
    → TakesPiece true max old new from to
takes_whole max i old new from to pending is at grows moved =
    let found = newline_cuts pending i at in
    let rest : to.pending ≡ drop (i + 1) from.pending = ap (λ (r : Reader). r.pending) moved in
    record {
      piece = take i pending;
      one = found.1;
      grows = grows;
      split = sym is ∙ found.2 ∙ ap (λ (l : List ℕ). take i pending ++ 10 ∷ l) (ap (drop (i + 1)) is ∙ sym rest);
      same = moved ∙ ap (λ (l : List ℕ). record from { pending = l }) (sym rest);
    }

-- all pending bytes went to the line
pub takes_part : (max : ℕ) (old new : LineSoFar) (from to : Reader) (pending : List ℕ) → pending ≡ from.pending
    → position is_newline pending ≡ None → Grows old new max pending → to ≡ record from { pending = drop (length pending) from.pending }
    → TakesPiece false max old new from to
takes_part max old new from to pending is none grows moved =
    let rest : to.pending ≡ drop (length pending) from.pending = ap (λ (r : Reader). r.pending) moved in
    let nil : drop (length pending) from.pending ≡ [] = ap (drop (length pending)) (sym is) ∙ drop_all (length pending) pending (omega arith) in
    record {
      piece = pending;
      one = no_newline pending none;
      grows = grows;
      split = (sym is, rest ∙ nil);
      same = moved ∙ ap (λ (l : List ℕ). record from { pending = l }) (sym rest);
    }

-- a line was begun: what was pending and what was taken since are the line so far and what is pending now
pub record IsPartway (max : ℕ) (line : LineSoFar) (old now : Reader) (before after : Option (List ℕ)) : Type 0 where
  pub began : old.at_end ≡ false
  pub got : List ℕ
  pub taken : List ℕ
  pub so_far : IsSoFar line max got
  pub one : OneLine got
  pub from : Consumes before after taken
  pub bytes : old.pending ++ taken ≡ got ++ now.pending
  pub within : allowance old ≡ length got + allowance now
  pub fresh : now.at_end ≡ false
  pub goes_on : now.ended ≡ false

-- ---- what a line so far stands for

stands_for_some : (line : LineSoFar) (max : ℕ) (got : List ℕ) → is_nothing line ≡ false → IsSoFar line max got → 0 < length got
stands_for_some (Kept v) max got some so_far =
    let more : 0 < length v.items = grind (arith, nat_tests, some) in
    omega (arith, ap length so_far.0)
stands_for_some Skipped max got some so_far = omega arith

tells_next : (line : LineSoFar) (max : ℕ) (got : List ℕ) → IsSoFar line max got → Tells (next_of line) max got
tells_next (Kept v) max got so_far = so_far
tells_next Skipped max got so_far = so_far

pub answers_next : (line : LineSoFar) (max f f' : ℕ) (old new : Reader) (before after : Option (List ℕ))
    → HandsOn (next_of line) max old new before after → Answers (next_of line) max f f' old new before after
answers_next (Kept v) max f f' old new before after h = h
answers_next Skipped max f f' old new before after h = h

-- ---- the steps of the loop

-- a part of the line was moved to it, and nothing is pending
pub moves_part : (line line' : LineSoFar) (max : ℕ) (old now now' : Reader) (before after : Option (List ℕ)) → IsPartway max line old now before after
    → TakesPiece false max line line' now now' → IsPartway max line' old now' before after
moves_part line line' max old now now' before after p t =
    let room : now'.room ≡ now.room = ap (λ (r : Reader). r.room) t.same in
    record {
      began = p.began;
      got = p.got ++ t.piece;
      taken = p.taken;
      so_far = t.grows p.got p.so_far;
      one = All-append (λ b. is_newline b ≡ false) p.got t.piece p.one t.one;
      from = p.from;
      bytes = p.bytes ∙ ap (λ (l : List ℕ). p.got ++ l) t.split.0 ∙ sym (append-nil (p.got ++ t.piece))
          ∙ ap (λ (l : List ℕ). (p.got ++ t.piece) ++ l) (sym t.split.1);
      within = omega (arith, p.within, room, ap length t.split.0, ap length t.split.1, length-append p.got t.piece);
      fresh = ap (λ (r : Reader). r.at_end) t.same ∙ p.fresh;
      goes_on = ap (λ (r : Reader). r.ended) t.same ∙ p.goes_on;
    }

-- the rest of the line was moved to it, and its newline was taken
pub moves_rest : (line line' : LineSoFar) (max : ℕ) (old now now' : Reader) (before after : Option (List ℕ)) → IsPartway max line old now before after
    → TakesPiece true max line line' now now' → HandsOn (next_of line') max old now' before after
moves_rest line line' max old now now' before after p t =
    let room : now'.room ≡ now.room = ap (λ (r : Reader). r.room) t.same in
    let joined : p.got ++ (t.piece ++ 10 ∷ now'.pending) ≡ ((p.got ++ t.piece) ++ 10 ∷ []) ++ now'.pending =
    sym (append_assoc p.got t.piece (10 ∷ now'.pending)) ∙ sym (append_assoc (p.got ++ t.piece) (10 ∷ []) now'.pending) in
    let bytes = ap (λ (l : List ℕ). p.got ++ l) t.split ∙ joined in
    record {
      line = p.got ++ t.piece;
      text = (p.got ++ t.piece) ++ 10 ∷ [];
      taken = p.taken;
      fresh = p.began;
      told = tells_next line' max (p.got ++ t.piece) (t.grows p.got p.so_far);
      one = All-append (λ b. is_newline b ≡ false) p.got t.piece p.one t.one;
      whole = inl (ap (λ (r : Reader). r.at_end) t.same ∙ p.fresh, refl);
      from = p.from;
      bytes = p.bytes ∙ bytes;
      within = omega (arith, p.within, room, ap length bytes, length-append p.got now.pending, length-append ((p.got ++ t.piece) ++ 10 ∷ []) now'.pending);
      goes_on = ap (λ (r : Reader). r.ended) t.same ∙ p.goes_on;
    }

-- more bytes were taken
pub takes_more : (line : LineSoFar) (max : ℕ) (old now now' : Reader) (before mid after : Option (List ℕ)) → IsPartway max line old now before mid
    → now.pending ≡ [] → TakesBytes now now' mid after → IsPartway max line old now' before after
takes_more line max old now now' before mid after p none t =
    let bytes : old.pending ++ (p.taken ++ t.0) ≡ p.got ++ t.0 =
    sym (append_assoc old.pending p.taken t.0) ∙ ap (λ (l : List ℕ). l ++ t.0) (p.bytes ∙ ap (λ (l : List ℕ). p.got ++ l) none ∙ append-nil p.got) in
    record {
      began = p.began;
      got = p.got;
      taken = p.taken ++ t.0;
      so_far = p.so_far;
      one = p.one;
      from = Consumes-trans before mid after p.taken t.0 p.from t.1;
      bytes = bytes ∙ ap (λ (r : Reader). p.got ++ r.pending) (sym t.4);
      within = omega (arith, p.within, ap length none, t.3, ap (λ (r : Reader). length r.pending) t.4, ap (λ (r : Reader). r.room) t.4);
      fresh = ap (λ (r : Reader). r.at_end) t.4 ∙ p.fresh;
      goes_on = ap (λ (r : Reader). r.ended) t.4 ∙ p.goes_on;
    }

-- ---- the ends of the loop

-- with nothing pending, what was pending and what was taken are the line so far
all_got : (line : LineSoFar) (max : ℕ) (old now : Reader) (before after : Option (List ℕ)) → (p : IsPartway max line old now before after)
    → now.pending ≡ [] → old.pending ++ p.taken ≡ p.got
all_got line max old now before after p none = p.bytes ∙ ap (λ (l : List ℕ). p.got ++ l) none ∙ append-nil p.got

-- a last line without newline
pub ends_line : (line : LineSoFar) (max : ℕ) (old now now' : Reader) (before mid after : Option (List ℕ)) → IsPartway max line old now before mid
    → now.pending ≡ [] → Consumes mid after [] → IsAtEnd after → now' ≡ record now { at_end = true } → is_nothing line ≡ false
    → HandsOn (next_of line) max old now' before after
ends_line line max old now now' before mid after p none nothing end new some =
    let pending : now'.pending ≡ [] = ap (λ (r : Reader). r.pending) new ∙ none in
    record {
      line = p.got;
      text = p.got;
      taken = p.taken;
      fresh = p.began;
      told = tells_next line max p.got p.so_far;
      one = p.one;
      whole = inr (ap (λ (r : Reader). r.at_end) new, refl, stands_for_some line max p.got some p.so_far, pending, end);
      from = subst (λ (l : List ℕ). Consumes before after l) (append-nil p.taken) (Consumes-trans before mid after p.taken [] p.from nothing);
      bytes = p.bytes ∙ ap (λ (r : Reader). p.got ++ r.pending) (sym new);
      within = omega (arith, p.within, ap (λ (r : Reader). length r.pending) new, ap (λ (r : Reader). r.room) new);
      goes_on = ap (λ (r : Reader). r.ended) new ∙ p.goes_on;
    }

-- a read failed in the midst of a line
pub cuts_off : (line : LineSoFar) (max : ℕ) (old now : Reader) (before mid after : Option (List ℕ)) → IsPartway max line old now before mid
    → now.pending ≡ [] → Consumes mid after [] → CutsOff old before after
cuts_off line max old now before mid after p none nothing =
    let all = all_got line max old now before mid p none in (
      p.taken,
      subst (λ (l : List ℕ). Consumes before after l) (append-nil p.taken) (Consumes-trans before mid after p.taken [] p.from nothing),
      subst OneLine (sym all) p.one,
      omega (arith, p.within, ap length all),
    )

-- memory ran out in the midst of a line
pub lacks_memory : (line : LineSoFar) (max : ℕ) (old now new : Reader) (before after : Option (List ℕ)) → IsPartway max line old now before after
    → new.pending ≡ now.pending → new.room ≡ now.room → LacksMemory old new before after
lacks_memory line max old now new before after p pending room = record {
  part = p.got;
  taken = p.taken;
  one = p.one;
  from = p.from;
  bytes = p.bytes ∙ ap (λ (l : List ℕ). p.got ++ l) (sym pending);
  within = omega (arith, p.within, ap length pending, room);
}

-- a byte past the limit came in the midst of a line
pub overflows : (line : LineSoFar) (max : ℕ) (old now : Reader) (before mid after : Option (List ℕ)) → IsPartway max line old now before mid
    → now.pending ≡ [] → TakesByteTooMany now mid after → Overflows old before after
overflows line max old now before mid after p none t =
    let all = all_got line max old now before mid p none in (
      p.taken,
      t.0,
      Consumes-trans before mid after p.taken (t.0 ∷ []) p.from t.1,
      subst OneLine (sym all) p.one,
      omega (arith, p.within, ap length all, ap length none, t.2),
    )

pub rose_since : (first old new : ℕ) → first ≤ old → Rose old new → Rose first new
rose_since first old new kept (inl more) = inl (omega arith)
rose_since first old new kept (inr top) = inr top
