-- What is written of the sessions of a bundle.
use Rattle.std.proofs.Common.{◌≡◌, ℕ, ◌+◌, ◌==◌, ◌<◌, ◌≤◌, Bool, true, false, cond, ◌&&◌, List, [], ◌∷◌, ◌++◌, length, take, get_or, refl, sym, ap, ◌∙◌, subst, inl, inr, arith, append_assoc, append-nil, add-one}
use Rattle.std.specs.Prelude.{zero, suc, Option, Ok, Err}
use Rattle.std.specs.List.{AllZip}
use Rattle.std.specs.Io.KnownBytes.{Appends}
use Rattle.std.proofs.KnownBytes.{Consumes-nil, Appends-nil, Appends-trans}
use Rattle.std.proofs.lemmas.List.{take_all, take-map, map-append}
use Rattle.std.proofs.Math.Seq.{take-append-add}
use Rattle.edge_io.specs.Causes.{Rose}
use Rattle.edge_io.specs.Lines.{lines_of}
use Rattle.sessions.specs.declared.parts.Part.{Part}
use Rattle.sessions.specs.Parts.{Section, section_of, sections}
use Rattle.sessions.specs.Reading.{IsWhole, IsPartTaken}
use Rattle.session_laws.specs.Session.{Replies, all_ok}
use Rattle.proof_server.specs.Parts.{Comes, IsServed}
use Rattle.proof_server.specs.Bundles.{switch_line, AreReplies, AreBegun, WritesSessions, IsRead, ArePartWritten}
use Rattle.proof_server.specs.declared.parts.Done.{Done}
use Rattle.proof_server.specs.declared.session.Stop.TheVariants as stop
use Rattle.proof_server.proofs.Midway.{Rose-since}

-- ---- the replies of one session more

and_true : (a : Bool) → a ≡ (a && true)
and_true true = refl
and_true false = refl

and_later : (a b c : Bool) → ((a && b) && c) ≡ (a && (b && c))
and_later true b c = refl
and_later false b c = refl

pub replies_behind : (parts : List Section) (part : Section) (good : Bool) (written replies : List ℕ) → AreReplies parts good written
    → (r : Replies (lines_of part.bytes) replies) → AreReplies (parts ++ part ∷ []) (good && all_ok r.done) (written ++ (switch_line part.session ++ replies))
replies_behind [] part good written replies none r =
    let behind = switch_line part.session ++ replies in (
      replies,
      [],
      true,
      r,
      ap (λ (b : Bool). b && all_ok r.done) none.0 ∙ and_true (all_ok r.done),
      ap (λ (x : List ℕ). x ++ behind) none.1 ∙ ap (λ (x : List ℕ). switch_line part.session ++ x) (sym (append-nil replies)),
      (refl, refl),
    )
replies_behind (first ∷ parts) part good written replies all r =
    let behind = switch_line part.session ++ replies in
    let ok = all_ok r.done in (
      all.0,
      all.1 ++ behind,
      all.2 && ok,
      all.3,
      ap (λ (b : Bool). b && ok) all.4 ∙ and_later (all_ok all.3.done) all.2 ok,
      ap (λ (x : List ℕ). x ++ behind) all.5 ∙ append_assoc (switch_line first.session) (all.0 ++ all.1) behind
          ∙ ap (λ (x : List ℕ). switch_line first.session ++ x) (append_assoc all.0 all.1 behind),
      replies_behind parts part all.2 all.1 replies all.6 r,
    )

-- what it came to where memory didn't run out
answered : (lines : List (List ℕ)) (status : ℕ) (bytes : List ℕ) → Comes lines status bytes → ¬ (status ≡ 5) → (r : Replies lines bytes) × ((status == 0) ≡ all_ok r.done)
answered lines status bytes (inl whole) ample = (whole.0, ap (λ (n : ℕ). n == 0) whole.1 ∙ told (all_ok whole.0.done))
  where
    told : (ok : Bool) → (cond ok 0 1 == 0) ≡ ok
    told true = refl
    told false = refl
answered lines status bytes (inr part) ample = absurd (ample part.0)

-- two lists of as many, with one more at the same place
as_many : {A B : Type 0} (R : A → B → Type 0) (xs : List A) (ys : List B) → AllZip R xs ys → length xs ≡ length ys
as_many R [] [] zip = refl
as_many R [] (y ∷ ys) zip = absurd zip
as_many R (x ∷ xs) [] zip = absurd zip
as_many R (x ∷ xs) (y ∷ ys) zip = omega (arith, as_many R xs ys zip.1)

one_more : {A B : Type 0} (R : A → B → Type 0) (xs : List A) (ys : List B) (i : ℕ) (y : B) → AllZip R xs ys → i < length ys → y ≡ get_or ys i y
    → (x : A) × (take (suc i) xs ≡ take i xs ++ x ∷ []) × R x y
one_more R [] [] i y zip inside is = absurd (omega (arith, inside))
one_more R [] (other ∷ ys) i y zip inside is = absurd zip
one_more R (x ∷ xs) [] i y zip inside is = absurd zip
one_more R (x ∷ xs) (first ∷ ys) zero y zip inside is = (x, refl, subst (R x) (sym is) zip.0)
one_more R (x ∷ xs) (first ∷ ys) (suc i) y zip inside is =
    let rest = one_more R xs ys i y zip.1 (omega (arith, inside)) is in
    (rest.0, ap (λ r. x ∷ r) rest.1, rest.2)

-- the replies of the first sessions were written
abbrev pub AreWritten : List Part → ℕ → Bool → Option (List ℕ) → Option (List ℕ) → Type 0
AreWritten parts i good old new = (written : List ℕ) × Appends old new written × AreReplies (sections (take i parts)) good written

-- with these bytes, those of one more are
record IsNext (parts : List Part) (i : ℕ) (good : Bool) (written : List ℕ) (done : Done) : Type 0 where
  pub replies : AreReplies (sections (take (i + 1) parts)) (good && (done.status == 0)) (written ++ (switch_line done.session ++ done.bytes.items))

next : (parts : List Part) (dones : List Done) (i : ℕ) (done : Done) (good : Bool) (written : List ℕ) → AllZip IsServed parts dones → i < length dones
    → done ≡ get_or dones i done → ¬ (done.status ≡ 5) → AreReplies (sections (take i parts)) good written → IsNext parts i good written done
next parts dones i done good written zip inside is ample so_far =
    let more = one_more IsServed parts dones i done zip inside is in
    let part = more.0 in
    let came = answered (lines_of part.bytes.items) done.status done.bytes.items more.2.comes ample in
    let behind = replies_behind (sections (take i parts)) (section_of part) good written done.bytes.items so_far came.0 in
    let all : sections (take (i + 1) parts) ≡ sections (take i parts) ++ section_of part ∷ [] =
    ap (λ (n : ℕ). sections (take n parts)) (add-one i) ∙ ap sections more.1 ∙ map-append section_of (take i parts) (part ∷ []) in
    record {
      replies = subst (λ (ps : List Section). AreReplies ps (good && (done.status == 0)) (written ++ (switch_line done.session ++ done.bytes.items))) (sym all)
          (subst (λ (b : Bool). AreReplies (sections (take i parts) ++ section_of part ∷ []) (good && b) (written ++ (switch_line done.session ++ done.bytes.items))) (sym came.1)
          (subst (λ (s : ℕ). AreReplies (sections (take i parts) ++ section_of part ∷ []) (good && all_ok came.0.done) (written ++ (switch_line s ++ done.bytes.items))) (sym more.2.session) behind));
    }

-- before the first session nothing is written
pub none_written : (parts : List Part) (old : Option (List ℕ)) → AreWritten parts 0 true old old
none_written parts old = ([], Appends-nil old, (refl, refl))

module _ (parts : List Part) (dones : List Done) (zip : AllZip IsServed parts dones) (k k1 : ℕ) (old mid : Option (List ℕ)) (kept : k ≤ k1) where
  -- one more session is written
  pub one_written : (i : ℕ) (done : Done) (good : Bool) (new : Option (List ℕ)) → i < length dones → done ≡ get_or dones i done → ¬ (done.status ≡ 5)
      → AreWritten parts i good old mid → Appends mid new (switch_line done.session ++ done.bytes.items) → AreWritten parts (i + 1) (good && (done.status == 0)) old new
  one_written i done good new inside is ample so_far more = (
    so_far.0 ++ (switch_line done.session ++ done.bytes.items),
    Appends-trans old mid new so_far.0 (switch_line done.session ++ done.bytes.items) so_far.1 more,
    (next parts dones i done good so_far.0 zip inside is ample so_far.2).replies,
  )

  -- all are
  pub all_written : (good : Bool) → AreWritten parts (length dones) good old mid → WritesSessions (Ok good) (sections parts) k k1 old mid
  all_written good so_far = (
    so_far.0,
    so_far.1,
    subst (λ (ps : List Part). AreReplies (sections ps) good so_far.0) (take_all (length dones) parts (omega (arith, as_many IsServed parts dones zip))) so_far.2,
  )

  -- memory ran out for the next one
  pub lacking : (i : ℕ) (good : Bool) → AreWritten parts i good old mid → WritesSessions (Err stop.Memory) (sections parts) k k1 old mid
  lacking i good so_far = (
    so_far.0,
    so_far.1,
    record {
      first = i;
      good = good;
      all = so_far.0;
      replies = subst (λ (ps : List Section). AreReplies ps good so_far.0) (sym (take-map section_of i parts)) so_far.2;
      front = (length so_far.0, sym (take_all (length so_far.0) so_far.0 (omega arith)));
    },
  )

  -- a call failed while the next one was written
  pub failing : (i : ℕ) (done : Done) (good : Bool) (k2 : ℕ) (new : Option (List ℕ)) → i < length dones → done ≡ get_or dones i done → ¬ (done.status ≡ 5)
      → AreWritten parts i good old mid → Rose k1 k2 → (n : ℕ) × (n < length (switch_line done.session ++ done.bytes.items)) × Appends mid new (take n (switch_line done.session ++ done.bytes.items))
      → WritesSessions (Err stop.WriteFault) (sections parts) k k2 old new
  failing i done good k2 new inside is ample so_far rose part =
      let piece = switch_line done.session ++ done.bytes.items in
      let n = part.0 in (
        Rose-since k k1 k2 kept rose,
        (
          so_far.0 ++ take n piece,
          Appends-trans old mid new so_far.0 (take n piece) so_far.1 part.2,
          record {
            first = i + 1;
            good = good && (done.status == 0);
            all = so_far.0 ++ piece;
            replies = subst (λ (ps : List Section). AreReplies ps (good && (done.status == 0)) (so_far.0 ++ piece)) (sym (take-map section_of (i + 1) parts))
                (next parts dones i done good so_far.0 zip inside is ample so_far.2).replies;
            front = (length so_far.0 + n, sym (take-append-add so_far.0 piece n));
          },
        ),
      )

-- ---- the end

-- nothing was read
pub none_taken : (before : Option (List ℕ)) → IsPartTaken before before
none_taken before = record { taken = []; from = Consumes-nil before; within = omega arith }

-- behind an input that was read whole

module _ (parts : List Part) (before after : Option (List ℕ)) (whole : IsWhole parts before after) where
  read : IsRead whole.input before after
  read = record { from = whole.from; at_end = whole.at_end; within = whole.within; right = whole.right }

  -- a beginning of the replies was written
  begun_by : (old mid new : Option (List ℕ)) (written : List ℕ) → Appends old mid written → AreBegun (sections parts) written → new ≡ mid → ArePartWritten before after old new
  begun_by old mid new written to begun same = record {
    input = whole.input;
    read = read;
    written = written;
    to = subst (λ (x : Option (List ℕ)). Appends old x written) (sym same) to;
    begun = subst (λ (ps : List Section). AreBegun ps written) whole.parts_are begun;
  }

  -- all of them were, and the flush failed
  pub not_flushed : (good : Bool) (k k' : ℕ) (old mid new : Option (List ℕ)) → WritesSessions (Ok good) (sections parts) k k' old mid → new ≡ mid → ArePartWritten before after old new
  not_flushed good k k' old mid new writes same =
      begun_by old mid new writes.0 writes.1 (record {
        first = length (sections parts);
        good = good;
        all = writes.0;
        replies = subst (λ (ps : List Section). AreReplies ps good writes.0) (sym (take_all (length (sections parts)) (sections parts) (omega arith))) writes.2;
        front = (length writes.0, sym (take_all (length writes.0) writes.0 (omega arith)));
      }) same
