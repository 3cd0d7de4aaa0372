-- The replies to the first bytes of some lines are the first replies to all of these.
use Rattle.std.proofs.Common.{◌≡◌, ℕ, ◌==◌, Bool, true, false, cond, List, [], ◌∷◌, ◌++◌, length, refl, sym, ap, ◌∙◌, append_assoc}
use Rattle.std.specs.List.{slice_split, onto_first}
use Rattle.std.proofs.lemmas.List.Elements.{All-nil, All-cons}
use Rattle.std.proofs.lemmas.List.Splits.{slice_split-cons_yes, slice_split-cons_no}
use Rattle.edge_io.specs.Lines.{is_newline, OneLine, AreLines, parts_of, whole_lines, last_part, lines_of}
use Rattle.edge_io.proofs.LinesLemmas.{lines_nil, whole_lines_at}
use Rattle.session_laws.specs.Jobs.{jobs}
use Rattle.session_laws.specs.Answers.{in_order}
use Rattle.session_laws.specs.Session.{RepliesInPart}
use Rattle.proof_server.proofs.Turns.{part_of_more}
use Rattle.proof_server.proofs.Midway.{jobs-append}
use Rattle.proof_server.proofs.Endings.{whole_lines_behind}

-- the bytes are whole lines, and a part of a line behind them
record IsCut (bytes : List ℕ) : Type 0 where
  whole : List ℕ
  part : List ℕ
  lines : List (List ℕ)
  bytes_are : bytes ≡ whole ++ part
  are : AreLines whole lines
  one : OneLine part
  none : lines ≡ [] → whole ≡ []

some_lines : (line : List ℕ) (lines : List (List ℕ)) → line ∷ lines ≡ [] → ⊥
some_lines line lines empty = cc

-- one more byte before them
cut_newline : (b : ℕ) (bytes : List ℕ) → is_newline b ≡ true → IsCut bytes → IsCut (b ∷ bytes)
cut_newline b bytes is cut = record {
  whole = b ∷ cut.whole;
  part = cut.part;
  lines = [] ∷ cut.lines;
  bytes_are = ap (λ (x : List ℕ). b ∷ x) cut.bytes_are;
  are = λ rest. slice_split-cons_yes is_newline b (cut.whole ++ rest) is ∙ ap (λ (x : List (List ℕ)). [] ∷ x) (cut.are rest);
  one = cut.one;
  none = λ empty. absurd (some_lines [] cut.lines empty);
}

cut_other : (b : ℕ) (bytes : List ℕ) → is_newline b ≡ false → (cut : IsCut bytes) → (lines : List (List ℕ)) → cut.lines ≡ lines → IsCut (b ∷ bytes)
cut_other b bytes is cut [] empty = record {
  whole = [];
  part = b ∷ cut.part;
  lines = [];
  bytes_are = ap (λ (x : List ℕ). b ∷ x) (cut.bytes_are ∙ ap (λ (x : List ℕ). x ++ cut.part) (cut.none empty));
  are = lines_nil;
  one = All-cons (λ (c : ℕ). is_newline c ≡ false) b cut.part is cut.one;
  none = λ same. refl;
}
cut_other b bytes is cut (line ∷ lines) some = record {
  whole = b ∷ cut.whole;
  part = cut.part;
  lines = (b ∷ line) ∷ lines;
  bytes_are = ap (λ (x : List ℕ). b ∷ x) cut.bytes_are;
  are = λ rest. slice_split-cons_no is_newline b (cut.whole ++ rest) is ∙ ap (onto_first b) (cut.are rest)
      ∙ ap (λ (x : List (List ℕ)). onto_first b (x ++ slice_split is_newline rest)) some;
  one = cut.one;
  none = λ empty. absurd (some_lines (b ∷ line) lines empty);
}

cut_of : (bytes : List ℕ) → IsCut bytes
cut_of [] = record { whole = []; part = []; lines = []; bytes_are = refl; are = lines_nil; one = All-nil (λ (c : ℕ). is_newline c ≡ false); none = λ same. refl }
cut_of (b ∷ bytes) = by_test (cut_of bytes) (is_newline b) refl
  where
    by_test : IsCut bytes → (t : Bool) → is_newline b ≡ t → IsCut (b ∷ bytes)
    by_test cut true is = cut_newline b bytes is cut
    by_test cut false is = cut_other b bytes is cut cut.lines refl

-- behind whole lines come others
lines_behind : (bytes rest : List ℕ) (lines : List (List ℕ)) → AreLines bytes lines → (more : List (List ℕ)) × (lines_of (bytes ++ rest) ≡ lines ++ more)
lines_behind bytes rest lines are = by_test (length (last_part (bytes ++ rest)) == 0)
  where
    by_test : (t : Bool) → (more : List (List ℕ)) × (cond t (whole_lines (bytes ++ rest)) (parts_of (bytes ++ rest)) ≡ lines ++ more)
    by_test true = (whole_lines rest, whole_lines_behind bytes rest lines are)
    by_test false = (parts_of rest, are rest)

-- the whole lines of the first bytes are the first lines of all
pub lines_begin : (first rest : List ℕ) → (more : List (List ℕ)) × (lines_of (first ++ rest) ≡ whole_lines first ++ more)
lines_begin first rest =
    let cut = cut_of first in
    let behind = lines_behind cut.whole (cut.part ++ rest) cut.lines cut.are in
    let are : whole_lines first ≡ cut.lines = ap whole_lines cut.bytes_are ∙ whole_lines_at cut.whole cut.part cut.lines cut.are cut.one in (
      behind.0,
      ap (λ (x : List ℕ). lines_of (x ++ rest)) cut.bytes_are ∙ ap lines_of (append_assoc cut.whole cut.part rest) ∙ behind.1
          ∙ ap (λ (x : List (List ℕ)). x ++ behind.0) (sym are),
    )

-- the beginning of the replies to the first lines is that of the replies to all
pub front_of_more : (lines more : List (List ℕ)) (written : List ℕ) → RepliesInPart lines written → RepliesInPart (lines ++ more) written
front_of_more lines more written front = record {
  done = front.done;
  waiting = front.waiting ++ jobs more;
  part = front.part;
  allowed = front.allowed;
  claimed = front.claimed;
  each = sym (append_assoc (in_order front.done) front.waiting (jobs more)) ∙ ap (λ (x : List (List ℕ)). x ++ jobs more) front.each ∙ sym (jobs-append lines more);
  bytes = front.bytes;
  next = part_of_more front.done front.waiting (jobs more) front.part front.allowed front.next;
}
