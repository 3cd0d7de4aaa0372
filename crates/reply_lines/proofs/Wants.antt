-- The first bytes of a reply tell whether it reports want of memory.
use Rattle.std.proofs.Common.{◌≡◌, ℕ, List, [], ◌∷◌, ◌++◌, refl, sym, ap, ◌∙◌}
use Rattle.std.proofs.lemmas.List.{same_from_push}
use Rattle.lk_rules.specs.declared.inference.RuleFault.TheVariants.{Premises, Shape, MainMissing, EigenFree, Premise}
use Rattle.json.specs.Print.{escape_byte}
use Rattle.serde_json.specs.Data.{Data}
use Rattle.serde_json.specs.Written.{compact_text}
use Rattle.job_words.specs.declared.causes.JobCause.TheVariants as causes
use Rattle.reply_lines.specs.declared.replies.Reply.{Reply}
use Rattle.reply_lines.specs.declared.replies.Outcome.{Outcome}
use Rattle.reply_lines.specs.declared.replies.Outcome.TheVariants as outcomes
use Rattle.reply_lines.specs.declared.replies.StepShown.TheVariants.{Reference, Rule}
use Rattle.reply_lines.specs.Replies.{answer_data, reply_by, reply_data, name_data, line_of}
use Rattle.reply_lines.specs.OneLine.{is_want, reports_want}

-- the text of a reply begins so just where its outcome is want of memory
pub text_tells : (outcome : Outcome) (name : Data) (n : ℕ) → reports_want (compact_text (reply_by (answer_data outcome) name n)) ≡ is_want outcome
unfolding reports_want escape_byte
text_tells (outcomes.Proof summary) name n = refl
text_tells (outcomes.Reduced summary k) name n = refl
text_tells (outcomes.Entries k s) name n = refl
text_tells (outcomes.Proves b) name n = refl
text_tells (outcomes.Steps list) name n = refl
text_tells (outcomes.Measure cuts nodes quants size) name n = refl
text_tells (outcomes.Expansion summary) name n = refl
text_tells (outcomes.Nodes flat) name n = refl
text_tells (outcomes.Interpolant first f second) name n = refl
text_tells (outcomes.Herbrand k s) name n = refl
text_tells (outcomes.Introduced summary shorter) name n = refl
text_tells (outcomes.Definition symbol k f) name n = refl
text_tells (outcomes.Satisfiable atoms) name n = refl
text_tells (outcomes.Unsatisfiable steps) name n = refl
text_tells (outcomes.Saturated clauses) name n = refl
text_tells (outcomes.Refuted steps) name n = refl
text_tells outcomes.LineTooLong name n = refl
text_tells (outcomes.Reading causes.Json) name n = refl
text_tells (outcomes.Reading (causes.Field field)) name n = refl
text_tells (outcomes.Reading causes.Op) name n = refl
text_tells (outcomes.Reading (causes.Formula field fault)) name n = refl
text_tells (outcomes.Reading (causes.Tptp place kind)) name n = refl
text_tells outcomes.NameTaken name n = refl
text_tells (outcomes.UnknownName text) name n = refl
text_tells (outcomes.Kind text) name n = refl
text_tells outcomes.Empty name n = refl
text_tells (outcomes.Step i Reference) name n = refl
text_tells (outcomes.Step i (Rule Premises)) name n = refl
text_tells (outcomes.Step i (Rule Shape)) name n = refl
text_tells (outcomes.Step i (Rule MainMissing)) name n = refl
text_tells (outcomes.Step i (Rule EigenFree)) name n = refl
text_tells (outcomes.Step i (Rule (Premise p))) name n = refl
text_tells (outcomes.Refutation i cause) name n = refl
text_tells (outcomes.Quantified f side) name n = refl
text_tells (outcomes.Falsified atoms) name n = refl
text_tells (outcomes.Node i cause) name n = refl
text_tells (outcomes.Root i cause) name n = refl
text_tells (outcomes.EigenTwice var) name n = refl
text_tells (outcomes.EigenFree var) name n = refl
text_tells (outcomes.Cycle vars) name n = refl
text_tells (outcomes.Cut step) name n = refl
text_tells (outcomes.Defined f side) name n = refl
text_tells (outcomes.Partition f side) name n = refl
text_tells (outcomes.NotPrenex f side) name n = refl
text_tells (outcomes.TooMany k) name n = refl
text_tells (outcomes.DefTwice text) name n = refl
text_tells (outcomes.DefFree var) name n = refl
text_tells outcomes.DefLarge name n = refl
text_tells (outcomes.NotGround clause) name n = refl
text_tells outcomes.Rounds name n = refl
text_tells outcomes.Budget name n = refl
text_tells outcomes.Memory name n = refl

pub line_tells : (reply : Reply) (text : List ℕ) → line_of reply ≡ text ++ 10 ∷ [] → reports_want text ≡ is_want reply.outcome
unfolding line_of
line_tells reply text is =
    ap reports_want (sym (same_from_push (compact_text (reply_data reply)) text 10 10 is).0) ∙ text_tells reply.outcome (name_data reply.name) reply.n
