-- Where a text may end.
use Rattle.std.proofs.Common.{◌≡◌, ℕ, true, ◌&&◌, List, [], ◌∷◌, Option, Some, None, is_some, is_ok, refl}
use Rattle.fol.specs.Syntax.{Term, nil, Formula}
use Rattle.tptp_read.specs.declared.state.Part.{Part}
use Rattle.tptp_read.specs.declared.state.Frame.{Frame}
use Rattle.tptp_read.specs.declared.state.Frame.TheVariants.{Group, Negated, Quantified}
use Rattle.tptp_read.specs.declared.state.Call.{Call}
use Rattle.tptp_read.specs.declared.state.Side.{Side}
use Rattle.tptp_read.specs.declared.state.Side.TheVariants.{Lead, Right, Whole}
use Rattle.tptp_read.specs.Meaning.{application}
use Rattle.tptp_read.specs.Reader.{or_expected}
use Rattle.tptp_read.specs.Machine.{settled, settled_frames, unit_of, no_group, term_ends, ending_settled, ending_last, ending_term}

settled_ends : (k : List Frame) (g : Formula) (p : Part) → no_group k ≡ is_ok (or_expected (ending_settled g p (settled_frames k)))
settled_ends [] g p = refl
settled_ends (Group q ∷ k) g p = refl
settled_ends (Negated ∷ k) g p = settled_ends k g p
settled_ends (Quantified q vs ∷ k) g p = settled_ends k g p

pub unit_is_last : (f : Formula) (p : Part) (k : List Frame) → no_group k ≡ is_ok (or_expected (ending_settled (settled k f) p (settled_frames k)))
unit_is_last f p k = settled_ends k (settled k f) p

last_ends : (o : Option Formula) (p : Part) (k : List Frame) → (is_some o && no_group k) ≡ is_ok (or_expected (ending_last o p k))
last_ends None p k = refl
last_ends (Some f) p k = unit_is_last f p k

pub term_is_last : (x : Term) (s : Side) (cs : List Call) (p : Part) (k : List Frame) → term_ends (is_some (unit_of Lead x)) s cs k ≡ is_ok (or_expected (ending_term x s cs p k))
term_is_last x s (c ∷ cs) p k = refl
term_is_last x Lead [] p k = last_ends (unit_of Lead x) p k
term_is_last x (Right sign y) [] p k = last_ends (unit_of (Right sign y) x) p k
term_is_last x Whole [] p k = refl

pub name_is_last : (x : List ℕ) (s : Side) (cs : List Call) (p : Part) (k : List Frame) → term_ends true s cs k ≡ is_ok (or_expected (ending_term (application x nil) s cs p k))
name_is_last x s cs p k = term_is_last (application x nil) s cs p k
