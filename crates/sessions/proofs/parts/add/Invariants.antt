use Rattle.std.proofs.Common.{◌≡◌, ◌++◌, take, drop}
use Rattle.sessions.specs.Parts.{sections, add_to}
use Rattle.sessions.proofs.parts.add.Given as goal

-- the parts passed are those of other sessions, and nothing was changed
abbrev pub invariant-loop-part : goal.invariant-loop-part
invariant-loop-part l = record {
  same : l.part-items ≡ l.fn.parts.items;
  passed : add_to l.session l.bytes.items (sections l.fn.parts.items)
      ≡ sections (take l.part-index l.part-items) ++ add_to l.session l.bytes.items (sections (drop l.part-index l.part-items));
}
