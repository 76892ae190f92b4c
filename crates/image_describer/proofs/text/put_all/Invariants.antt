use Rattle.image_describer.proofs.Names.{take, string_bytes, flat_map}
use Rattle.std.proofs.Common.{◌≡◌, ◌++◌}
use Rattle.image_describer.proofs.text.put_all.Given as goal

-- the entries so far are written
abbrev pub invariant-loop-entry : goal.invariant-loop-entry
invariant-loop-entry g l = string_bytes l.text ≡ string_bytes l.fn.text ++ flat_map g.T.Lines.text_of (take l.entry-index l.entries)
