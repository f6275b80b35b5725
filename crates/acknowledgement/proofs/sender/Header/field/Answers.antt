-- Rests on a field being a part of the header's line.
use native.Mathlib.Omega.{arith}
use Rattle.acknowledgement.proofs.FieldLaws.{long_header, four, line_is, field_is}
use Rattle.acknowledgement.proofs.HeaderLaws.{so_sound}
use Rattle.acknowledgement.proofs.sender.Header.field.Goals as goal

pub slice_bounds-line-count : goal.slice_bounds-line-count
slice_bounds-line-count c = let h = c.args.self.now in let n = long_header h.bytes.now h.ends h.sound h.noted in omega arith

pub returns : goal.returns
returns c =
    let h = c.args.self.now in
    field_is h.bytes.now h.ends (four h.bytes.now h.ends h.sound h.noted) (so_sound h.bytes.now h.sound).one h.noted _ c.part.result.now c.args.number c.requires.0 c.requires.1 (line_is h.bytes.now h.ends h.sound h.noted) c.part.ensures
