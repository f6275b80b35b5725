-- Rests on what a zone's form says.
use mathlib.Core.Path.{sym}
use Rattle.forms.proofs.FormLaws.{zone_holds}
use Rattle.times.proofs.judging.is_zone.Goals as goal

pub offset_of-requires-clause-zone_value : goal.offset_of-requires-clause-zone_value
offset_of-requires-clause-zone_value c = (zone_holds c.args.zone.now (sym c.if-is_zone.ensures)).0

pub offset_of-requires-clause-zone_len : goal.offset_of-requires-clause-zone_len
offset_of-requires-clause-zone_len c = (zone_holds c.args.zone.now (sym c.if-is_zone.ensures)).1
