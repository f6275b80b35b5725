-- Rests on the laws of a time's form.
use Rattle.forms.proofs.FormLaws.{Formed, formed, fraction_holds, zone_holds}
use Rattle.times.proofs.moments.time_of.Goals.{Start}
use Rattle.times.proofs.moments.time_of.Goals as goal

form : (c : Start) → Formed c.args.form c.args.parts.front.now c.args.parts.tail.now c.args.parts.zone.now
form c = formed _ _ _ _ c.requires

pub clock_of-requires-clause-tail_value : goal.clock_of-requires-clause-tail_value
clock_of-requires-clause-tail_value c = fraction_holds _ c.args.parts.tail.now (form (goal.at.clock_of-requires-clause-tail_value c).Start).tailed

pub offset_of-requires-clause-zone_value : goal.offset_of-requires-clause-zone_value
offset_of-requires-clause-zone_value c = (zone_holds c.args.parts.zone.now (form (goal.at.offset_of-requires-clause-zone_value c).Start).zoned).0

pub offset_of-requires-clause-zone_len : goal.offset_of-requires-clause-zone_len
offset_of-requires-clause-zone_len c = (zone_holds c.args.parts.zone.now (form (goal.at.offset_of-requires-clause-zone_len c).Start).zoned).1
