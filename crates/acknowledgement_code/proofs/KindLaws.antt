-- A fault of any other kind than 20 and 33 is no rejection. Assumes nothing.
use mathlib.Core.Path.{◌≡◌, refl}
use mathlib.Core.Bool.{false}
use Prim.Native.Nat.{ℕ}
use Rattle.alphabet.specs.Answers.{number_of}
use Rattle.alphabet.specs.declared.answers.Refusal.{Refusal}
use Rattle.alphabet.specs.declared.answers.Refusal.TheVariants.{Length, Header, Delimiter, NotAllowed, NotEnded, SegmentName, SecondHeader, TooManySegments, NotAcknowledgeable, AcknowledgementTooLong, Separator, UnknownEscape, UnclosedEscape, NoRoom, NullText, CallersTime, CallersId, Address, NoStructure, SegmentMisplaced, EndedEarly, RequiredMissing, BreaksForm, NotListed, RequiredNull, ValueWithoutType, Repeated, ValueTooLong, StructureName, BrokenFrame, FrameTooLong, Layout, BookVersion, BookMalformed, BookHeader, WrongCount, BrokenBatch}
use Rattle.acknowledgement_code.specs.Codes.{rejects}

pub others : (kind : Refusal) (place field : ℕ) → (kind ≡ NoStructure → ⊥) → (kind ≡ NotListed → ⊥) → rejects (number_of kind) place field ≡ false
others Length place field n m = refl
others Header place field n m = refl
others Delimiter place field n m = refl
others NotAllowed place field n m = refl
others NotEnded place field n m = refl
others SegmentName place field n m = refl
others SecondHeader place field n m = refl
others TooManySegments place field n m = refl
others NotAcknowledgeable place field n m = refl
others AcknowledgementTooLong place field n m = refl
others Separator place field n m = refl
others UnknownEscape place field n m = refl
others UnclosedEscape place field n m = refl
others NoRoom place field n m = refl
others NullText place field n m = refl
others CallersTime place field n m = refl
others CallersId place field n m = refl
others Address place field n m = refl
others NoStructure place field n m = absurd (n refl)
others SegmentMisplaced place field n m = refl
others EndedEarly place field n m = refl
others RequiredMissing place field n m = refl
others BreaksForm place field n m = refl
others NotListed place field n m = absurd (m refl)
others RequiredNull place field n m = refl
others ValueWithoutType place field n m = refl
others Repeated place field n m = refl
others ValueTooLong place field n m = refl
others StructureName place field n m = refl
others BrokenFrame place field n m = refl
others FrameTooLong place field n m = refl
others Layout place field n m = refl
others BookVersion place field n m = refl
others BookMalformed place field n m = refl
others BookHeader place field n m = refl
others WrongCount place field n m = refl
others BrokenBatch place field n m = refl
