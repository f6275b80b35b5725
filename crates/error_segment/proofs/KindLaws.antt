-- What is told of a fault of any other kind than those that are named: its code, that it stands in a segment, and the position of its field.
-- Assumes nothing.
use mathlib.Core.Path.{◌≡◌, refl}
use mathlib.Core.Bool.{false}
use Prim.Native.Nat.{ℕ}
use Rattle.alphabet.specs.Answers.{number_of}
use Rattle.alphabet.specs.declared.answers.Refusal.{Refusal}
use Rattle.alphabet.specs.declared.answers.Refusal.TheVariants.{Length, Header, Delimiter, NotAllowed, NotEnded, SegmentName, SecondHeader, TooManySegments, NotAcknowledgeable, AcknowledgementTooLong, Separator, UnknownEscape, UnclosedEscape, NoRoom, NullText, CallersTime, CallersId, Address, NoStructure, SegmentMisplaced, EndedEarly, RequiredMissing, BreaksForm, NotListed, RequiredNull, ValueWithoutType, Repeated, ValueTooLong, StructureName, BrokenFrame, FrameTooLong, Layout, BookVersion, BookMalformed, BookHeader, WrongCount, BrokenBatch}
use Rattle.error_segment.specs.Numerals.{numeral}
use Rattle.error_segment.specs.Errors.{error_code, nowhere, field_position}

pub code_else : (kind : Refusal) (place field : ℕ) → (kind ≡ SegmentMisplaced → ⊥) → (kind ≡ EndedEarly → ⊥) → (kind ≡ RequiredMissing → ⊥) → (kind ≡ RequiredNull → ⊥) → (kind ≡ ValueWithoutType → ⊥) → (kind ≡ BreaksForm → ⊥) → (kind ≡ Repeated → ⊥) → (kind ≡ ValueTooLong → ⊥) → (kind ≡ NotListed → ⊥) → (kind ≡ NoStructure → ⊥) → error_code (number_of kind) place field ≡ 207
unfolding error_code
code_else Length place field a b c d e f g h i j = refl
code_else Header place field a b c d e f g h i j = refl
code_else Delimiter place field a b c d e f g h i j = refl
code_else NotAllowed place field a b c d e f g h i j = refl
code_else NotEnded place field a b c d e f g h i j = refl
code_else SegmentName place field a b c d e f g h i j = refl
code_else SecondHeader place field a b c d e f g h i j = refl
code_else TooManySegments place field a b c d e f g h i j = refl
code_else NotAcknowledgeable place field a b c d e f g h i j = refl
code_else AcknowledgementTooLong place field a b c d e f g h i j = refl
code_else Separator place field a b c d e f g h i j = refl
code_else UnknownEscape place field a b c d e f g h i j = refl
code_else UnclosedEscape place field a b c d e f g h i j = refl
code_else NoRoom place field a b c d e f g h i j = refl
code_else NullText place field a b c d e f g h i j = refl
code_else CallersTime place field a b c d e f g h i j = refl
code_else CallersId place field a b c d e f g h i j = refl
code_else Address place field a b c d e f g h i j = refl
code_else NoStructure place field a b c d e f g h i j = absurd (j refl)
code_else SegmentMisplaced place field a b c d e f g h i j = absurd (a refl)
code_else EndedEarly place field a b c d e f g h i j = absurd (b refl)
code_else RequiredMissing place field a b c d e f g h i j = absurd (c refl)
code_else BreaksForm place field a b c d e f g h i j = absurd (f refl)
code_else NotListed place field a b c d e f g h i j = absurd (i refl)
code_else RequiredNull place field a b c d e f g h i j = absurd (d refl)
code_else ValueWithoutType place field a b c d e f g h i j = absurd (e refl)
code_else Repeated place field a b c d e f g h i j = absurd (g refl)
code_else ValueTooLong place field a b c d e f g h i j = absurd (h refl)
code_else StructureName place field a b c d e f g h i j = refl
code_else BrokenFrame place field a b c d e f g h i j = refl
code_else FrameTooLong place field a b c d e f g h i j = refl
code_else Layout place field a b c d e f g h i j = refl
code_else BookVersion place field a b c d e f g h i j = refl
code_else BookMalformed place field a b c d e f g h i j = refl
code_else BookHeader place field a b c d e f g h i j = refl
code_else WrongCount place field a b c d e f g h i j = refl
code_else BrokenBatch place field a b c d e f g h i j = refl

pub stands_else : (kind : Refusal) → (kind ≡ Length → ⊥) → (kind ≡ Header → ⊥) → (kind ≡ Delimiter → ⊥) → (kind ≡ NotAllowed → ⊥) → (kind ≡ NotEnded → ⊥) → (kind ≡ SegmentName → ⊥) → (kind ≡ SecondHeader → ⊥) → (kind ≡ TooManySegments → ⊥) → (kind ≡ EndedEarly → ⊥) → nowhere (number_of kind) ≡ false
stands_else Length a b c d e f g h i = absurd (a refl)
stands_else Header a b c d e f g h i = absurd (b refl)
stands_else Delimiter a b c d e f g h i = absurd (c refl)
stands_else NotAllowed a b c d e f g h i = absurd (d refl)
stands_else NotEnded a b c d e f g h i = absurd (e refl)
stands_else SegmentName a b c d e f g h i = absurd (f refl)
stands_else SecondHeader a b c d e f g h i = absurd (g refl)
stands_else TooManySegments a b c d e f g h i = absurd (h refl)
stands_else NotAcknowledgeable a b c d e f g h i = refl
stands_else AcknowledgementTooLong a b c d e f g h i = refl
stands_else Separator a b c d e f g h i = refl
stands_else UnknownEscape a b c d e f g h i = refl
stands_else UnclosedEscape a b c d e f g h i = refl
stands_else NoRoom a b c d e f g h i = refl
stands_else NullText a b c d e f g h i = refl
stands_else CallersTime a b c d e f g h i = refl
stands_else CallersId a b c d e f g h i = refl
stands_else Address a b c d e f g h i = refl
stands_else NoStructure a b c d e f g h i = refl
stands_else SegmentMisplaced a b c d e f g h i = refl
stands_else EndedEarly a b c d e f g h i = absurd (i refl)
stands_else RequiredMissing a b c d e f g h i = refl
stands_else BreaksForm a b c d e f g h i = refl
stands_else NotListed a b c d e f g h i = refl
stands_else RequiredNull a b c d e f g h i = refl
stands_else ValueWithoutType a b c d e f g h i = refl
stands_else Repeated a b c d e f g h i = refl
stands_else ValueTooLong a b c d e f g h i = refl
stands_else StructureName a b c d e f g h i = refl
stands_else BrokenFrame a b c d e f g h i = refl
stands_else FrameTooLong a b c d e f g h i = refl
stands_else Layout a b c d e f g h i = refl
stands_else BookVersion a b c d e f g h i = refl
stands_else BookMalformed a b c d e f g h i = refl
stands_else BookHeader a b c d e f g h i = refl
stands_else WrongCount a b c d e f g h i = refl
stands_else BrokenBatch a b c d e f g h i = refl

pub position_else : (kind : Refusal) (field : ℕ) → (kind ≡ SegmentMisplaced → ⊥) → (kind ≡ NoStructure → ⊥) → field_position (number_of kind) field ≡ numeral field
position_else Length field a b = refl
position_else Header field a b = refl
position_else Delimiter field a b = refl
position_else NotAllowed field a b = refl
position_else NotEnded field a b = refl
position_else SegmentName field a b = refl
position_else SecondHeader field a b = refl
position_else TooManySegments field a b = refl
position_else NotAcknowledgeable field a b = refl
position_else AcknowledgementTooLong field a b = refl
position_else Separator field a b = refl
position_else UnknownEscape field a b = refl
position_else UnclosedEscape field a b = refl
position_else NoRoom field a b = refl
position_else NullText field a b = refl
position_else CallersTime field a b = refl
position_else CallersId field a b = refl
position_else Address field a b = refl
position_else NoStructure field a b = absurd (b refl)
position_else SegmentMisplaced field a b = absurd (a refl)
position_else EndedEarly field a b = refl
position_else RequiredMissing field a b = refl
position_else BreaksForm field a b = refl
position_else NotListed field a b = refl
position_else RequiredNull field a b = refl
position_else ValueWithoutType field a b = refl
position_else Repeated field a b = refl
position_else ValueTooLong field a b = refl
position_else StructureName field a b = refl
position_else BrokenFrame field a b = refl
position_else FrameTooLong field a b = refl
position_else Layout field a b = refl
position_else BookVersion field a b = refl
position_else BookMalformed field a b = refl
position_else BookHeader field a b = refl
position_else WrongCount field a b = refl
position_else BrokenBatch field a b = refl
