-- The number and the word of each cause of a refusal.
use Rattle.std.specs.Prelude.{List, ℕ, codes}
use Rattle.causes.specs.declared.cause.Cause.{Cause}
use Rattle.causes.specs.declared.cause.Cause.TheVariants.{
  TooManyNodes,
  NoSuchShelf,
  OutOfOrder,
  TooFewNodes,
  RecordTooWide,
  NotBlockLength,
  CheckWrong,
  OtherKinds,
  NumberOrLastMark,
  CountOrPadding,
  Unreadable,
  NotRising,
  BlockFull,
  BufferTooShort,
  InputEndsEarly,
  TooManyFiles,
}

-- the number by which a cause is known outside
abbrev pub number_of : Cause → ℕ
number_of TooManyNodes = 1
number_of NoSuchShelf = 2
number_of OutOfOrder = 3
number_of TooFewNodes = 4
number_of RecordTooWide = 5
number_of NotBlockLength = 6
number_of CheckWrong = 7
number_of OtherKinds = 8
number_of NumberOrLastMark = 9
number_of CountOrPadding = 10
number_of Unreadable = 11
number_of NotRising = 12
number_of BlockFull = 13
number_of BufferTooShort = 14
number_of InputEndsEarly = 15
number_of TooManyFiles = 16

-- the cause in words, as bytes
abbrev pub word_for : Cause → List ℕ
word_for TooManyNodes = codes "too many nodes"
word_for NoSuchShelf = codes "no such shelf"
word_for OutOfOrder = codes "out of order"
word_for TooFewNodes = codes "too few nodes"
word_for RecordTooWide = codes "record too wide"
word_for NotBlockLength = codes "not 512 bytes"
word_for CheckWrong = codes "check wrong"
word_for OtherKinds = codes "other kinds"
word_for NumberOrLastMark = codes "number or last mark"
word_for CountOrPadding = codes "count or padding"
word_for Unreadable = codes "unreadable"
word_for NotRising = codes "not rising"
word_for BlockFull = codes "block full"
word_for BufferTooShort = codes "buffer too short"
word_for InputEndsEarly = codes "input ends early"
word_for TooManyFiles = codes "too many files"
