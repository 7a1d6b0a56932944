-- The tags of a stream's records, and their numbers.
use Rattle.std.specs.Prelude.{◌≡◌, false, ℕ, Result, MatchResult}
use Rattle.stream.specs.declared.tag.Tag.{Tag}
use Rattle.stream.specs.declared.tag.Tag.TheVariants.{Length, Bytes, Book, Sum, Open, Clock, Submit, Mark, Block, Final, Plain, Reader, Walk, Listing, Sound, Eic, Id, Read, Print, Check, Seal, Code, Judge, OpenBy, Convert, Right, Settled}
use Rattle.stream.specs.declared.tag.Malformed.{Malformed}
use Rattle.stream.specs.Records.{known}

abbrev pub number_of : Tag → ℕ
number_of Length = 1
number_of Bytes = 2
number_of Book = 3
number_of Sum = 4
number_of Open = 5
number_of Clock = 6
number_of Submit = 7
number_of Mark = 8
number_of Block = 9
number_of Final = 10
number_of Plain = 11
number_of Reader = 12
number_of Walk = 13
number_of Listing = 14
number_of Sound = 15
number_of Eic = 16
number_of Id = 17
number_of Read = 18
number_of Print = 19
number_of Check = 20
number_of Seal = 21
number_of Code = 22
number_of Judge = 23
number_of OpenBy = 24
number_of Convert = 25
number_of Right = 26
number_of Settled = 27

-- the tag with this number; there is none for a number of which no length is lawful
abbrev pub Decodes : ℕ → Result Tag Malformed → Type 0
Decodes n r = MatchResult r (λ t. number_of t ≡ n) (λ e. known n ≡ false)
