-- The commands as the program has them: the word that names each, and its number, 0 where there is none.
use Rattle.std.specs.Prelude.{ℕ, Option, None, Some}
use Rattle.paper.specs.Layout.{Bytes}
use Rattle.paper.specs.Listing.{text}
use Rattle.desk_text.specs.declared.commands.Command.{Command}
use Rattle.desk_text.specs.declared.commands.Command.TheVariants.{Open, Clock, Submit, Mark, Block, Final, Plain, List, Message, Eic, Kw, Commission, Convert, Right, Settle}

unfoldable pub word_of : Command → Bytes
word_of Open = text "open"
word_of Clock = text "clock"
word_of Submit = text "submit"
word_of Mark = text "mark"
word_of Block = text "block"
word_of Final = text "final"
word_of Plain = text "plain"
word_of List = text "list"
word_of Message = text "message"
word_of Eic = text "eic"
word_of Kw = text "kw"
word_of Commission = text "commission"
word_of Convert = text "convert"
word_of Right = text "right"
word_of Settle = text "settle"

unfoldable pub number_of : Option Command → ℕ
number_of None = 0
number_of (Some Open) = 1
number_of (Some Clock) = 2
number_of (Some Submit) = 3
number_of (Some Mark) = 4
number_of (Some Block) = 5
number_of (Some Final) = 6
number_of (Some Plain) = 7
number_of (Some List) = 8
number_of (Some Message) = 9
number_of (Some Eic) = 10
number_of (Some Kw) = 11
number_of (Some Commission) = 12
number_of (Some Convert) = 13
number_of (Some Right) = 14
number_of (Some Settle) = 15
