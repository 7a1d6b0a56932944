-- The cases of document 01 marked P, as one statement over their list.
use Rattle.std.specs.Prelude.{◌≡◌, ◌∷◌}
use Rattle.laws.specs.Base.{refl, List, [], ℕ, replicate}
use Rattle.paper.specs.Layout.{with_clock}
use Rattle.paper.specs.Rules.{is_open}
use Rattle.paper.specs.Opening.{day_block_of}
use Rattle.paper.specs.QuantityText.{quantity_printed, printed_into}
use Rattle.paper.specs.Listing.{text}
use Rattle.cases.specs.Case.{Case, ◌gives◌, wrong, flag, eic, reads, yes, no, valid, invalid, kilowatts, refused}
use Rattle.cases.specs.Opened.{paper}
use Rattle.cases.specs.Examples.{parameters, minute, examples}

-- number, length, and the buffer after it, which held 7s
abbrev pub prints : (quantity room : ℕ) → List ℕ
prints quantity room =
    (quantity_printed quantity room).number ∷ (quantity_printed quantity room).length ∷ printed_into quantity (replicate room 7)

-- is a position open
abbrev pub open_at : (lead clock position : ℕ) → List ℕ
open_at lead clock position = flag (is_open (with_clock (minute clock) (day_block_of (parameters lead))) position) ∷ []

unfoldable pub cases : List Case
cases =
    eic "10XAT-APG------Z" gives valid 2777
    ∷ eic "10XAT-APG------Y" gives invalid 2777
    ∷ reads "0.194" gives kilowatts 194
    ∷ reads "9999.999" gives kilowatts 9999999
    ∷ reads "10000" gives refused 30
    ∷ reads ".5" gives refused 30
    ∷ reads "1." gives refused 30
    ∷ reads "" gives refused 30
    ∷ reads "-0" gives refused 31
    ∷ reads "60.0" gives kilowatts 60000
    ∷ prints 60000 6 gives (0 ∷ 6 ∷ text "60.000")
    ∷ open_at 45 15 5 gives yes
    ∷ open_at 45 16 5 gives no
    ∷ open_at 0 0 1 gives yes
    ∷ []

pub proved : wrong cases ≡ []
unfolding paper examples cases
proved = refl
