-- What the EIC check finds wrong with a code, in words (C-11). An answer names the character; whose code it is follows from the order in which codes are judged.
use Rattle.std.specs.Prelude.{cond, [], ◌++◌, ℕ, length}
use Rattle.laws.specs.Tests.{is, less}
use Rattle.paper.specs.declared.Verdict.{Verdict}
use Rattle.paper.specs.Layout.{Bytes, Block, sender, in_party, out_party}
use Rattle.paper.specs.Ids.{id_text}
use Rattle.paper.specs.Eic.{eic_valid}
use Rattle.paper.specs.Listing.{text}
use Rattle.desk_text.specs.Pieces.{worded}

unfoldable pub place : (whose : Bytes) (character : ℕ) → Bytes
place whose character = worded (text "character ") character ++ text " of " ++ whose

-- by the check's number, which is not 0. A code ends before the zero bytes that fill up its field; a word of a command has none. Behind fifteen zeros no last
-- character fits
unfoldable pub fault : (whose code : Bytes) (character : ℕ) → Bytes
fault whose code character =
    cond (less (length (id_text code)) character) (place whose character ++ text " is missing")
    (cond (less character 16) (place whose character ++ text " is not allowed")
    (cond (less 16 (length (id_text code))) (whose ++ text " has more than 16 characters")
    (text "the last character of " ++ whose ++ text " does not fit the others")))

-- behind a refusal; nothing where it names no character
unfoldable pub fault_behind : (whose code : Bytes) (character : ℕ) → Bytes
fault_behind whose code character = cond (is character 0) [] (text "; " ++ fault whose code character)

-- "for 21 the area … is judged first"
unfoldable pub opening_fault : (area receiver : Bytes) (character : ℕ) → Bytes
opening_fault area receiver character =
    cond (eic_valid area) (fault_behind (text "the receiver's code") receiver character) (fault_behind (text "the area's code") area character)

-- "for 8 the in party is judged first"
unfoldable pub party_fault : (series : Block) (character : ℕ) → Bytes
party_fault series character =
    cond (eic_valid (in_party series)) (fault_behind (text "the out party's code") (out_party series) character)
    (fault_behind (text "the in party's code") (in_party series) character)

-- x is the block of the message at which the rule is broken: on 4 the sender's, on 8 the series. Elsewhere the character is 0
unfoldable pub verdict_fault : (v : Verdict) (x : Block) → Bytes
verdict_fault v x = cond (is v.number 4) (fault_behind (text "the sender's code") (sender x) v.character) (party_fault x v.character)
