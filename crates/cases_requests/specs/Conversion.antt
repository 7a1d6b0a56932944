-- C-16, the conversion of an old book: of a true one, of a false one, and of what is no old book.
use Rattle.std.specs.Prelude.{◌≡◌, ◌∷◌, ◌++◌, ◌+◌, ◌*◌}
use Rattle.laws.specs.Base.{refl, some, List, [], map, ℕ, length, take, drop, replicate}
use Rattle.laws.specs.Cut.{join}
use Rattle.paper.specs.Layout.{Bytes}
use Rattle.paper.specs.Book.{used, numbered}
use Rattle.paper.specs.PlainRun.{plain_run}
use Rattle.paper.specs.Conversion.{conversion_number, converted, kept_messages}
use Rattle.paper.specs.PlainRule.{plain_mark}
use Rattle.paper.specs.Calls.{conversion, run}
use Rattle.cases.specs.Case.{Case, ◌gives◌, wrong, once}
use Rattle.cases.specs.Opened.{paper, demand3}
use Rattle.cases.specs.Examples.{seller, buyer, over, sold, bought, examples}
use Rattle.cases.specs.Listing.{told_by_run}

-- ---- books of the old layout

-- some bytes of the block in a slot written over, the check put right
unfoldable pub with_slot : (slot offset : ℕ) (bytes : Bytes) (book : Bytes) → Bytes
with_slot slot offset bytes book = once (λ b. take (512 * slot) b ++ over offset bytes (numbered (used b) slot) ++ drop (512 * slot + 512) b) book

-- the marks of the series in slots 2 and 4, from byte 104 on
unfoldable pub marked : (one other : Bytes) (book : Bytes) → Bytes
marked one other book = with_slot 2 104 one (with_slot 4 104 other book)

-- ---- the call

-- a book that it changes, which it does where its number is 0, and the book after it
abbrev pub becomes : Bytes → List ℕ
becomes book = once converted book

abbrev pub number : Bytes → List ℕ
number book = once (λ b. conversion_number b ∷ []) book

-- the list of messages after it, where it held one
abbrev pub list_after : Bytes → List Bytes
list_after book = (run (record { book = book; messages = (7 ∷ []) ∷ [] }) (conversion ∷ [])).messages

-- both sides have filed, and differ at position 2 alone
unfoldable pub of_both : Bytes → List Case
of_both book =
    -- a true old book, its states 3
    becomes (marked (3 ∷ []) (3 ∷ []) book) gives book
    -- a false one: states, firsts, partners, a net
    ∷ becomes (with_slot 1 108 (7 ∷ []) (marked (1 ∷ 9 ∷ 2 ∷ 0 ∷ []) (2 ∷ 0 ∷ 0 ∷ 0 ∷ []) book)) gives book
    -- counts of 1 pass as states
    ∷ number book gives (0 ∷ [])
    -- no old layout: a state below 1, above 3
    ∷ number (marked (0 ∷ []) (3 ∷ []) book) gives (1 ∷ [])
    ∷ number (marked (3 ∷ []) (4 ∷ []) book) gives (1 ∷ [])
    -- before it the plain run says no
    ∷ once (λ b. told_by_run (plain_run b)) (marked (3 ∷ []) (3 ∷ []) book) gives (0 ∷ 0 ∷ [])
    ∷ []

pub both : wrong (once of_both (bought 4)) ≡ []
unfolding paper examples with_slot marked of_both
both = refl

-- "Demand 3 takes an old book from its conversion on": a message for each sender, its block and its series
unfoldable pub of_list : Bytes → List Case
of_list book =
    once (λ b. join (list_after b)) (marked (3 ∷ []) (3 ∷ []) book) gives drop 512 book
    ∷ map length (kept_messages (used book)) gives (1024 ∷ 1024 ∷ [])
    ∷ plain_mark (kept_messages (used book)) seller (some (buyer ++ seller)) 4 gives (1 ∷ 2 ∷ 4 ∷ 0 ∷ [])
    ∷ plain_mark (kept_messages (used book)) buyer (some (buyer ++ seller)) 2 gives (1 ∷ 2 ∷ 2 ∷ 0 ∷ [])
    -- a refused one leaves the list
    ∷ join (list_after (replicate 1024 0)) gives (7 ∷ [])
    ∷ []

pub list : wrong (once of_list (bought 4)) ≡ []
unfolding paper demand3 examples with_slot marked of_list
list = refl

-- the seller alone has filed: state 1 becomes count 0
unfoldable pub of_one : Bytes → List Case
of_one book = becomes (with_slot 2 104 (1 ∷ []) book) gives book ∷ number book gives (1 ∷ []) ∷ []

pub one : wrong (once of_one (sold 2)) ≡ []
unfolding paper examples with_slot of_one
one = refl
