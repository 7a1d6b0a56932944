-- "Other calls": mark and accepted block by (sender, series id). e is the sender, us are the used slots.
use Rattle.std.specs.Prelude.{Bool, cond, List, [], ℕ}
use Rattle.std.proofs.Math.Option.{Option, none, some, get_or}
use Rattle.laws.specs.Tests.{◌and◌}
use Rattle.laws.specs.Lists.{find}
use Rattle.paper.specs.declared.MarkAnswer.{MarkAnswer}
use Rattle.paper.specs.Layout.{Bytes, Block, differing, first, partner}
use Rattle.paper.specs.Book.{used, id_is, slot_of, is_series_of}
use Rattle.paper.specs.Sound.{sound}
use Rattle.paper.specs.Marks.{mark_code}

-- b is the stored series of sender e with an id
unfoldable pub is_stored_as : (us : List Block) (e : Bytes) (id : Bytes) (b : Block) → Bool
is_stored_as us e id b = is_series_of (slot_of us e) b and id_is id b

unfoldable pub stored_as : (us : List Block) (e : Bytes) (id : Bytes) → Option Block
stored_as us e id = find (is_stored_as us e id) us

-- a mark, with "A28" or "A09"
abbrev pub mark_given : (differing : ℕ) (first : ℕ) (partner : ℕ) → MarkAnswer
mark_given differing first partner =
    record { number = 0; differ = differing; code = mark_code differing partner; first = record { 0 = first }; partner = record { 0 = partner } }

abbrev pub mark_refused : (number : ℕ) → MarkAnswer
mark_refused number = record { number = number; differ = 0; code = 0; first = record { 0 = 0 }; partner = record { 0 = 0 } }

-- "23 unknown"
unfoldable pub mark_found : (found : Option Block) → MarkAnswer
mark_found none = mark_refused 23
mark_found (some x) = mark_given (differing x) (first x) (partner x)

-- the kept mark: 1, 23
unfoldable pub mark_answer : (book : Bytes) (e : Bytes) (id : Bytes) → MarkAnswer
mark_answer book e id = cond (sound book) (mark_found (stored_as (used book) e id)) (mark_refused 1)

-- "the block itself …; on 1 or 23 an empty part"
unfoldable pub accepted_block : (book : Bytes) (e : Bytes) (id : Bytes) → Bytes
accepted_block book e id = cond (sound book) (get_or (stored_as (used book) e id) []) []
