-- The clauses on the used slots, in the order in which the code takes them: the counts come last, when no two senders share an EIC.
use Rattle.std.specs.Prelude.{Bool, true, cond, List, ℕ, drop}
use Rattle.laws.specs.Tests.{◌and◌, ◌or◌}
use Rattle.laws.specs.Lists.{every, apart}
use Rattle.laws.specs.Bytes.{part}
use Rattle.paper.specs.Check.{check_right}
use Rattle.paper.specs.Layout.{Bytes, Block, blocks, n_of, differing}
use Rattle.paper.specs.Book.{is_sender, is_series, is_right}
use Rattle.paper.specs.Sound.{day_sound, sender_fields, sender_day_and_nets, count_sound, series_sound, right_sound, used_sound, same_sender, same_series, same_right, differing_sound}

-- a used slot, a sender's count excepted; allowed is the test of a series' byte 104, which is told n
unfoldable pub used_fields : (allowed : ℕ → ℕ → Bool) → Block → List Block → Block → Bool
used_fields allowed d us b =
    cond (is_sender b) (sender_fields d b and sender_day_and_nets d b)
    (cond (is_right b) (right_sound d b) (is_series b and series_sound d us b and allowed (n_of d) (differing b)))

-- a sender's count
unfoldable pub count_right : List Block → Block → Bool
count_right us b = cond (is_sender b) (count_sound us b) true

-- one EIC of two senders; one id or one key of two series of a sender; two rights alike in all but limits
unfoldable pub clashes : Block → Block → Bool
clashes a b = same_sender a b or same_series a b or same_right a b

-- what the used slots are to each other
unfoldable pub linked_sound : List Block → Bool
linked_sound us = apart clashes us and every (count_right us) us

unfoldable pub each_used : (allowed : ℕ → ℕ → Bool) → Block → List Block → Bool
each_used allowed d us =
    every (used_sound d us) us and apart same_sender us and apart same_series us and apart same_right us and every (differing_sound allowed (n_of d)) us

-- the clauses on the day block and the used slots behind it
unfoldable pub filled_sound : (allowed : ℕ → ℕ → Bool) → Bytes → Bool
filled_sound allowed b = every check_right (blocks b) and day_sound (part 0 512 b) and each_used allowed (part 0 512 b) (blocks (drop 512 b))
