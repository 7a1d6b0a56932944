-- The used slots in groups, each block linked to the next of its group: a test of pairs, or a count, follows the links and meets no other block.
use Rattle.std.specs.Prelude.{◌≡◌, Bool, cond, List, [], ℕ, ◌+◌, ◌%◌, ◌<◌, get_or}
use Rattle.laws.specs.Tests.{is}
use Rattle.laws.specs.Lists.{All}
use Rattle.laws.specs.Bytes.{part}
use Rattle.paper.specs.Layout.{Block, id_of, sender, senders_slot, pair}
use Rattle.paper.specs.Book.{is_sender, is_series, is_right, is_trade}
use Rattle.index.specs.Tags.{tag_of, pair_tag_of, key_tag_of}
use Rattle.sound.specs.declared.links.Tag.{Tag}

-- ---- numbers that differ where the ids, the keys, the senders' EICs or the rights do, but for a chance

-- by areas, parties and agreement
unfoldable pub wide_tag : Block → ℕ
wide_tag b = (pair_tag_of (part 24 32 b) + key_tag_of (part 56 48 b)) % 4294967296

-- a trade has nothing but its parties to tell it from others of its sender; an external schedule or a right may have these in common with others
unfoldable pub key_tag : Block → ℕ
key_tag b = cond (is_sender b) (tag_of (sender b)) (cond (is_trade b) (pair_tag_of (pair b)) (wide_tag b))

unfoldable pub id_tag : Block → ℕ
id_tag b = cond (is_series b) (tag_of (id_of b)) (key_tag b)

-- those of the first i blocks
unfoldable pub Tagged : List Block → ℕ → List Tag → Type 0
Tagged us i tags = (j : ℕ) → j < i → (d : Tag) → ((get_or tags j d).id ≡ id_tag (get_or us j [])) × ((get_or tags j d).key ≡ key_tag (get_or us j []))

-- ---- groups

-- the series of a sender are the group of its slot, one of at most 1,000; the senders are group 0; the rights are spread over the 23 that are left of 1,024
unfoldable pub group : Block → ℕ
group b = cond (is_series b) (senders_slot b) (cond (is_right b) (1001 + wide_tag b % 23) 0)

unfoldable pub in_group : ℕ → Block → Bool
in_group g b = is (group b) g

-- every group has its bucket
unfoldable pub Grouped : List Block → Type 0
Grouped us = All (λ b. group b < 1024) us
