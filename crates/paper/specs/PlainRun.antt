-- "The plain run works marks and nets out afresh for any sound book and says yes exactly when all kept ones are true."
use Rattle.std.specs.Prelude.{Bool, false, cond, List, ℕ}
use Rattle.laws.specs.Tests.{◌and◌, ◌or◌, neg}
use Rattle.laws.specs.Lists.{same, every}
use Rattle.paper.specs.declared.PlainRunAnswer.{PlainRunAnswer}
use Rattle.paper.specs.Layout.{Bytes, Block, n_of, area, sender, mark, nets}
use Rattle.paper.specs.Book.{day_block, used, is_sender, is_series, own_series}
use Rattle.paper.specs.Sound.{sound}
use Rattle.paper.specs.Marks.{mark_in}
use Rattle.paper.specs.Nets.{nets_of}

-- of a block that is a series
unfoldable pub mark_true : (n : ℕ) (us : List Block) (b : Block) → Bool
mark_true n us b = neg (is_series b) or same (mark b) (mark_in n us b)

-- of a block that is a sender; ours is the day block's area
unfoldable pub nets_true : (ours : Bytes) (us : List Block) (b : Block) → Bool
nets_true ours us b = neg (is_sender b) or same (nets b) (nets_of ours (sender b) (own_series us (sender b)))

-- "It … gives 1 if the book is not sound"
unfoldable pub plain_run : (book : Bytes) → PlainRunAnswer
plain_run book =
    cond (sound book)
    (record { number = 0; holds = every (mark_true (n_of (day_block book)) (used book)) (used book) and every (nets_true (area (day_block book)) (used book)) (used book) })
    (record { number = 1; holds = false })
