-- What the judgement of a message hands on to its acceptance.
use Rattle.std.specs.Prelude.{◌≡◌, List, ℕ, length}
use Rattle.paper.specs.Layout.{Block, sender}
use Rattle.paper.specs.Book.{slot_of}
use Rattle.index.specs.declared.By.TheVariants.{Key}
use Rattle.index.specs.Linked.{Found}

-- over the used slots us, a message's first block h and its series: how many slots are used, the sender's slot, of each series of the message its place among the sender's stored
-- ones, and of each used block the number of the message's series with its key; 0 where there is none
pub record Handed (us : List Block) (h : Block) (series : List Block) (used_count known : ℕ) (places numbers : List ℕ) : Type 0 where
  pub used_count_is : used_count ≡ length us
  pub senders_slot_is : known ≡ slot_of us (sender h)
  pub stored : Found known Key us series places
  pub sent : Found 0 Key series us numbers
