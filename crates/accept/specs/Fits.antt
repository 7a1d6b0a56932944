-- What the code of an acceptance relies on: a verdict of 0 gives it.
use Rattle.std.specs.Prelude.{◌≡◌, true, List, ℕ, ◌/◌, ◌%◌, ◌≤◌, length}
use Rattle.laws.specs.Lists.{has, keep, apart, All}
use Rattle.paper.specs.Layout.{Bytes, Block, n_of, area, sender, pair, key}
use Rattle.paper.specs.Book.{day_block, slots, used, is_sender, is_series, is_external, is_series_of, own_series, key_is}
use Rattle.paper.specs.Sound.{parties_of}
use Rattle.paper.specs.Message.{head_of, series_of}
use Rattle.paper.specs.Acceptance.{slot_for, placed}
use Rattle.facts.specs.Pairs.{same_trade, TradesIn}
use Rattle.facts.specs.Senders.{Owned}

-- ours is the day block's area, us are the used ones of `count` slots, h a message's first block, series its series
pub record Placing (n : ℕ) (ours : Bytes) (count : ℕ) (us : List Block) (h : Block) (series : List Block) : Type 0 where
  pub small : n ≤ 100
  pub few : count ≤ 1000
  pub room : length (placed ours us h series) ≤ count
  pub head_whole : length h ≡ 512
  pub head_kind : is_sender h ≡ true
  pub series_few : length series ≤ 200
  pub series_whole : All (λ y. length y ≡ 512) series
  pub series_kind : All (λ y. is_series y ≡ true) series
  -- a message names no sender's slot
  pub series_slot : All (λ y. is_series_of 0 y ≡ true) series
  pub series_parties : All (λ y. parties_of (is_external y) (sender h) (pair y) ≡ true) series
  -- every trade is of the area, so that the key tells it by its parties, and no two of the message's share these
  pub used_trades : All (λ x. is_series x ≡ true → TradesIn ours x) us
  pub sent_trades : All (TradesIn ours) series
  pub trades_apart : apart same_trade series ≡ true
  pub owners : Owned us
  -- the series of the slot that the sender has or gets are its own, and the message has them all
  pub own : keep (is_series_of (slot_for us (sender h))) us ≡ own_series us (sender h)
  pub present : All (λ x. has (key_is (key x)) series ≡ true) (own_series us (sender h))

pub record Fits (book message : Bytes) : Type 0 where
  pub whole : length book % 512 ≡ 0
  pub least : 1 ≤ length book / 512
  pub placing : Placing (n_of (day_block book)) (area (day_block book)) (length (slots book)) (used book) (head_of message) (series_of message)
