-- After an acceptance the sender holds the message's trades, and its contents under every key, and everyone else what they held: a stored series of the sender is replaced
-- by the message's, a new one is added, and none is absent from the message.
use Rattle.std.specs.Prelude.{◌≡◌}
use Rattle.laws.specs.Base.{Bool, cond, some, ℕ, arith}
use Rattle.laws.specs.Lists.{same}
use Rattle.paper.specs.Layout.{Bytes, Block, n_of, area, sender, quantities, with_senders_slot}
use Rattle.paper.specs.Book.{day_block, used, key_is, trade_is}
use Rattle.paper.specs.Message.{head_of, series_of}
use Rattle.facts.specs.Layout.{quantities_with_senders_slot, Alike, alike_senders_slot}
use Rattle.facts.specs.Verdict.{Accepts}
use Rattle.facts.specs.Pairs.{ByKey, key_by_key, trade_by_key, view_found, view_held}
use Rattle.facts.specs.Trades.{used_trades, sent_trades}
use Rattle.facts.specs.Renewal.{shape}
use Rattle.facts.specs.Remarking.{alike_remarked, quantities_remarked}
use Rattle.facts.specs.Senders.{owned, own_series_lem}
use Rattle.facts.specs.Stored.{ToldByKey, key_told, trade_told, held_after}
use Rattle.promises.specs.Laws.Parts.{sender_slot, remarked_of, after_of}
use Rattle.promises.specs.Words.{content}

alike_content : (x y : Block) → Alike x y → content x ≡ content y
unfolding content
alike_content x y a = rw (a.front 0 6 (omega arith), a.middle 8 96 (omega arith) (omega arith), a.back 108 400 (omega arith) (omega arith))

module _ (book message : Bytes) (a : Accepts book message) where
  after : (view : Block → Bytes) → ((slot : ℕ) (y : Block) → view (with_senders_slot slot y) ≡ view y) → ((b : Block) → view (remarked_of book message b) ≡ view b)
      → (q : Block → Bool) → ByKey q → ToldByKey (sender_slot book message) (used book) (series_of message) q → (e : Bytes)
      → view_held view (after_of book message) e q ≡ cond (same (sender (head_of message)) e) (view_found view q (series_of message)) (view_held view (used book) e q)
  after view s m q by told e = held_after (area (day_block book)) (used book) (head_of message) (series_of message) (shape book message a)
      (own_series_lem (used book) (owned book a.was) (sender (head_of message))) a.present view s q by (n_of (day_block book)) m told e

  pub held_accepted : (e p : Bytes) → view_held quantities (after_of book message) e (trade_is (some p)) ≡ cond (same (sender (head_of message)) e)
      (view_found quantities (trade_is (some p)) (series_of message)) (view_held quantities (used book) e (trade_is (some p)))
  held_accepted e p = after quantities quantities_with_senders_slot (quantities_remarked _ _ _) (trade_is (some p)) (trade_by_key (some p))
      (trade_told (area (day_block book)) _ (used book) (series_of message) (used_trades book a.was) (sent_trades book message a) (some p)) e

  pub content_accepted : (e k : Bytes) → view_held content (after_of book message) e (key_is k) ≡ cond (same (sender (head_of message)) e)
      (view_found content (key_is k) (series_of message)) (view_held content (used book) e (key_is k))
  content_accepted e k = after content (λ slot y. alike_content _ _ (alike_senders_slot slot y)) (λ b. alike_content _ _ (alike_remarked _ _ _ b)) (key_is k) (key_by_key k)
      (key_told _ (used book) (series_of message) k) e
