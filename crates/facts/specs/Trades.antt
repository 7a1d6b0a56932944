-- The trades of a sound book and of an accepted message are all of the day block's area: both areas are that one, and no capacity field is set. So no two trades of one sender share a pair.
use Rattle.std.specs.Prelude.{◌≡◌}
use Rattle.laws.specs.Base.{true, false, List, ℕ, arith, length}
use Rattle.laws.specs.Tests.Laws.{split, clash, and_left, and_right, is_yes, is_other}
use Rattle.laws.specs.Lists.{apart, All}
use Rattle.laws.specs.Lists.Each.{all_imply, all_both}
use Rattle.laws.specs.Lists.Same.{same_yes}
use Rattle.paper.specs.Layout.{Bytes, Block, area, sender}
use Rattle.paper.specs.Book.{day_block, used, is_series, is_trade, with_capacity, own_series}
use Rattle.paper.specs.Sound.{areas_allowed, capacity_allowed, used_sound}
use Rattle.paper.specs.Message.{head_of, series_of}
use Rattle.facts.specs.Book.{used_lengths}
use Rattle.facts.specs.Keys.{Domestic, trade_not_external}
use Rattle.facts.specs.Sound.{Sound, used_series, series_areas, series_capacity}
use Rattle.facts.specs.Verdict.{Line, Accepts, series_lengths}
use Rattle.facts.specs.Pairs.{same_trade, TradesIn, trades_apart}

trade_no_capacity : (x : Block) → is_trade x ≡ true → with_capacity x ≡ false
unfolding is_trade with_capacity
trade_no_capacity x t = is_other _ _ (λ e. omega (arith, is_yes _ _ t))

domestic : (ours : Bytes) (x : Block) → length x ≡ 512 → areas_allowed ours x ≡ true → capacity_allowed x ≡ true → TradesIn ours x
unfolding areas_allowed capacity_allowed is_trade
domestic ours x l a c t =
    let p = rw (trade_not_external x t) at a in
    let q = rw (trade_no_capacity x t) at c in
    record {
      whole = l;
      business = is_yes _ _ t;
      contract = is_yes _ _ (and_left _ _ q);
      in_area_is = same_yes _ _ (and_left _ _ p);
      out_area_is = same_yes _ _ (and_right _ _ p);
      no_agreement = and_right _ _ q;
    }

pub used_trades : (book : Bytes) → Sound book → All (λ x. is_series x ≡ true → TradesIn (area (day_block book)) x) (used book)
used_trades book s =
    all_imply (λ x. (used_sound (day_block book) (used book) x ≡ true) × (length x ≡ 512)) (λ x. is_series x ≡ true → TradesIn (area (day_block book)) x)
    (λ x q t.
    let e = used_series _ _ x q.0 t in
    domestic (area (day_block book)) x q.1 (series_areas (day_block book) (used book) x e) (series_capacity (day_block book) (used book) x e))
    (used book) (all_both (λ x. used_sound (day_block book) (used book) x ≡ true) (λ x. length x ≡ 512) (used book) s.each (used_lengths book))

pub sent_trades : (book message : Bytes) → Accepts book message → All (TradesIn (area (day_block book))) (series_of message)
sent_trades book message a =
    all_imply (λ y. Line (day_block book) (own_series (used book) (sender (head_of message))) (head_of message) y × (length y ≡ 512)) (TradesIn (area (day_block book)))
    (λ y q. domestic (area (day_block book)) y q.1 q.0.areas q.0.capacity) (series_of message)
    (all_both (Line (day_block book) (own_series (used book) (sender (head_of message))) (head_of message)) (λ y. length y ≡ 512) (series_of message) a.each (series_lengths message))

pub sent_trades_apart : (book message : Bytes) → Accepts book message → apart same_trade (series_of message) ≡ true
sent_trades_apart book message a = trades_apart (area (day_block book)) (series_of message) (sent_trades book message a) a.distinct_all
