-- The partners that an acceptance writes are those that its looks have found: each mark that it puts right names the counterpart's slot among the blocks placed, which
-- is what the looks find for the sender's series; and of a counterpart it is the slot of the placed series.
use Rattle.std.specs.Prelude.{◌≡◌, ◌+◌, ◌≤◌, ◌<◌}
use Rattle.laws.specs.Base.{refl, sym, ap, ◌∙◌, Bool, true, false, true≢false, Option, none, some, option_map, List, [], ℕ, arith, length, get_or, length-map}
use Rattle.laws.specs.Tests.{◌and◌}
use Rattle.laws.specs.Tests.Laws.{split, and_left, and_right, and_both, and_no_left, or_yes_right, is_equal, is_other}
use Rattle.laws.specs.Lists.{find, has, place, nth, All}
use Rattle.laws.specs.Lists.Each.{all_imply, all_nth, nth_map}
use Rattle.laws.specs.Lists.Search.{has_yes, has_no_place, has_no_all, place_length, place_agree, place_map_each}
use Rattle.paper.specs.Layout.{Bytes, Block, n_of, area, sender, senders_slot, key, mark, partner, quantities}
use Rattle.paper.specs.Book.{day_block, used, is_series, is_trade, trade, trade_is, slot_of, is_series_of, is_series_with, is_trade_of}
use Rattle.paper.specs.Message.{head_of, series_of}
use Rattle.paper.specs.Rules.{number_of, verdict}
use Rattle.paper.specs.Sound.{same_series}
use Rattle.paper.specs.Marks.{is_counterpart, counterpart, counterpart_slot, mark_of, mark_in}
use Rattle.paper.specs.Acceptance.{placed, touched, used_after, accepted}
use Rattle.paper.specs.Looks.{partners_found, looked, submit_answer}
use Rattle.facts.specs.Layout.{mark_with_mark}
use Rattle.facts.specs.Book.{series_of_series, series_of_slot, used_lengths}
use Rattle.facts.specs.Verdict.{Accepts}
use Rattle.facts.specs.Keys.{key_is_yes, key_is_equal, key_trade}
use Rattle.facts.specs.Pairs.{trade_is_yes, trade_is_own, trade_none, trade_of_yes, trade_of_trade, trade_of_kept, counterpart_series, counterpart_slot_lem, counterpart_trade, counterpart_kept, series_of_kept, TradesIn, trade_as_key}
use Rattle.facts.specs.Trades.{used_trades}
use Rattle.facts.specs.Renewal.{Shape, shape, placed_lengths}
use Rattle.facts.specs.Remarking.{mark_in_length, remarked_touched, remarked_keeps, trade_remarked}
use Rattle.facts.specs.Senders.{Owner, Owned, owned, owned_placed, slot_after_own}
use Rattle.facts.specs.Looks.{visited_length, found_counterpart}
use Rattle.facts.specs.Partners.{partner_of_other}
use Rattle.promises.specs.Laws.Parts.{parts}
use Rattle.promises.specs.Laws.Marks.{own_touched}
use Rattle.promises.specs.Laws.ReadBack.{used_accepted, day_block_accepted}
use Rattle.promises.specs.Laws.SoundApart.{same_series_yes, same_key_yes, series_kept}
use Rattle.promises.specs.Laws.Soundness.{sound_accepted}
use Rattle.promises.specs.Laws.SoundSlots.{placed_few}
use Rattle.promises.specs.Laws.ById.{apart_place}
use Rattle.promises.specs.Laws.PlainMarks.{slot_in_mark, no_slot_in_mark}

-- ---- the number of looks

pub looked_refused : (book message : Bytes) → (number_of (verdict book message) ≡ 0 → ⊥) → (submit_answer book message).looked ≡ 0
unfolding submit_answer looked
looked_refused book message n = rw (is_other _ _ n)

pub looked_accepted : (book message : Bytes) → number_of (verdict book message) ≡ 0 → Accepts book message
    → (submit_answer book message).looked ≡ length (used (accepted book message))
unfolding submit_answer looked used_after
looked_accepted book message e a =
    rw (is_equal _ _ e) (visited_length (placed (area (day_block book)) (used book) (head_of message) (series_of message))
    ∙ sym (ap length (used_accepted book message a) ∙ length-map (placed (area (day_block book)) (used book) (head_of message) (series_of message)) _))

pub looked_most : (book message : Bytes) → number_of (verdict book message) ≡ 0 → Accepts book message
    → (submit_answer book message).looked ≤ length (used (accepted book message)) + length (series_of message)
looked_most book message e a = omega (arith, looked_accepted book message e a)

pub verdict_answered : (book message : Bytes) → (submit_answer book message).verdict ≡ verdict book message
unfolding submit_answer
verdict_answered book message = refl

-- ---- the slot in a mark

found_none : (p : Block → Bool) (l : List Block) → find p l ≡ none → place p l ≡ 0
found_none p l e = split (has p l)
    (λ t. let r = has_yes p l t in let z : none ≡ some r.0 = sym e ∙ r.1 in let w : true ≡ false = cc in absurd (true≢false w))
    (λ t. has_no_place p l t)

partner_marked : (n : ℕ) (l : List Block) → length l < 65536 → (z x : Block) → mark x ≡ mark_in n l z → partner x ≡ counterpart_slot l z
unfolding mark_in counterpart counterpart_slot
partner_marked n l h z x e = by (find p l) refl
  where
    p : Block → Bool
    p = is_counterpart (senders_slot z) (trade z)

    by : (o : Option Block) → find p l ≡ o → partner x ≡ place p l
    by none f = no_slot_in_mark n (quantities z) (place p l) x (e ∙ ap (λ o. mark_of n (quantities z) (option_map quantities o) (place p l)) f) ∙ sym (found_none p l f)
    by (some y) f = slot_in_mark n (quantities z) (quantities y) (place p l) x (omega (arith, place_length p l))
        (e ∙ ap (λ o. mark_of n (quantities z) (option_map quantities o) (place p l)) f)

-- ---- of an accepted message

mapped : (f : Block → Block) (o : Option Block) (x : Block) → option_map f o ≡ some x → (z : Block) × (o ≡ some z) × (x ≡ f z)
mapped f none x e = let w : true ≡ false = cc in absurd (true≢false w)
mapped f (some z) x e = (z, refl, cc)

nth_has : (p : Block → Bool) (l : List Block) (k : ℕ) (x : Block) → nth l k ≡ some x → p x ≡ true → has p l ≡ true
nth_has p l k x e t = split (has p l) (λ u. u) (λ u. let n : p x ≡ false = all_nth (λ y. p y ≡ false) l k x (has_no_all p l u) e in absurd (true≢false (sym t ∙ n)))

other_touched : (slot : ℕ) (l : List Block) (y : Block) → is_series y ≡ true → has (is_trade_of slot (trade y)) l ≡ true → touched slot l y ≡ true
unfolding touched
other_touched slot l y s e = and_both _ _ s (or_yes_right _ _ e)

-- the series of a slot with a key
with_own : (slot : ℕ) (k : Bytes) (b : Block) → is_series_with slot k b ≡ true → is_series_of slot b ≡ true
unfolding is_series_with
with_own slot k b t = and_left _ _ t

with_key : (slot : ℕ) (k : Bytes) (b : Block) → is_series_with slot k b ≡ true → key b ≡ k
unfolding is_series_with
with_key slot k b t = key_is_yes k b (and_right _ _ t)

with_yes : (slot : ℕ) (b : Block) → is_series_of slot b ≡ true → is_series_with slot (key b) b ≡ true
unfolding is_series_with
with_yes slot b s = and_both _ _ s (key_is_equal (key b) b refl)

-- beside a trade x, the trades of a slot between its parties are its series with the key of x
trade_with : (slot : ℕ) (o : Bytes) (t : Option Bytes) (x : Block) → TradesIn o x → trade_is t x ≡ true → (b : Block) → (is_series b ≡ true → TradesIn o b)
    → is_trade_of slot t b ≡ is_series_with slot (key x) b
unfolding is_trade_of is_series_with
trade_with slot o t x d u b c = split (is_series_of slot b)
    (λ s. ap (λ z. is_series_of slot b and z) (trade_as_key o t x d u b (c (series_of_series slot b s))))
    (λ s. and_no_left _ _ s ∙ sym (and_no_left _ _ s))

module _ (book message : Bytes) (a : Accepts book message) where
  open parts book message use {ours, us, h, series, slot, now, put, after}

  c : Shape (used book) (head_of message) (series_of message)
  c = shape book message a

  abbrev n : ℕ
  n = n_of (day_block book)

  owners : Owned now
  owners = owned_placed ours us h series c (owned book a.was) (all_imply _ _ (λ y l. l.parties) series a.each)

  owner : (i : ℕ) (y : Block) → nth now i ≡ some y → is_series y ≡ true → Owner now y
  unfolding Owned
  owner i y e = all_nth (λ y. is_series y ≡ true → Owner now y) now i y owners e

  -- the block that was marked, in its slot among the blocks placed
  placed_in : (i : ℕ) (x : Block) → nth after i ≡ some x → (z : Block) × (nth now i ≡ some z) × (x ≡ put z)
  unfolding used_after
  placed_in i x e = mapped put (nth now i) x (sym (nth_map put now i) ∙ e)

  -- a mark put right names the counterpart among the blocks placed
  partner_written : (i : ℕ) (z : Block) → nth now i ≡ some z → touched slot now z ≡ true → partner (put z) ≡ counterpart_slot now z
  partner_written i z e t =
      ap partner (remarked_touched n slot now z t)
      ∙ partner_marked n now (placed_few book message a) z _
      (mark_with_mark (mark_in n now z) z (mark_in_length n now z) (all_nth (λ y. length y ≡ 512) now i z (placed_lengths ours us h series c (used_lengths book)) e))

  -- a series x of the sender, in slot i
  module _ (i : ℕ) (x : Block) (there : nth (used (accepted book message)) i ≡ some x)
      (own : is_series_of (slot_of (used (accepted book message)) (sender (head_of message))) x ≡ true) where
    there_after : nth after i ≡ some x
    there_after = rw (used_accepted book message a) at there

    own_after : is_series_of slot x ≡ true
    own_after = ap (λ s. is_series_of s x) (sym (slot_after_own ours us h series c n)) ∙ rw (used_accepted book message a) at own

    abbrev z : Block
    z = (placed_in i x there_after).0

    z_there : nth now i ≡ some z
    z_there = (placed_in i x there_after).1

    z_trade : trade z ≡ trade x
    z_trade = sym (ap trade (placed_in i x there_after).2 ∙ trade_remarked n slot now z)

    z_own : is_series_of slot z ≡ true
    z_own = sym (ap (is_series_of slot) (placed_in i x there_after).2 ∙ series_of_kept put (remarked_keeps n slot now) slot z) ∙ own_after

    pub partner_of_own : (k : ℕ) → k < length (series_of message) → key x ≡ key (get_or (series_of message) k []) → partner x ≡ get_or (partners_found book message) k 0
    unfolding partners_found
    partner_of_own k f e =
        ap partner (placed_in i x there_after).2
        ∙ partner_written i z z_there (own_touched slot now z (series_of_series slot z z_own) (series_of_slot slot z z_own))
        ∙ sym (found_counterpart now series slot k f z (series_of_slot slot z z_own) (z_trade ∙ key_trade x _ e))

    pub partner_of_counterpart : (j : ℕ) (y : Block) → nth (used (accepted book message)) j ≡ some y
        → is_counterpart (slot_of (used (accepted book message)) (sender (head_of message))) (trade x) y ≡ true → partner y ≡ i
    unfolding used_after
    partner_of_counterpart j y e other =
        let r = placed_in j y (rw (used_accepted book message a) at e) in
        let u : Block = r.0 in
        let t : is_counterpart slot (trade x) u ≡ true = sym (ap (λ s. is_counterpart s (trade x) y) (slot_after_own ours us h series c n)
        ∙ ap (is_counterpart slot (trade x)) r.2 ∙ counterpart_kept put (remarked_keeps n slot now) slot (trade x) u) ∙ rw (used_accepted book message a) at other in
        let s : is_series u ≡ true = counterpart_series slot (trade x) u t in
        let p : trade u ≡ trade x = trade_is_yes (trade x) u (counterpart_trade slot (trade x) u t) in
        let w : is_trade x ≡ true = split (is_trade x) (λ k. k) (λ k. absurd (true≢false (sym (counterpart_trade slot (trade x) u t) ∙ trade_none x u k))) in
        let q : is_trade_of slot (trade u) x ≡ true = trade_of_yes slot (trade u) x own_after (rw p (trade_is_own x w)) in
        let m : has (is_trade_of slot (trade u)) now ≡ true = nth_has (is_trade_of slot (trade u)) now i z z_there
        (sym (trade_of_kept put (remarked_keeps n slot now) slot (trade u) z) ∙ ap (is_trade_of slot (trade u)) (sym (placed_in i x there_after).2) ∙ q) in
        ap partner r.2
        ∙ partner_written j u r.1 (other_touched slot now u s m)
        ∙ partner_of_other now owners slot u (owner j u r.1 s) (counterpart_slot_lem slot (trade x) u t) m
        ∙ sym (place_map_each put (is_trade_of slot (trade u)) (is_trade_of slot (trade u)) (trade_of_kept put (remarked_keeps n slot now) slot (trade u)) now)
        ∙ place_agree _ (is_series_with slot (key x)) after (by_key (trade u) q)
        ∙ apart_place same_series (is_series_with slot (key x)) after (series_kept book message a) i x there_after (with_yes slot x own_after)
        (λ v b. same_series_yes v x (series_of_series slot v (with_own slot (key x) v b)) (series_of_series slot x own_after)
        (series_of_slot slot v (with_own slot (key x) v b) ∙ sym (series_of_slot slot x own_after)) (same_key_yes v x (with_key slot (key x) v b)))
      where
        trades : All (λ b. is_series b ≡ true → TradesIn (area (day_block book)) b) after
        trades = rw (day_block_accepted book message a, used_accepted book message a) at (used_trades (accepted book message) (sound_accepted book message a))

        by_key : (t : Option Bytes) → is_trade_of slot t x ≡ true → All (λ b. is_trade_of slot t b ≡ is_series_with slot (key x) b) after
        by_key t q = all_imply (λ b. is_series b ≡ true → TradesIn (area (day_block book)) b) (λ b. is_trade_of slot t b ≡ is_series_with slot (key x) b)
            (trade_with slot (area (day_block book)) t x (all_nth (λ b. is_series b ≡ true → TradesIn (area (day_block book)) b) after i x trades there_after
            (series_of_series slot x own_after)) (trade_of_trade slot t x q)) after trades
