-- The marks kept are the plain rule's: a true mark of a trade is worked out from its quantities and its counterpart's, these are what the two parties last sent
-- under the pair, and the slot in it is the counterpart's; an external schedule has no counterpart.
use Rattle.std.specs.Prelude.{◌≡◌, ◌∷◌, ◌<◌}
use Rattle.laws.specs.Base.{refl, sym, ap, ap₂, ◌∙◌, Bool, true, false, true≢false, Option, none, some, option_get_or, option_map, List, [], ℕ, arith}
use Rattle.laws.specs.Tests.{◌and◌}
use Rattle.laws.specs.Tests.Laws.{split, and_left, and_right, and_both, and_no_left, and_no_right, is_yes}
use Rattle.laws.specs.Lists.{find, has, place, nth, All}
use Rattle.laws.specs.Lists.Each.{all_imply, all_each, all_nth, all_find}
use Rattle.laws.specs.Lists.Search.{has_yes, has_no_find, has_no_place, all_has_no, find_passes, find_agree, place_length, nth_place, place_agree}
use Rattle.laws.specs.Bytes.{part, value, number}
use Rattle.laws.specs.Bytes.Laws.{number_part}
use Rattle.paper.specs.Layout.{Bytes, Block, n_of, area, senders_slot, pair, key, mark, partner, quantities}
use Rattle.paper.specs.Book.{day_block, used, is_series, is_trade, trade, trade_is, is_sender_block_of, slot_of, is_series_of, is_series_with, is_trade_of}
use Rattle.paper.specs.Sound.{parties_of, sender_fields, sender_sound, used_sound, same_series}
use Rattle.paper.specs.Message.{head_of}
use Rattle.paper.specs.Marks.{is_counterpart, counterpart, counterpart_slot, mark_of, mark_in}
use Rattle.paper.specs.Finals.{held}
use Rattle.paper.specs.PlainRun.{plain_run}
use Rattle.paper.specs.PlainRule.{latest, n_of_latest, plain_held, other_party, plain_mark}
use Rattle.facts.specs.Layout.{mark_partner}
use Rattle.facts.specs.Keys.{key_is_yes, key_is_equal, trade_not_external}
use Rattle.facts.specs.Sound.{Sound, used_few, used_sender}
use Rattle.facts.specs.Pairs.{trade_external, trade_domestic, trade_is_yes, trade_is_own, trade_of_own, trade_of_trade, no_counterpart, view_found, TradesIn, trade_as_key}
use Rattle.facts.specs.Trades.{used_trades}
use Rattle.promises.specs.Laws.Marks.{MarksTrue}
use Rattle.facts.specs.Book.{sender_block_sender, series_of_series, series_of_slot, series_of_yes}
use Rattle.facts.specs.Senders.{slot_of_one, Owner, Owned, owned}
use Rattle.facts.specs.Sides.{sides}
use Rattle.promises.specs.Laws.SoundApart.{same_series_yes, same_key_yes}
use Rattle.promises.specs.Laws.SoundSeries.{partner_in}
use Rattle.promises.specs.Laws.PlainRun.{true_yes}
use Rattle.promises.specs.Laws.ById.{apart_find}
use Rattle.promises.specs.Laws.Invariant.{Invariant, held_plain}
use Rattle.promises.specs.Words.{head_content, plain_head_content}

-- ---- a trade is the one that its sender has between its parties

found_itself : (book : Bytes) → Sound book → (slot : ℕ) (x : Block) → nth (used book) slot ≡ some x → is_series x ≡ true → is_trade x ≡ true
    → find (is_trade_of (senders_slot x) (trade x)) (used book) ≡ some x
unfolding is_trade_of is_series_with
found_itself book g slot x e s t =
    find_agree (is_trade_of (senders_slot x) (trade x)) (is_series_with (senders_slot x) (key x)) (used book)
    (all_imply (λ z. is_series z ≡ true → TradesIn (area (day_block book)) z) (λ z. is_trade_of (senders_slot x) (trade x) z ≡ is_series_with (senders_slot x) (key x) z)
    (λ z d. split (is_series_of (senders_slot x) z)
    (λ o. ap (λ b. is_series_of (senders_slot x) z and b) (trade_as_key (area (day_block book)) (trade x) x mine (trade_is_own x t) z (d (series_of_series _ z o))))
    (λ o. and_no_left _ _ o ∙ sym (and_no_left _ _ o))) (used book) (used_trades book g))
    ∙ apart_find same_series (is_series_with (senders_slot x) (key x)) (used book) g.series slot x e
    (and_both _ _ (series_of_yes (senders_slot x) x s refl) (key_is_equal (key x) x refl))
    (λ y u. same_series_yes y x (series_of_series _ y (and_left _ _ u)) s (series_of_slot _ y (and_left _ _ u)) (same_key_yes y x (key_is_yes _ y (and_right _ _ u))))
  where
    mine : TradesIn (area (day_block book)) x
    mine = all_nth (λ z. is_series z ≡ true → TradesIn (area (day_block book)) z) (used book) slot x (used_trades book g) e s

-- ---- a mark and the slot in it

pub slot_in_mark : (n : ℕ) (a q : Bytes) (slot : ℕ) (x : Block) → slot < 65536 → mark x ≡ mark_of n a (some q) slot → partner x ≡ slot
unfolding mark_of
slot_in_mark n a q slot x h e = mark_partner x ∙ ap (number 2 2) e ∙ partner_in _ _ slot h

pub no_slot_in_mark : (n : ℕ) (a : Bytes) (slot : ℕ) (x : Block) → mark x ≡ mark_of n a none slot → partner x ≡ 0
unfolding mark_of number part value
no_slot_in_mark n a slot x e = mark_partner x ∙ ap (number 2 2) e

mark_by_partner : (n : ℕ) (a : Bytes) (o : Option Bytes) (slot : ℕ) (x : Block) → slot < 65536 → mark x ≡ mark_of n a o slot → mark x ≡ mark_of n a o (partner x)
unfolding mark_of
mark_by_partner n a none slot x h e = e
mark_by_partner n a (some q) slot x h e = rw (slot_in_mark n a q slot x h e) e

-- ---- n in the first block of a message, nets and check apart

n_in_head : (s : Block) → number 1 1 (head_content s) ≡ n_of s
unfolding head_content n_of
n_in_head s = number_part 1 0 108 1 s (omega arith)

n_of_head : (s : Block) (found : Option Bytes) → some (head_content s) ≡ option_map (λ m. head_content (head_of m)) found → n_of_latest found ≡ n_of s
unfolding n_of_latest
n_of_head s none e = let z : true ≡ false = cc in absurd (true≢false z)
n_of_head s (some m) e = let h : head_content s ≡ head_content (head_of m) = cc in sym (n_in_head (head_of m)) ∙ ap (number 1 1) (sym h) ∙ n_in_head s

nth_zero : (l : List Block) → nth l 0 ≡ none
unfolding nth
nth_zero [] = refl
nth_zero (x ∷ l) = refl

not_found : (o : Option Block) → option_map quantities o ≡ none → o ≡ none
not_found none e = refl
not_found (some y) e = let z : true ≡ false = cc in absurd (true≢false z)

quantities_found_yes : (p : Block → Bool) (l : List Block) (q : Bytes) → view_found quantities p l ≡ some q → (y : Block) × (find p l ≡ some y) × (quantities y ≡ q)
unfolding view_found
quantities_found_yes p l q e = by (find p l) refl
  where
    by : (o : Option Block) → find p l ≡ o → (y : Block) × (find p l ≡ some y) × (quantities y ≡ q)
    by none f = let z : none ≡ some q = sym (ap (option_map quantities) f) ∙ e in let w : true ≡ false = cc in absurd (true≢false w)
    by (some y) f = let z : some (quantities y) ≡ some q = sym (ap (option_map quantities) f) ∙ e in (y, f, cc)

found_viewed : (us : List Block) (e p : Bytes) → view_found quantities (is_trade_of (slot_of us e) (some p)) us ≡ held us e p
unfolding view_found held
found_viewed us e p = refl

no_trade_of : (slot : ℕ) (l : List Block) → has (is_trade_of slot none) l ≡ false
unfolding is_trade_of trade_is
no_trade_of slot l = all_has_no (is_trade_of slot none) l (all_each (λ b. is_trade_of slot none b ≡ false) (λ b. and_no_right _ _ refl) l)

module _ (book : Bytes) (ms : List Bytes) (v : Invariant book ms) where
  abbrev us : List Block
  us = used book

  abbrev n : ℕ
  n = n_of (day_block book)

  few : (p : Block → Bool) → place p us < 65536
  few p = omega (arith, place_length p us, used_few book v.good)

  owner_named : (slot : ℕ) (x : Block) → nth (used book) slot ≡ some x → is_series x ≡ true → Owner (used book) x
  unfolding Owned
  owner_named slot x h s = all_nth (λ y. is_series y ≡ true → Owner us y) us slot x (owned book v.good) h s

  pub sender_named : (slot : ℕ) (x : Block) → nth (used book) slot ≡ some x → is_series x ≡ true → (e : Bytes) × (slot_of (used book) e ≡ senders_slot x)
  sender_named slot x h s = let w = owner_named slot x h s in (w.eic, w.slot)

  -- n of a stored sender's latest message is the day block's: its sender block has it, by soundness, and is that message's first block but for nets and check
  n_latest : (e : Bytes) → has (is_sender_block_of e) us ≡ true → n_of_latest (latest e ms) ≡ n_of (day_block book)
  unfolding sender_sound sender_fields plain_head_content
  n_latest e t =
      let q = has_yes (is_sender_block_of e) us t in
      let a = used_sender _ us q.0 (all_find (λ x. used_sound (day_block book) us x ≡ true) _ us q.0 v.good.each q.1)
      (sender_block_sender e q.0 (find_passes _ us q.0 q.1)) in
      n_of_head q.0 (latest e ms) (sym (ap (option_map head_content) q.1) ∙ v.heads e)
      ∙ is_yes _ _ (and_left _ _ (and_left _ _ (and_left _ _ (and_left _ _ (and_left _ _ (and_left _ _ a))))))

  -- a series x in a slot, and its sender e
  module _ (slot : ℕ) (x : Block) (h : nth (used book) slot ≡ some x) (s : is_series x ≡ true) (e : Bytes) (i : slot_of (used book) e ≡ senders_slot x) where
    abbrev other : Bytes
    other = other_party e (pair x)

    kept : mark x ≡ mark_in n us x
    unfolding MarksTrue
    kept = all_nth (λ y. is_series y ≡ true → mark y ≡ mark_in n us y) us slot x v.marks h s

    -- an external schedule
    alone_mark : is_trade x ≡ false → mark x ≡ mark_of n (quantities x) none 0
    unfolding mark_in counterpart counterpart_slot
    alone_mark t = kept ∙ rw (trade_external x t, has_no_find _ us (no_counterpart (senders_slot x) us), has_no_place _ us (no_counterpart (senders_slot x) us))

    alone_partner : is_trade x ≡ false → partner x ≡ 0
    alone_partner t = no_slot_in_mark n (quantities x) 0 x (alone_mark t)

    eic_is : e ≡ (owner_named slot x h s).eic
    eic_is = slot_of_one us (owner_named slot x h s).eic e (owner_named slot x h s).known (i ∙ sym (owner_named slot x h s).slot)

    -- a trade
    module _ (t : is_trade x ≡ true) where
      party : parties_of false e (pair x) ≡ true
      party = rw (eic_is, ← (trade_not_external x t)) (owner_named slot x h s).party

      agree : All (λ y. is_counterpart (slot_of us e) (some (pair x)) y ≡ is_trade_of (slot_of us other) (some (pair x)) y) us
      agree = sides us e (pair x) (rw eic_is (owner_named slot x h s).known) party (owned book v.good)

      due : mark x ≡ mark_of n (quantities x) (plain_held ms other (pair x)) (place (is_trade_of (slot_of us other) (some (pair x))) us)
      unfolding mark_in counterpart counterpart_slot held
      due =
          kept
          ∙ ap (λ o. mark_of n (quantities x) (option_map quantities (find (is_counterpart (senders_slot x) o) us)) (place (is_counterpart (senders_slot x) o) us)) (trade_domestic x t)
          ∙ ap (λ o. mark_of n (quantities x) (option_map quantities (find (is_counterpart o (some (pair x))) us)) (place (is_counterpart o (some (pair x))) us)) (sym i)
          ∙ ap₂ (λ o p. mark_of n (quantities x) o p) (ap (option_map quantities) (find_agree _ _ us agree) ∙ held_plain book ms v other (pair x))
          (place_agree _ _ us agree)

      own_held : plain_held ms e (pair x) ≡ some (quantities x)
      unfolding held
      own_held =
          sym (held_plain book ms v e (pair x)) ∙ ap (λ o. option_map quantities (find (is_trade_of o (some (pair x))) us)) i
          ∙ ap (λ o. option_map quantities (find (is_trade_of (senders_slot x) o) us)) (sym (trade_domestic x t))
          ∙ ap (option_map quantities) (found_itself book v.good slot x h s t)

      trade_mark : mark x ≡ plain_mark ms e (some (pair x)) (partner x)
      unfolding plain_mark
      trade_mark =
          mark_by_partner n (quantities x) (plain_held ms other (pair x)) _ x (few _) due
          ∙ ap₂ (λ o m. mark_of m (option_get_or o []) (plain_held ms other (pair x)) (partner x)) (sym own_held)
          (sym (n_latest e (rw eic_is (owner_named slot x h s).known)))

      trade_partner : nth (used book) (partner x) ≡ find (is_trade_of (slot_of (used book) (other_party e (pair x))) (some (pair x))) (used book)
      unfolding held
      trade_partner = by (plain_held ms other (pair x)) refl
        where
          other's : Block → Bool
          other's = is_trade_of (slot_of us other) (some (pair x))

          by : (o : Option Bytes) → plain_held ms other (pair x) ≡ o → nth us (partner x) ≡ find (is_trade_of (slot_of us other) (some (pair x))) us
          by none f = ap (nth us) (no_slot_in_mark n (quantities x) _ x (due ∙ ap (λ o. mark_of n (quantities x) o (place other's us)) f)) ∙ nth_zero us
              ∙ sym (not_found (find other's us) (held_plain book ms v other (pair x) ∙ f))
          by (some q) f = ap (nth us) (slot_in_mark n (quantities x) q _ x (few _) (due ∙ ap (λ o. mark_of n (quantities x) o (place other's us)) f)) ∙ nth_place _ us

      pub partner_plain : (q : Bytes) → plain_held ms (other_party e (pair x)) (pair x) ≡ some q
          → (y : Block) × (nth (used book) (partner x) ≡ some y) × (is_series y ≡ true) × (slot_of (used book) (other_party e (pair x)) ≡ senders_slot y)
          × (trade y ≡ trade x) × (quantities y ≡ q)
      unfolding held
      partner_plain q f =
          let r = quantities_found_yes (is_trade_of (slot_of us other) (some (pair x))) us q (found_viewed us other (pair x) ∙ held_plain book ms v other (pair x) ∙ f) in
          let y : Block = r.0 in
          let g : is_trade_of (slot_of us other) (some (pair x)) y ≡ true = find_passes _ us y r.1 in (
            y,
            trade_partner ∙ r.1,
            series_of_series _ y (trade_of_own _ _ y g),
            sym (series_of_slot _ y (trade_of_own _ _ y g)),
            trade_is_yes _ y (trade_of_trade _ _ y g)
                ∙ sym (trade_domestic x t),
            r.2,
          )

    pub mark_plain : mark x ≡ plain_mark ms e (trade x) (partner x)
    unfolding plain_mark mark_of
    mark_plain = split (is_trade x) (λ t. rw (trade_domestic x t) (trade_mark t)) (λ t. rw (trade_external x t) (alone_mark t))

    -- the slot in it holds the trade of the other party with the pair; where there is none, as for an external schedule, it is 0, and no slot has that number
    pub partner_found : nth (used book) (partner x) ≡ find (is_trade_of (slot_of (used book) (other_party e (pair x))) (trade x)) (used book)
    partner_found = split (is_trade x)
        (λ t. rw (trade_domestic x t) (trade_partner t))
        (λ t. rw (trade_external x t, alone_partner t) (nth_zero us ∙ sym (has_no_find _ us (no_trade_of (slot_of us other) us))))

  -- ---- the plain run

  pub says_yes : plain_run book ≡ record { number = 0; holds = true }
  says_yes = true_yes book v.good v.marks v.kept_nets
