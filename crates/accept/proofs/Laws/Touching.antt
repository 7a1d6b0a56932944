-- After an acceptance the sender's trades are those of its message. So both sides of a trade are told by their number in the message: the sender's has for its partner
-- what the looks have found, and the other side has that one. A series of the sender with no number is no trade, and has none.
use Rattle.std.specs.Prelude.{◌≡◌, ◌+◌, ◌-◌, ◌≤◌, ◌<◌}
use Rattle.laws.specs.Kit.{sym, ap, ◌∙◌, Bool, true, false, Option, List, [], ℕ, arith, length, take, get_or, get_or-take, neg, is, split, clash, and_left, and_right, or_else, is_yes, is_no, neg_true, neg_false}
use Rattle.laws.specs.Lists.{place, has}
use Rattle.laws.specs.Lists.Each.{all_get_or_inside}
use Rattle.laws.specs.Lists.Search.{has_no_all, place_is_not_0, place_none, place_length, has_viewed}
use Rattle.paper.specs.Layout.{Bytes, Block, sender, senders_slot, quantities}
use Rattle.paper.specs.Book.{is_series, is_trade, trade, trade_is, is_trade_of}
use Rattle.paper.specs.Marks.{counterpart_slot}
use Rattle.paper.specs.Acceptance.{slot_for, placed, touched}
use Rattle.paper.specs.Looks.{found}
use Rattle.facts.specs.Layout.{quantities_with_senders_slot}
use Rattle.facts.specs.Book.{series_of_yes}
use Rattle.facts.specs.Pairs.{trade_is_own, trade_by_key, trade_of_slot, trade_of_yes, of_slot, view_found}
use Rattle.facts.specs.Renewal.{Shape, slot_for_few, placed_length}
use Rattle.facts.specs.Senders.{Owner, Owned, owned_placed}
use Rattle.facts.specs.Stored.{trade_told, held_own}
use Rattle.facts.specs.Looks.{sent_inside}
use Rattle.facts.specs.Partners.{Homes, own_partner, other_partner}
use Rattle.accept.specs.Fits.{Placing}
use Rattle.marks.proofs.Laws.{no_counterpart}
use Rattle.accept.specs.Steps.{TradeNumbers, Housed, touched_by, partner_by, Sides}

module _ (n : ℕ) (ours : Bytes) (many : ℕ) (us : List Block) (h : Block) (series : List Block) (p : Placing n ours many us h series) where
  abbrev home : ℕ
  home = slot_for us (sender h)

  pub shape : Shape us h series
  shape = record {
    head_whole = p.head_whole;
    head_sender = p.head_kind;
    series_whole = p.series_whole;
    series_kind = p.series_kind;
    fits = let f : many ≤ 1000 = p.few in omega (arith, slot_for_few us (sender h), p.room, placed_length ours us h series);
  }

  sender_has : (t : Option Bytes) → has (is_trade_of home t) (placed ours us h series) ≡ has (trade_is t) series
  unfolding view_found
  sender_has t =
      ap (λ q. has q (placed ours us h series)) (trade_of_slot home t)
      ∙ has_viewed quantities (of_slot home (trade_is t)) (trade_is t) (placed ours us h series) series
      (held_own ours us h series shape p.own p.present quantities quantities_with_senders_slot (trade_is t) (trade_by_key t)
      (trade_told ours home us series p.used_trades p.sent_trades t))

  pub housed : Housed home (placed ours us h series) series
  housed = record {
    sent = record { few = p.series_few; slots = p.series_slot; distinct = p.trades_apart };
    same_trades = sender_has;
    owners = owned_placed ours us h series shape p.owners p.series_parties;
  }

-- ---- the sides of a trade, by what the looks have found

-- l is a list that has a block y at place k
has_at : (q : Block → Bool) (l : List Block) (k : ℕ) → k < length l → q (get_or l k []) ≡ true → has q l ≡ true
has_at q l k h e = split (has q l) (λ t. t) (λ t. clash e (all_get_or_inside (λ x. q x ≡ false) l k [] h (has_no_all q l t)))

module _ (own : ℕ) (l series : List Block) (s : Housed own l series) (partners homes numbers : List ℕ) (f : take (length series) partners ≡ found l series own)
    (g : Homes own l series (length l) homes) (c : TradeNumbers l series numbers) where
  module _ (k : ℕ) (h : k < length l) where
    abbrev y : Block
    y = get_or l k []

    abbrev number : ℕ
    number = get_or numbers k 0

    number_is : number ≡ place (trade_is (trade y)) series
    unfolding TradeNumbers
    number_is = c k h

    in_message : neg (is number 0) ≡ has (is_trade_of own (trade y)) l
    in_message = ap (λ z. neg (is z 0)) number_is ∙ place_is_not_0 (trade_is (trade y)) series ∙ sym (s.same_trades (trade y))

    side_touched : touched_by own number y ≡ touched own l y
    unfolding touched_by touched
    side_touched = rw in_message

    -- a trade of the sender has a number, for it is itself one of those in the slot
    own_unnumbered : is_series y ≡ true → senders_slot y ≡ own → number ≡ 0 → is_trade y ≡ false
    own_unnumbered t o z = split (is_trade y)
        (λ i. clash (has_at (is_trade_of own (trade y)) l k h (trade_of_yes own _ y (series_of_yes own y t o) (trade_is_own y i)))
        (s.same_trades (trade y) ∙ place_none _ series number number_is z))
        (λ i. i)

    -- by a number j + 1
    module _ (j : ℕ) (e : place (trade_is (trade y)) series ≡ j + 1) (t : is_series y ≡ true) where
      numbered_own : senders_slot y ≡ own → get_or partners j 0 ≡ counterpart_slot l y
      numbered_own o =
          sym (get_or-take (length series) partners j 0 (sent_inside series (trade y) j e)) ∙ ap (λ z. get_or z j 0) f ∙ own_partner l series own j y o e

      numbered_other : has (is_trade_of own (trade y)) l ≡ true → (senders_slot y ≡ own → ⊥) → get_or homes j 0 ≡ counterpart_slot l y
      unfolding Owned
      numbered_other there o =
          other_partner l series own j s.owners y (all_get_or_inside (λ x. is_series x ≡ true → Owner l x) l k [] h s.owners t) o there e homes g

    side_partner : touched_by own number y ≡ true → partner_by own number partners homes y ≡ counterpart_slot l y
    unfolding touched_by partner_by
    side_partner t =
        let q : is_series y ≡ true = and_left _ _ t in
        split (is number 0)
        (λ z.
        let o : is (senders_slot y) own ≡ true = split (is (senders_slot y) own) (λ u. u) (λ u. clash (or_else _ _ (and_right _ _ t) u) (neg_false _ z)) in
        rw z (sym (no_counterpart l y (own_unnumbered q (is_yes _ _ o) (is_yes _ _ z)))))
        (λ z.
        let j : ℕ = number - 1 in
        let e : place (trade_is (trade y)) series ≡ j + 1 = omega (arith, number_is, is_no number 0 z) in
        split (is (senders_slot y) own)
        (λ u. rw (z, u) (numbered_own j e q (is_yes _ _ u)))
        (λ u. rw (z, u) (numbered_other j e q (sym in_message ∙ neg_true _ z) (is_no _ _ u))))

  pub sides_found : Sides own l partners homes numbers
  unfolding Sides
  sides_found k h = record {
    few = let m : length series ≤ 200 = s.sent.few in omega (arith, number_is k h, place_length (trade_is (trade (get_or l k []))) series);
    is_touched = side_touched k h;
    partner = side_partner k h;
  }
