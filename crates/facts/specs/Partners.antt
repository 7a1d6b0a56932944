-- The counterpart's own partner is the placed series: its pair has two parties, it stands for one of them, and a series of the message's sender with the pair makes
-- that sender the other; so no third sender has the pair, and nothing is sought.
use Rattle.std.specs.Prelude.{◌≡◌, ◌+◌, ◌≤◌, ◌<◌}
use Rattle.laws.specs.Base.{sym, ap, ◌∙◌, Bool, true, false, cond, some, List, [], ℕ, arith, length, take, get_or, set, take_all}
use Rattle.std.proofs.Math.Decide.{ℕ_discrete}
use Rattle.std.proofs.Common.{get_or-set_same}
use Rattle.std.proofs.Math.Seq.{get_or-set_other}
use Rattle.laws.specs.Tests.{is}
use Rattle.laws.specs.Tests.Laws.{split, clash, and_true, and_no_right}
use Rattle.laws.specs.Lists.{place, has, apart}
use Rattle.laws.specs.Lists.Each.{all_get_or_inside, all_find}
use Rattle.laws.specs.Lists.Search.{has_yes, has_no_all, find_passes, place_agree, place_none, place_more}
use Rattle.paper.specs.Layout.{Block, senders_slot, pair}
use Rattle.paper.specs.Book.{is_trade, trade, trade_is, slot_of, is_series_of, is_trade_of}
use Rattle.paper.specs.Sound.{parties_of}
use Rattle.paper.specs.Marks.{is_counterpart, counterpart_slot}
use Rattle.paper.specs.PlainRule.{other_party}
use Rattle.paper.specs.Looks.{found}
use Rattle.facts.specs.Book.{series_of_series, series_of_slot}
use Rattle.facts.specs.Keys.{trade_not_external}
use Rattle.facts.specs.Pairs.{trade_domestic, trade_none, trade_swap, same_trade, counterpart_yes, trade_of_own, trade_of_trade, trade_of_where_own, trade_of_other}
use Rattle.facts.specs.Senders.{Owner, Owned}
use Rattle.facts.specs.Sides.{sides}
use Rattle.facts.specs.Looks.{sent_inside, sent_is, sent_trade, sent_elsewhere, found_counterpart}

-- y is another's series, and the sender in the slot own has a trade with its pair, so that y is a trade too
module _ (l : List Block) (w : Owned l) (own : ℕ) (y : Block) (o : Owner l y) (other : senders_slot y ≡ own → ⊥)
    (there : has (is_trade_of own (trade y)) l ≡ true) where
  is_trade_lem : is_trade y ≡ true
  is_trade_lem = split (is_trade y) (λ i. i) (λ i.
      let r = has_yes (is_trade_of own (trade y)) l there in
      clash (trade_of_trade own _ r.0 (find_passes _ l r.0 r.1)) (trade_none y r.0 i))

  by_pair : trade y ≡ some (pair y)
  by_pair = trade_domestic y is_trade_lem

  party : parties_of false o.eic (pair y) ≡ true
  party = rw (trade_not_external y is_trade_lem) at o.party

  own_is_other_party : slot_of l (other_party o.eic (pair y)) ≡ own
  own_is_other_party =
      let r = has_yes (is_trade_of own (trade y)) l there in
      let x : Block = r.0 in
      let t : is_trade_of own (trade y) x ≡ true = find_passes _ l x r.1 in
      let i : senders_slot x ≡ own = series_of_slot own x (trade_of_own own _ x t) in
      let q : is_counterpart (slot_of l o.eic) (some (pair y)) x ≡ true = counterpart_yes _ _ x (series_of_series own x (trade_of_own own _ x t))
      (λ e. other (sym o.slot ∙ sym e ∙ i)) (ap (λ p. trade_is p x) (sym by_pair) ∙ trade_of_trade own _ x t) in
      let u : is_trade_of (slot_of l (other_party o.eic (pair y))) (some (pair y)) x ≡ true = sym (all_find
      (λ z. is_counterpart (slot_of l o.eic) (some (pair y)) z ≡ is_trade_of (slot_of l (other_party o.eic (pair y))) (some (pair y)) z) (is_trade_of own (trade y)) l x
      (sides l o.eic (pair y) o.known party w) r.1) ∙ q in
      sym (series_of_slot _ x (trade_of_own _ _ x u)) ∙ i

  pub partner_of_other : counterpart_slot l y ≡ place (is_trade_of own (trade y)) l
  unfolding counterpart_slot
  partner_of_other = rw by_pair
      (ap (λ s. place (is_counterpart s (some (pair y))) l) (sym o.slot)
      ∙ place_agree _ _ l (sides l o.eic (pair y) o.known party w)
      ∙ ap (λ s. place (is_trade_of s (some (pair y))) l) own_is_other_party)

-- ---- where the message's series are placed: of each the place, among the first i slots, of the sender's series with its pair

unfoldable pub Homes : (own : ℕ) (l : List Block) (series : List Block) (i : ℕ) (homes : List ℕ) → Type 0
Homes own l series i homes = (k : ℕ) → k < length series → get_or homes k 0 ≡ place (is_trade_of own (trade (get_or series k []))) (take i l)

module _ (own : ℕ) (l series : List Block) (homes : List ℕ) where
  pub homes_none : ((k : ℕ) → k < length series → get_or homes k 0 ≡ 0) → Homes own l series 0 homes
  unfolding Homes place
  homes_none z = z

  pub homes_all : Homes own l series (length l) homes → (k : ℕ) → k < length series → get_or homes k 0 ≡ place (is_trade_of own (trade (get_or series k []))) l
  unfolding Homes
  homes_all q k h = q k h ∙ ap (place (is_trade_of own (trade (get_or series k [])))) (take_all (length l) l (omega arith))

  abbrev home : ℕ → Block → Bool
  home k = is_trade_of own (trade (get_or series k []))

  -- one slot more
  module _ (i : ℕ) (h : i < length l) (q : Homes own l series i homes) where
    abbrev b : Block
    b = get_or l i []

    stays : (k : ℕ) → k < length series → home k b ≡ false → get_or homes k 0 ≡ place (home k) (take (i + 1) l)
    unfolding Homes
    stays k f n = q k f ∙ sym (place_more (home k) l i [] h ∙ rw (and_no_right (is (place (home k) (take i l)) 0) _ n))

    -- that holds no series of the sender
    pub homes_other : is_series_of own (get_or l i []) ≡ false → Homes own l series (i + 1) homes
    unfolding Homes
    homes_other n = λ k f. stays k f (trade_of_other own _ _ n)

    -- that holds a series with which no series of the message trades
    pub homes_no_trade : (number : ℕ) → number ≡ place (trade_is (trade (get_or l i []))) series → number ≡ 0 → Homes own l series (i + 1) homes
    unfolding Homes is_trade_of
    homes_no_trade number e z = λ k f. stays k f (and_no_right _ _ (trade_swap (get_or series k []) b
        ∙ all_get_or_inside (λ y. trade_is (trade b) y ≡ false) series k [] f (has_no_all _ series (place_none (trade_is (trade b)) series number e z))))

    -- that holds the sender's series with the pair of the message's, j + 1
    pub homes_own : apart same_trade series ≡ true → length series ≤ length homes → is_series_of own (get_or l i []) ≡ true → (j : ℕ)
        → place (trade_is (trade (get_or l i []))) series ≡ j + 1 → Homes own l series (i + 1) (set homes j (cond (is (get_or homes j 0) 0) (i + 1) (get_or homes j 0)))
    unfolding Homes
    homes_own a room s j e = λ k f. elim (ℕ_discrete k j) [
      | yes r ↦ rw r (get_or-set_same homes j _ 0 (omega (arith, inside))
          ∙ sym (place_more (home j) l i [] h ∙ rw (hit, and_true (is (place (home j) (take i l)) 0), ← q j inside)))
      | no r ↦ get_or-set_other homes j k _ 0 r ∙ stays k f
          (trade_of_where_own own _ _ s ∙ trade_swap (get_or series k []) b ∙ sent_elsewhere series (trade b) j e a k f r)
    ]
      where
        inside : j < length series
        inside = sent_inside series (trade b) j e

        hit : home j b ≡ true
        hit = trade_of_where_own own _ _ s ∙ trade_swap (get_or series j []) b ∙ sent_is series (trade b) j e

-- ---- the partner of each trade whose mark is put right, by the number j + 1 of the message's trade with its pair

module _ (l series : List Block) (own j : ℕ) where
  pub own_partner : (x : Block) → senders_slot x ≡ own → place (trade_is (trade x)) series ≡ j + 1 → get_or (found l series own) j 0 ≡ counterpart_slot l x
  own_partner x o e = found_counterpart l series own j (sent_inside series (trade x) j e) x o (sym (sent_trade series (trade x) j e))

  pub other_partner : Owned l → (y : Block) → Owner l y → (senders_slot y ≡ own → ⊥) → has (is_trade_of own (trade y)) l ≡ true
      → place (trade_is (trade y)) series ≡ j + 1 → (homes : List ℕ) → Homes own l series (length l) homes → get_or homes j 0 ≡ counterpart_slot l y
  other_partner w y o n there e homes q =
      homes_all own l series homes q j (sent_inside series (trade y) j e) ∙ ap (λ p. place (is_trade_of own p) l) (sent_trade series (trade y) j e)
      ∙ sym (partner_of_other l w own y o n there)
