-- What a series is paired by: a trade by its two parties, an external schedule by nothing. A search among the series of one slot by a test that the key decides, and a search for counterparts,
-- see kind, sender's slot and key alone; so a change of a block that leaves these three leaves what is found.
use Rattle.std.specs.Prelude.{◌≡◌}
use Rattle.laws.specs.Base.{refl, sym, ap, ap₂, ◌∙◌, Bool, true, false, false≢true, Option, none, some, option_map, List, ℕ}
use Rattle.laws.specs.Tests.{◌and◌, is}
use Rattle.laws.specs.Tests.Laws.{split, clash, and_left, and_right, and_both, and_no_left, and_no_right, or_right, neg_yes, neg_true, is_no, is_other}
use Rattle.laws.specs.Lists.{same, find, has, apart, All}
use Rattle.laws.specs.Lists.Each.{all_each}
use Rattle.laws.specs.Lists.Search.{all_has_no}
use Rattle.laws.specs.Lists.Same.{same_yes, same_equal, same_no}
use Rattle.laws.specs.Lists.Apart.{apart_imply}
use Rattle.paper.specs.Layout.{Bytes, Block, senders_slot, pair, key, quantities}
use Rattle.paper.specs.Book.{is_series, is_trade, key_is, trade, trade_is, slot_of, is_series_of, is_series_with, is_trade_of}
use Rattle.paper.specs.Marks.{is_counterpart}
use Rattle.paper.specs.Finals.{held}
use Rattle.facts.specs.Book.{series_of_series, series_of_slot}
use Rattle.facts.specs.Keys.{key_is_yes, key_is_equal, key_trade, key_is_trade, key_pair, Domestic, domestic_key}
use Rattle.facts.specs.Verdict.{same_id_or_key}

-- ---- a trade

pub trade_external : (b : Block) → is_trade b ≡ false → trade b ≡ none
unfolding trade
trade_external b t = rw t

pub trade_domestic : (b : Block) → is_trade b ≡ true → trade b ≡ some (pair b)
unfolding trade
trade_domestic b t = rw t

pub trade_is_trade : (t : Option Bytes) (b : Block) → trade_is t b ≡ true → is_trade b ≡ true
unfolding trade_is
trade_is_trade none b e = absurd (false≢true e)
trade_is_trade (some p) b e = and_left _ _ e

pub trade_is_yes : (t : Option Bytes) (b : Block) → trade_is t b ≡ true → trade b ≡ t
unfolding trade_is
trade_is_yes none b e = absurd (false≢true e)
trade_is_yes (some p) b e = trade_domestic b (and_left _ _ e) ∙ ap some (same_yes _ _ (and_right _ _ e))

pub trade_is_pair : (p : Bytes) (b : Block) → trade_is (some p) b ≡ true → pair b ≡ p
unfolding trade_is
trade_is_pair p b e = same_yes _ _ (and_right _ _ e)

-- a trade is one by its own pair
pub trade_is_own : (b : Block) → is_trade b ≡ true → trade_is (trade b) b ≡ true
unfolding trade_is
trade_is_own b t = rw (trade_domestic b t) (and_both _ _ t (same_equal (pair b) (pair b) refl))

pub trade_is_equal : (t : Option Bytes) (b : Block) → is_trade b ≡ true → trade b ≡ t → trade_is t b ≡ true
trade_is_equal t b i e = rw e at (trade_is_own b i)

pub trade_is_none : (t : Option Bytes) (b : Block) → is_trade b ≡ false → trade_is t b ≡ false
trade_is_none t b i = split (trade_is t b) (λ u. clash (trade_is_trade t b u) i) (λ u. u)

-- what an external schedule is paired by, no series is
pub trade_none : (b c : Block) → is_trade b ≡ false → trade_is (trade b) c ≡ false
unfolding trade_is
trade_none b c i = rw (trade_external b i)

-- who is paired with a series has its parties
pub trade_pair : (a b : Block) → trade_is (trade a) b ≡ true → pair b ≡ pair a
trade_pair a b e = split (is_trade a) (λ t. trade_is_pair (pair a) b (rw (trade_domestic a t) at e)) (λ t. clash e (trade_none a b t))

-- a trades with b as b with a
pub trade_swap : (a b : Block) → trade_is (trade a) b ≡ trade_is (trade b) a
trade_swap a b = split (trade_is (trade a) b)
    (λ t. t ∙ sym (trade_is_equal (trade b) a (other t) (sym (trade_is_yes _ b t))))
    (λ t. t ∙ sym (split (trade_is (trade b) a) (λ u. clash (trade_is_equal (trade a) b (back u) (sym (trade_is_yes _ a u))) t) (λ u. u)))
  where
    other : trade_is (trade a) b ≡ true → is_trade a ≡ true
    other t = split (is_trade a) (λ i. i) (λ i. clash t (trade_none a b i))

    back : trade_is (trade b) a ≡ true → is_trade b ≡ true
    back u = split (is_trade b) (λ i. i) (λ i. clash u (trade_none b a i))

-- ---- a test that the key decides

abbrev pub ByKey : (Block → Bool) → Type 0
ByKey q = (x y : Block) → key x ≡ key y → q x ≡ q y

pub key_by_key : (k : Bytes) → ByKey (key_is k)
unfolding key_is
key_by_key k x y e = ap (λ z. same z k) e

pub trade_by_key : (t : Option Bytes) → ByKey (trade_is t)
unfolding trade_is
trade_by_key none x y e = refl
trade_by_key (some p) x y e = ap₂ (λ t z. t and same z p) (key_is_trade x y e) (key_pair x y e)

-- ---- the series of a slot that passes a test

unfoldable pub of_slot : (slot : ℕ) (q : Block → Bool) (b : Block) → Bool
of_slot slot q b = is_series_of slot b and q b

pub with_of_slot : (slot : ℕ) (k : Bytes) → is_series_with slot k ≡ of_slot slot (key_is k)
unfolding is_series_with of_slot
with_of_slot slot k = refl

pub trade_of_slot : (slot : ℕ) (t : Option Bytes) → is_trade_of slot t ≡ of_slot slot (trade_is t)
unfolding is_trade_of of_slot
trade_of_slot slot t = refl

module _ (slot : ℕ) (q : Block → Bool) (b : Block) where
  pub of_slot_yes : is_series_of slot b ≡ true → q b ≡ true → of_slot slot q b ≡ true
  unfolding of_slot
  of_slot_yes s t = and_both _ _ s t

  pub of_slot_own : of_slot slot q b ≡ true → is_series_of slot b ≡ true
  unfolding of_slot
  of_slot_own t = and_left _ _ t

  pub of_slot_test : of_slot slot q b ≡ true → q b ≡ true
  unfolding of_slot
  of_slot_test t = and_right _ _ t

  pub of_slot_series : of_slot slot q b ≡ true → is_series b ≡ true
  of_slot_series t = series_of_series slot b (of_slot_own t)

  pub of_slot_slot : of_slot slot q b ≡ true → senders_slot b ≡ slot
  of_slot_slot t = series_of_slot slot b (of_slot_own t)

  pub of_slot_where_own : is_series_of slot b ≡ true → of_slot slot q b ≡ q b
  unfolding of_slot ◌and◌
  of_slot_where_own e = rw e

  pub of_slot_other : is_series_of slot b ≡ false → of_slot slot q b ≡ false
  unfolding of_slot
  of_slot_other e = and_no_left _ _ e

-- and of those the trades
module _ (slot : ℕ) (t : Option Bytes) (b : Block) where
  pub trade_of_yes : is_series_of slot b ≡ true → trade_is t b ≡ true → is_trade_of slot t b ≡ true
  unfolding is_trade_of
  trade_of_yes s e = and_both _ _ s e

  pub trade_of_own : is_trade_of slot t b ≡ true → is_series_of slot b ≡ true
  unfolding is_trade_of
  trade_of_own e = and_left _ _ e

  pub trade_of_trade : is_trade_of slot t b ≡ true → trade_is t b ≡ true
  unfolding is_trade_of
  trade_of_trade e = and_right _ _ e

  pub trade_of_where_own : is_series_of slot b ≡ true → is_trade_of slot t b ≡ trade_is t b
  unfolding is_trade_of ◌and◌
  trade_of_where_own e = rw e

  pub trade_of_other : is_series_of slot b ≡ false → is_trade_of slot t b ≡ false
  unfolding is_trade_of
  trade_of_other e = and_no_left _ _ e

-- ---- a counterpart

pub counterpart_series : (slot : ℕ) (t : Option Bytes) (b : Block) → is_counterpart slot t b ≡ true → is_series b ≡ true
unfolding is_counterpart
counterpart_series slot t b e = and_left _ _ (and_left _ _ e)

pub counterpart_trade : (slot : ℕ) (t : Option Bytes) (b : Block) → is_counterpart slot t b ≡ true → trade_is t b ≡ true
unfolding is_counterpart
counterpart_trade slot t b e = and_right _ _ e

pub counterpart_slot_lem : (slot : ℕ) (t : Option Bytes) (b : Block) → is_counterpart slot t b ≡ true → senders_slot b ≡ slot → ⊥
unfolding is_counterpart
counterpart_slot_lem slot t b e = is_no _ _ (neg_yes _ (and_right _ _ (and_left _ _ e)))

pub counterpart_yes : (slot : ℕ) (t : Option Bytes) (b : Block) → is_series b ≡ true → (senders_slot b ≡ slot → ⊥) → trade_is t b ≡ true → is_counterpart slot t b ≡ true
unfolding is_counterpart
counterpart_yes slot t b s n e = and_both _ _ (and_both _ _ s (neg_true _ (is_other _ _ n))) e

-- an external schedule has none
pub no_counterpart : (slot : ℕ) (l : List Block) → has (is_counterpart slot none) l ≡ false
unfolding is_counterpart trade_is
no_counterpart slot l = all_has_no (is_counterpart slot none) l (all_each (λ b. is_counterpart slot none b ≡ false) (λ b. and_no_right _ _ refl) l)

-- ---- what is seen of the series that a search finds

unfoldable pub view_found : (Block → Bytes) → (Block → Bool) → List Block → Option Bytes
view_found view p l = option_map view (find p l)

-- of the series that sender e has and that passes a test
unfoldable pub view_held : (Block → Bytes) → List Block → Bytes → (Block → Bool) → Option Bytes
view_held view us e q = view_found view (of_slot (slot_of us e) q) us

pub held_viewed : (us : List Block) (e p : Bytes) → held us e p ≡ view_held quantities us e (trade_is (some p))
unfolding held view_held view_found
held_viewed us e p = ap (λ q. option_map quantities (find q us)) (trade_of_slot (slot_of us e) (some p))

pub map_view : (view : Block → Bytes) (f : Block → Block) → ((b : Block) → view (f b) ≡ view b) → (o : Option Block) → option_map view
    (option_map f o) ≡ option_map view o
map_view view f h none = refl
map_view view f h (some b) = ap some (h b)

-- ---- a change f that leaves kind, and sender's slot and key of a series

pub record Keeps (f : Block → Block) : Type 0 where
  pub series : (b : Block) → is_series (f b) ≡ is_series b
  pub slot : (b : Block) → is_series b ≡ true → senders_slot (f b) ≡ senders_slot b
  pub keys : (b : Block) → is_series b ≡ true → key (f b) ≡ key b

module _ (f : Block → Block) (k : Keeps f) where
  pub trade_kept : (b : Block) → is_series b ≡ true → trade (f b) ≡ trade b
  trade_kept b t = key_trade (f b) b (k.keys b t)

  pub series_of_kept : (slot : ℕ) (b : Block) → is_series_of slot (f b) ≡ is_series_of slot b
  unfolding is_series_of ◌and◌
  series_of_kept slot b = rw (k.series b) (split (is_series b) (λ t. rw (t, k.slot b t)) (λ t. rw t))

  pub of_slot_kept : (slot : ℕ) (q : Block → Bool) → ByKey q → (b : Block) → of_slot slot q (f b) ≡ of_slot slot q b
  unfolding of_slot ◌and◌
  of_slot_kept slot q by b = rw (series_of_kept slot b)
      (split (is_series_of slot b) (λ t. rw (t, by (f b) b (k.keys b (series_of_series slot b t)))) (λ t. rw t))

  pub trade_of_kept : (slot : ℕ) (t : Option Bytes) (b : Block) → is_trade_of slot t (f b) ≡ is_trade_of slot t b
  trade_of_kept slot t b = ap (λ p. p (f b)) (trade_of_slot slot t) ∙ of_slot_kept slot (trade_is t) (trade_by_key t) b ∙ sym (ap (λ p. p b) (trade_of_slot slot t))

  pub counterpart_kept : (slot : ℕ) (t : Option Bytes) (b : Block) → is_counterpart slot t (f b) ≡ is_counterpart slot t b
  unfolding is_counterpart ◌and◌
  counterpart_kept slot t b = rw (k.series b) (split (is_series b) (λ u. rw (u, k.slot b u, trade_by_key t (f b) b (k.keys b u))) (λ u. rw u))

-- ---- two trades of one area with the same parties have one key, so that where no two series share a key no two trades share a pair

unfoldable pub same_trade : Block → Block → Bool
same_trade x y = trade_is (trade y) x

abbrev pub TradesIn : Bytes → Block → Type 0
TradesIn ours x = is_trade x ≡ true → Domestic ours x

-- both pass the test of one trade
pub one_key : (ours : Bytes) (t : Option Bytes) (x y : Block) → TradesIn ours x → TradesIn ours y → trade_is t x ≡ true → trade_is t y ≡ true → key x ≡ key y
unfolding trade_is
one_key ours none x y d c e f = absurd (false≢true e)
one_key ours (some p) x y d c e f =
    domestic_key ours x y (d (trade_is_trade (some p) x e)) (c (trade_is_trade (some p) y f)) (trade_is_pair p x e ∙ sym (trade_is_pair p y f))

-- x is a trade: another is one between the same parties exactly where it has the key of x
pub trade_as_key : (ours : Bytes) (t : Option Bytes) (x : Block) → TradesIn ours x → trade_is t x ≡ true → (z : Block) → TradesIn ours z → trade_is t z ≡ key_is (key x) z
trade_as_key ours t x d u z c = split (trade_is t z)
    (λ v. v ∙ sym (key_is_equal (key x) z (one_key ours t z x c d v u)))
    (λ v. v ∙ sym (split (key_is (key x) z) (λ w. clash (trade_by_key t z x (key_is_yes (key x) z w) ∙ u) v) (λ w. w)))

pub trades_apart : (ours : Bytes) (l : List Block) → All (TradesIn ours) l → apart same_id_or_key l ≡ true → apart same_trade l ≡ true
unfolding same_trade same_id_or_key
trades_apart ours l d a = apart_imply same_trade same_id_or_key (TradesIn ours) one l d a
  where
    one : (x y : Block) → TradesIn ours x → TradesIn ours y → same_id_or_key x y ≡ false → same_trade x y ≡ false
    one x y p q f = split (trade_is (trade y) x)
        (λ t. absurd (same_no (key x) (key y) (or_right _ _ f) (one_key ours (trade y) x y p q t (trade_is_own y (mine t)))))
        (λ t. t)
      where
        mine : trade_is (trade y) x ≡ true → is_trade y ≡ true
        mine t = split (is_trade y) (λ i. i) (λ i. clash t (trade_none y x i))
