-- Settled positions: every buyer and every seller of a pair is in the list of parties, no party and no pair stands there twice, so that as much is bought as is sold; every pair of a
-- sound book has its final at a closed position; and the sums slot by slot, each pair at the first slot that has it.
use Rattle.std.specs.Prelude.{◌≡◌, ◌∷◌, ◌++◌, ◌+◌, ◌≤◌, ◌<◌}
use Rattle.laws.specs.Base.{refl, sym, ap, ◌∙◌, Bool, true, false, cond, some, List, [], map, ℕ, suc, arith, length, take, drop, get_or, take-append-drop, append-nil, add-one, drop-drop, take-suc}
use Rattle.laws.specs.Tests.{◌and◌, ◌or◌, neg, is, less}
use Rattle.laws.specs.Tests.Laws.{split, clash, and_left, and_right, and_both, and_no_right, or_left, or_right, or_yes_left, or_yes_right, or_else, or_false, is_equal, is_other, is_no, less_false, less_no, neg_false}
use Rattle.laws.specs.Lists.{same, place, has, apart, keep, total, All, once}
use Rattle.laws.specs.Lists.Same.{same_yes, same_refl, same_equal, same_swap}
use Rattle.laws.specs.Lists.Each.{all_imply, all_both, all_each, all_keep, all_kept, all_map, all_get_or_inside, drop_take, map_append}
use Rattle.laws.specs.Lists.Search.{has_yes, has_or, has_map, has_agree, has_keep_and, has_take_place}
use Rattle.laws.specs.Lists.Apart.{apart_place, apart_imply}
use Rattle.laws.specs.Lists.Keep.{keep_append}
use Rattle.laws.specs.Lists.Once.{once_apart, once_has, all_once, total_once_more, total_by_name}
use Rattle.laws.specs.Bytes.{part}
use Rattle.laws.specs.Bytes.Laws.{part_part}
use Rattle.paper.specs.Layout.{Bytes, Block, n_of, area, senders_slot, in_party, out_party, pair}
use Rattle.paper.specs.Book.{day_block, used, is_series, is_trade, trade, trade_is, is_series_of, is_trade_of}
use Rattle.paper.specs.Sound.{sound, parties_of, same_series}
use Rattle.paper.specs.Rules.{closed}
use Rattle.paper.specs.Marks.{is_counterpart}
use Rattle.paper.specs.Finals.{held, is_held, final_in, final}
use Rattle.paper.specs.Settled.{is_trade_series, appearing, parties, trade_pairs, buyer_of, seller_of, final_of_pair, bought_by, sold_by, settled_refused, settled_in, settled}
use Rattle.facts.specs.Book.{series_of_yes, series_of_series, series_of_slot}
use Rattle.facts.specs.Pairs.{trade_domestic, trade_is_own, trade_is_trade, trade_of_yes, trade_of_own, trade_of_trade, TradesIn, one_key}
use Rattle.facts.specs.Senders.{Owner, Owned, owned}
use Rattle.facts.specs.Sound.{Sound}
use Rattle.facts.specs.Trades.{used_trades}

-- ---- the two parties of a pair

pub buyer_of_pair : (x : Block) → buyer_of (pair x) ≡ in_party x
unfolding buyer_of pair in_party part
buyer_of_pair x = part_part 56 32 0 16 x (omega arith)

pub seller_of_pair : (x : Block) → seller_of (pair x) ≡ out_party x
unfolding seller_of pair out_party part
seller_of_pair x = drop_take 16 16 (drop 56 x) ∙ ap (take 16) (drop-drop 16 56 x)

pub pair_again : (p : Bytes) → buyer_of p ++ seller_of p ≡ p
unfolding buyer_of seller_of
pair_again p = take-append-drop 16 p

-- ---- the list of parties, and no party or pair twice

pub parties_apart : (us : List Block) → apart same (parties us) ≡ true
unfolding parties
parties_apart us = once_apart (appearing us)

pub pairs_apart : (us : List Block) → apart same (trade_pairs us) ≡ true
unfolding trade_pairs
pairs_apart us = once_apart (map pair (keep is_trade_series us))

-- x has both its parties there
abbrev Appears : List Bytes → Block → Type 0
Appears names x = (has (same (in_party x)) names ≡ true) × (has (same (out_party x)) names ≡ true)

appears : (us : List Block) → All (Appears (appearing us)) (keep is_trade_series us)
unfolding appearing keep has
appears [] = tt
appears (b ∷ us) = split (is_trade_series b)
    (λ t. rw t (
      (or_yes_left _ _ (same_refl (in_party b)), or_yes_right _ _ (or_yes_left _ _ (same_refl (out_party b)))),
      all_imply (Appears (appearing us)) (Appears (in_party b ∷ out_party b ∷ appearing us)) (λ x h. (or_yes_right _ _ (or_yes_right _ _ h.0), or_yes_right _ _ (or_yes_right _ _ h.1)))
          (keep is_trade_series us) (appears us),
    ))
    (λ t. rw t (appears us))

named : (us : List Block) (who : Bytes → Bytes) → ((x : Block) → Appears (appearing us) x → has (same (who (pair x))) (appearing us) ≡ true)
    → All (λ p. has (same (who p)) (parties us) ≡ true) (trade_pairs us)
unfolding parties trade_pairs
named us who f =
    all_once (λ p. has (same (who p)) (once (appearing us)) ≡ true) (map pair (keep is_trade_series us)) (all_map (λ p. has (same (who p)) (once (appearing us)) ≡ true) pair (keep is_trade_series us)
    (all_imply (Appears (appearing us)) (λ x. has (same (who (pair x))) (once (appearing us)) ≡ true) (λ x h. once_has (who (pair x)) (appearing us) ∙ f x h) (keep is_trade_series us) (appears us)))

pub every_buyer_is_a_party : (us : List Block) → All (λ p. has (same (buyer_of p)) (parties us) ≡ true) (trade_pairs us)
every_buyer_is_a_party us = named us buyer_of (λ x h. ap (λ e. has (same e) (appearing us)) (buyer_of_pair x) ∙ h.0)

pub every_seller_is_a_party : (us : List Block) → All (λ p. has (same (seller_of p)) (parties us) ≡ true) (trade_pairs us)
every_seller_is_a_party us = named us seller_of (λ x h. ap (λ e. has (same e) (appearing us)) (seller_of_pair x) ∙ h.1)

-- every party in the list is one of an A02 series
abbrev NamedIn : List Block → Bytes → Type 0
NamedIn kept e = has (λ x. same (in_party x) e or same (out_party x) e) kept ≡ true

appearing_named : (us : List Block) → All (NamedIn (keep is_trade_series us)) (appearing us)
unfolding appearing keep has
appearing_named [] = tt
appearing_named (b ∷ us) = split (is_trade_series b)
    (λ t. rw t (
      or_yes_left _ _ (or_yes_left _ _ (same_refl (in_party b))),
      (
        or_yes_left _ _ (or_yes_right _ _ (same_refl (out_party b))),
        all_imply (NamedIn (keep is_trade_series us)) (NamedIn (b ∷ keep is_trade_series us)) (λ e k. or_yes_right _ _ k) (appearing us) (appearing_named us),
      ),
    ))
    (λ t. rw t (appearing_named us))

pub every_party_appears : (us : List Block) → All (λ e. has (λ x. same (in_party x) e or same (out_party x) e) (keep is_trade_series us) ≡ true) (parties us)
unfolding parties
every_party_appears us = all_once (NamedIn (keep is_trade_series us)) (appearing us) (appearing_named us)

-- both sums, over the parties, are the sum over the pairs
pub sums_cancel : (day : Block) (us : List Block) (position : ℕ) → total (bought_by day us position) (parties us) ≡ total (sold_by day us position) (parties us)
unfolding bought_by sold_by
sums_cancel day us position =
    total_by_name buyer_of (final_of_pair day us position) (parties us) (trade_pairs us) (parties_apart us) (every_buyer_is_a_party us)
    ∙ sym (total_by_name seller_of (final_of_pair day us position) (parties us) (trade_pairs us) (parties_apart us) (every_seller_is_a_party us))

-- ---- at a closed position

-- position is one of the day's, and closed
pub record ClosedAt (day : Block) (position : ℕ) : Type 0 where
  pub first : position ≡ 0 → ⊥
  pub last : position ≤ n_of day
  pub shut : closed day position ≡ true

module _ (day : Block) (us : List Block) (position : ℕ) (c : ClosedAt day position) where
  pub settled_at : (party : Bytes) → settled_in day us party position ≡ record { number = 0; bought = bought_by day us position party; sold = sold_by day us position party }
  unfolding settled_in ◌or◌ neg
  settled_at party = rw (is_other position 0 c.first, less_false (n_of day) position c.last, c.shut)

  given : (seller buyer : Bytes) → (is_held (held us seller (buyer ++ seller)) or is_held (held us buyer (buyer ++ seller))) ≡ true → (final_in day us seller buyer position).number ≡ 0
  unfolding final_in ◌or◌ neg
  given seller buyer h = rw (is_other position 0 c.first, less_false (n_of day) position c.last, c.shut, h)

-- ---- at any other position

pub refused_as_finals : (book : Bytes) (position : ℕ) → (ClosedAt (day_block book) position → ⊥) → (party seller buyer : Bytes)
    → settled book party position ≡ settled_refused (final book seller buyer position).number
unfolding settled settled_in final final_in neg
refused_as_finals book position n party seller buyer =
    split (sound book)
    (λ s. split (is position 0 or less (n_of (day_block book)) position)
    (λ t. rw (s, t))
    (λ t. split (closed (day_block book) position)
    (λ u. absurd (n (record { first = is_no _ _ (or_left _ _ t); last = less_no _ _ (or_right _ _ t); shut = u })))
    (λ u. rw (s, t, u))))
    (λ s. rw s)

-- ---- every trade of a sound book stands for a sender that is one of its parties, and no sender has two trades of one pair

unfoldable pub same_trade_of : Block → Block → Bool
same_trade_of a b = is_trade_series b and is_trade_of (senders_slot b) (trade b) a

pub record Trading (us : List Block) : Type 0 where
  pub owners : Owned us
  pub alone : apart same_trade_of us ≡ true

trade_series_series : (b : Block) → is_trade_series b ≡ true → is_series b ≡ true
unfolding is_trade_series
trade_series_series b t = and_left _ _ t

pub trade_series_trade : (b : Block) → is_trade_series b ≡ true → is_trade b ≡ true
unfolding is_trade_series
trade_series_trade b t = and_right _ _ t

pub sound_trading : (book : Bytes) → Sound book → Trading (used book)
unfolding same_trade_of same_series
sound_trading book s = record {
  owners = owned book s;
  alone = apart_imply same_trade_of same_series (λ x. is_series x ≡ true → TradesIn (area (day_block book)) x) one (used book) (used_trades book s) s.series;
}
  where
    one : (x y : Block) → (is_series x ≡ true → TradesIn (area (day_block book)) x) → (is_series y ≡ true → TradesIn (area (day_block book)) y) → same_series x y ≡ false → same_trade_of x y ≡ false
    one x y p q f = split (same_trade_of x y)
        (λ t.
        let z = and_left _ _ t in
        let r = and_right _ _ t in
        let m = series_of_series _ x (trade_of_own _ _ x r) in
        let n = trade_series_series y z in
        let k = one_key (area (day_block book)) (trade y) x y (p m) (q n) (trade_of_trade _ _ x r) (trade_is_own y (trade_series_trade y z)) in
        clash (and_both _ _ (and_both _ _ (and_both _ _ m n) (is_equal _ _ (series_of_slot _ x (trade_of_own _ _ x r)))) (or_yes_right _ _ (same_equal _ _ k))) f)
        (λ t. t)

-- a trade of a pair is another sender's than the one in a slot, or its own
either : (b : Block) (p : Bytes) (slot : ℕ) → (is_trade_series b and same p (pair b)) ≡ (is_counterpart slot (some p) b or is_trade_of slot (some p) b)
unfolding is_trade_series is_counterpart is_trade_of is_series_of trade_is ◌and◌ ◌or◌ neg
either b p slot = rw (same_swap p (pair b)) (split (is_series b)
    (λ s. split (is_trade b)
    (λ t. split (is (senders_slot b) slot) (λ i. rw (s, t, i)) (λ i. rw (s, t, i) (sym (or_false (same (pair b) p)))))
    (λ t. split (is (senders_slot b) slot) (λ i. rw (s, t, i)) (λ i. rw (s, t, i))))
    (λ s. rw s))

own_own : (x : Block) → is_trade_series x ≡ true → is_trade_of (senders_slot x) (trade x) x ≡ true
own_own x t = trade_of_yes _ _ x (series_of_yes _ x (trade_series_series x t) refl) (trade_is_own x (trade_series_trade x t))

module _ (us : List Block) (w : Trading us) (j : ℕ) (h : j < length us) (t : is_trade_series (get_or us j []) ≡ true) where
  abbrev x : Block
  x = get_or us j []

  -- the trade of its sender with its pair is the block itself
  pub own_place : place (is_trade_of (senders_slot x) (trade x)) us ≡ suc j
  unfolding same_trade_of ◌and◌
  own_place = apart_place same_trade_of (is_trade_of (senders_slot x) (trade x)) us j [] h (own_own x t) (λ y f. rw t at f) w.alone

  pub owner : Owner us x
  unfolding Owned
  owner = all_get_or_inside (λ y. is_series y ≡ true → Owner us y) us j [] h w.owners (trade_series_series x t)

  -- an earlier trade of its pair is its counterpart
  pub earlier : has (same (pair x)) (map pair (keep is_trade_series (take j us))) ≡ has (is_counterpart (senders_slot x) (trade x)) (take j us)
  earlier =
      has_map pair (same (pair x)) (keep is_trade_series (take j us)) ∙ has_keep_and (λ b. same (pair x) (pair b)) is_trade_series (take j us)
      ∙ has_agree _ (λ b. is_counterpart (senders_slot x) (trade x) b or is_trade_of (senders_slot x) (trade x) b) (take j us) (all_each _ sides (take j us))
      ∙ has_or (is_counterpart (senders_slot x) (trade x)) (is_trade_of (senders_slot x) (trade x)) (take j us)
      ∙ ap (λ z. has (is_counterpart (senders_slot x) (trade x)) (take j us) or z) none_own ∙ or_false (has (is_counterpart (senders_slot x) (trade x)) (take j us))
    where
      none_own : has (is_trade_of (senders_slot x) (trade x)) (take j us) ≡ false
      none_own = has_take_place (is_trade_of (senders_slot x) (trade x)) us j [] h (own_own x t) ∙ neg_false _ (is_equal _ _ own_place)

      sides : (b : Block) → (is_trade_series b and same (pair x) (pair b)) ≡ (is_counterpart (senders_slot x) (trade x) b or is_trade_of (senders_slot x) (trade x) b)
      sides b = rw (trade_domestic x (trade_series_trade x t)) (either b (pair x) (senders_slot x))

-- ---- every pair has its final

each_has : (q : Block → Block → Bool) (l : List Block) → All (λ x. q x x ≡ true) l → All (λ x. has (q x) l ≡ true) l
unfolding has
each_has q [] h = tt
each_has q (y ∷ ys) h = (or_yes_left _ _ h.0, all_imply (λ x. has (q x) ys ≡ true) (λ x. (q x y or has (q x) ys) ≡ true) (λ x e. or_yes_right _ _ e) ys (each_has q ys h.1))

-- every A02 series has its pair in the list of pairs
pub every_trade_is_counted : (us : List Block) → All (λ x. has (same (pair x)) (trade_pairs us) ≡ true) (keep is_trade_series us)
unfolding trade_pairs
every_trade_is_counted us =
    all_imply (λ x. has (λ y. same (pair x) (pair y)) kept ≡ true) (λ x. has (same (pair x)) (once (map pair kept)) ≡ true)
    (λ x h. once_has (pair x) (map pair kept) ∙ has_map pair (same (pair x)) kept ∙ h) kept
    (each_has (λ x y. same (pair x) (pair y)) kept (all_each (λ x. same (pair x) (pair x) ≡ true) (λ x. same_refl (pair x)) kept))
  where
    kept : List Block
    kept = keep is_trade_series us

abbrev own : Block → Block → Bool
own x = is_trade_of (senders_slot x) (trade x)

own_kept : (us : List Block) (x : Block) → has (own x) (keep is_trade_series us) ≡ true → has (own x) us ≡ true
unfolding is_trade_series
own_kept us x e = sym (has_keep_and (own x) is_trade_series us ∙ has_agree _ (own x) us (all_each _ one us)) ∙ e
  where
    one : (y : Block) → (is_trade_series y and own x y) ≡ own x y
    one y = split (own x y)
        (λ t. and_both _ _ (and_both _ _ (series_of_series _ y (trade_of_own _ _ y t)) (trade_is_trade _ y (trade_of_trade _ _ y t))) t ∙ sym t)
        (λ t. and_no_right _ _ t ∙ sym t)

module _ (us : List Block) (x : Block) (t : is_trade_series x ≡ true) (o : Owner us x) (f : has (own x) us ≡ true) where
  own_held : is_held (held us o.eic (pair x)) ≡ true
  unfolding held is_held
  own_held = let r = has_yes (own x) us f in rw (o.slot, ← trade_domestic x (trade_series_trade x t), r.1)

  pub one_held : (is_held (held us (seller_of (pair x)) (pair x)) or is_held (held us (buyer_of (pair x)) (pair x))) ≡ true
  unfolding buyer_of seller_of parties_of
  one_held =
      let e = and_right _ _ o.party in
      split (same (take 16 (pair x)) o.eic)
      (λ u. or_yes_right _ _ (rw (same_yes _ _ u) own_held))
      (λ u. or_yes_left _ _ (rw (same_yes _ _ (or_else _ _ e u)) own_held))

pub pairs_given : (day : Block) (us : List Block) (position : ℕ) → ClosedAt day position → Trading us
    → All (λ p. (final_in day us (seller_of p) (buyer_of p) position).number ≡ 0) (trade_pairs us)
unfolding trade_pairs Owned
pairs_given day us position c w =
    all_once (λ p. (final_in day us (seller_of p) (buyer_of p) position).number ≡ 0) (map pair kept) (all_map (λ p. (final_in day us (seller_of p) (buyer_of p) position).number ≡ 0) pair kept
    (all_imply Met (λ x. (final_in day us (seller_of (pair x)) (buyer_of (pair x)) position).number ≡ 0) one kept met))
  where
    kept : List Block
    kept = keep is_trade_series us

    Met : Block → Type 0
    Met x = ((is_trade_series x ≡ true) × (is_series x ≡ true → Owner us x)) × (has (own x) kept ≡ true)

    met : All Met kept
    met = all_both (λ x. (is_trade_series x ≡ true) × (is_series x ≡ true → Owner us x)) (λ x. has (own x) kept ≡ true) kept
        (all_both (λ x. is_trade_series x ≡ true) (λ x. is_series x ≡ true → Owner us x) kept (all_kept is_trade_series us) (all_keep (λ x. is_series x ≡ true → Owner us x) is_trade_series us w.owners))
        (each_has own kept (all_imply (λ x. is_trade_series x ≡ true) (λ x. own x x ≡ true) own_own kept (all_kept is_trade_series us)))

    one : (x : Block) → Met x → (final_in day us (seller_of (pair x)) (buyer_of (pair x)) position).number ≡ 0
    one x m =
        let t = m.0.0 in
        given day us position c (seller_of (pair x)) (buyer_of (pair x)) (rw (pair_again (pair x)) (one_held us x t (m.0.1 (trade_series_series x t)) (own_kept us x m.1)))

-- ---- the sums slot by slot

-- a pair's value at the first slot that has it, else 0
unfoldable pub counted_at : (us : List Block) (value : Bytes → ℕ) (j : ℕ) → ℕ
counted_at us value j =
    cond (is_trade_series (get_or us j []))
    (cond (has (same (pair (get_or us j []))) (map pair (keep is_trade_series (take j us)))) 0 (value (pair (get_or us j [])))) 0

pub total_counted : (us : List Block) (value : Bytes → ℕ) (test : Bytes → Bool) (i : ℕ) → i < length us
    → total (λ p. cond (test p) (value p) 0) (trade_pairs (take (i + 1) us))
    ≡ total (λ p. cond (test p) (value p) 0) (trade_pairs (take i us)) + cond (test (pair (get_or us i []))) (counted_at us value i) 0
unfolding trade_pairs counted_at keep
total_counted us value test i h =
    ap (λ l. total g (once (map pair (keep is_trade_series l)))) (ap (λ n. take n us) (add-one i) ∙ take-suc us i [] h)
    ∙ ap (λ l. total g (once (map pair l))) (keep_append is_trade_series (take i us) (x ∷ []))
    ∙ split (is_trade_series x)
    (λ t. rw t (ap (λ l. total g (once l)) (map_append pair (keep is_trade_series (take i us)) (x ∷ [])) ∙ total_once_more (pair x) g before
    ∙ ap (λ n. total g (once before) + n) (split (has (same (pair x)) before) (λ u. rw u (split (test (pair x)) (λ v. rw v) (λ v. rw v))) (λ u. rw u))))
    (λ t. rw t (ap (λ l. total g (once (map pair l))) (append-nil (keep is_trade_series (take i us))) ∙ split (test (pair x)) (λ v. rw v (omega arith)) (λ v. rw v (omega arith))))
  where
    x : Block
    x = get_or us i []

    before : List Bytes
    before = map pair (keep is_trade_series (take i us))

    g : Bytes → ℕ
    g p = cond (test p) (value p) 0

pub total_none_counted : (us : List Block) (g : Bytes → ℕ) → total g (trade_pairs (take 0 us)) ≡ 0
unfolding trade_pairs keep once total
total_none_counted us g = refl
