-- The final of a pair from a trade and its counterpart, the row of values slot by slot, and a party's sums along the row.
use Rattle.std.specs.Prelude.{Result, Ok, Err, ◌≡◌, ◌&&◌, ◌++◌, ◌+◌, ◌-◌, ◌/◌, ◌≤◌, ◌<◌}
use Rattle.laws.specs.Kit.{refl, sym, ap, ap₂, ◌∙◌, Bool, true, false, not, cond, some, List, [], map, ℕ, zero, suc, add-one, arith, length, take, drop, get_or, set, get_or-set_same, get_or-set_other, take_all, ◌and◌, ◌or◌, neg, is, less, split, or_else, and_right, is_no, is_other, less_yes, less_no, less_false}
use lib.Dec.{eqb, leb}
use Rattle.laws.specs.Tests.{upto}
use Rattle.laws.specs.Tests.Laws.{or_left, or_right}
use Rattle.laws.specs.Lists.{same, place, has, keep, total}
use Rattle.laws.specs.Lists.Same.{same_yes, same_equal}
use Rattle.laws.specs.Lists.Search.{place_agree, has_take_upto}
use Rattle.laws.specs.Lists.Count.{total_each}
use Rattle.laws.specs.Bytes.{part}
use Rattle.laws.specs.Cut.{cut}
use Rattle.laws.specs.Cut.Laws.{cut_length}
use Rattle.paper.specs.declared.Rule.{Rule}
use Rattle.paper.specs.declared.SettledAnswer.{SettledAnswer}
use Rattle.paper.specs.Layout.{Bytes, Block, n_of, rule_of, sender, senders_slot, in_party, out_party, pair, quantities, entry}
use Rattle.paper.specs.Book.{day_block, used, trade, numbered, is_sender_block_of, slot_of, is_trade_of}
use Rattle.paper.specs.Sound.{sound, parties_of}
use Rattle.paper.specs.Rules.{closed}
use Rattle.paper.specs.Marks.{is_counterpart, counterpart_slot}
use Rattle.paper.specs.Finals.{final_of, held, held_at, is_held, final_in}
use Rattle.paper.specs.PlainRule.{other_party}
use Rattle.paper.specs.Settled.{is_trade_series, trade_pairs, buyer_of, seller_of, final_of_pair, bought_by, sold_by, settled_refused, settled_in, settled}
use Rattle.facts.specs.Book.{sender_block_eic, numbered_place}
use Rattle.facts.specs.Keys.{trade_not_external}
use Rattle.facts.specs.Pairs.{trade_domestic}
use Rattle.facts.specs.Senders.{Owner}
use Rattle.facts.specs.Sides.{sides}
use Rattle.facts.specs.Finals.{nothing_held}
use Rattle.facts.specs.Sound.{sound_says, day_n}
use Rattle.facts.specs.Settled.{ClosedAt, settled_at, Trading, sound_trading, trade_series_trade, own_place, owner, earlier, counted_at, total_counted, total_none_counted, buyer_of_pair, seller_of_pair, pair_again}
use Rattle.readings.specs.declared.finals.NoFinals.{NoFinals}
use Rattle.readings.specs.declared.finals.NoFinals.TheVariants.{NoPosition, StillOpen}
use Rattle.readings.specs.Closed.{number_of, closed_index}
use Rattle.readings.proofs.Laws.Held.{held_at_lem}
use Rattle.settling.specs.Values.{value_of, Valued, side_sum, position_number}

pub inside : (s : Bytes) (j : ℕ) → j < length s / 512 → j < length (cut 512 s)
inside s j h = rw (cut_length 512 s) h

-- ---- a trade x in slot j + 1 and its counterpart in slot c

module _ (us : List Block) (w : Trading us) (j : ℕ) (h : j < length us) (t : is_trade_series (get_or us j []) ≡ true) (c : ℕ) (q : c ≡ counterpart_slot us (get_or us j [])) where
  abbrev x : Block
  x = get_or us j []

  abbrev o : Owner us x
  o = owner us w j h t

  by_pair : trade x ≡ some (pair x)
  by_pair = trade_domestic x (trade_series_trade x t)

  party : parties_of false o.eic (pair x) ≡ true
  party = rw (trade_not_external x (trade_series_trade x t)) at o.party

  sender_is : sender (numbered us (senders_slot x)) ≡ o.eic
  unfolding slot_of
  sender_is = ap (λ s. sender (numbered us s)) (sym o.slot) ∙ sender_block_eic o.eic _ (numbered_place (is_sender_block_of o.eic) us o.known)

  own_value : (k : ℕ) → held_at (held us o.eic (pair x)) k ≡ entry (quantities (numbered us (j + 1))) k
  own_value k = held_at_lem us o.eic (pair x) (j + 1) (add-one j ∙ sym (ap₂ (λ s p. place (is_trade_of s p) us) o.slot (sym by_pair) ∙ own_place us w j h t)) k

  others_value : (k : ℕ) → held_at (held us (other_party o.eic (pair x)) (pair x)) k ≡ entry (quantities (numbered us c)) k
  unfolding counterpart_slot
  others_value k = held_at_lem us (other_party o.eic (pair x)) (pair x) c
      (q ∙ ap₂ (λ s p. place (is_counterpart s p) us) (sym o.slot) by_pair ∙ place_agree _ _ us (sides us o.eic (pair x) o.known party w.owners)) k

  -- y is the block as the code found it, and b says whose it is
  module _ (rule : Rule) (k : ℕ) {y : Block} {b : Bool} (f : y ≡ x) (r : b ≡ same (in_party y) (sender (numbered us (senders_slot y)))) where
    is_buyers : same (in_party x) (sender (numbered us (senders_slot x))) ≡ b
    is_buyers = sym (r ∙ rw f)

    pub value_of_buyers : b ≡ true → final_of rule (entry (quantities (numbered us c)) k) (entry (quantities (numbered us (j + 1))) k) ≡ value_of rule us k (pair x)
    unfolding value_of buyer_of seller_of other_party
    value_of_buyers u =
        let e : take 16 (pair x) ≡ o.eic = buyer_of_pair x ∙ same_yes _ _ (is_buyers ∙ u) ∙ sender_is in
        let v : drop 16 (pair x) ≡ other_party o.eic (pair x) = rw (same_equal _ _ e) in
        ap₂ (final_of rule) (sym (ap (λ z. held_at (held us z (pair x)) k) v ∙ others_value k)) (sym (ap (λ z. held_at (held us z (pair x)) k) e ∙ own_value k))

    pub value_of_sellers : b ≡ false → final_of rule (entry (quantities (numbered us (j + 1))) k) (entry (quantities (numbered us c)) k) ≡ value_of rule us k (pair x)
    unfolding value_of buyer_of seller_of other_party parties_of
    value_of_sellers u =
        let n : same (take 16 (pair x)) o.eic ≡ false = ap₂ same (buyer_of_pair x) (sym sender_is) ∙ is_buyers ∙ u in
        let e : drop 16 (pair x) ≡ o.eic = same_yes _ _ (or_else _ _ (and_right _ _ party) n) in
        let v : take 16 (pair x) ≡ other_party o.eic (pair x) = rw n in
        ap₂ (final_of rule) (sym (ap (λ z. held_at (held us z (pair x)) k) e ∙ own_value k)) (sym (ap (λ z. held_at (held us z (pair x)) k) v ∙ others_value k))

  -- counted at an earlier slot, or here
  met : {b : Bool} → (not (eqb c 0) && leb c j) ≡ b → has (same (pair x)) (map pair (keep is_trade_series (take j us))) ≡ b
  unfolding counterpart_slot ◌and◌ neg is upto
  met e = earlier us w j h t ∙ has_take_upto (is_counterpart (senders_slot x) (trade x)) us j ∙ rw (sym q) e

  module _ (value : Bytes → ℕ) where
    pub counted_earlier : (not (eqb c 0) && leb c j) ≡ true → 0 ≡ counted_at us value j
    unfolding counted_at
    counted_earlier e = rw (t, met e)

    pub counted_here : (not (eqb c 0) && leb c j) ≡ false → {v : ℕ} → v ≡ value (pair x) → v ≡ counted_at us value j
    unfolding counted_at
    counted_here e p = rw (t, met e) p

pub not_counted : (us : List Block) (value : Bytes → ℕ) (j : ℕ) → is_trade_series (get_or us j []) ≡ false → 0 ≡ counted_at us value j
unfolding counted_at
not_counted us value j t = rw t

-- ---- the row

module _ (rule : Rule) (us : List Block) (k : ℕ) where
  pub valued_none : (values : List ℕ) → Valued rule us k 0 values
  unfolding Valued
  valued_none values j h = absurd (omega arith)

  pub valued_more : (i : ℕ) (values : List ℕ) {v : ℕ} → i < length values → v ≡ counted_at us (value_of rule us k) i → Valued rule us k i values → Valued rule us k (i + 1) (set values i v)
  unfolding Valued
  valued_more i values h e a j g =
      split (less j i)
      (λ t. let z : j < i = less_yes j i t in get_or-set_other values i j _ 0 (λ y. omega arith) ∙ a j z)
      (λ t. let z : j ≡ i = omega (arith, less_no j i t) in rw z (get_or-set_same values i _ 0 h ∙ e))

  pub valued_all : (i m : ℕ) (values : List ℕ) → i ≤ m → m ≤ i → Valued rule us k i values → Valued rule us k m values
  valued_all i m values h g a = let e : i ≡ m = omega arith in rw e at a

  -- ---- the sums

  module _ (values : List ℕ) (a : Valued rule us k (length us) values) (party : Bytes) (side : Block → Bytes) (who : Bytes → Bytes) (f : (x : Block) → who (pair x) ≡ side x) where
    summed : (i : ℕ) → i ≤ length us → side_sum side party us values i ≡ total (λ p. cond (same (who p) party) (value_of rule us k p) 0) (trade_pairs (take i us))
    unfolding side_sum Valued
    summed zero h = sym (total_none_counted us _)
    summed (suc i) h =
        rw (summed i (omega arith), a i (omega arith), ← f (get_or us i [])) (sym (ap (λ n. total (λ p. cond (same (who p) party) (value_of rule us k p) 0) (trade_pairs (take n us))) (sym (add-one i))
        ∙ total_counted us (value_of rule us k) (λ p. same (who p) party) i (omega arith)))

    pub side_summed : side_sum side party us values (length us) ≡ total (λ p. cond (same (who p) party) (value_of rule us k p) 0) (trade_pairs us)
    side_summed = summed (length us) (omega arith) ∙ ap (λ l. total (λ p. cond (same (who p) party) (value_of rule us k p) 0) (trade_pairs l)) (take_all (length us) us (omega arith))

pub side_none : (side : Block → Bytes) (party : Bytes) (us : List Block) (values : List ℕ) → 0 ≡ side_sum side party us values 0
unfolding side_sum
side_none side party us values = refl

pub side_more : (side : Block → Bytes) (party : Bytes) (us : List Block) (values : List ℕ) (i : ℕ) {n s v : ℕ} {x f : Bytes} → n ≡ side_sum side party us values i → x ≡ get_or us i [] → f ≡ side x
    → v ≡ get_or values i 0 → s ≡ cond (same f party) v 0 → n + s ≡ side_sum side party us values (i + 1)
unfolding side_sum
side_more side party us values i e g p r q = rw (e, q, p, g, r, add-one i)

pub side_all : (side : Block → Bytes) (party : Bytes) (us : List Block) (values : List ℕ) (i m : ℕ) {n : ℕ} → i ≤ m → m ≤ i → n ≡ side_sum side party us values i → n ≡ side_sum side party us values m
side_all side party us values i m h g e = let z : i ≡ m = omega arith in rw z at e

-- ---- past the refusals

answer_is : (r : SettledAnswer) {n b s : ℕ} → r.number ≡ n → r.bought ≡ b → r.sold ≡ s → r ≡ record { number = n; bought = b; sold = s }
answer_is r p q t = rw (← p, ← q, ← t)

module _ (d : Block) (us : List Block) (p : ℕ) (c : ClosedAt d p) where
  -- where neither party has the pair the call for its final refuses it with 0, which by either rule is the final of two that are missing
  final_given_lem : (seller buyer : Bytes) → final_of (rule_of d) (held_at (held us seller (buyer ++ seller)) (p - 1)) (held_at (held us buyer (buyer ++ seller)) (p - 1))
      ≡ (final_in d us seller buyer p).kilowatts
  unfolding final_in neg ◌or◌
  final_given_lem seller buyer =
      rw (is_other p 0 c.first, less_false (n_of d) p c.last, c.shut)
      (split (is_held (held us seller (buyer ++ seller)))
      (λ t. rw t)
      (λ t. split (is_held (held us buyer (buyer ++ seller))) (λ u. rw (t, u)) (λ u. rw (t, u) (nothing_held (rule_of d) (p - 1) _ _ t u))))

  value_is_final : (parties : Bytes) → value_of (rule_of d) us (p - 1) parties ≡ final_of_pair d us p parties
  unfolding value_of final_of_pair
  value_is_final parties =
      ap (λ z. final_of (rule_of d) (held_at (held us (seller_of parties) z) (p - 1)) (held_at (held us (buyer_of parties) z) (p - 1))) (sym (pair_again parties))
      ∙ final_given_lem (seller_of parties) (buyer_of parties)

  -- rule is the day's, and there are m slots
  module _ (rule : Rule) (e : rule ≡ rule_of d) (m : ℕ) (f : length us ≡ m) (values : List ℕ) (v : Valued rule us (p - 1) m values) (party : Bytes) where
    all_valued : Valued (rule_of d) us (p - 1) (length us) values
    all_valued = rw (f, ← e) v

    pub bought_summed : side_sum in_party party us values m ≡ bought_by d us p party
    unfolding bought_by
    bought_summed = ap (side_sum in_party party us values) (sym f) ∙ side_summed (rule_of d) us (p - 1) values all_valued party in_party buyer_of buyer_of_pair
        ∙ total_each _ _ (λ q. ap (λ x. cond (same (buyer_of q) party) x 0) (value_is_final q)) (trade_pairs us)

    pub sold_summed : side_sum out_party party us values m ≡ sold_by d us p party
    unfolding sold_by
    sold_summed = ap (side_sum out_party party us values) (sym f) ∙ side_summed (rule_of d) us (p - 1) values all_valued party out_party seller_of seller_of_pair
        ∙ total_each _ _ (λ q. ap (λ x. cond (same (seller_of q) party) x 0) (value_is_final q)) (trade_pairs us)

    pub sums_settled : (r : SettledAnswer) → r.number ≡ 0 → r.bought ≡ side_sum in_party party us values m → r.sold ≡ side_sum out_party party us values m → r ≡ settled_in d us party p
    sums_settled r n b s = answer_is r n (b ∙ bought_summed) (s ∙ sold_summed) ∙ sym (settled_at d us p c party)

-- ---- the refusals

-- by the index of the position: its number, and the index itself
abbrev pub number_by : Result ℕ NoFinals → ℕ
number_by (Ok k) = 0
number_by (Err why) = number_of why

pub why_refused : (why : NoFinals) → number_of why ≡ 0 → ⊥
why_refused NoPosition z = omega (arith, z)
why_refused StillOpen z = omega (arith, z)

pub number_by_index : (d : Block) (p : ℕ) → number_by (closed_index d p) ≡ position_number d p
unfolding closed_index position_number neg
number_by_index d p = split (is p 0 or less (n_of d) p) (λ t. rw t) (λ t. split (closed d p) (λ u. rw (t, u)) (λ u. rw (t, u)))

abbrev index_or : ℕ → Result ℕ NoFinals → ℕ
index_or n (Ok k) = k
index_or n (Err why) = n

index_before : (d : Block) (p : ℕ) → index_or (p - 1) (closed_index d p) ≡ p - 1
unfolding closed_index neg
index_before d p = split (is p 0 or less (n_of d) p) (λ t. rw t) (λ t. split (closed d p) (λ u. rw (t, u)) (λ u. rw (t, u)))

pub index_is : (d : Block) (p : ℕ) {k : ℕ} → Ok k ≡ closed_index d p → k ≡ p - 1
index_is d p e = ap (index_or (p - 1)) e ∙ index_before d p

module _ (d : Block) (p : ℕ) {number : ℕ} (e : number ≡ position_number d p) where
  -- whichever party is asked for
  pub number_in : (us : List Block) (party : Bytes) → number ≡ (settled_in d us party p).number
  unfolding position_number settled_in
  number_in us party = split (is p 0 or less (n_of d) p) (λ t. e ∙ rw t) (λ t. split (neg (closed d p)) (λ u. e ∙ rw (t, u)) (λ u. e ∙ rw (t, u)))

  pub refused_in : (us : List Block) (party : Bytes) → (number ≡ 0 → ⊥) → settled_refused number ≡ settled_in d us party p
  unfolding position_number settled_in neg
  refused_in us party n =
      split (is p 0 or less (n_of d) p) (λ t. rw (e, t)) (λ t. split (closed d p) (λ u. absurd (n (e ∙ rw (t, u)))) (λ u. rw (e, t, u)))

  pub closed_at : number ≡ 0 → ClosedAt d p
  unfolding position_number neg
  closed_at z =
      split (is p 0 or less (n_of d) p)
      (λ t. absurd (let f : number ≡ 24 = e ∙ rw t in omega arith))
      (λ t. split (closed d p)
      (λ u. record { first = is_no _ _ (or_left _ _ t); last = less_no _ _ (or_right _ _ t); shut = u })
      (λ u. absurd (let f : number ≡ 25 = e ∙ rw (t, u) in omega arith)))

-- ---- a sound book

module _ (book : Bytes) where
  pub settled_unsound : (party : Bytes) (p : ℕ) → sound book ≡ false → settled_refused 1 ≡ settled book party p
  unfolding settled
  settled_unsound party p e = rw e

  module _ (s : sound book ≡ true) where
    pub settled_sound : (party : Bytes) (p : ℕ) {d : Block} {us : List Block} {r : SettledAnswer} → d ≡ part 0 512 book → us ≡ used book → r ≡ settled_in d us party p → r ≡ settled book party p
    unfolding settled day_block part
    settled_sound party p f g q = rw (s, ← f, ← g) q

    pub sound_n : {d : Block} → d ≡ part 0 512 book → n_of d ≤ 100
    unfolding day_block part
    sound_n f = rw f (day_n _ (sound_says book s).day)

    pub sound_few : {u : ℕ} → u ≤ length book - 512 → u / 512 ≤ 1000
    sound_few h = omega (arith, (sound_says book s).most)

    pub sound_trades : {us : List Block} → us ≡ used book → Trading us
    sound_trades e = rw e (sound_trading book (sound_says book s))
