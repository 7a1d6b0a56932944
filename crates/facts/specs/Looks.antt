-- The looks find the partners that the marks name: a slot once found for a series stays, and the first to be found is the lowest, for the slots are looked at in
-- ascending order.
use Rattle.std.specs.Prelude.{◌≡◌, ◌∷◌, ◌++◌, ◌+◌, ◌-◌, ◌≤◌, ◌<◌}
use Rattle.laws.specs.Base.{refl, sym, ap, ◌∙◌, true, false, cond, Option, List, [], map, ℕ, zero, suc, add-one, arith, length, take, get_or, set, length-append, length-map, length-set, length-replicate, length-take-le, take_all, take-set-lt, get_or-take}
use Rattle.std.proofs.Math.Decide.{ℕ_discrete}
use Rattle.std.proofs.lemmas.List.{get_or-replicate}
use Rattle.std.proofs.Math.Seq.{ext_get_or}
use Rattle.std.proofs.Common.{get_or-set_same, get_or-set_other}
use Rattle.laws.specs.Tests.{◌and◌, is}
use Rattle.laws.specs.Tests.Laws.{split, and_both, and_true, and_no_left, and_no_right, neg_true, neg_false, is_yes, is_equal, is_other}
use Rattle.laws.specs.Lists.{place, apart}
use Rattle.laws.specs.Lists.Each.{every_all, map_agree, get_or_map, all_get_or_inside}
use Rattle.laws.specs.Lists.Search.{has_no_all, find_passes, place_length, place_none, place_find, place_more}
use Rattle.laws.specs.Lists.Apart.{apart_place}
use Rattle.paper.specs.declared.Verdict.{Verdict}
use Rattle.paper.specs.Layout.{Bytes, Block, zeros, area, sender, senders_slot, with_senders_slot}
use Rattle.paper.specs.Book.{day_block, used, is_series, numbered, trade, trade_is}
use Rattle.paper.specs.Message.{head_of, series_of}
use Rattle.paper.specs.Rules.{number_of, verdict}
use Rattle.paper.specs.Marks.{is_counterpart, counterpart_slot}
use Rattle.paper.specs.Acceptance.{slot_for, placed}
use Rattle.paper.specs.Looks.{slots_to, visited, found_for, look, looked_over, none_found, found, looked, submit_answer}
use Rattle.facts.specs.Layout.{key_with_senders_slot}
use Rattle.facts.specs.Keys.{key_trade}
use Rattle.facts.specs.Pairs.{trade_is_yes, trade_swap, same_trade}
use Rattle.facts.specs.Renewal.{Shape, adopted}

-- ---- the slots

pub slots_to_length : (u : ℕ) → length (slots_to u) ≡ u
unfolding slots_to
slots_to_length zero = refl
slots_to_length (suc k) = omega (arith, length-append (slots_to k) ((k + 1) ∷ []), slots_to_length k)

pub visited_length : (after : List Block) → length (visited after) ≡ length after
unfolding visited
visited_length after = slots_to_length (length after)

-- ---- the loop over them: what is found after the first i

unfoldable pub found_to : (after : List Block) (series : List Block) (own : ℕ) (i : ℕ) → List ℕ
found_to after series own i = looked_over after series own (slots_to i) (none_found series)

numbered_next : (l : List Block) (i : ℕ) → numbered l (i + 1) ≡ get_or l i []
unfolding numbered
numbered_next l i = rw (add-one i)

module _ (after series : List Block) (own : ℕ) where
  over_append : (l r so_far : List ℕ) → looked_over after series own (l ++ r) so_far ≡ looked_over after series own r (looked_over after series own l so_far)
  unfolding looked_over
  over_append [] r so_far = refl
  over_append (s ∷ l) r so_far = over_append l r (look s (numbered after s) series own so_far)

  over_one : (s : ℕ) (so_far : List ℕ) → looked_over after series own (s ∷ []) so_far ≡ look s (numbered after s) series own so_far
  unfolding looked_over
  over_one s so_far = refl

  pub found_none : found_to after series own 0 ≡ none_found series
  unfolding found_to slots_to looked_over
  found_none = refl

  -- one slot more is one look more
  pub found_more : (i : ℕ) → found_to after series own (i + 1) ≡ look (i + 1) (get_or after i []) series own (found_to after series own i)
  unfolding found_to slots_to
  found_more i =
      ap (λ k. looked_over after series own (slots_to k) (none_found series)) (add-one i)
      ∙ over_append (slots_to i) ((i + 1) ∷ []) (none_found series)
      ∙ over_one (i + 1) (found_to after series own i)
      ∙ ap (λ b. look (i + 1) b series own (found_to after series own i)) (numbered_next after i)

  pub found_all : found_to after series own (length after) ≡ found after series own
  unfolding found_to found visited
  found_all = refl

-- ---- the trade of a message between two parties: number j + 1

module _ (series : List Block) (parties : Option Bytes) (j : ℕ) (e : place (trade_is parties) series ≡ j + 1) where
  pub sent_inside : j < length series
  sent_inside = omega (arith, place_length (trade_is parties) series)

  pub sent_is : trade_is parties (get_or series j []) ≡ true
  sent_is =
      let q : j + 1 - 1 ≡ j = omega arith in
      rw q at (find_passes _ series _ (place_find (trade_is parties) series (j + 1) (sym e) [] (λ z. omega arith)))

  pub sent_trade : trade (get_or series j []) ≡ parties
  sent_trade = trade_is_yes _ _ sent_is

  -- past rule 7 it is the only one
  pub sent_elsewhere : apart same_trade series ≡ true → (k : ℕ) → k < length series → (k ≡ j → ⊥) → trade_is parties (get_or series k []) ≡ false
  unfolding same_trade
  sent_elsewhere a k i d = split (trade_is parties (get_or series k []))
      (λ t. absurd (d (omega (
        arith,
        e,
        apart_place same_trade (trade_is parties) series k [] i t
            (λ x f. ap (λ p. trade_is p x) (sym (trade_is_yes parties _ t)) ∙ f) a,
      ))))
      (λ t. t)

-- ---- one look

module _ (slot : ℕ) (block : Block) (own : ℕ) where
  pub look_length : (series : List Block) (so_far : List ℕ) → length (look slot block series own so_far) ≡ length series
  unfolding look
  look_length [] so_far = refl
  look_length (y ∷ ys) so_far = ap suc (look_length ys _)

  -- series by series: k is series number k + 1
  pub look_at : (series : List Block) (so_far : List ℕ) (k : ℕ) → k < length series
      → get_or (look slot block series own so_far) k 0 ≡ found_for slot block (trade (get_or series k [])) own (get_or so_far k 0)
  unfolding look
  look_at [] so_far k h = absurd (omega arith)
  look_at (y ∷ ys) [] zero h = refl
  look_at (y ∷ ys) (s ∷ so_far) zero h = refl
  look_at (y ∷ ys) [] (suc k) h = look_at ys [] k (omega arith)
  look_at (y ∷ ys) (s ∷ so_far) (suc k) h = look_at ys so_far k (omega arith)

  look_map : (f : Block → ℕ) (series : List Block) → look slot block series own (map f series) ≡ map (λ y. found_for slot block (trade y) own (f y)) series
  unfolding look
  look_map f [] = refl
  look_map f (y ∷ ys) = ap (λ z. found_for slot block (trade y) own (f y) ∷ z) (look_map f ys)

  found_for_miss : (parties : Option Bytes) (before : ℕ) → is_counterpart own parties block ≡ false → found_for slot block parties own before ≡ before
  unfolding found_for
  found_for_miss parties before e = rw (and_no_right (is before 0) (is_counterpart own parties block) e)

  -- a block that is no series, a series of the sender itself, and one whose pair no trade of the message has, find nothing
  module _ (series : List Block) (so_far : List ℕ) (sized : length so_far ≡ length series) where
    look_nothing : ((y : Block) → is_counterpart own (trade y) block ≡ false) → look slot block series own so_far ≡ so_far
    look_nothing f = ext_get_or 0 _ so_far (look_length series so_far ∙ sym sized)
        (λ k h. look_at series so_far k (omega (arith, look_length series so_far)) ∙ found_for_miss _ _ (f (get_or series k [])))

    pub look_no_series : is_series block ≡ false → look slot block series own so_far ≡ so_far
    unfolding is_counterpart
    look_no_series e = look_nothing (λ y. and_no_left _ _ (and_no_left _ _ e))

    pub look_own : senders_slot block ≡ own → look slot block series own so_far ≡ so_far
    unfolding is_counterpart
    look_own e = look_nothing (λ y. and_no_left _ _ (and_no_right _ _ (neg_false _ (is_equal _ _ e))))

    trade_missed : (y : Block) → trade_is (trade block) y ≡ false → is_counterpart own (trade y) block ≡ false
    unfolding is_counterpart
    trade_missed y e = and_no_right _ _ (trade_swap y block ∙ e)

    pub look_no_trade : (number : ℕ) → number ≡ place (trade_is (trade block)) series → number ≡ 0 → look slot block series own so_far ≡ so_far
    look_no_trade number e z = ext_get_or 0 _ so_far (look_length series so_far ∙ sym sized)
        (λ k h. let i : k < length series = omega (arith, look_length series so_far) in look_at series so_far k i
        ∙ found_for_miss _ _ (trade_missed (get_or series k []) (all_get_or_inside (λ y. trade_is (trade block) y ≡ false) series k [] i
        (has_no_all _ series (place_none (trade_is (trade block)) series number e z)))))

    -- another's trade is found for the trade with its pair, j + 1, unless a slot was found before
    module _ (a : apart same_trade series ≡ true) (j : ℕ) (e : place (trade_is (trade block)) series ≡ j + 1) where
      pub look_one : is_series block ≡ true → (senders_slot block ≡ own → ⊥)
          → look slot block series own so_far ≡ set so_far j (cond (is (get_or so_far j 0) 0) slot (get_or so_far j 0))
      unfolding is_counterpart found_for
      look_one s o = ext_get_or 0 _ _ (look_length series so_far ∙ sym (length-set so_far j _ ∙ sized)) each
        where
          hit : is_counterpart own (trade (get_or series j [])) block ≡ true
          hit = and_both _ _ (and_both _ _ s (neg_true _ (is_other _ _ o))) (trade_swap (get_or series j []) block ∙ sent_is series (trade block) j e)

          each : (k : ℕ) → k < length (look slot block series own so_far)
              → get_or (look slot block series own so_far) k 0 ≡ get_or (set so_far j (cond (is (get_or so_far j 0) 0) slot (get_or so_far j 0))) k 0
          each k h =
              let i : k < length series = omega (arith, look_length series so_far) in
              look_at series so_far k i ∙ elim (ℕ_discrete k j) [
                | yes q ↦ rw (q, hit, and_true (is (get_or so_far j 0) 0)) (sym (get_or-set_same so_far j _ 0 (omega (arith, sent_inside series (trade block) j e))))
                | no q ↦ found_for_miss _ _ (trade_missed _ (sent_elsewhere series (trade block) j e a k i q)) ∙ sym (get_or-set_other so_far j k _ 0 q)
              ]

-- ---- the same in a row of numbers that has room for what is found

module _ (series : List Block) (row : List ℕ) (room : length series ≤ length row) where
  -- a row of zeros
  pub none_found_row : zeros row ≡ true → take (length series) row ≡ none_found series
  unfolding none_found zeros
  none_found_row z = ext_get_or 0 _ _ (length-take-le (length series) row room ∙ sym (length-replicate (length series) 0))
      (λ k h.
      let i : k < length series = omega (arith, length-take-le (length series) row room) in
      get_or-take (length series) row k 0 i
      ∙ is_yes _ _ (all_get_or_inside (λ x. is x 0 ≡ true) row k 0 (omega arith) (every_all _ row z)) ∙ sym (get_or-replicate (length series) k 0 0 i))

  pub look_into_row : (slot : ℕ) (block : Block) (own j : ℕ) → apart same_trade series ≡ true → place (trade_is (trade block)) series ≡ j + 1 → is_series block ≡ true
      → (senders_slot block ≡ own → ⊥)
      → take (length series) (set row j (cond (is (get_or row j 0) 0) slot (get_or row j 0))) ≡ look slot block series own (take (length series) row)
  look_into_row slot block own j a e s o =
      let i : j < length series = sent_inside series (trade block) j e in
      take-set-lt (length series) row j _ i
      ∙ ap (λ v. set (take (length series) row) j (cond (is v 0) slot v)) (sym (get_or-take (length series) row j 0 i))
      ∙ sym (look_one slot block own series (take (length series) row) (length-take-le (length series) row room) a j e s o)

-- ---- what is found after i slots: of each series the place of its counterpart among them

none_found_map : (f : Block → ℕ) → ((y : Block) → f y ≡ 0) → (series : List Block) → none_found series ≡ map f series
unfolding none_found
none_found_map f e [] = refl
none_found_map f e (y ∷ ys) = rw (e y, ← none_found_map f e ys)

module _ (after series : List Block) (own : ℕ) where
  -- the place of the counterpart of y among the first i
  abbrev among : ℕ → Block → ℕ
  among i y = place (is_counterpart own (trade y)) (take i after)

  pub found_to_places : (i : ℕ) → i ≤ length after → found_to after series own i ≡ map (λ y. place (is_counterpart own (trade y)) (take i after)) series
  unfolding place found_for
  found_to_places zero h = found_none after series own ∙ none_found_map (among 0) (λ y. refl) series
  found_to_places (suc i) h =
      ap (found_to after series own) (sym (add-one i)) ∙ found_more after series own i
      ∙ ap (look (i + 1) (get_or after i []) series own) (found_to_places i (omega arith))
      ∙ look_map (i + 1) (get_or after i []) own (among i) series
      ∙ map_agree _ (among (suc i)) (λ y. sym (ap (λ k. among k y) (sym (add-one i)) ∙ place_more (is_counterpart own (trade y)) after i [] (omega arith))) series

  -- in every book, of every message
  pub found_places : found after series own ≡ map (λ y. place (is_counterpart own (trade y)) after) series
  found_places =
      sym (found_all after series own) ∙ found_to_places (length after) (omega arith)
      ∙ ap (λ l. map (λ y. place (is_counterpart own (trade y)) l) series) (take_all (length after) after (omega arith))

  pub found_length : length (found after series own) ≡ length series
  found_length = ap length found_places ∙ length-map series _

  -- series number k + 1, and any series x of the sender that is paired by the same, as the message's is once it is told its sender's slot
  module _ (k : ℕ) (h : k < length series) where
    found_at : get_or (found after series own) k 0 ≡ place (is_counterpart own (trade (get_or series k []))) after
    found_at = ap (λ l. get_or l k 0) found_places ∙ get_or_map _ series k [] 0 h

    pub found_counterpart : (x : Block) → senders_slot x ≡ own → trade x ≡ trade (get_or series k []) → get_or (found after series own) k 0 ≡ counterpart_slot after x
    unfolding counterpart_slot
    found_counterpart x o e = rw (o, e) found_at

-- ---- of an acceptance

pub found_sent : (ours : Bytes) (us : List Block) (h : Block) (series : List Block) → Shape us h series → (k : ℕ) → k < length series
    → get_or (found (placed ours us h series) series (slot_for us (sender h))) k 0
    ≡ counterpart_slot (placed ours us h series) (with_senders_slot (slot_for us (sender h)) (get_or series k []))
found_sent ours us h series c k i =
    found_counterpart (placed ours us h series) series (slot_for us (sender h)) k i (with_senders_slot (slot_for us (sender h)) (get_or series k []))
    (adopted ours us h series c (get_or series k []) (all_get_or_inside (λ y. length y ≡ 512) series k [] i c.series_whole))
    (key_trade _ _ (key_with_senders_slot (slot_for us (sender h)) (get_or series k [])))

-- the answer to a submission, of a verdict v
module _ (book message : Bytes) (v : Verdict) (e : v ≡ verdict book message) where
  pub answer_refused : (number_of v ≡ 0 → ⊥) → record { verdict = v; looked = 0 } ≡ submit_answer book message
  unfolding submit_answer looked
  answer_refused n = rw (e, is_other _ _ (λ z. n (ap number_of e ∙ z)))

  pub answer_accepted : number_of v ≡ 0 → (looks : ℕ) → looks ≡ length (visited (placed (area (day_block book)) (used book) (head_of message) (series_of message)))
      → record { verdict = v; looked = looks } ≡ submit_answer book message
  unfolding submit_answer looked
  answer_accepted z looks l = rw (e, is_equal _ _ (sym (ap number_of e) ∙ z), l)
