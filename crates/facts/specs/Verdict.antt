-- What rule 2 and a verdict of 0 say, as records: whoever needs a clause takes it here by name, and no other file counts the rules that were passed.
use Rattle.std.specs.Prelude.{◌≡◌, ◌∷◌, ◌++◌, ◌+◌, ◌/◌, ◌%◌, ◌≤◌, ◌<◌}
use Rattle.laws.specs.Base.{refl, sym, ◌∙◌, Bool, true, false, List, [], ℕ, suc, arith, length, drop, length-drop, length-take-le}
use Rattle.laws.specs.Tests.{◌and◌, ◌or◌, neg, is}
use Rattle.laws.specs.Tests.Laws.{split, clash, and_left, and_right, and_both, and_no, or_left, or_right, or_no, neg_no, neg_true, is_yes, less_no, less_true, upto_yes, upto_no, upto_true}
use Rattle.laws.specs.Lists.{same, has, apart, All}
use Rattle.laws.specs.Lists.Each.{all_imply, all_both, all_append_left, all_append_right, every_all, all_every}
use Rattle.laws.specs.Lists.Search.{has_no_all}
use Rattle.laws.specs.Bytes.{number}
use Rattle.laws.specs.Cut.Laws.{cut_length, cut_widths}
use Rattle.laws.specs.Order.Laws.{first_left, first_right, along_all}
use Rattle.paper.specs.declared.Verdict.{Verdict}
use Rattle.paper.specs.Layout.{Bytes, Block, n_of, day_of_book, area, receiver, version, id_of, series_count, sender, day_of_message, senders_slot, in_party, out_party, pair, key, quantity, limit, sender_zeros_in_message, series_zeros_in_message}
use Rattle.paper.specs.Ranges.{whole_blocks, version_allowed}
use Rattle.paper.specs.Ids.{id_well_formed}
use Rattle.paper.specs.Eic.{eic_number, eic_valid}
use Rattle.paper.specs.Book.{day_block, used, free_slots, is_sender, is_series, with_capacity, is_external, id_is, key_is, is_series_of, own_sender, own_series, own_rights}
use Rattle.paper.specs.Sound.{parties_of, areas_allowed, type_allowed, capacity_allowed, sound}
use Rattle.paper.specs.Message.{head_of, series_of, head_right, series_right, message_right, rule2}
use Rattle.paper.specs.Rules.{fine, number_of, ◌then◌, broken, broken_by, over_positions, rule1, rule3, rule4, rule5, id_or_version_broken, rule6, with_other_key, with_other_id, rule7, rule8, wrong_character, rule9, rule10, rule12, rule13, names, rule18, right_for, sum_on, rule19, stored_of, closed, rule14, series_version, rule15, absent, rule16, new_blocks, rule17, head_verdict, form_verdict, quantity_verdict, closed_verdict, limit_verdict, right_verdict, late_verdict, values_verdict, series_verdict, each_series, last_verdict, judge, verdict}
use Rattle.facts.specs.Layout.{value_zeros}
use Rattle.facts.specs.Book.{series_of_yes}
use Rattle.facts.specs.Sound.{Sound, sound_says}

-- ---- verdicts

abbrev pub Passed : Verdict → Type 0
Passed v = number_of v ≡ 0

then_left : (v w : Verdict) → Passed (v then w) → Passed v
unfolding ◌then◌
then_left v w e = first_left number_of v w e

then_right : (v w : Verdict) → Passed (v then w) → Passed w
unfolding ◌then◌
then_right v w e = first_right number_of v w e

passed : (test : Bool) (number series position : ℕ) → Passed (broken test (suc number) series position) → test ≡ false
unfolding broken
passed true number series position e = absurd (let z : suc number ≡ 0 = e in omega arith)
passed false number series position e = refl

passed_by : (test : Bool) (number series character : ℕ) → Passed (broken_by test (suc number) series character) → test ≡ false
unfolding broken_by
passed_by true number series character e = absurd (let z : suc number ≡ 0 = e in omega arith)
passed_by false number series character e = refl

each_position : (at : ℕ → Verdict) → Passed (over_positions at) → (k : ℕ) → k < 100 → Passed (at k)
unfolding over_positions
each_position at e k h = along_all number_of fine at 100 0 e k (omega arith) (omega arith)

-- ---- a message that rule 2 lets through

pub record Message (message : Bytes) : Type 0 where
  pub whole : length message % 512 ≡ 0
  pub least : 2 ≤ length message / 512
  pub most : length message / 512 ≤ 201
  pub head_kind : is_sender (head_of message) ≡ true
  pub head_count : series_count (head_of message) ≡ length (series_of message)
  pub head_zeros : sender_zeros_in_message (head_of message) ≡ true
  pub series_kinds : All (λ y. is_series y ≡ true) (series_of message)
  -- a message names no sender's slot
  pub series_slots : All (λ y. is_series_of 0 y ≡ true) (series_of message)
  pub series_n : All (λ y. n_of y ≡ n_of (head_of message)) (series_of message)

no_slot : (y : Block) → series_zeros_in_message y ≡ true → senders_slot y ≡ 0
unfolding series_zeros_in_message senders_slot number
no_slot y e = value_zeros _ (and_left _ _ e)

pub message_says : (message : Bytes) → message_right message ≡ true → Message message
unfolding message_right whole_blocks head_right series_right
message_says message s =
    let s1 = and_left _ _ s in
    let s2 = and_left _ _ (and_left _ _ s1) in
    let h = and_right _ _ s1 in
    let each = every_all _ _ (and_right _ _ s) in
    record {
      whole = is_yes _ _ (and_left _ _ (and_left _ _ s2));
      least = upto_yes _ _ (and_right _ _ (and_left _ _ s2));
      most = upto_yes _ _ (and_right _ _ s2);
      head_kind = and_left _ _ (and_left _ _ h);
      head_count = is_yes _ _ (and_right _ _ (and_left _ _ h));
      head_zeros = and_right _ _ h;
      series_kinds = all_imply _ _ (λ y q. and_left _ _ (and_left _ _ q)) (series_of message) each;
      series_slots = all_imply _ _ (λ y q. series_of_yes 0 y (and_left _ _ (and_left _ _ q)) (no_slot y (and_right _ _ (and_left _ _ q)))) (series_of message) each;
      series_n = all_imply _ _ (λ y q. is_yes _ _ (and_right _ _ q)) (series_of message) each;
    }

pub head_length : (message : Bytes) → Message message → length (head_of message) ≡ 512
unfolding head_of
head_length message m = let h : 2 ≤ length message / 512 = m.least in length-take-le 512 message (omega arith)

pub series_lengths : (message : Bytes) → All (λ y. length y ≡ 512) (series_of message)
unfolding series_of
series_lengths message = cut_widths 512 (drop 512 message)

pub series_some_few : (message : Bytes) → Message message → (1 ≤ length (series_of message)) × (length (series_of message) ≤ 200)
unfolding series_of
series_some_few message m =
    let l : 2 ≤ length message / 512 = m.least in
    let h : length message / 512 ≤ 201 = m.most in
    (omega (arith, cut_length 512 (drop 512 message), length-drop 512 message), omega (arith, cut_length 512 (drop 512 message), length-drop 512 message))

-- ---- one series y of a message that rules 7 to 15 let through: d is the day block, own the sender's stored series, h the message's first block

-- x has both the id and the key of y, or neither
abbrev pub Straight : Block → Block → Type 0
Straight y x = id_is (id_of y) x ≡ key_is (key y) x

pub record Line (d : Block) (own : List Block) (h y : Block) : Type 0 where
  pub id_formed : id_well_formed (id_of y) ≡ true
  pub straight : All (Straight y) own
  pub in_valid : eic_valid (in_party y) ≡ true
  pub out_valid : eic_valid (out_party y) ≡ true
  pub parties : parties_of (is_external y) (sender h) (pair y) ≡ true
  pub areas : areas_allowed (area d) y ≡ true
  pub type_is_allowed : type_allowed y ≡ true
  pub capacity : capacity_allowed y ≡ true
  pub small : (k : ℕ) → k < 100 → k < n_of d → quantity y k ≤ 9999999
  pub above : (k : ℕ) → k < 100 → n_of d ≤ k → quantity y k ≡ 0
  pub unchanged : (k : ℕ) → k < 100 → closed d (k + 1) ≡ true → quantity y k ≡ quantity (stored_of own y) k
  pub version_is : version y ≡ series_version (stored_of own y) h y

-- one id or one key: x earlier in the message, or stored
unfoldable pub same_id_or_key : Block → Block → Bool
same_id_or_key x y = same (id_of x) (id_of y) or same (key x) (key y)

-- a series on a right: the sender holds it, and with the earlier ones of the message the sums stay at or below its limit
unfoldable pub Limited : (n : ℕ) (rights seen : List Block) (y : Block) → Type 0
Limited n rights seen y =
    with_capacity y ≡ true
    → (has (names y) rights ≡ true) × ((k : ℕ) → k < 100 → k < n → sum_on (right_for rights y) seen k + quantity y k ≤ limit (right_for rights y) k)

-- each of l, with those seen before it
unfoldable pub AllLimited : (n : ℕ) (rights seen l : List Block) → Type 0
AllLimited n rights seen [] = Unit {0}
AllLimited n rights seen (y ∷ ys) = Limited n rights seen y × AllLimited n rights (seen ++ y ∷ []) ys

both_or_neither : (a b : Bool) → (a and neg b) ≡ false → (b and neg a) ≡ false → a ≡ b
both_or_neither a b e f = split a
    (λ t. t ∙ sym (neg_no _ (and_no _ _ e t)))
    (λ t. t ∙ sym (split b (λ u. clash (neg_true _ t) (and_no _ _ f u)) (λ u. u)))

module _ (d : Block) (own rights : List Block) (h : Block) where
  module _ (seen : List Block) (s : ℕ) (y : Block) (e : Passed (series_verdict d own rights h seen s y)) where
    form : Passed (form_verdict d own h seen s y)
    unfolding series_verdict
    form = then_left _ _ e

    values : Passed (values_verdict d (stored_of own y) rights h seen s y)
    unfolding series_verdict
    values = then_right _ _ e

    r7 : rule7 own seen y ≡ false
    unfolding form_verdict
    r7 = passed _ 6 s 0 (then_left _ _ form)

    line_straight : All (Straight y) own
    unfolding rule7 with_other_key with_other_id
    line_straight =
        all_imply (λ x. (with_other_key y x ≡ false) × (with_other_id y x ≡ false)) (Straight y) (λ x q. both_or_neither _ _ q.0 q.1) own
        (all_both (λ x. with_other_key y x ≡ false) (λ x. with_other_id y x ≡ false) own (has_no_all _ own (or_right _ _ (or_left _ _ (or_left _ _ r7))))
        (has_no_all _ own (or_right _ _ r7)))

    line_unseen : All (λ x. same_id_or_key x y ≡ false) seen
    unfolding rule7 same_id_or_key id_is key_is
    line_unseen =
        all_imply (λ x. (id_is (id_of y) x ≡ false) × (key_is (key y) x ≡ false)) (λ x. same_id_or_key x y ≡ false) (λ x q. or_no _ _ q.0 q.1) seen
        (all_both (λ x. id_is (id_of y) x ≡ false) (λ x. key_is (key y) x ≡ false) seen
        (has_no_all _ seen (or_right _ _ (or_left _ _ (or_left _ _ (or_left _ _ r7))))) (has_no_all _ seen (or_right _ _ (or_left _ _ r7))))

    line : Line d own h y
    unfolding form_verdict values_verdict late_verdict rule7 rule8 rule9 rule10 quantity_verdict rule12 rule13 closed_verdict rule14 rule15
    line =
        let f2 = then_right _ _ form in
        let f3 = then_right _ _ f2 in
        let r8 = passed_by _ 7 s (wrong_character y) (then_left _ _ f2) in
        let r9 = passed _ 8 s 0 (then_left _ _ f3) in
        let r10 = passed _ 9 s 0 (then_right _ _ f3) in
        let v2 = then_right _ _ (then_right _ _ values) in
        record {
          id_formed = neg_no _ (or_left _ _ (or_left _ _ (or_left _ _ (or_left _ _ r7))));
          straight = line_straight;
          in_valid = neg_no _ (or_left _ _ (or_left _ _ r8));
          out_valid = neg_no _ (or_right _ _ (or_left _ _ r8));
          parties = neg_no _ (or_right _ _ r8);
          areas = neg_no _ r9;
          type_is_allowed = neg_no _ (or_left _ _ r10);
          capacity = neg_no _ (or_right _ _ r10);
          small = λ k l f. less_no _ _ (and_no _ _ (passed _ 11 s (k + 1) (then_left _ _ (then_right _ _ (each_position _ (then_left _ _ values) k l))))
              (less_true k (n_of d) f));
          above = λ k l f. is_yes _ _ (neg_no _ (and_no _ _ (passed _ 12 s (k + 1) (then_right _ _ (then_right _ _ (each_position _ (then_left _ _ values) k l))))
              (upto_true (n_of d) k f)));
          unchanged = λ k l c. is_yes _ _ (neg_no _ (and_no _ _ (passed _ 13 s (k + 1) (each_position _ (then_left _ _ v2) k l)) c));
          version_is = is_yes _ _ (neg_no _ (passed _ 14 s 0 (then_right _ _ v2)));
        }

  -- what rules 18 and 19 say of y: a right that the sender holds, and sums with the earlier series on it at or below its limit
  pub line_limited : (seen : List Block) (s : ℕ) (y : Block) → Passed (series_verdict d own rights h seen s y) → Limited (n_of d) rights seen y
  unfolding Limited values_verdict right_verdict limit_verdict rule18 rule19
  line_limited seen s y e t =
      let r = then_left _ _ (then_right _ _ (values seen s y e)) in (
        neg_no _ (and_no _ _ (passed _ 17 s 0 (then_left _ _ r)) t),
        λ k l f. less_no _ _ (and_no _ _ (passed _ 18 s (k + 1) (each_position _ (then_right _ _ r) k l)) (and_both _ _ t (less_true k (n_of d) f))),
      )

  limits : (seen : List Block) (s : ℕ) (l : List Block) → Passed (each_series d own rights h seen s l) → AllLimited (n_of d) rights seen l
  unfolding each_series AllLimited
  limits seen s [] e = tt
  limits seen s (y ∷ ys) e = (line_limited seen s y (then_left _ _ e), limits (seen ++ y ∷ []) (s + 1) ys (then_right _ _ e))

  lines : (seen : List Block) (s : ℕ) (l : List Block) → Passed (each_series d own rights h seen s l) → All (Line d own h) l
  unfolding each_series
  lines seen s [] e = tt
  lines seen s (y ∷ ys) e = (line seen s y (then_left _ _ e), lines (seen ++ y ∷ []) (s + 1) ys (then_right _ _ e))

  unseen : (seen : List Block) (s : ℕ) (l : List Block) → Passed (each_series d own rights h seen s l) → All (λ y. All (λ x. same_id_or_key x y ≡ false) seen) l
  unfolding each_series
  unseen seen s [] e = tt
  unseen seen s (y ∷ ys) e = (
    line_unseen seen s y (then_left _ _ e),
    all_imply (λ z. All (λ x. same_id_or_key x z ≡ false) (seen ++ y ∷ [])) _ (λ z q. all_append_left (λ x. same_id_or_key x z ≡ false) seen (y ∷ []) q) ys
        (unseen (seen ++ y ∷ []) (s + 1) ys (then_right _ _ e)),
  )

  distinct : (seen : List Block) (s : ℕ) (l : List Block) → Passed (each_series d own rights h seen s l) → apart same_id_or_key l ≡ true
  unfolding each_series apart
  distinct seen s [] e = refl
  distinct seen s (y ∷ ys) e =
      and_both _ _
      (all_every _ ys (all_imply (λ z. All (λ x. same_id_or_key x z ≡ false) (seen ++ y ∷ [])) (λ z. neg (same_id_or_key y z) ≡ true)
      (λ z q. neg_true _ (all_append_right (λ x. same_id_or_key x z ≡ false) seen (y ∷ []) q).0) ys (unseen (seen ++ y ∷ []) (s + 1) ys (then_right _ _ e))))
      (distinct (seen ++ y ∷ []) (s + 1) ys (then_right _ _ e))

-- ---- an accepted message

pub record Accepts (book message : Bytes) : Type 0 where
  pub was : Sound book
  pub right : Message message
  pub receiver_is : same (receiver (head_of message)) (receiver (day_block book)) ≡ true
  pub sender_valid : eic_valid (sender (head_of message)) ≡ true
  pub day_is : same (day_of_message (head_of message)) (day_of_book (day_block book)) ≡ true
  pub n_is : n_of (head_of message) ≡ n_of (day_block book)
  pub id_formed : id_well_formed (id_of (head_of message)) ≡ true
  pub version_is_allowed : version_allowed (version (head_of message)) ≡ true
  pub each : All (Line (day_block book) (own_series (used book) (sender (head_of message))) (head_of message)) (series_of message)
  pub distinct_all : apart same_id_or_key (series_of message) ≡ true
  pub present : All (λ x. has (key_is (key x)) (series_of message) ≡ true) (own_series (used book) (sender (head_of message)))
  pub limited : AllLimited (n_of (day_block book)) (own_rights (used book) (sender (head_of message))) [] (series_of message)
  pub fits : new_blocks (own_sender (used book) (sender (head_of message))) (own_series (used book) (sender (head_of message))) (series_of message) ≤ free_slots book

version_inside : (stored h : Block) → id_or_version_broken stored h ≡ false → version_allowed (version h) ≡ true
unfolding id_or_version_broken version_allowed
version_inside stored h e =
    split (is_sender stored)
    (λ t.
    let q = rw t at e in
    let above : version stored < version h = upto_no _ _ (or_right _ _ (or_left _ _ q)) in
    and_both _ _ (upto_true 1 (version h) (omega arith)) (upto_true (version h) 999 (less_no _ _ (or_right _ _ q))))
    (λ t. neg_no _ (rw t at e))

pub verdict_sound : (book message : Bytes) → Passed (verdict book message) → sound book ≡ true
unfolding verdict rule1
verdict_sound book message e = neg_no _ (passed _ 0 0 0 (then_left _ _ e))

verdict_message : (book message : Bytes) → Passed (verdict book message) → message_right message ≡ true
unfolding verdict rule2
verdict_message book message e = neg_no _ (passed _ 1 0 0 (then_left _ _ (then_right _ _ e)))

pub accepts : (book message : Bytes) → Passed (verdict book message) → Accepts book message
unfolding verdict judge head_verdict last_verdict rule3 rule4 rule5 rule6 rule16 rule17 absent
accepts book message e =
    let j = then_right _ _ (then_right _ _ e) in
    let j3 = then_left _ _ j in
    let j4 = then_right _ _ j3 in
    let j5 = then_right _ _ j4 in
    let j7 = then_right _ _ j in
    let j16 = then_right _ _ j7 in
    let r5 = passed _ 4 0 0 (then_left _ _ j5) in
    let r6 = passed _ 5 0 0 (then_right _ _ j5) in
    record {
      was = sound_says book (verdict_sound book message e);
      right = message_says message (verdict_message book message e);
      receiver_is = neg_no _ (passed _ 2 0 0 (then_left _ _ j3));
      sender_valid = neg_no _ (passed_by _ 3 0 (eic_number (sender (head_of message))) (then_left _ _ j4));
      day_is = neg_no _ (or_left _ _ r5);
      n_is = is_yes _ _ (neg_no _ (or_right _ _ r5));
      id_formed = neg_no _ (or_left _ _ r6);
      version_is_allowed = version_inside _ _ (or_right _ _ r6);
      each = lines _ _ (own_rights (used book) (sender (head_of message))) _ [] 1 (series_of message) (then_left _ _ j7);
      distinct_all = distinct _ _ (own_rights (used book) (sender (head_of message))) _ [] 1 (series_of message) (then_left _ _ j7);
      present = all_imply (λ x. neg (has (key_is (key x)) (series_of message)) ≡ false) (λ x. has (key_is (key x)) (series_of message) ≡ true) (λ x q. neg_no _ q)
          (own_series (used book) (sender (head_of message))) (has_no_all _ _ (passed _ 15 0 0 (then_left _ _ j16)));
      limited = limits _ _ (own_rights (used book) (sender (head_of message))) _ [] 1 (series_of message) (then_left _ _ j7);
      fits = less_no _ _ (passed _ 16 0 0 (then_right _ _ j16));
    }
