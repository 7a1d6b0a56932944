-- Soundness is kept by an acceptance, as to distinctness: a renewed block keeps sender, id and key, by rule 7; the one sender that may be added was not there;
-- and a new series has an id and a key that no stored series of the sender and no other series of the message has.
use Rattle.std.specs.Prelude.{◌≡◌, ◌∷◌}
use Rattle.laws.specs.Base.{refl, sym, ap, ◌∙◌, true, false, cond, List, [], map, length}
use Rattle.laws.specs.Tests.Laws.{split, clash, and_left, and_right, and_both, or_no, or_yes_right, neg_yes, is_yes, is_equal}
use Rattle.laws.specs.Lists.{has, every, apart, All}
use Rattle.laws.specs.Lists.Same.{same_yes, same_equal}
use Rattle.laws.specs.Lists.Each.{all_imply, all_both, all_each, all_keep, all_map, all_swap, all_keep_back}
use Rattle.laws.specs.Lists.Search.{has_no_all}
use Rattle.laws.specs.Lists.Apart.{apart_append, apart_keep, apart_none, apart_map}
use Rattle.paper.specs.Layout.{Bytes, Block, area, id_of, sender, senders_slot, key, with_senders_slot}
use Rattle.paper.specs.Book.{day_block, used, is_sender, is_series, is_sender_block_of, is_series_of, own_series, id_is, key_is}
use Rattle.paper.specs.Sound.{same_sender, same_series}
use Rattle.paper.specs.Message.{head_of, series_of}
use Rattle.paper.specs.Rules.{is_new}
use Rattle.paper.specs.Acceptance.{slot_for, sender_kept, fresh, placed, used_after}
use Rattle.facts.specs.Layout.{key_with_senders_slot, alike_senders_slot, alike_id}
use Rattle.facts.specs.Book.{series_not_sender, sender_block_sender, sender_block_eic, sender_block_yes, sender_block_own, series_of_yes}
use Rattle.facts.specs.Verdict.{Straight, Line, same_id_or_key, Accepts}
use Rattle.facts.specs.Keys.{key_is_equal}
use Rattle.facts.specs.Remarking.{alike_remarked, series_remarked, senders_slot_remarked, key_remarked, sender_block_remarked}
use Rattle.facts.specs.Renewal.{Shape, shape, series_with_senders_slot, sender_kept_sender, sender_kept_no_series, by_renewed, series_renewed, renewed_keeps, sender_block_renewed, renewed_others_series, adopted, by_fresh}
use Rattle.facts.specs.Senders.{owned, own_series_lem}
use Rattle.promises.specs.Laws.Parts.{sender_slot, new_of, placed_of, remarked_of, after_of, parts}

-- ---- two blocks of one sender

same_sender_left : (x y : Block) → same_sender x y ≡ true → is_sender x ≡ true
unfolding same_sender
same_sender_left x y e = and_left _ _ (and_left _ _ e)

same_sender_right : (x y : Block) → same_sender x y ≡ true → is_sender y ≡ true
unfolding same_sender
same_sender_right x y e = and_right _ _ (and_left _ _ e)

same_sender_eic : (x y : Block) → same_sender x y ≡ true → sender x ≡ sender y
unfolding same_sender
same_sender_eic x y e = same_yes _ _ (and_right _ _ e)

same_sender_yes : (x y : Block) → is_sender x ≡ true → is_sender y ≡ true → sender x ≡ sender y → same_sender x y ≡ true
unfolding same_sender
same_sender_yes x y a b e = and_both _ _ (and_both _ _ a b) (same_equal _ _ e)

same_sender_no : (x y : Block) → is_sender y ≡ false → same_sender x y ≡ false
same_sender_no x y e = split (same_sender x y) (λ t. clash (same_sender_right x y t) e) (λ t. t)

-- by a change that invents no sender and alters no EIC
pub senders_map : (f : Block → Block) → ((e : Bytes) (b : Block) → is_sender_block_of e (f b) ≡ is_sender_block_of e b) → (l : List Block) → apart same_sender l ≡ true
    → apart same_sender (map f l) ≡ true
senders_map f g l a =
    apart_map same_sender same_sender f (λ x. Unit {0}) (λ x y p q e. split (same_sender (f x) (f y))
    (λ t.
    let u : is_sender_block_of (sender (f x)) x ≡ true = sym (g _ x) ∙ sender_block_own (f x) (same_sender_left _ _ t) in
    let v : is_sender_block_of (sender (f y)) y ≡ true = sym (g _ y) ∙ sender_block_own (f y) (same_sender_right _ _ t) in
    clash (same_sender_yes x y (sender_block_sender _ x u) (sender_block_sender _ y v) (sender_block_eic _ x u ∙ same_sender_eic _ _ t ∙ sym
    (sender_block_eic _ y v))) e) (λ t. t))
    l (all_each (λ x. Unit {0}) (λ x. tt) l) a

-- ---- two series of one sender with one id or one key

same_series_left : (x y : Block) → same_series x y ≡ true → is_series x ≡ true
unfolding same_series
same_series_left x y e = and_left _ _ (and_left _ _ (and_left _ _ e))

same_series_right : (x y : Block) → same_series x y ≡ true → is_series y ≡ true
unfolding same_series
same_series_right x y e = and_right _ _ (and_left _ _ (and_left _ _ e))

same_series_slot : (x y : Block) → same_series x y ≡ true → senders_slot x ≡ senders_slot y
unfolding same_series
same_series_slot x y e = is_yes _ _ (and_right _ _ (and_left _ _ e))

same_series_id_or_key : (x y : Block) → same_series x y ≡ true → same_id_or_key x y ≡ true
unfolding same_series same_id_or_key
same_series_id_or_key x y e = and_right _ _ e

pub same_series_yes : (x y : Block) → is_series x ≡ true → is_series y ≡ true → senders_slot x ≡ senders_slot y → same_id_or_key x y ≡ true → same_series x y ≡ true
unfolding same_series same_id_or_key
same_series_yes x y a b o e = and_both _ _ (and_both _ _ (and_both _ _ a b) (is_equal _ _ o)) e

pub same_key_yes : (x y : Block) → key x ≡ key y → same_id_or_key x y ≡ true
unfolding same_id_or_key
same_key_yes x y e = or_yes_right _ _ (same_equal _ _ e)

id_or_key_agree : (x y z w : Block) → id_of x ≡ id_of z → key x ≡ key z → id_of y ≡ id_of w → key y ≡ key w → same_id_or_key x y ≡ same_id_or_key z w
unfolding same_id_or_key
id_or_key_agree x y z w a b c d = rw (a, b, c, d)

-- a series that f makes was a series, with its sender's slot, id and key
abbrev pub Kept : (Block → Block) → Block → Type 0
Kept f x = is_series (f x) ≡ true → (is_series x ≡ true) × (senders_slot (f x) ≡ senders_slot x) × (id_of (f x) ≡ id_of x) × (key (f x) ≡ key x)

pub series_map : (f : Block → Block) (l : List Block) → All (Kept f) l → apart same_series l ≡ true → apart same_series (map f l) ≡ true
series_map f l g a =
    apart_map same_series same_series f (Kept f) (λ x y p q e. split (same_series (f x) (f y))
    (λ t.
    let u = p (same_series_left _ _ t) in
    let v = q (same_series_right _ _ t) in
    clash (same_series_yes x y u.0 v.0 (sym u.1 ∙ same_series_slot _ _ t ∙ v.1)
    (sym (id_or_key_agree (f x) (f y) x y u.2 u.3 v.2 v.3) ∙ same_series_id_or_key _ _ t)) e) (λ t. t)) l g a

-- neither the id nor the key, where x is straight with y and has another key
straight_no : (x y : Block) → Straight y x → key_is (key y) x ≡ false → same_id_or_key x y ≡ false
unfolding same_id_or_key id_is key_is
straight_no x y s n = or_no _ _ (s ∙ n) n

straight_id : (x y : Block) → Straight y x → key y ≡ key x → id_of y ≡ id_of x
unfolding id_is
straight_id x y s e = sym (same_yes _ _ (s ∙ key_is_equal (key y) x (sym e)))

new_no_key : (own : List Block) (y : Block) → is_new own y ≡ true → has (key_is (key y)) own ≡ false
unfolding is_new
new_no_key own y e = neg_yes _ e

-- ---- of an accepted message

module _ (book message : Bytes) (a : Accepts book message) where
  open parts book message use {ours, us, h, series, slot, own, again}

  c : Shape (used book) (head_of message) (series_of message)
  c = shape book message a

  -- the sender, if it is new; the new series
  abbrev ahead : List Block
  ahead = cond (has (is_sender_block_of (sender (head_of message))) (used book)) [] (sender_kept (area (day_block book)) (head_of message) (series_of message) ∷ [])

  abbrev added : List Block
  added = map (with_senders_slot (sender_slot book message)) (new_of book message)

  -- what holds of the sender's stored series, of each own series of the book
  of_own : (P : Block → Type 0) → All P (own_series (used book) (sender (head_of message))) → All
      (λ x. is_series_of (slot_for (used book) (sender (head_of message))) x ≡ true → P x) (used book)
  of_own P p = all_keep_back P (is_series_of slot) us (rw (own_series_lem us (owned book a.was) (sender h)) p)

  -- senders

  fresh_senders : apart same_sender (fresh ours us h series) ≡ true
  unfolding fresh apart every
  fresh_senders =
      apart_append same_sender ahead added
      (split (has (is_sender_block_of (sender h)) us) (λ t. rw t) (λ t. rw t (and_both _ _ refl refl)))
      (apart_none same_sender is_sender same_sender_left added none)
      (all_each (λ x. All (λ y. same_sender x y ≡ false) added) (λ x. all_imply (λ y. is_sender y ≡ false) (λ y. same_sender x y ≡ false)
      (λ y e. same_sender_no x y e) added none) ahead)
    where
      none : All (λ y. is_sender y ≡ false) added
      none = all_map (λ y. is_sender y ≡ false) (with_senders_slot slot) (new_of book message)
          (all_imply (λ y. is_series y ≡ true) (λ y. is_sender (with_senders_slot slot y) ≡ false) (λ y e. series_not_sender _ (series_with_senders_slot slot y ∙ e))
          (new_of book message) (all_keep (λ y. is_series y ≡ true) (is_new own) series c.series_kind))

  cross_senders : All (λ y. All (λ x. same_sender (again x) y ≡ false) us) (fresh ours us h series)
  cross_senders = by_fresh ours us h series c (λ y. All (λ x. same_sender (again x) y ≡ false) us) (λ y. is_series y ≡ true) c.series_kind
      (λ t. all_imply (λ x. is_sender_block_of (sender h) x ≡ false) (λ x. same_sender (again x) (sender_kept ours h series) ≡ false) one us
      (has_no_all (is_sender_block_of (sender h)) us t))
      (λ y s n. all_each (λ x. same_sender (again x) (with_senders_slot slot y) ≡ false)
      (λ x. same_sender_no _ _ (series_not_sender _ (series_with_senders_slot slot y ∙ s))) us)
    where
      one : (x : Block) → is_sender_block_of (sender h) x ≡ false → same_sender (again x) (sender_kept ours h series) ≡ false
      one x n = split (same_sender (again x) (sender_kept ours h series))
          (λ u. clash (sym (sender_block_renewed ours us h series c (sender h) x) ∙ sender_block_yes (sender h) (again x) (same_sender_left _ _ u)
          (same_sender_eic _ _ u ∙ sender_kept_sender ours us h series c)) n) (λ u. u)

  pub senders_kept : apart same_sender (after_of book message) ≡ true
  unfolding used_after placed
  senders_kept =
      senders_map (remarked_of book message) (sender_block_remarked _ _ _) (placed_of book message)
      (apart_append same_sender (map again us) (fresh ours us h series) (senders_map again (sender_block_renewed ours us h series c) us a.was.senders) fresh_senders
      (all_map (λ x. All (λ y. same_sender x y ≡ false) (fresh ours us h series)) again us (all_swap (λ x y. same_sender (again x) y ≡ false) us
      (fresh ours us h series) cross_senders)))

  -- series

  own_straight : All (λ x. is_series_of (slot_for (used book) (sender (head_of message))) x ≡ true → All (λ y. Straight y x) (series_of message)) (used book)
  own_straight = of_own (λ x. All (λ y. Straight y x) series)
      (all_swap (λ x y. Straight y x) own series (all_imply (Line (day_block book) own h) (λ y. All (Straight y) own) (λ y l. l.straight) series a.each))

  renewed_id : (x : Block) → (is_series_of slot x ≡ true → All (λ y. Straight y x) series) → is_series x ≡ true → id_of (again x) ≡ id_of x
  renewed_id x f s = split (is_series_of slot x)
      (λ o. by_renewed ours us h series c (λ z. id_of z ≡ id_of x) (λ y. Straight y x) (f o) x s refl (λ u y g e. alike_id _ _ (alike_senders_slot slot y)
      ∙ straight_id x y g e))
      (λ o. ap id_of (renewed_others_series ours us h series c x s o))

  renewed_kept : All (Kept again) us
  renewed_kept = all_imply (λ x. is_series_of slot x ≡ true → All (λ y. Straight y x) series) (Kept again)
      (λ x f s. let r : is_series x ≡ true = sym (series_renewed ours us h series c x) ∙ s in
      (r, (renewed_keeps ours us h series c).slot x r, renewed_id x f r, (renewed_keeps ours us h series c).keys x r)) us own_straight

  remarked_kept : (x : Block) → Kept (remarked_of book message) x
  remarked_kept x s = (sym (series_remarked _ _ _ x) ∙ s, senders_slot_remarked _ _ _ x, alike_id _ _ (alike_remarked _ _ _ x), key_remarked _ _ _ x)

  fresh_series : apart same_series (fresh ours us h series) ≡ true
  unfolding fresh apart every
  fresh_series =
      apart_append same_series ahead added
      (split (has (is_sender_block_of (sender h)) us) (λ t. rw t) (λ t. rw t (and_both _ _ refl refl)))
      (apart_map same_series same_id_or_key (with_senders_slot slot) (λ x. Unit {0}) (λ x y p q e. split (same_series (with_senders_slot slot x) (with_senders_slot slot y))
      (λ t. clash (sym (id_or_key_agree _ _ x y (alike_id _ _ (alike_senders_slot slot x)) (key_with_senders_slot slot x)
      (alike_id _ _ (alike_senders_slot slot y)) (key_with_senders_slot slot y)) ∙ same_series_id_or_key _ _ t) e) (λ t. t))
      (new_of book message) (all_each (λ x. Unit {0}) (λ x. tt) (new_of book message)) (apart_keep same_id_or_key (is_new own) series a.distinct_all))
      (split (has (is_sender_block_of (sender h)) us) (λ t. rw t tt)
      (λ t. rw t (
        all_each (λ y. same_series (sender_kept ours h series) y ≡ false) (λ y. split (same_series (sender_kept ours h series) y)
            (λ u. clash (same_series_left _ _ u) (sender_kept_no_series ours us h series c)) (λ u. u)) added,
        tt,
      )))

  -- a stored series of the sender and a new one
  own_new : (x y : Block) → Kept again x → Straight y x → key_is (key y) x ≡ false → same_series (again x) (with_senders_slot slot y) ≡ false
  own_new x y k s n = split (same_series (again x) (with_senders_slot slot y))
      (λ t.
      let u = k (same_series_left _ _ t) in
      clash (sym (id_or_key_agree _ _ x y u.2 u.3 (alike_id _ _ (alike_senders_slot slot y)) (key_with_senders_slot slot y)) ∙ same_series_id_or_key _ _ t)
      (straight_no x y s n)) (λ t. t)

  -- another's stored series and a new one
  others_new : (x y : Block) → length y ≡ 512 → Kept again x → is_series_of slot x ≡ false → same_series (again x) (with_senders_slot slot y) ≡ false
  others_new x y l k o = split (same_series (again x) (with_senders_slot slot y))
      (λ t. let u = k (same_series_left _ _ t) in clash (series_of_yes slot x u.0 (sym u.1 ∙ same_series_slot _ _ t ∙ adopted ours us h series c y l)) o) (λ t. t)

  cross_series : All (λ y. All (λ x. same_series (again x) y ≡ false) us) (fresh ours us h series)
  cross_series = by_fresh ours us h series c (λ y. All (λ x. same_series (again x) y ≡ false) us) (λ y. (length y ≡ 512) × Line (day_block book) own h y)
      (all_both (λ y. length y ≡ 512) (Line (day_block book) own h) series c.series_whole a.each)
      (λ t. all_each (λ x. same_series (again x) (sender_kept ours h series) ≡ false) (λ x. split (same_series (again x) (sender_kept ours h series))
      (λ u. clash (same_series_right _ _ u) (sender_kept_no_series ours us h series c)) (λ u. u)) us)
      (λ y q n. all_imply (λ x. Kept again x × (is_series_of slot x ≡ true → Straight y x × (key_is (key y) x ≡ false)))
      (λ x. same_series (again x) (with_senders_slot slot y) ≡ false)
      (λ x r. split (is_series_of slot x) (λ o. let z = r.1 o in own_new x y r.0 z.0 z.1) (λ o. others_new x y q.0 r.0 o)) us
      (all_both (Kept again) (λ x. is_series_of slot x ≡ true → Straight y x × (key_is (key y) x ≡ false)) us renewed_kept
      (of_own (λ x. Straight y x × (key_is (key y) x ≡ false)) (all_both (Straight y) (λ x. key_is (key y) x ≡ false) own q.1.straight
      (has_no_all _ own (new_no_key own y n))))))

  pub series_kept : apart same_series (after_of book message) ≡ true
  unfolding used_after placed
  series_kept =
      series_map (remarked_of book message) (placed_of book message) (all_each (Kept (remarked_of book message)) remarked_kept (placed_of book message))
      (apart_append same_series (map again us) (fresh ours us h series) (series_map again us renewed_kept a.was.series) fresh_series
      (all_map (λ x. All (λ y. same_series x y ≡ false) (fresh ours us h series)) again us (all_swap (λ x y. same_series (again x) y ≡ false) us
      (fresh ours us h series) cross_series)))
