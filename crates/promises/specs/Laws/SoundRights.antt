-- Soundness is kept as to rights: an acceptance and a conversion leave every right as it is, and add none.
use Rattle.std.specs.Prelude.{◌≡◌}
use Rattle.laws.specs.Base.{sym, ap, ◌∙◌, Bool, true, false, List, map, ℕ, length}
use Rattle.laws.specs.Tests.Laws.{split, clash, and_left, and_right}
use Rattle.laws.specs.Lists.{apart, All}
use Rattle.laws.specs.Lists.Each.{all_imply, all_each, all_map, all_swap}
use Rattle.laws.specs.Lists.Apart.{apart_append, apart_none, apart_map}
use Rattle.paper.specs.Layout.{Bytes, Block, sender, with_senders_slot}
use Rattle.paper.specs.Book.{day_block, used, is_sender, is_series, is_right, is_sender_block_of}
use Rattle.paper.specs.Sound.{right_sound, used_sound, same_right}
use Rattle.paper.specs.Message.{head_of, series_of}
use Rattle.paper.specs.Acceptance.{sender_kept, fresh, placed, used_after}
use Rattle.facts.specs.Book.{right_not_sender, right_not_series, series_not_right, sender_not_right, sender_block_sender, series_of_other}
use Rattle.facts.specs.Sound.{used_right}
use Rattle.facts.specs.Verdict.{Accepts}
use Rattle.facts.specs.Remarking.{remarked_no_series, series_remarked}
use Rattle.facts.specs.Renewal.{Shape, shape, series_with_senders_slot, sender_kept_is_sender, sender_kept_no_series, renewed_sender, renewed_other, series_renewed, by_fresh, by_origin}
use Rattle.promises.specs.Laws.Parts.{remarked_of, placed_of, after_of, parts}

same_right_left : (x y : Block) → same_right x y ≡ true → is_right x ≡ true
unfolding same_right
same_right_left x y e = and_left _ _ (and_left _ _ e)

same_right_right : (x y : Block) → same_right x y ≡ true → is_right y ≡ true
unfolding same_right
same_right_right x y e = and_right _ _ (and_left _ _ e)

pub no_right_left : (x y : Block) → is_right x ≡ false → same_right x y ≡ false
no_right_left x y e = split (same_right x y) (λ t. clash (same_right_left x y t) e) (λ t. t)

pub no_right_right : (x y : Block) → is_right y ≡ false → same_right x y ≡ false
no_right_right x y e = split (same_right x y) (λ t. clash (same_right_right x y t) e) (λ t. t)

-- a right that f makes was there
abbrev pub RightStays : (Block → Block) → Block → Type 0
RightStays f x = is_right (f x) ≡ true → f x ≡ x

pub rights_map : (f : Block → Block) (l : List Block) → All (RightStays f) l → apart same_right l ≡ true → apart same_right (map f l) ≡ true
rights_map f l g a =
    apart_map same_right same_right f (RightStays f) (λ x y p q e. split (same_right (f x) (f y))
    (λ t.
    let u : f x ≡ x = p (same_right_left _ _ t) in
    let v : f y ≡ y = q (same_right_right _ _ t) in
    clash (ap (λ z. same_right z y) (sym u) ∙ ap (same_right (f x)) (sym v) ∙ t) e) (λ t. t)) l g a

-- ---- of an accepted message

module _ (book message : Bytes) (a : Accepts book message) where
  open parts book message use {d, ours, us, h, series, slot, again, now, put, after}

  c : Shape (used book) (head_of message) (series_of message)
  c = shape book message a

  renewed_stays : (x : Block) → RightStays again x
  renewed_stays x t = split (is_series x)
      (λ s. clash t (series_not_right _ (series_renewed ours us h series c x ∙ s)))
      (λ s. split (is_sender_block_of (sender h) x)
      (λ u. clash t (ap is_right (renewed_sender ours us h series c x u) ∙ sender_not_right _ (sender_kept_is_sender ours us h series c)))
      (λ u. renewed_other ours us h series c x u (series_of_other slot x s)))

  remarked_stays : (x : Block) → RightStays put x
  remarked_stays x t = split (is_series x)
      (λ s. clash t (series_not_right _ (series_remarked _ _ _ x ∙ s)))
      (λ s. remarked_no_series _ _ _ x s)

  fresh_no_right : All (λ y. is_right y ≡ false) (fresh ours us h series)
  fresh_no_right = by_fresh ours us h series c (λ y. is_right y ≡ false) (λ y. is_series y ≡ true) c.series_kind
      (λ t. sender_not_right _ (sender_kept_is_sender ours us h series c)) (λ y s n. series_not_right _ (series_with_senders_slot slot y ∙ s))

  pub rights_kept : apart same_right (after_of book message) ≡ true
  unfolding used_after placed
  rights_kept =
      rights_map put (placed_of book message) (all_each (RightStays put) remarked_stays (placed_of book message))
      (apart_append same_right (map again us) (fresh ours us h series) (rights_map again us (all_each (RightStays again) renewed_stays us) a.was.rights)
      (apart_none same_right is_right same_right_left (fresh ours us h series) fresh_no_right)
      (all_each (λ x. All (λ y. same_right x y ≡ false) (fresh ours us h series))
      (λ x. all_imply (λ y. is_right y ≡ false) (λ y. same_right x y ≡ false) (no_right_right x) (fresh ours us h series) fresh_no_right) (map again us)))

  pub each_right_kept : All (λ z. is_right z ≡ true → right_sound (day_block book) z ≡ true) (after_of book message)
  unfolding used_after
  each_right_kept =
      all_map (λ z. is_right z ≡ true → right_sound d z ≡ true) put now
      (by_origin ours us h series c (λ z. is_right (put z) ≡ true → right_sound d (put z) ≡ true) (λ x. used_sound d us x ≡ true) (λ y. is_series y ≡ true) a.was.each
      c.series_kind stored
      (λ t. clash t (ap is_right (remarked_no_series _ _ _ _ (sender_kept_no_series ours us h series c)) ∙ sender_not_right _ (sender_kept_is_sender ours us h series c)))
      (λ y s t. clash t (series_not_right _ (series_remarked _ _ _ _ ∙ series_with_senders_slot slot y ∙ s))))
    where
      stored : (x : Block) → used_sound d us x ≡ true → is_right (put (again x)) ≡ true → right_sound d (put (again x)) ≡ true
      stored x q t =
          let u : put (again x) ≡ again x = remarked_stays (again x) t in
          let v : again x ≡ x = renewed_stays x (ap is_right (sym u) ∙ t) in
          let i : put (again x) ≡ x = u ∙ v in
          ap (right_sound d) i ∙ used_right d us x q (ap is_right (sym i) ∙ t)
