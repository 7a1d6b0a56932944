-- The clauses on the used slots, in the code's order; a sender's count, by its own slot.
use Rattle.std.specs.Prelude.{◌≡◌, ◌+◌, ◌/◌, ◌%◌, ◌≤◌, ◌<◌}
use Rattle.laws.specs.Kit.{refl, sym, ◌∙◌, Bool, true, false, List, [], ℕ, add-one, arith, length, get_or, ◌and◌, is, split, clash, and_left, and_right, and_both, and_true, and_no_right, and_assoc, ◌or◌, or_left, neg, is_other}
use Rattle.laws.specs.Lists.{every, apart, count}
use Rattle.laws.specs.Lists.Same.{same_refl}
use Rattle.laws.specs.Lists.Each.{all_each, every_agree}
use Rattle.laws.specs.Lists.Apart.{apart_place}
use Rattle.laws.specs.Lists.Count.{count_agree}
use Rattle.laws.specs.Cut.{cut}
use Rattle.laws.specs.Cut.Laws.{cut_length}
use Rattle.paper.specs.Layout.{Bytes, Block, n_of, series_count, sender}
use Rattle.paper.specs.Ranges.{count_allowed}
use Rattle.paper.specs.Book.{is_sender, is_series, is_right, is_sender_block_of, slot_of, is_series_of}
use Rattle.paper.specs.Sound.{sender_sound, count_sound, used_sound, same_sender, same_series, same_right, differing_sound}
use Rattle.facts.specs.Book.{sender_not_series, right_not_series}
use Rattle.sound.specs.Used.{used_fields, count_right, clashes, linked_sound, each_used}
use Rattle.sound.specs.Links.{wide_tag, group, in_group}
use Rattle.laws.specs.Lists.Both.{every_both, apart_either}

-- ---- a sender's slot and its count

own_slot : (l : List Block) (i : ℕ) → i < length l → apart clashes l ≡ true → is_sender (get_or l i []) ≡ true → slot_of l (sender (get_or l i [])) ≡ i + 1
unfolding slot_of is_sender_block_of clashes same_sender
own_slot l i h a t =
    rw (add-one i)
    (apart_place clashes _ l i [] h (and_both _ _ t (same_refl _))
    (λ x e. split (is_sender_block_of (sender (get_or l i [])) x) (λ u. clash (and_both _ _ (and_both _ _ (and_left _ _ u) t) (and_right _ _ u)) (or_left _ _ (or_left _ _ e))) (λ u. u)) a)

-- above all slots are the groups of rights
series_group : (k : ℕ) → k < 1000 → (b : Block) → is_series_of (k + 1) b ≡ in_group (k + 1) b
unfolding is_series_of in_group group ◌and◌
series_group k h b =
    split (is_series b) (λ t. rw t)
    (λ t. split (is_right b) (λ r. rw (t, r) (sym (is_other (1001 + wide_tag b % 23) (k + 1) (λ e. omega arith)))) (λ r. rw (t, r) (sym (is_other 0 (k + 1) (λ e. omega arith)))))

pub own_count : (s : Bytes) (i : ℕ) → length s / 512 ≤ 1000 → i < length s / 512 → apart clashes (cut 512 s) ≡ true → is_sender (get_or (cut 512 s) i []) ≡ true
    → count_right (cut 512 s) (get_or (cut 512 s) i []) ≡ (count_allowed (series_count (get_or (cut 512 s) i [])) and is (series_count (get_or (cut 512 s) i [])) (count (in_group (i + 1)) (cut 512 s)))
unfolding count_right count_sound
own_count s i few h a t =
    rw (t, own_slot (cut 512 s) i (rw (cut_length 512 s) h) a t, count_agree (is_series_of (i + 1)) (in_group (i + 1)) (cut 512 s) (all_each (λ b. is_series_of (i + 1) b ≡ in_group (i + 1) b) (series_group i (omega arith)) (cut 512 s)))

pub no_count : (l : List Block) (b : Block) → is_sender b ≡ false → count_right l b ≡ true
unfolding count_right
no_count l b t = rw t

-- ---- the used slots

-- the last of three tests, made second
last_second : (f m r : Bool) → (f and (m and r)) ≡ (f and r and m)
unfolding ◌and◌
last_second true m true = and_true m
last_second true m false = and_no_right m false refl
last_second false m r = refl

module _ (allowed : ℕ → ℕ → Bool) (d : Block) (us : List Block) where
  used_split : (b : Block) → (used_sound d us b and differing_sound allowed (n_of d) b) ≡ (used_fields allowed d us b and count_right us b)
  unfolding used_sound differing_sound used_fields count_right sender_sound ◌and◌ ◌or◌ neg
  used_split b =
      split (is_sender b) (λ t. rw (t, sender_not_series b t) (and_true _))
      (λ t. split (is_right b) (λ r. rw (t, r, right_not_series b r))
      (λ r. split (is_series b) (λ s. rw (t, r, s) (sym (and_true _))) (λ s. rw (t, r, s))))

  every_split : (every (used_sound d us) us and every (differing_sound allowed (n_of d)) us) ≡ (every (used_fields allowed d us) us and every (count_right us) us)
  every_split =
      sym (every_both _ _ us)
      ∙ every_agree _ _ us (all_each (λ b. (used_sound d us b and differing_sound allowed (n_of d) b) ≡ (used_fields allowed d us b and count_right us b)) used_split us)
      ∙ every_both (used_fields allowed d us) (count_right us) us

  pub each_used_lem : each_used allowed d us ≡ (every (used_fields allowed d us) us and linked_sound us)
  unfolding each_used linked_sound clashes
  each_used_lem =
      rw (and_assoc (every (used_sound d us) us), and_assoc (every (used_sound d us) us), and_assoc (every (used_sound d us) us), last_second (every (used_sound d us) us), every_split, apart_either (λ x y. same_sender x y or same_series x y) same_right us, apart_either same_sender same_series us)
      (sym (last_second (every (used_fields allowed d us) us) _ _))
