-- A book cut as the code cuts it: the day block and the used slots, then the free ones.
use Rattle.std.specs.Prelude.{◌≡◌, ◌++◌, ◌+◌, ◌-◌, ◌*◌, ◌/◌, ◌%◌, ◌≤◌}
use Rattle.laws.specs.Kit.{refl, sym, ap, ◌∙◌, Bool, true, false, ℕ, suc, div-add-mod', arith, length, take, drop, length-drop, length-take-le, drop-drop, ◌and◌, is, and_left, and_right, and_true, is_yes, upto_yes}
use Rattle.laws.specs.Lists.{every, until}
use Rattle.laws.specs.Lists.Each.{drop_take, all_imply, every_all, all_every, every_append}
use Rattle.laws.specs.Lists.Keep.{until_take, until_length}
use Rattle.laws.specs.Bytes.{part}
use Rattle.laws.specs.Bytes.Laws.{part_take}
use Rattle.laws.specs.Slices.{rest_slice}
use Rattle.laws.specs.Cut.{cut}
use Rattle.laws.specs.Cut.Laws.{cut_length, take_cut, cut_drop, cut_split, join_cut}
use Rattle.paper.specs.Check.{check_right}
use Rattle.paper.specs.Layout.{Bytes, zeros}
use Rattle.paper.specs.Ranges.{whole_blocks}
use Rattle.paper.specs.Book.{day_block, slots, is_free, used}
use Rattle.paper.specs.Sound.{day_sound, used_first, sound_over}
use Rattle.facts.specs.Book.{free_right}
use Rattle.sound.specs.Used.{each_used, filled_sound}
use Rattle.laws.specs.Lists.Both.{every_join}

whole : (n : ℕ) → n % 512 ≡ 0 → n ≡ 512 * (n / 512)
whole n e = omega (arith, div-add-mod' n 512)

zeros_free : (s : Bytes) → length s % 512 ≡ 0 → zeros s ≡ every is_free (cut 512 s)
unfolding is_free zeros
zeros_free s w = ap (every (λ x. is x 0)) (sym (join_cut 512 (length s / 512) s (whole (length s) w))) ∙ every_join (λ x. is x 0) (cut 512 s)

free_checks : (s : Bytes) → length s % 512 ≡ 0 → zeros s ≡ true → every check_right (cut 512 s) ≡ true
free_checks s w t = all_every _ _ (all_imply (λ x. is_free x ≡ true) (λ x. check_right x ≡ true) free_right (cut 512 s) (every_all _ _ (sym (zeros_free s w) ∙ t)))

-- ---- the tests, in the code's order

free_first : (c d u e s t r g : Bool) → (true and c and d and u and e and s and t and r and g) ≡ (u and (c and d and (e and s and t and r and g)))
unfolding ◌and◌
free_first true true true e s t r g = refl
free_first true true false e s t r g = refl
free_first true false true e s t r g = refl
free_first true false false e s t r g = refl
free_first false d true e s t r g = refl
free_first false d false e s t r g = refl

-- what follows a test counts only where the test holds
where_first : (z x y d e : Bool) → (z ≡ true → x ≡ y) → (z and (x and d and e)) ≡ (z and (y and d and e))
unfolding ◌and◌
where_first true x y d e f = ap (λ v. v and d and e) (f refl)
where_first false x y d e f = refl

-- ---- the day block and the used slots

pub filled_split : (allowed : ℕ → ℕ → Bool) (b : Bytes) → filled_sound allowed b ≡ (every check_right (cut 512 b) and day_sound (part 0 512 b) and each_used allowed (part 0 512 b) (cut 512 (take (length b - 512) (drop 512 b))))
unfolding filled_sound
filled_split allowed b = rw (rest_slice 512 b)

pub slots_few : (b : Bytes) → length b / 512 ≤ 1001 → length (take (length b - 512) (drop 512 b)) / 512 ≤ 1000
slots_few b h = rw (rest_slice 512 b, length-drop 512 b) (omega arith)

-- ---- the book

pub not_whole : (allowed : ℕ → ℕ → Bool) (b : Bytes) → whole_blocks 2 1001 b ≡ false → sound_over allowed b ≡ false
unfolding sound_over ◌and◌
not_whole allowed b e = rw e

module _ (b : Bytes) (e : whole_blocks 2 1001 b ≡ true) where
  blocks_whole : length b % 512 ≡ 0
  unfolding whole_blocks
  blocks_whole = is_yes _ _ (and_left _ _ (and_left _ _ e))

  blocks_many : 2 ≤ length b / 512
  unfolding whole_blocks
  blocks_many = upto_yes _ _ (and_right _ _ (and_left _ _ e))

  blocks_few : length b / 512 ≤ 1001
  unfolding whole_blocks
  blocks_few = upto_yes _ _ (and_right _ _ e)

  pub day_inside : 512 ≤ length b
  day_inside = omega (arith, blocks_many)

  module _ (many : ℕ) (h : 512 * many ≤ length (take (length b - 512) (drop 512 b))) where
    pub filled_inside : 512 + 512 * many ≤ length b
    filled_inside = let g : 512 * many ≤ length b - 512 = rw (rest_slice 512 b, length-drop 512 b) at h in omega (arith, day_inside)

    pub filled_length : (512 ≤ length (take (512 + 512 * many) b)) × (length (take (512 + 512 * many) b) / 512 ≤ 1001)
    filled_length = rw (length-take-le (512 + 512 * many) b filled_inside) (omega arith, omega (arith, filled_inside, blocks_few))

    rest_whole : length (drop (512 + 512 * many) b) % 512 ≡ 0
    rest_whole = rw (length-drop (512 + 512 * many) b) (omega (arith, blocks_whole, filled_inside))

    checks_split : zeros (drop (512 + 512 * many) b) ≡ true → every check_right (cut 512 b) ≡ every check_right (cut 512 (take (512 + 512 * many) b))
    checks_split t =
        let q : 512 * suc many ≡ 512 + 512 * many = omega arith in
        let p : cut 512 b ≡ cut 512 (take (512 + 512 * many) b) ++ cut 512 (drop (512 + 512 * many) b) = rw q at (cut_split 512 (suc many) b (omega (arith, filled_inside))) in
        rw (p, every_append, free_checks (drop (512 + 512 * many) b) rest_whole t) (and_true _)

    module _ (u : many ≡ length (until is_free (cut 512 (take (length b - 512) (drop 512 b))))) where
      count : many ≡ length (until is_free (cut 512 (drop 512 b)))
      count = rw (rest_slice 512 b) at u

      first : used_first b ≡ zeros (drop (512 + 512 * many) b)
      unfolding used_first used slots
      first = rw (← count, ← cut_drop 512 (drop 512 b) many, drop-drop (512 * many) 512 b) (sym (zeros_free (drop (512 + 512 * many) b) rest_whole))

      us : cut 512 (drop 512 (take (512 + 512 * many) b)) ≡ used b
      unfolding used slots
      us = rw (drop_take 512 (512 * many) b) (take_cut 512 (drop 512 b) many (omega (arith, count, until_length is_free (cut 512 (drop 512 b)), cut_length 512 (drop 512 b))) ∙ until_take is_free (cut 512 (drop 512 b)) many count)

      in_order : (allowed : ℕ → ℕ → Bool) → sound_over allowed b ≡ (zeros (drop (512 + 512 * many) b) and (every check_right (cut 512 b) and day_sound (part 0 512 b) and each_used allowed (part 0 512 b) (used b)))
      unfolding sound_over day_block each_used part
      in_order allowed = rw (e, ← first) (free_first _ _ _ _ _ _ _ _)

      pub sound_split : (allowed : ℕ → ℕ → Bool) → sound_over allowed b ≡ (zeros (take (length b - (512 + 512 * many)) (drop (512 + 512 * many) b)) and filled_sound allowed (take (512 + 512 * many) b))
      unfolding filled_sound
      sound_split allowed =
          rw (rest_slice (512 + 512 * many) b, part_take 0 512 (512 + 512 * many) b (omega arith), us)
          (in_order allowed ∙ where_first (zeros (drop (512 + 512 * many) b)) _ _ _ _ checks_split)
