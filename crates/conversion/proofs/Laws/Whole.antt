-- The used slots of a book, lent and back converted: the day block and what stands behind them stay.
use Rattle.std.specs.Prelude.{◌≡◌, ◌++◌, ◌+◌, ◌-◌, ◌*◌, ◌/◌, ◌≤◌}
use Rattle.laws.specs.Kit.{refl, sym, ap, ap₂, ◌∙◌, true, false, append_assoc, ℕ, arith, length, take, drop, length-take, length-drop, drop-drop, length-take-le, add-sub_cancel_left}
use Rattle.laws.specs.Lists.{until}
use Rattle.laws.specs.Bytes.{number, value}
use Rattle.laws.specs.Bytes.Laws.{part_take}
use Rattle.laws.specs.Slices.{rest_slice}
use Rattle.laws.specs.Cut.{cut, join}
use Rattle.laws.specs.Cut.Laws.{join_cut}
use Rattle.paper.specs.Layout.{Bytes, n_of, area}
use Rattle.paper.specs.Book.{day_block, is_free, used}
use Rattle.paper.specs.Conversion.{old_sound, conversion_number, used_converted, converted}
use Rattle.facts.specs.Sound.{Sound, sound_says, book_least, day_n}
use Rattle.facts.specs.Conversion.{old_sound_is_sound, converts, conversion_refused}
use Rattle.slots.proofs.Laws.{used_some, used_counted}

module _ (book : Bytes) where
  pub refused : old_sound book ≡ false → (◌≡◌ {A = ℕ} 1 (conversion_number book)) × (book ≡ converted book)
  unfolding conversion_number
  refused e =
      let q : ◌≡◌ {A = ℕ} 1 (conversion_number book) = rw e in
      (q, sym (conversion_refused book (λ z. let w : ◌≡◌ {A = ℕ} 1 0 = q ∙ z in omega arith)))

  module _ (e : old_sound book ≡ true) where
    is_sound : Sound book
    is_sound = sound_says book (old_sound_is_sound book e)

    pub book_long : 512 ≤ length book
    book_long = omega (arith, book_least book is_sound)

    pub book_few : length book ≤ 513023
    book_few = let h : length book / 512 ≤ 1001 = is_sound.most in omega arith

    n_day : (n : ℕ) → n ≡ n_of book → n ≡ n_of (day_block book)
    unfolding n_of day_block number
    n_day n q = q ∙ ap value (sym (part_take 1 1 512 book (omega arith)))

    pub n_few : (n : ℕ) → n ≡ n_of book → n ≤ 100
    n_few n q = omega (arith, n_day n q, day_n (day_block book) is_sound.day)

    pub passed : ◌≡◌ {A = ℕ} 0 (conversion_number book)
    unfolding conversion_number
    passed = rw e

    -- u is the count of the used slots
    module _ (u : ℕ) (r : 512 * u ≤ length (take (length book - 512) (drop 512 book))) where
      pub used_room : 512 + 512 * u ≤ length book
      used_room = omega (arith, book_long, length-take (length book - 512) (drop 512 book), length-drop 512 book)

      lent_length : length (take (512 + 512 * u - 512) (drop 512 book)) ≡ 512 * u
      lent_length = rw (add-sub_cancel_left) (length-take-le (512 * u) (drop 512 book) (omega (arith, used_room, length-drop 512 book)))

      pub lent_few : length (take (512 + 512 * u - 512) (drop 512 book)) / 512 ≤ 1000
      lent_few = omega (arith, lent_length, used_room, book_few)

    -- and y are the bytes that came back
    module _ (u : ℕ) (r : 512 * u ≤ length (take (length book - 512) (drop 512 book))) (c : u ≡ length (until is_free (cut 512 (take (length book - 512) (drop 512 book))))) where
      used_lent : cut 512 (take (512 + 512 * u - 512) (drop 512 book)) ≡ used book
      used_lent = rw (add-sub_cancel_left) (ap (λ s. cut 512 (take (512 * u) s)) (sym (rest_slice 512 book)) ∙ used_some book u c)

      pub book_converted : (n : ℕ) → n ≡ n_of book → (ours : Bytes) → ours ≡ area (day_block book) → (y : Bytes) → length y ≡ length (take (512 + 512 * u - 512) (drop 512 book)) → cut 512 y ≡ used_converted n ours (cut 512 (take (512 + 512 * u - 512) (drop 512 book)))
          → take 512 book ++ (y ++ drop (512 + 512 * u - 512) (drop 512 book)) ≡ converted book
      unfolding day_block
      book_converted n q ours o y l f =
          let p : y ≡ join (used_converted (n_of (day_block book)) (area (day_block book)) (used book)) =
          sym (join_cut 512 u y (l ∙ lent_length u r)) ∙ ap join (f ∙ rw (n_day n q, o, used_lent) refl)
          in
          let s : drop (512 + 512 * u - 512) (drop 512 book) ≡ drop (512 + 512 * length (used book)) book =
          rw (add-sub_cancel_left) (drop-drop (512 * u) 512 book) ∙ ap (λ k. drop (512 + 512 * k) book) (used_counted book u c)
          in
          ap₂ (λ (a b : Bytes). take 512 book ++ (a ++ b)) p s
          ∙ sym (append_assoc (take 512 book) _ _) ∙ sym (converts book (sym passed)).result
