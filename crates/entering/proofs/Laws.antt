-- A sound book is full where its used slots reach its end; the numbers of an entering in their order, and the book as it leaves it, from what the code finds.
use Rattle.std.specs.Prelude.{◌≡◌, ◌+◌, ◌-◌, ◌*◌, ◌/◌, ◌%◌, ◌≤◌}
use Rattle.laws.specs.Kit.{sym, ap, ap₂, ◌∙◌, Bool, true, false, cond, List, ℕ, arith, length, ◌or◌, neg, is, split, is_yes, is_no, is_equal, is_other}
use Rattle.laws.specs.Lists.{has}
use Rattle.laws.specs.Lists.Keep.{until_length, count_until}
use Rattle.laws.specs.Bytes.{part, written}
use Rattle.paper.specs.Layout.{Bytes, Block, n_of}
use Rattle.paper.specs.Book.{day_block, slots, is_free, used, free_slots}
use Rattle.paper.specs.Sound.{sound, same_right}
use Rattle.paper.specs.Rights.{right_allowed, enter_number, entered}
use Rattle.facts.specs.Book.{slots_length}
use Rattle.facts.specs.Sound.{Sound, sound_says, book_least, day_n}
use Rattle.facts.specs.Rights.{enters, entering_refused}
use Rattle.entering.specs.declared.Refusal.{Refusal}
use Rattle.entering.specs.declared.Refusal.TheVariants.{NotSound, Unfit, Full}
use Rattle.entering.specs.Numbers.{refusal_number}

-- ---- a refusal's number is no other answer's

pub refusal_other : (r : Refusal) → refusal_number r ≡ 0 → ⊥
refusal_other NotSound e = omega (arith, e)
refusal_other Unfit e = omega (arith, e)
refusal_other Full e = omega (arith, e)

-- ---- a sound book

module _ (book : Bytes) (s : Sound book) where
  pub book_long : 512 ≤ length book
  book_long = omega (arith, book_least book s)

  used_most : length (used book) ≤ length (slots book)
  unfolding used
  used_most = until_length is_free (slots book)

  free_count : free_slots book ≡ length (slots book) - length (used book)
  unfolding free_slots used
  free_count = count_until is_free (slots book) s.free

  -- f is where the used slots end
  pub full_is : {f : ℕ} → f ≡ 512 + 512 * length (used book) → is f (length book) ≡ is (free_slots book) 0
  full_is {f} e =
      let w : length book % 512 ≡ 0 = s.whole in
      let m : length (slots book) ≡ length book / 512 - 1 = slots_length book in
      let n : length (used book) ≤ length (slots book) = used_most in
      split (is f (length book))
      (λ t. t ∙ sym (is_equal _ _ (omega (arith, free_count, is_yes _ _ t))))
      (λ t. t ∙ sym (is_other _ _ (λ z. is_no _ _ t (omega (arith, free_count, book_long)))))

-- ---- the number

module _ (book block : Bytes) where
  pub not_sound : sound book ≡ false → ◌≡◌ {A = ℕ} 1 (enter_number book block)
  unfolding enter_number neg
  not_sound e = rw e

  module _ (e : sound book ≡ true) {d : Block} (p : d ≡ part 0 512 book) where
    pub day_few : n_of d ≤ 100
    unfolding part day_block
    day_few = rw p (day_n (day_block book) (sound_says book e).day)

    module _ {a b : Bool} {us : List Block} (g : a ≡ right_allowed d block) (u : us ≡ used book) (h : b ≡ has (same_right block) us) where
      number_found : cond (neg a or b) 40 (cond (is (free_slots book) 0) 17 0) ≡ enter_number book block
      unfolding enter_number neg day_block part
      number_found = rw (g, h, u, p, e)

      pub unfit : (neg a or b) ≡ true → ◌≡◌ {A = ℕ} 40 (enter_number book block)
      unfit t = sym (ap (λ w. cond w 40 (cond (is (free_slots book) 0) 17 0)) t) ∙ number_found

      module _ {f : Bool} (q : f ≡ is (free_slots book) 0) (t : (neg a or b) ≡ false) where
        pub full : f ≡ true → ◌≡◌ {A = ℕ} 17 (enter_number book block)
        full v = sym (ap₂ (λ w z. cond w 40 (cond z 17 0)) t (sym q ∙ v)) ∙ number_found

        pub fits : f ≡ false → ◌≡◌ {A = ℕ} 0 (enter_number book block)
        fits v = sym (ap₂ (λ w z. cond w 40 (cond z 17 0)) t (sym q ∙ v)) ∙ number_found

  -- ---- the book: r is the number

  module _ {r : ℕ} (q : r ≡ enter_number book block) where
    pub refused : (r ≡ 0 → ⊥) → (r ≡ enter_number book block) × (book ≡ entered book block)
    refused n = (q, sym (entering_refused book block (λ z. n (q ∙ z))))

    pub written_in : r ≡ 0 → {at : ℕ} {after : Bytes} → at ≡ 512 + 512 * length (used book) → after ≡ written at block book → (r ≡ enter_number book block) × (after ≡ entered book block)
    written_in z f g = (q, g ∙ ap (λ a. written a block book) f ∙ sym (enters book block (sym q ∙ z)).result)
