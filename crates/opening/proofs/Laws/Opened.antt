-- The answers of an opening, and the book as it leaves it.
use Rattle.std.specs.Prelude.{◌≡◌, ◌++◌, ◌-◌, ◌/◌, ◌≤◌}
use Rattle.laws.specs.Kit.{refl, true, false, ℕ, arith, length, take, drop, replicate, neg, is, and_left, and_right, upto_yes}
use Rattle.paper.specs.declared.OpenAnswer.{OpenAnswer}
use Rattle.paper.specs.Layout.{Bytes}
use Rattle.paper.specs.Ranges.{whole_blocks}
use Rattle.paper.specs.Eic.{eic_number_of_two}
use Rattle.paper.specs.Opening.{Opening, day_block_of, opening_allowed, open_number, open_answer, opened}
use Rattle.laws.specs.Bytes.Laws.{zeros_split}

-- the first block of a zeroed book, and the book once that is written
pub zeros_front : (b : Bytes) {z : Bytes} → 512 ≤ length b → z ≡ replicate (length b) 0 → take 512 z ≡ replicate 512 0
zeros_front b h e = rw (e, ← zeros_split 512 (length b) h) refl

pub opened_zeros : (b : Bytes) {z d v : Bytes} → 512 ≤ length b → z ≡ replicate (length b) 0 → d ≡ v → d ++ drop 512 z ≡ v ++ replicate (length b - 512) 0
opened_zeros b h e f = rw (e, f, ← zeros_split 512 (length b) h) refl

pub book_long : (book : Bytes) → whole_blocks 2 1001 book ≡ true → 512 ≤ length book
unfolding whole_blocks
book_long book e = let h : 2 ≤ length book / 512 = upto_yes _ _ (and_right _ _ (and_left _ _ e)) in omega arith

abbrev answer : (number character : ℕ) → OpenAnswer
answer number character = record { number = number; character = character }

module _ (book : Bytes) (o : Opening) where
  pub refused_20 : whole_blocks 2 1001 book ≡ false → (answer 20 0 ≡ open_answer book o) × (book ≡ opened book o)
  unfolding open_answer open_number opened neg is
  refused_20 e = (rw e, rw e)

  pub refused_21 : whole_blocks 2 1001 book ≡ true → opening_allowed o ≡ false → {k : ℕ} → k ≡ eic_number_of_two o.area o.receiver → (answer 21 k ≡ open_answer book o) × (book ≡ opened book o)
  unfolding open_answer open_number opened neg is
  refused_21 e f q = (rw (e, f, q), rw (e, f))

  pub opened_0 : whole_blocks 2 1001 book ≡ true → opening_allowed o ≡ true → {after : Bytes} → after ≡ day_block_of o ++ replicate (length book - 512) 0 → (answer 0 0 ≡ open_answer book o) × (after ≡ opened book o)
  unfolding open_answer open_number opened neg is
  opened_0 e f g = (rw (e, f), rw (e, f) g)
