-- The day block that the parameters of an opening make: each of its fields holds what was put there.
use Rattle.std.specs.Prelude.{◌≡◌, ◌∷◌, ◌++◌, ◌+◌, ◌≤◌, ◌<◌}
use Rattle.laws.specs.Kit.{ap, ◌∙◌, true, [], append_assoc, ℕ, arith, replicate, ◌and◌, is}
use Rattle.laws.specs.Lists.{every}
use Rattle.laws.specs.Bytes.{part, value, little, number}
use Rattle.laws.specs.Bytes.Laws.{little_length, value_little, part_here, part_over}
use Rattle.paper.specs.Check.{sealed}
use Rattle.paper.specs.Layout.{Bytes, zeros, kind, n_of, lead, clock_plus_10080, day_of_book, area, receiver, day_zeros}
use Rattle.paper.specs.Opening.{Opening, day_block_of}
use Rattle.facts.specs.Check.{part_sealed}
use Rattle.opening.specs.Sized.{Sized}

abbrev pub numbers : (n : ℕ) (lead : ℕ) (rule : ℕ) → Bytes
numbers n lead rule = 3 ∷ n ∷ little 2 lead ++ little 2 0 ++ (rule ∷ 0 ∷ [])

-- the day block before it is sealed, field by field
abbrev pub plain : Opening → Bytes
plain o = numbers o.n o.lead o.rule.0 ++ (o.day ++ (replicate 8 0 ++ (o.area ++ (o.receiver ++ replicate 456 0))))

pub day_block_plain : (o : Opening) → day_block_of o ≡ sealed (plain o)
unfolding day_block_of
day_block_plain o = ap sealed (joined (numbers o.n o.lead o.rule.0) o.day (replicate 8 0) o.area o.receiver (replicate 456 0))
  where
    joined : (n d z a r y : Bytes) → n ++ d ++ z ++ a ++ r ++ y ≡ n ++ (d ++ (z ++ (a ++ (r ++ y))))
    joined n d z a r y = simp append_assoc

module _ (o : Opening) (s : Sized o) where
  field : (at n : ℕ) → at + n ≤ 508 → part at n (day_block_of o) ≡ part at n (plain o)
  field at n h = ap (part at n) (day_block_plain o) ∙ part_sealed at n (plain o) h

  pub kind_of : kind (day_block_of o) ≡ 3
  unfolding kind number part value
  kind_of = ap value (field 0 1 (omega arith))

  pub n_of_lem : n_of (day_block_of o) ≡ o.n
  unfolding n_of number part value
  n_of_lem = ap value (field 1 1 (omega arith)) ∙ omega arith

  pub lead_of : o.lead < 65536 → lead (day_block_of o) ≡ o.lead
  unfolding lead number part little
  lead_of h = ap value (field 2 2 (omega arith) ∙ part_here (little 2 o.lead) [] 2 (little_length 2 o.lead)) ∙ value_little 2 o.lead h

  pub clock_of : clock_plus_10080 (day_block_of o) ≡ 0
  unfolding clock_plus_10080 number part value little
  clock_of = ap value (field 4 2 (omega arith))

  pub day_of : day_of_book (day_block_of o) ≡ o.day
  unfolding day_of_book part little
  day_of = field 8 8 (omega arith) ∙ part_here o.day _ 8 s.day_8

  pub area_of : area (day_block_of o) ≡ o.area
  unfolding area part little
  area_of = field 24 16 (omega arith) ∙ part_over o.day _ 8 8 16 s.day_8 ∙ part_here o.area _ 16 s.area_16

  pub receiver_of : receiver (day_block_of o) ≡ o.receiver
  unfolding receiver part little
  receiver_of = field 40 16 (omega arith) ∙ part_over o.day _ 8 24 16 s.day_8 ∙ part_over o.area _ 16 0 16 s.area_16 ∙ part_here o.receiver _ 16 s.receiver_16

  pub zeros_of : day_zeros (day_block_of o) ≡ true
  unfolding day_zeros zeros every is ◌and◌ part little
  zeros_of =
      rw (
        field 7 1 (omega arith),
        field 16 8 (omega arith) ∙ part_over o.day _ 8 0 8 s.day_8,
        field 56 452 (omega arith) ∙ part_over o.day _ 8 40 452 s.day_8 ∙ part_over o.area _ 16 16 452 s.area_16 ∙ part_over o.receiver _ 16 0 452 s.receiver_16,
      )
