-- A block of zeros into which each field is written at its place is, once sealed, the day block.
use Rattle.std.specs.Prelude.{◌≡◌, ◌++◌}
use Rattle.laws.specs.Kit.{refl, sym, ap, ◌∙◌, ℕ, replicate, set}
use Rattle.laws.specs.Bytes.{written, little}
use Rattle.paper.specs.Check.{sealed}
use Rattle.paper.specs.Layout.{Bytes}
use Rattle.paper.specs.Opening.{Opening, day_block_of}
use Rattle.layout.specs.Written.{with_front, with_day_fields}
use Rattle.opening.specs.Sized.{Sized}
use Rattle.laws.specs.Bytes.Laws.{written_here, written_over}
use Rattle.opening.proofs.Laws.DayBlock.{numbers, plain, day_block_plain}

numbers_written : (n lead rule : ℕ) → set (written 2 (little 2 lead) (set (set (replicate 512 0) 0 3) 1 n)) 6 rule ≡ numbers n lead rule ++ replicate 504 0
unfolding written little
numbers_written n lead rule = refl

module _ (o : Opening) (s : Sized o) where
  block_written : written 40 o.receiver (written 24 o.area (written 8 o.day (set (written 2 (little 2 o.lead) (set (set (replicate 512 0) 0 3) 1 o.n)) 6 o.rule.0))) ≡ plain o
  unfolding little
  block_written = rw (numbers_written o.n o.lead o.rule.0, day_written, area_written) receiver_written
    where
      front : Bytes
      front = numbers o.n o.lead o.rule.0

      day_written : written 8 o.day (front ++ replicate 504 0) ≡ front ++ (o.day ++ replicate 496 0)
      day_written = written_over front (replicate 504 0) o.day 8 0 refl ∙ ap (λ x. front ++ x) (written_here (replicate 8 0) (replicate 496 0) o.day s.day_8)

      area_written : written 24 o.area (front ++ (o.day ++ replicate 496 0)) ≡ front ++ (o.day ++ (replicate 8 0 ++ (o.area ++ replicate 472 0)))
      area_written =
          written_over front (o.day ++ replicate 496 0) o.area 8 16 refl
          ∙ ap (λ x. front ++ x) (written_over o.day (replicate 496 0) o.area 8 8 s.day_8)
          ∙ ap (λ x. front ++ (o.day ++ x)) (written_over (replicate 8 0) (replicate 488 0) o.area 8 0 refl)
          ∙ ap (λ x. front ++ (o.day ++ (replicate 8 0 ++ x))) (written_here (replicate 16 0) (replicate 472 0) o.area s.area_16)

      receiver_written : written 40 o.receiver (front ++ (o.day ++ (replicate 8 0 ++ (o.area ++ replicate 472 0)))) ≡ plain o
      receiver_written =
          written_over front (o.day ++ (replicate 8 0 ++ (o.area ++ replicate 472 0))) o.receiver 8 32 refl
          ∙ ap (λ x. front ++ x) (written_over o.day (replicate 8 0 ++ (o.area ++ replicate 472 0)) o.receiver 8 24 s.day_8)
          ∙ ap (λ x. front ++ (o.day ++ x)) (written_over (replicate 8 0) (o.area ++ replicate 472 0) o.receiver 8 16 refl)
          ∙ ap (λ x. front ++ (o.day ++ (replicate 8 0 ++ x))) (written_over o.area (replicate 472 0) o.receiver 16 0 s.area_16)
          ∙ ap (λ x. front ++ (o.day ++ (replicate 8 0 ++ (o.area ++ x)))) (written_here (replicate 16 0) (replicate 456 0) o.receiver s.receiver_16)

  -- as the code does it
  pub block_made : {b w v : Bytes} → b ≡ replicate 512 0 → w ≡ with_day_fields o b → v ≡ sealed w → v ≡ day_block_of o
  unfolding with_day_fields with_front
  block_made e f g = g ∙ ap sealed (f ∙ ap (with_day_fields o) e ∙ block_written) ∙ sym (day_block_plain o)
