-- What is written again where it stands changes nothing, and neither does the check of a block whose check is right, as four bytes hold a number in one way only. So a block
-- whose mark or nets are true is left as it was by a conversion; and a book is its day block, its used slots and the rest.
use Rattle.std.specs.Prelude.{◌≡◌, ◌++◌, ◌+◌, ◌*◌, ◌/◌, ◌≤◌, ◌<◌}
use Rattle.laws.specs.Base.{refl, sym, ap, ◌∙◌, true, List, ℕ, arith, length, take, drop, length-take-le}
use Rattle.laws.specs.Tests.Laws.{is_yes}
use Rattle.laws.specs.Lists.{All}
use Rattle.laws.specs.Lists.Each.{map_same}
use Rattle.laws.specs.Lists.Keep.{until_length, until_take}
use Rattle.laws.specs.Bytes.{part, value, little, number, written}
use Rattle.laws.specs.Bytes.Laws.{part_length, all_part, three_parts, written_part, little_value}
use Rattle.laws.specs.Cut.{join}
use Rattle.laws.specs.Cut.Laws.{width_upto, cut_length, take_cut, join_cut}
use Rattle.paper.specs.Check.{check_right, sealed}
use Rattle.paper.specs.Layout.{Bytes, Block, blocks, sender, nets, mark, with_mark, with_nets}
use Rattle.paper.specs.Book.{day_block, slots, is_free, used, is_sender, is_series, own_series}
use Rattle.paper.specs.Marks.{mark_in}
use Rattle.paper.specs.Nets.{nets_of}
use Rattle.paper.specs.Conversion.{converted_block, used_converted}
use Rattle.facts.specs.Conversion.{by_converted}

-- ---- a block whose check is right

module _ (b : Block) (whole : length b ≡ 512) (bytes : All (λ x. x < 256) b) (right : check_right b ≡ true) where
  sealed_same : sealed b ≡ b
  unfolding sealed check_right number
  sealed_same =
      let l : length (part 508 4 b) ≡ 4 = part_length 508 4 b (omega arith) in
      let v : little 4 (value (part 508 4 b)) ≡ part 508 4 b = rw l at (little_value (part 508 4 b) (all_part (λ x. x < 256) 508 4 b bytes)) in
      ap (λ k. written 508 (little 4 k) b) (sym (is_yes _ _ right)) ∙ ap (λ z. written 508 z b) v ∙ written_part 508 4 b (omega arith)

  with_mark_same : with_mark (mark b) b ≡ b
  unfolding with_mark mark
  with_mark_same = ap sealed (written_part 104 4 b (omega arith)) ∙ sealed_same

  with_nets_same : with_nets (nets b) b ≡ b
  unfolding with_nets nets
  with_nets_same = ap sealed (written_part 108 400 b (omega arith)) ∙ sealed_same

  -- and whose mark or nets are true
  pub converted_same : (n : ℕ) (ours : Bytes) (us : List Block) → (is_sender b ≡ true → nets b ≡ nets_of ours (sender b) (own_series us (sender b)))
      → (is_series b ≡ true → mark b ≡ mark_in n us b) → converted_block n ours us b ≡ b
  converted_same n ours us v m = by_converted n ours us (λ z. z ≡ b) b (λ t. ap (λ z. with_nets z b) (sym (v t)) ∙ with_nets_same)
      (λ t. ap (λ z. with_mark z b) (sym (m t)) ∙ with_mark_same) refl

pub used_converted_same : (n : ℕ) (ours : Bytes) (us : List Block) → All (λ x. converted_block n ours us x ≡ x) us → used_converted n ours us ≡ us
unfolding used_converted
used_converted_same n ours us h = map_same (converted_block n ours us) us h

-- ---- a book

first_blocks_lem : (b : Bytes) (k : ℕ) → k ≤ length b / 512 → join (take k (blocks b)) ≡ part 0 (512 * k) b
unfolding part
first_blocks_lem b k h = ap join (sym (take_cut 512 b k h)) ∙ join_cut 512 k (take (512 * k) b) (length-take-le (512 * k) b (width_upto 512 (length b) k h))

pub book_joined : (book : Bytes) → day_block book ++ join (used book) ++ drop (512 + 512 * length (used book)) book ≡ book
unfolding used slots day_block part
book_joined book =
    let k : ℕ = length (used book) in
    let h : k ≤ length (drop 512 book) / 512 = omega (arith, until_length is_free (slots book), cut_length 512 (drop 512 book)) in
    ap (λ l. take 512 book ++ join l ++ drop (512 + 512 * k) book) (sym (until_take is_free (slots book) k refl))
    ∙ ap (λ z. take 512 book ++ z ++ drop (512 + 512 * k) book) (first_blocks_lem (drop 512 book) k h)
    ∙ three_parts 512 (512 * k) book
