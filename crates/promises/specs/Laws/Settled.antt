-- Settled positions of a sound book: at a closed position the sums are given, and over the parties as much is bought as is sold; elsewhere they are refused.
use Rattle.std.specs.Prelude.{◌≡◌, ◌-◌, ◌≤◌}
use Rattle.laws.specs.Base.{sym, ap, ◌∙◌, true, ℕ, arith}
use Rattle.laws.specs.Lists.{total, All}
use Rattle.laws.specs.Lists.Each.{all_imply}
use Rattle.laws.specs.Lists.Count.{total_each, total_differences}
use Rattle.paper.specs.declared.FinalAnswer.{FinalAnswer}
use Rattle.paper.specs.Layout.{Bytes, n_of}
use Rattle.paper.specs.Book.{day_block, used}
use Rattle.paper.specs.Sound.{sound}
use Rattle.paper.specs.Rules.{closed}
use Rattle.paper.specs.Finals.{final_in, final}
use Rattle.paper.specs.Settled.{parties, trade_pairs, buyer_of, seller_of, final_of_pair, bought_by, sold_by, settled_refused, settled}
use Rattle.facts.specs.Sound.{sound_says}
use Rattle.facts.specs.Settled.{ClosedAt, settled_at, refused_as_finals, sound_trading, pairs_given, sums_cancel}

answer_is : (a : FinalAnswer) {n : ℕ} → a.number ≡ n → a ≡ record { number = n; kilowatts = a.kilowatts }
answer_is a e = rw (← e)

pub refused_elsewhere : (book : Bytes) (position : ℕ) → (1 ≤ position → position ≤ n_of (day_block book) → closed (day_block book) position ≡ true → ⊥)
    → (party seller buyer : Bytes) → settled book party position ≡ settled_refused (final book seller buyer position).number
refused_elsewhere book position n = refused_as_finals book position (λ c. n (omega (arith, c.first)) c.last c.shut)

module _ (book : Bytes) (s : sound book ≡ true) (position : ℕ) (first : 1 ≤ position) (last : position ≤ n_of (day_block book)) (shut : closed (day_block book) position ≡ true) where
  at : ClosedAt (day_block book) position
  at = record { first = λ e. omega arith; last = last; shut = shut }

  pub settled_sums : (party : Bytes) → settled book party position
      ≡ record { number = 0; bought = bought_by (day_block book) (used book) position party; sold = sold_by (day_block book) (used book) position party }
  unfolding settled
  settled_sums party = rw s (settled_at (day_block book) (used book) position at party)

  pub sums_given_cancel : total (λ party. (settled book party position).bought) (parties (used book)) ≡ total (λ party. (settled book party position).sold) (parties (used book))
  sums_given_cancel =
      total_each _ (bought_by (day_block book) (used book) position) (λ party. ap (λ a. a.bought) (settled_sums party)) (parties (used book))
      ∙ sums_cancel (day_block book) (used book) position
      ∙ sym (total_each _ (sold_by (day_block book) (used book) position) (λ party. ap (λ a. a.sold) (settled_sums party)) (parties (used book)))

  pub positions_cancel : total (λ party. (settled book party position).bought - (settled book party position).sold) (parties (used book))
      ≡ total (λ party. (settled book party position).sold - (settled book party position).bought) (parties (used book))
  positions_cancel = total_differences (λ party. (settled book party position).bought) (λ party. (settled book party position).sold) (parties (used book)) sums_given_cancel

  pub finals_given : All (λ p. final book (seller_of p) (buyer_of p) position ≡ record { number = 0; kilowatts = final_of_pair (day_block book) (used book) position p }) (trade_pairs (used book))
  unfolding final final_of_pair
  finals_given = rw s
      (all_imply (λ p. (final_in (day_block book) (used book) (seller_of p) (buyer_of p) position).number ≡ 0)
      (λ p. final_in (day_block book) (used book) (seller_of p) (buyer_of p) position ≡ record { number = 0; kilowatts = (final_in (day_block book) (used book) (seller_of p) (buyer_of p) position).kilowatts })
      (λ p e. answer_is _ e) (trade_pairs (used book)) (pairs_given (day_block book) (used book) position at (sound_trading book (sound_says book s))))
