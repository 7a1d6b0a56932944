-- What a net says: the four bytes hold the sum bought less the sum sold, by its remainder by 2 to the 32. A sum of at most 200 quantities of at most 9,999,999
-- is at most 1,999,999,800, less than half of that, so the word tells the signed number.
use Rattle.std.specs.Prelude.{◌≡◌, ◌+◌, ◌-◌, ◌*◌, ◌%◌, ◌≤◌, ◌<◌}
use Rattle.laws.specs.Base.{refl, Bool, true, false, cond, List, ℕ, zero, suc, arith, length, length-append}
use Rattle.laws.specs.Lists.{total, All}
use Rattle.laws.specs.Lists.Each.{all_imply}
use Rattle.laws.specs.Lists.Count.{total_bound}
use Rattle.laws.specs.Bytes.{little}
use Rattle.laws.specs.Bytes.Laws.{little_length}
use Rattle.paper.specs.Layout.{Bytes, Block, quantity}
use Rattle.facts.specs.Layout.{Alike, alike_key, alike_in_area, alike_out_area, alike_in_party, alike_out_party}
use Rattle.facts.specs.Keys.{key_is_external}
use Rattle.paper.specs.Nets.{comes_in, goes_out, bought, sold, net_of, nets_to, nets_of}

-- the word of gain less loss, both at most 1,999,999,800: itself where that is not negative, else 2 to the 32 more
pub record SignedSum (word gain loss : ℕ) : Type 0 where
  pub gain_most : gain ≤ 1999999800
  pub loss_most : loss ≤ 1999999800
  pub not_negative : loss ≤ gain → word + loss ≡ gain
  pub negative : gain < loss → word + loss ≡ gain + 4294967296

word_signed : (gain loss : ℕ) → gain ≤ 1999999800 → loss ≤ 1999999800 → SignedSum ((4503599627370496 + gain - loss) % 4294967296) gain loss
word_signed gain loss h f = record { gain_most = h; loss_most = f; not_negative = λ l. omega arith; negative = λ l. omega arith }

-- ---- the sums

-- a share is what is counted of a quantity: all of it or nothing
share_small : (t : Bool) (q m : ℕ) → q ≤ m → cond t q 0 ≤ m
share_small true q m h = h
share_small false q m h = omega arith

shares_small : (p : Block → Bool) (k : ℕ) (l : List Block) → All (λ x. quantity x k ≤ 9999999) l → total (λ x. cond (p x) (quantity x k) 0) l ≤ 9999999 * length l
shares_small p k l h = total_bound (λ x. cond (p x) (quantity x k) 0) 9999999 l (all_imply (λ x. quantity x k ≤ 9999999) (λ x. cond (p x) (quantity x k) 0 ≤ 9999999)
    (λ x q. share_small (p x) _ _ q) l h)

module _ (ours e : Bytes) (series : List Block) (k : ℕ) (few : length series ≤ 200) (small : All (λ x. quantity x k ≤ 9999999) series) where
  pub bought_most : bought ours e series k ≤ 1999999800
  unfolding bought
  bought_most = let h = shares_small (comes_in ours e) k series small in omega arith

  pub sold_most : sold ours e series k ≤ 1999999800
  unfolding sold
  sold_most = let h = shares_small (goes_out ours e) k series small in omega arith

  pub net_signed : SignedSum (net_of ours e series k) (bought ours e series k) (sold ours e series k)
  unfolding net_of
  net_signed = word_signed _ _ bought_most sold_most

-- ---- their bytes, and what they depend on

-- two series that are alike but for sender's slot, mark and check count alike
pub alike_comes_in : (ours e : Bytes) (x y : Block) → Alike x y → comes_in ours e x ≡ comes_in ours e y
unfolding comes_in
alike_comes_in ours e x y a = rw (key_is_external x y (alike_key x y a), alike_in_area x y a, alike_in_party x y a)

pub alike_goes_out : (ours e : Bytes) (x y : Block) → Alike x y → goes_out ours e x ≡ goes_out ours e y
unfolding goes_out
alike_goes_out ours e x y a = rw (key_is_external x y (alike_key x y a), alike_out_area x y a, alike_out_party x y a)

pub nets_to_length : (ours e : Bytes) (l : List Block) (m : ℕ) → length (nets_to ours e l m) ≡ 4 * m
unfolding nets_to
nets_to_length ours e l zero = refl
nets_to_length ours e l (suc m) = omega (arith, length-append (nets_to ours e l m) (little 4 (net_of ours e l m)), little_length 4 (net_of ours e l m), nets_to_length ours e l m)

pub nets_of_length : (ours e : Bytes) (l : List Block) → length (nets_of ours e l) ≡ 400
unfolding nets_of
nets_of_length ours e l = nets_to_length ours e l 100

pub nets_agree : (ours e : Bytes) (l r : List Block) → ((k : ℕ) → k < 100 → (bought ours e l k ≡ bought ours e r k) × (sold ours e l k ≡ sold ours e r k)) → nets_of ours e l ≡ nets_of ours e r
unfolding nets_of nets_to net_of
nets_agree ours e l r f = by 100 (omega arith)
  where
    by : (m : ℕ) → m ≤ 100 → nets_to ours e l m ≡ nets_to ours e r m
    by zero h = refl
    by (suc m) h = let q = f m (omega arith) in rw (by m (omega arith), q.0, q.1)
