-- A sender's nets are the words of its sums at each position: within their range, for at most 200 quantities of at most 9,999,999 are summed; zero above n, for
-- the quantities are.
use Rattle.std.specs.Prelude.{◌≡◌, ◌++◌, ◌+◌, ◌-◌, ◌*◌, ◌%◌, ◌≤◌, ◌<◌}
use Rattle.laws.specs.Base.{refl, sym, ap, ◌∙◌, Bool, true, false, cond, List, ℕ, zero, suc, arith, length}
use Rattle.std.proofs.Math.Decide.{ℕ_discrete}
use Rattle.laws.specs.Tests.{upto}
use Rattle.laws.specs.Tests.Laws.{split, and_both, or_yes_left, or_yes_right, upto_no, upto_true, below_each}
use Rattle.laws.specs.Lists.{same, total, All}
use Rattle.laws.specs.Lists.Each.{all_imply}
use Rattle.laws.specs.Lists.Count.{total_none}
use Rattle.laws.specs.Bytes.{part, value, little, number}
use Rattle.laws.specs.Bytes.Laws.{part_all, part_append_left, part_append_right, little_length, value_little}
use Rattle.paper.specs.Layout.{Bytes, Block, in_party, out_party, entry, quantity, with_nets, net}
use Rattle.paper.specs.Ranges.{net_allowed, nets_allowed}
use Rattle.paper.specs.Nets.{comes_in, goes_out, bought, sold, net_of, nets_to, nets_of}
use Rattle.facts.specs.Layout.{nets_with_nets, entry_nets, zeros_above, net_is_quantity}
use Rattle.facts.specs.Nets.{bought_most, sold_most, nets_to_length, nets_of_length}

net_word : (ours e : Bytes) (l : List Block) (k : ℕ) → value (little 4 (net_of ours e l k)) ≡ net_of ours e l k
unfolding net_of
net_word ours e l k = value_little 4 _ (omega arith)

nets_to_entry : (ours e : Bytes) (l : List Block) (m k : ℕ) → k < m → number 4 (4 * k) (nets_to ours e l m) ≡ net_of ours e l k
unfolding nets_to number
nets_to_entry ours e l zero k h = absurd (omega arith)
nets_to_entry ours e l (suc m) k h = elim (ℕ_discrete k m) [ yes i ↦ last i | no i ↦ front (omega arith) (nets_to_entry ours e l m k (omega arith)) ]
  where
    last : k ≡ m → value (part (4 * k) 4 (nets_to ours e l m ++ little 4 (net_of ours e l m))) ≡ net_of ours e l k
    last i =
        let o : 4 * k ≡ length (nets_to ours e l m) + 0 = omega (arith, nets_to_length ours e l m) in
        ap (λ z. value (part z 4 (nets_to ours e l m ++ little 4 (net_of ours e l m)))) o
        ∙ ap value (part_append_right 0 4 (nets_to ours e l m) (little 4 (net_of ours e l m)) ∙ part_all 4 (little 4 (net_of ours e l m))
        (omega (arith, little_length 4 (net_of ours e l m))))
        ∙ net_word ours e l m ∙ ap (net_of ours e l) (sym i)

    front : k < m → value (part (4 * k) 4 (nets_to ours e l m)) ≡ net_of ours e l k → value (part (4 * k) 4 (nets_to ours e l m ++ little 4 (net_of ours e l m))) ≡ net_of ours e l k
    front t q = ap value (part_append_left (4 * k) 4 (nets_to ours e l m) (little 4 (net_of ours e l m)) (omega (arith, nets_to_length ours e l m))) ∙ q

pub nets_entry : (ours e : Bytes) (l : List Block) (k : ℕ) → k < 100 → entry (nets_of ours e l) k ≡ net_of ours e l k
unfolding nets_of entry
nets_entry ours e l k h = nets_to_entry ours e l 100 k h

-- the word in the block that they are written over
net_with_nets : (ours e : Bytes) (l : List Block) (s : Block) → length s ≡ 512 → (k : ℕ) → k < 100 → net (with_nets (nets_of ours e l) s) k ≡ net_of ours e l k
net_with_nets ours e l s w k h =
    net_is_quantity (with_nets (nets_of ours e l) s) k ∙ sym (entry_nets (with_nets (nets_of ours e l) s) k h)
    ∙ ap (λ v. entry v k) (nets_with_nets (nets_of ours e l) s (nets_of_length ours e l) w) ∙ nets_entry ours e l k h

-- ---- their range

signed : (x y : ℕ) → x ≤ 1999999800 → y ≤ 1999999800 → net_allowed ((4503599627370496 + x - y) % 4294967296) ≡ true
unfolding net_allowed
signed x y h f =
    split (upto ((4503599627370496 + x - y) % 4294967296) 1999999800) (λ t. or_yes_left _ _ t)
    (λ t. let q : 1999999800 < (4503599627370496 + x - y) % 4294967296 = upto_no _ _ t in or_yes_right _ _ (upto_true _ _ (omega arith)))

-- a share is what is counted of a quantity: all of it or nothing
share_none : (t : Bool) (q : ℕ) → q ≡ 0 → cond t q 0 ≡ 0
share_none true q e = e
share_none false q e = refl

shares_none : (p : Block → Bool) (k : ℕ) (l : List Block) → All (λ x. quantity x k ≡ 0) l → total (λ x. cond (p x) (quantity x k) 0) l ≡ 0
shares_none p k l h = total_none (λ x. cond (p x) (quantity x k) 0) l (all_imply (λ x. quantity x k ≡ 0) (λ x. cond (p x) (quantity x k) 0 ≡ 0)
    (λ x q. share_none (p x) _ q) l h)

net_range : (ours e : Bytes) (l : List Block) (k : ℕ) → length l ≤ 200 → All (λ x. quantity x k ≤ 9999999) l → net_allowed (net_of ours e l k) ≡ true
unfolding net_of
net_range ours e l k n h = signed _ _ (bought_most ours e l k n h) (sold_most ours e l k n h)

net_none : (ours e : Bytes) (l : List Block) (k : ℕ) → All (λ x. quantity x k ≡ 0) l → net_of ours e l k ≡ 0
unfolding net_of bought sold
net_none ours e l k h = rw (shares_none (comes_in ours e) k l h, shares_none (goes_out ours e) k l h)

pub nets_allowed_lem : (ours e : Bytes) (l : List Block) (s : Block) (n : ℕ) → n ≤ 100 → length s ≡ 512 → length l ≤ 200
    → ((k : ℕ) → k < n → All (λ x. quantity x k ≤ 9999999) l) → ((k : ℕ) → k < 100 → n ≤ k → All (λ x. quantity x k ≡ 0) l)
    → nets_allowed n (with_nets (nets_of ours e l) s) ≡ true
unfolding nets_allowed
nets_allowed_lem ours e l s n h w f low high =
    and_both _ _ (below_each (λ k. net_allowed (net (with_nets (nets_of ours e l) s) k)) n (λ k t. rw (net_with_nets ours e l s w k (omega arith))
    (net_range ours e l k f (low k t))))
    (zeros_above n (with_nets (nets_of ours e l) s) h (λ k t u. sym (net_is_quantity _ k) ∙ net_with_nets ours e l s w k t ∙ net_none ours e l k (high k t u)))
