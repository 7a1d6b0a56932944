-- What a party holds under a pair, by the place of its trade, and the final value of the pair from there.
use Rattle.std.specs.Prelude.{◌≡◌, ◌++◌, ◌≤◌, ◌<◌, min}
use Rattle.laws.specs.Kit.{true, false, some, List, [], ℕ, arith, ◌and◌, neg, is, less, split, neg_or_neg, is_yes, is_no, less_yes, less_no}
use Rattle.laws.specs.Lists.{place}
use Rattle.laws.specs.Slices.{part_past}
use Rattle.paper.specs.declared.Rule.{Rule}
use Rattle.paper.specs.Layout.{Bytes, Block, quantities, entry}
use Rattle.paper.specs.Book.{numbered, slot_of, is_trade_of}
use Rattle.paper.specs.Finals.{lesser_of, final_of, held, is_held, held_at, final_refused}
use Rattle.readings.specs.Held.{final_held}
use Rattle.readings.proofs.Laws.Found.{found_none, found_some}

pub lesser_min : (sellers buyers : ℕ) → min sellers buyers ≡ lesser_of sellers buyers
unfolding lesser_of
lesser_min s b =
    split (less b s) (λ t. rw t (let h : b < s = less_yes b s t in omega arith)) (λ t. rw t (let h : s ≤ b = less_no b s t in omega arith))

module _ (us : List Block) (e p : Bytes) (t : ℕ) (q : t ≡ place (is_trade_of (slot_of us e) (some p)) us) where
  pub held_is : is_held (held us e p) ≡ neg (is t 0)
  unfolding held is_held neg
  held_is =
      split
      (is t 0)
      (λ h. rw (h, found_none (is_trade_of (slot_of us e) (some p)) us t q (is_yes _ _ h)))
      (λ h. rw (h, found_some (is_trade_of (slot_of us e) (some p)) us t q (is_no _ _ h)))

  pub held_at_lem : (k : ℕ) → held_at (held us e p) k ≡ entry (quantities (numbered us t)) k
  unfolding held held_at numbered quantities
  held_at_lem k =
      split
      (is t 0)
      (λ h. let z : t ≡ 0 = is_yes _ _ h in rw (found_none (is_trade_of (slot_of us e) (some p)) us t q z, z, part_past 108 400 [] (omega arith)))
      (λ h. rw (found_some (is_trade_of (slot_of us e) (some p)) us t q (is_no _ _ h)))

module _ (rule : Rule) (us : List Block) (seller buyer : Bytes) (k s b : ℕ) (e : s ≡ place (is_trade_of (slot_of us seller) (some (buyer ++ seller))) us) (f : b ≡ place (is_trade_of (slot_of us buyer) (some (buyer ++ seller))) us) where
  pub held_none : (is s 0 and is b 0) ≡ true → final_refused 26 ≡ final_held rule us seller buyer k
  unfolding final_held
  held_none h = rw (held_is us seller (buyer ++ seller) s e, held_is us buyer (buyer ++ seller) b f, neg_or_neg (is s 0) (is b 0), h)

  pub held_some : (is s 0 and is b 0) ≡ false → record { number = 0; kilowatts = final_of rule (entry (quantities (numbered us s)) k) (entry (quantities (numbered us b)) k) } ≡ final_held rule us seller buyer k
  unfolding final_held
  held_some h =
      rw
      (held_is us seller (buyer ++ seller) s e, held_is us buyer (buyer ++ seller) b f, neg_or_neg (is s 0) (is b 0), h, held_at_lem us seller (buyer ++ seller) s e k, held_at_lem us buyer (buyer ++ seller) b f k)
