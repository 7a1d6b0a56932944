-- Where every series stands for a sender that is one of its two parties, the counterpart of a trade is the other party's trade with its pair: a pair has two
-- parties, and a slot has one sender.
use Rattle.std.specs.Prelude.{◌≡◌}
use Rattle.laws.specs.Base.{refl, sym, ap, ◌∙◌, true, false, some, List, take}
use Rattle.laws.specs.Tests.{◌and◌, neg, is}
use Rattle.laws.specs.Tests.Laws.{split, and_left, and_right, and_no_left, or_else, neg_yes, neg_true, neg_false, is_yes, is_no, is_equal, is_other, and_agree}
use Rattle.laws.specs.Lists.{same, has, All}
use Rattle.laws.specs.Lists.Same.{same_yes, same_other, same_no}
use Rattle.laws.specs.Lists.Each.{all_imply}
use Rattle.paper.specs.Layout.{Bytes, Block, senders_slot}
use Rattle.paper.specs.Book.{is_series, trade_is, is_sender_block_of, slot_of, is_series_of, is_trade_of}
use Rattle.paper.specs.Sound.{parties_of}
use Rattle.paper.specs.Marks.{is_counterpart}
use Rattle.paper.specs.PlainRule.{other_party}
use Rattle.facts.specs.Keys.{trade_not_external}
use Rattle.facts.specs.Pairs.{trade_is_trade, trade_is_pair}
use Rattle.facts.specs.Senders.{slot_of_one, Owner, Owned}

-- ---- two parties of one pair

other_is : (t u k : Bytes) → parties_of false t k ≡ true → parties_of false u k ≡ true → (t ≡ u → ⊥) → other_party t k ≡ u
unfolding parties_of other_party
other_is t u k p q f =
    split (same (take 16 k) t)
    (λ a. rw a (same_yes _ u (or_else _ _ (and_right _ _ q) (same_other _ _ (λ e. f (sym (same_yes _ _ a) ∙ e))))))
    (λ a. rw a (same_yes _ u (split (same (take 16 k) u) (λ b. b) (λ b.
    absurd (f (sym (same_yes _ _ (or_else _ _ (and_right _ _ p) a)) ∙ same_yes _ _ (or_else _ _ (and_right _ _ q) b)))))))

other_differs : (t k : Bytes) → parties_of false t k ≡ true → other_party t k ≡ t → ⊥
unfolding parties_of other_party
other_differs t k p =
    split (same (take 16 k) t)
    (λ a. rw a (λ e. same_no _ _ (neg_yes _ (or_else _ _ (and_left _ _ p) refl)) (same_yes _ _ a ∙ sym e)))
    (λ a. rw a (λ e. same_no (take 16 k) t a e))

-- ---- the two tests agree

module _ (us : List Block) (t k : Bytes) (known : has (is_sender_block_of t) us ≡ true) (party : parties_of false t k ≡ true) where
  -- y is a trade with the pair: it is another sender's than t exactly where it is the other party's
  one_side : (y : Block) → Owner us y → trade_is (some k) y ≡ true → neg (is (senders_slot y) (slot_of us t)) ≡ is (senders_slot y) (slot_of us (other_party t k))
  one_side y w i = split (is (senders_slot y) (slot_of us t))
      (λ o. neg_false _ o ∙ sym (is_other _ _ (λ v. other_differs t k party (slot_of_one us t (other_party t k) known (sym v ∙ is_yes _ _ o)))))
      (λ o.
      let p : parties_of false w.eic k ≡ true = rw (trade_not_external y (trade_is_trade (some k) y i), trade_is_pair k y i) at w.party in
      let e : other_party t k ≡ w.eic = other_is t w.eic k party p (λ j. is_no _ _ o (sym w.slot ∙ ap (slot_of us) (sym j))) in
      neg_true _ o ∙ sym (is_equal _ _ (sym (ap (slot_of us) e ∙ w.slot))))

  pub sides : Owned us → All (λ y. is_counterpart (slot_of us t) (some k) y ≡ is_trade_of (slot_of us (other_party t k)) (some k) y) us
  unfolding Owned is_counterpart is_trade_of is_series_of
  sides w = all_imply (λ y. is_series y ≡ true → Owner us y) (λ y. is_counterpart (slot_of us t) (some k) y ≡ is_trade_of (slot_of us (other_party t k)) (some k) y)
      (λ y f. and_agree _ _ (trade_is (some k) y) (λ a. split (is_series y)
      (λ s. ap (λ z. is_series y and z) (one_side y (f s) a))
      (λ s. and_no_left _ _ s ∙ sym (and_no_left _ _ s)))) us w
