-- What soundness says of one sender's series: they are as many as its sender block counts, so at most 200, and none where it has no sender block; their quantities are in
-- range; and no id and no key stands twice.
use Rattle.std.specs.Prelude.{◌≡◌, ◌≤◌, ◌<◌}
use Rattle.laws.specs.Base.{sym, ◌∙◌, Bool, true, false, List, [], ℕ, arith, length}
use Rattle.laws.specs.Tests.{less}
use Rattle.laws.specs.Tests.Laws.{split, and_left, and_right, is_yes, less_yes, less_no, upto_yes}
use Rattle.laws.specs.Lists.{has, keep, apart, All}
use Rattle.laws.specs.Lists.Each.{all_imply, all_both, all_keep, all_kept, all_find}
use Rattle.laws.specs.Lists.Search.{has_yes, find_passes, all_has_no}
use Rattle.laws.specs.Lists.Apart.{apart_keep}
use Rattle.laws.specs.Lists.Count.{count_keep}
use Rattle.laws.specs.Lists.Keep.{keep_none}
use Rattle.paper.specs.Layout.{Bytes, Block, n_of, quantity}
use Rattle.paper.specs.Ranges.{count_allowed}
use Rattle.paper.specs.Book.{day_block, used, is_series, is_sender_block_of, slot_of, is_series_of, own_series}
use Rattle.paper.specs.Sound.{count_sound, sender_sound, series_sound, used_sound, same_series}
use Rattle.facts.specs.Book.{sender_block_sender, sender_block_eic, series_of_series, series_of_slot}
use Rattle.facts.specs.Quantities.{quantity_within, quantity_above}
use Rattle.facts.specs.Senders.{Owner, Owned, owned, slot_of_none, slot_of_positive}
use Rattle.facts.specs.Sound.{Sound, used_sender, used_series}
use Rattle.facts.specs.Verdict.{same_id_or_key}
use Rattle.promises.specs.Laws.SoundApart.{same_series_yes}
use Rattle.promises.specs.Laws.SoundSeries.{fields_of}
use Rattle.promises.specs.Laws.ById.{apart_less}

module _ (book : Bytes) (s : Sound book) (e : Bytes) where
  abbrev d : Block
  d = day_block book

  abbrev us : List Block
  us = used book

  abbrev mine : Block → Bool
  mine = is_series_of (slot_of (used book) e)

  -- ---- how many

  pub own_none : has (is_sender_block_of e) (used book) ≡ false → own_series (used book) e ≡ []
  unfolding own_series Owned
  own_none t = keep_none mine us (all_has_no mine us (all_imply (λ x. is_series x ≡ true → Owner us x) (λ x. mine x ≡ false)
      (λ x f. split (mine x)
      (λ u. let w = f (series_of_series _ x u) in
      absurd (omega (arith, slot_of_positive us w.eic w.known, w.slot, series_of_slot _ x u, slot_of_none us e t))) (λ u. u)) us (owned book s)))

  own_counted : has (is_sender_block_of e) (used book) ≡ true → length (own_series (used book) e) ≤ 200
  unfolding own_series sender_sound count_sound count_allowed
  own_counted t =
      let q = has_yes (is_sender_block_of e) us t in
      let b : is_sender_block_of e q.0 ≡ true = find_passes _ us q.0 q.1 in
      let c = and_right _ _ (used_sender d us q.0 (all_find (λ x. used_sound d us x ≡ true) _ us q.0 s.each q.1) (sender_block_sender e q.0 b)) in
      let i = rw (sender_block_eic e q.0 b) at (is_yes _ _ (and_right _ _ c)) in
      omega (arith, count_keep mine us, i, upto_yes _ _ (and_right _ _ (and_left _ _ c)))

  pub own_few : length (own_series (used book) e) ≤ 200
  own_few = split (has (is_sender_block_of e) us) own_counted (λ t. rw (own_none t) (omega arith))

  -- ---- each of them

  own_each : (P : Block → Type 0) → ((x : Block) → series_sound (day_block book) (used book) x ≡ true → P x) → All P (own_series (used book) e)
  unfolding own_series
  own_each P f = all_imply (λ x. (used_sound d us x ≡ true) × (mine x ≡ true)) P (λ x q. f x (used_series d us x q.0 (series_of_series _ x q.1))) (keep mine us)
      (all_both (λ x. used_sound d us x ≡ true) (λ x. mine x ≡ true) (keep mine us) (all_keep (λ x. used_sound d us x ≡ true) mine us s.each) (all_kept mine us))

  pub own_within : (k : ℕ) → k < n_of (day_block book) → All (λ x. quantity x k ≤ 9999999) (own_series (used book) e)
  own_within k h = own_each (λ x. quantity x k ≤ 9999999) (λ x q. quantity_within (n_of d) x (fields_of d us x q).entries k h)

  pub own_above : (k : ℕ) → k < 100 → n_of (day_block book) ≤ k → All (λ x. quantity x k ≡ 0) (own_series (used book) e)
  own_above k h l = own_each (λ x. quantity x k ≡ 0) (λ x q. quantity_above (n_of d) x (fields_of d us x q).entries k l h)

  pub own_small : (k : ℕ) → k < 100 → All (λ x. quantity x k ≤ 9999999) (own_series (used book) e)
  own_small k h = split (less k (n_of d))
      (λ t. own_within k (less_yes _ _ t))
      (λ t. all_imply (λ x. quantity x k ≡ 0) (λ x. quantity x k ≤ 9999999) (λ x z. omega arith) (own_series us e) (own_above k h (less_no _ _ t)))

  -- ---- no two alike

  pub own_distinct : apart same_id_or_key (own_series (used book) e) ≡ true
  unfolding own_series
  own_distinct = apart_less same_id_or_key same_series (λ x. mine x ≡ true)
      (λ x y a b t. same_series_yes x y (series_of_series _ x a) (series_of_series _ y b) (series_of_slot _ x a ∙ sym (series_of_slot _ y b)) t)
      (keep mine us) (all_kept mine us) (apart_keep same_series mine us s.series)
