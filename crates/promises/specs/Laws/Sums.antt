-- Sums over a sender's series after an acceptance: over the message's sender they are the sums over the message, for its series are the stored ones replaced
-- and the new ones, each once, by rules 7 and 16; over any other sender they are what they were.
use Rattle.std.specs.Prelude.{◌≡◌, ◌∷◌, ◌++◌, ◌+◌}
use Rattle.laws.specs.Base.{sym, ap, ap₂, ◌∙◌, Bool, true, false, cond, List, [], map, ℕ, add-zero, length}
use Rattle.laws.specs.Tests.{is}
use Rattle.laws.specs.Tests.Laws.{split, is_no}
use Rattle.laws.specs.Lists.{find, has, apart, keep, total, All, of_found}
use Rattle.laws.specs.Lists.Same.{same_swap}
use Rattle.laws.specs.Lists.Each.{all_imply, all_both, all_each, all_keep, all_kept, all_map}
use Rattle.laws.specs.Lists.Search.{has_yes, has_no_find, all_has_no}
use Rattle.laws.specs.Lists.Apart.{apart_keep}
use Rattle.laws.specs.Lists.Count.{total_append, total_agree, total_keep, total_sieve, total_map, total_one, total_each, total_swap}
use Rattle.laws.specs.Lists.Keep.{keep_append, keep_all, keep_none, keep_map_each}
use Rattle.paper.specs.Layout.{Bytes, Block, sender, senders_slot, key, with_senders_slot}
use Rattle.paper.specs.Book.{used, is_series, is_sender_block_of, is_series_of, key_is}
use Rattle.paper.specs.Sound.{same_series}
use Rattle.paper.specs.Message.{head_of, series_of}
use Rattle.paper.specs.Rules.{is_new}
use Rattle.paper.specs.Acceptance.{sender_kept, replaced, fresh, placed, used_after}
use Rattle.facts.specs.Book.{series_of_series, series_of_slot, series_of_yes, series_of_other}
use Rattle.facts.specs.Verdict.{same_id_or_key, Accepts}
use Rattle.facts.specs.Keys.{key_is_yes}
use Rattle.facts.specs.Pairs.{series_of_kept}
use Rattle.facts.specs.Remarking.{remarked_keeps}
use Rattle.facts.specs.Renewal.{Shape, shape, series_with_senders_slot, sender_kept_no_series, renewed_own, renewed_keeps, renewed_others_series, adopted, fresh_slots}
use Rattle.facts.specs.Senders.{owned, own_series_lem}
use Rattle.promises.specs.Laws.Parts.{sender_slot, new_of, after_of, parts}
use Rattle.promises.specs.Laws.SoundApart.{same_series_yes, same_key_yes}

key_is_swap : (x y : Block) → key_is (key x) y ≡ key_is (key y) x
unfolding key_is
key_is_swap x y = same_swap (key y) (key x)

of_found_same : {A : Type 0} (p : A → Bool) (k : ℕ) (l : List A) → of_found (λ x. k) (find p l) ≡ cond (has p l) k 0
unfolding of_found
of_found_same p k l = split (has p l) (λ t. let q = has_yes p l t in rw (t, q.1)) (λ t. rw (t, has_no_find p l t))

total_no_more : (g : Block → ℕ) (n : ℕ) → n + total g [] ≡ n
unfolding total
total_no_more g n = add-zero n

module _ (book message : Bytes) (a : Accepts book message) where
  open parts book message use {ours, us, h, series, slot, own, again, put, now}

  c : Shape (used book) (head_of message) (series_of message)
  c = shape book message a

  own_kept : keep (is_series_of slot) us ≡ own
  own_kept = own_series_lem us (owned book a.was) (sender h)

  own_of : All (λ x. is_series_of slot x ≡ true) own
  own_of = rw own_kept at (all_kept (is_series_of slot) us)

  own_apart : apart same_series own ≡ true
  own_apart = rw own_kept at (apart_keep same_series (is_series_of slot) us a.was.series)

  -- the series of slot i after an acceptance are the stored ones renewed and those added, marked
  after_of_lem : (i : ℕ) → keep (is_series_of i) (after_of book message) ≡ map put (map again (keep (is_series_of i) us) ++ keep (is_series_of i) (fresh ours us h series))
  unfolding used_after placed
  after_of_lem i =
      keep_map_each put (is_series_of i) (is_series_of i) (series_of_kept put (remarked_keeps _ _ _) i) now
      ∙ ap (map put) (keep_append (is_series_of i) (map again us) (fresh ours us h series)
      ∙ ap (λ l. l ++ keep (is_series_of i) (fresh ours us h series)) (keep_map_each again (is_series_of i) (is_series_of i)
      (series_of_kept again (renewed_keeps ours us h series c) i) us))

  -- those added for the sender are the new series
  added_own : keep (is_series_of slot) (fresh ours us h series) ≡ map (with_senders_slot slot) (new_of book message)
  unfolding fresh
  added_own =
      keep_append (is_series_of slot) ahead added
      ∙ ap₂ ◌++◌ (keep_none (is_series_of slot) ahead (all_has_no (is_series_of slot) ahead (split (has (is_sender_block_of (sender h)) us) (λ t. rw t tt)
      (λ t. rw t (series_of_other slot _ (sender_kept_no_series ours us h series c), tt)))))
      (keep_all (is_series_of slot) added (all_map (λ z. is_series_of slot z ≡ true) (with_senders_slot slot) (new_of book message)
      (all_imply (λ y. (length y ≡ 512) × (is_series y ≡ true)) (λ y. is_series_of slot (with_senders_slot slot y) ≡ true)
      (λ y q. series_of_yes slot _ (series_with_senders_slot slot y ∙ q.1) (adopted ours us h series c y q.0)) (new_of book message)
      (all_keep (λ y. (length y ≡ 512) × (is_series y ≡ true)) (is_new own) series (all_both (λ y. length y ≡ 512) (λ y. is_series y ≡ true) series c.series_whole
      c.series_kind)))))
    where
      ahead : List Block
      ahead = cond (has (is_sender_block_of (sender h)) us) [] (sender_kept ours h series ∷ [])

      added : List Block
      added = map (with_senders_slot slot) (new_of book message)

  -- of g, which neither a mark nor a sender's slot alters
  module _ (g : Block → ℕ) (unmarked : (x : Block) → g (put x) ≡ g x) (unslotted : (y : Block) → g (with_senders_slot slot y) ≡ g y) where
    total_parted : (i : ℕ) → total g (keep (is_series_of i) (after_of book message)) ≡ total (λ x. g (again x)) (keep (is_series_of i) us) + total g
        (keep (is_series_of i) (fresh ours us h series))
    total_parted i =
        ap (total g) (after_of_lem i)
        ∙ total_map put g (map again (keep (is_series_of i) us) ++ keep (is_series_of i) (fresh ours us h series))
        ∙ total_each (λ x. g (put x)) g unmarked (map again (keep (is_series_of i) us) ++ keep (is_series_of i) (fresh ours us h series))
        ∙ total_append g (map again (keep (is_series_of i) us)) (keep (is_series_of i) (fresh ours us h series))
        ∙ ap (λ n. n + total g (keep (is_series_of i) (fresh ours us h series))) (total_map again g (keep (is_series_of i) us))

    -- a stored series gives what the message's series of its pair gives
    again_found : (x : Block) → is_series_of slot x ≡ true → has (key_is (key x)) series ≡ true → g (again x) ≡ of_found g (find (key_is (key x)) series)
    unfolding replaced of_found
    again_found x o t =
        let q = has_yes (key_is (key x)) series t in
        ap g (renewed_own ours us h series c x o ∙ ap (replaced slot x) q.1) ∙ unslotted q.0 ∙ sym (ap (of_found g) q.1)

    found_total : (x : Block) → of_found g (find (key_is (key x)) series) ≡ total (λ y. cond (key_is (key x) y) (g y) 0) series
    found_total x =
        sym (total_one same_id_or_key (λ y. Unit {0}) (key_is (key x)) g (λ y z p q t u. same_key_yes y z (key_is_yes _ y t ∙ sym (key_is_yes _ z u))) series
        (all_each (λ y. Unit {0}) (λ y. tt) series) a.distinct_all)

    own_total : (y : Block) → total (λ x. cond (key_is (key x) y) (g y) 0) own ≡ cond (has (key_is (key y)) own) (g y) 0
    own_total y =
        total_each (λ x. cond (key_is (key x) y) (g y) 0) (λ x. cond (key_is (key y) x) (g y) 0) (λ x. ap (λ t. cond t (g y) 0) (key_is_swap x y)) own
        ∙ total_one same_series (λ x. is_series_of slot x ≡ true) (key_is (key y)) (λ x. g y) both own own_of own_apart
        ∙ of_found_same (key_is (key y)) (g y) own
      where
        both : (x z : Block) → is_series_of slot x ≡ true → is_series_of slot z ≡ true → key_is (key y) x ≡ true → key_is (key y) z ≡ true → same_series x z ≡ true
        both x z p q t u = same_series_yes x z (series_of_series slot x p) (series_of_series slot z q) (series_of_slot slot x p ∙ sym (series_of_slot slot z q))
            (same_key_yes x z (key_is_yes _ x t ∙ sym (key_is_yes _ z u)))

    stored_total : total (λ x. g (again x)) own ≡ total g (keep (λ y. has (key_is (key y)) own) series)
    stored_total =
        total_agree (λ x. g (again x)) (λ x. total (λ y. cond (key_is (key x) y) (g y) 0) series) own
        (all_imply (λ x. (is_series_of slot x ≡ true) × (has (key_is (key x)) series ≡ true))
        (λ x. g (again x) ≡ total (λ y. cond (key_is (key x) y) (g y) 0) series) (λ x q. again_found x q.0 q.1 ∙ found_total x) own
        (all_both (λ x. is_series_of slot x ≡ true) (λ x. has (key_is (key x)) series ≡ true) own own_of a.present))
        ∙ total_swap (λ x y. cond (key_is (key x) y) (g y) 0) own series
        ∙ total_each (λ y. total (λ x. cond (key_is (key x) y) (g y) 0) own) (λ y. cond (has (key_is (key y)) own) (g y) 0) own_total series
        ∙ sym (total_keep g (λ y. has (key_is (key y)) own) series)

    new_total : total g (keep (is_series_of slot) (fresh ours us h series)) ≡ total g (keep (is_new own) series)
    new_total =
        ap (total g) added_own ∙ total_map (with_senders_slot slot) g (new_of book message)
        ∙ total_each (λ y. g (with_senders_slot slot y)) g unslotted (new_of book message)

    pub total_own : total g (keep (is_series_of (sender_slot book message)) (after_of book message)) ≡ total g (series_of message)
    unfolding is_new
    total_own =
        total_parted slot ∙ ap₂ ◌+◌ (ap (total (λ x. g (again x))) own_kept ∙ stored_total) new_total
        ∙ total_sieve g (λ y. has (key_is (key y)) own) series

    pub total_other : (i : ℕ) → is i (sender_slot book message) ≡ false → total g (keep (is_series_of i) (after_of book message)) ≡ total g
        (keep (is_series_of i) (used book))
    total_other i e =
        total_parted i
        ∙ ap₂ ◌+◌
        (total_agree (λ x. g (again x)) g (keep (is_series_of i) us) (all_imply (λ x. is_series_of i x ≡ true) (λ x. g (again x) ≡ g x)
        (λ x o. ap g (renewed_others_series ours us h series c x (series_of_series i x o) (elsewhere x o))) (keep (is_series_of i) us) (all_kept (is_series_of i) us)))
        (ap (total g) (keep_none (is_series_of i) (fresh ours us h series) (all_has_no (is_series_of i) (fresh ours us h series)
        (all_imply (λ z. is_series z ≡ true → senders_slot z ≡ slot) (λ z. is_series_of i z ≡ false)
        (λ z f. split (is_series_of i z) (λ o. absurd (is_no i slot e (sym (series_of_slot i z o) ∙ f (series_of_series i z o)))) (λ o. o)) (fresh ours us h series)
        (fresh_slots ours us h series c)))))
        ∙ total_no_more g (total g (keep (is_series_of i) us))
      where
        elsewhere : (x : Block) → is_series_of i x ≡ true → is_series_of slot x ≡ false
        elsewhere x o = split (is_series_of slot x) (λ u. absurd (is_no i slot e (sym (series_of_slot i x o) ∙ series_of_slot slot x u))) (λ u. u)
