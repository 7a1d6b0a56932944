-- Every series stands for a sender of the book, and a sender keeps its slot: an acceptance invents at most one sender, the message's, and puts it behind all others.
use Rattle.std.specs.Prelude.{◌≡◌, ◌∷◌, ◌++◌, ◌≤◌, ◌<◌}
use Rattle.laws.specs.Base.{refl, sym, ap, ◌∙◌, true, false, some, List, [], map, ℕ, zero, suc, arith, length, get_or, length-map}
use Rattle.laws.specs.Tests.{◌and◌, is}
use Rattle.laws.specs.Tests.Laws.{split, clash, and_left, and_right, and_both, or_yes_left, is_other}
use Rattle.laws.specs.Lists.{same, place, nth, has, apart, keep, All}
use Rattle.laws.specs.Lists.Same.{same_no}
use Rattle.laws.specs.Lists.Each.{all_imply, all_both, all_each, get_or_inside}
use Rattle.laws.specs.Lists.Search.{has_yes, has_no_place, has_no_all, all_has_no, has_append, find_passes, place_positive, place_length, nth_place, place_append_first, place_append_second, place_append_only, has_map_each, place_map_each}
use Rattle.laws.specs.Lists.Apart.{apart_place}
use Rattle.laws.specs.Lists.Keep.{keep_agree}
use Rattle.paper.specs.Layout.{Bytes, Block, sender, senders_slot, pair, with_senders_slot}
use Rattle.paper.specs.Book.{day_block, used, is_sender, is_series, is_external, numbered, is_sender_block_of, slot_of, is_series_of, own_series}
use Rattle.paper.specs.Sound.{parties_of, used_sound, same_sender}
use Rattle.paper.specs.Rules.{is_new}
use Rattle.paper.specs.Acceptance.{slot_for, sender_kept, renewed, fresh, placed, remarked, used_after}
use Rattle.facts.specs.Layout.{key_with_senders_slot}
use Rattle.facts.specs.Keys.{key_pair, key_is_external}
use Rattle.facts.specs.Book.{no_block_sender, series_kind, sender_block_eic, sender_block_yes, sender_block_no, sender_block_own, sender_block_series, series_of_series, series_of_slot, all_numbered}
use Rattle.facts.specs.Sound.{Sound, used_series, series_owner}
use Rattle.facts.specs.Renewal.{Shape, series_with_senders_slot, sender_kept_sender, sender_kept_is_sender, sender_kept_no_series, series_renewed, renewed_keeps, sender_block_renewed, adopted, by_fresh, by_origin}
use Rattle.facts.specs.Remarking.{sender_block_remarked}

-- ---- a slot and its sender

pub slot_for_known : (us : List Block) (e : Bytes) → has (is_sender_block_of e) us ≡ true → slot_for us e ≡ slot_of us e
unfolding slot_for
slot_for_known us e t = rw t

pub slot_for_new : (us : List Block) (e : Bytes) → has (is_sender_block_of e) us ≡ false → slot_for us e ≡ suc (length us)
unfolding slot_for
slot_for_new us e t = rw t

pub slot_of_none : (us : List Block) (e : Bytes) → has (is_sender_block_of e) us ≡ false → slot_of us e ≡ zero
unfolding slot_of
slot_of_none us e t = has_no_place (is_sender_block_of e) us t

pub slot_of_positive : (us : List Block) (e : Bytes) → has (is_sender_block_of e) us ≡ true → zero < slot_of us e
unfolding slot_of
slot_of_positive us e t = place_positive (is_sender_block_of e) us t

pub slot_of_few : (us : List Block) (e : Bytes) → slot_of us e ≤ length us
unfolding slot_of
slot_of_few us e = place_length (is_sender_block_of e) us

-- a slot has one sender
pub slot_of_one : (us : List Block) (t u : Bytes) → has (is_sender_block_of t) us ≡ true → slot_of us u ≡ slot_of us t → u ≡ t
unfolding slot_of
slot_of_one us t u kt e =
    split (has (is_sender_block_of u) us)
    (λ ku.
    let a = has_yes (is_sender_block_of t) us kt in
    let b = has_yes (is_sender_block_of u) us ku in
    let f : some b.0 ≡ some a.0 = sym b.1 ∙ sym (nth_place (is_sender_block_of u) us) ∙ ap (nth us) e ∙ nth_place (is_sender_block_of t) us ∙ a.1 in
    let g : b.0 ≡ a.0 = cc in
    sym (sender_block_eic u b.0 (find_passes _ us b.0 b.1)) ∙ ap sender g ∙ sender_block_eic t a.0 (find_passes _ us a.0 a.1))
    (λ ku. absurd (omega (arith, slot_of_none us u ku, slot_of_positive us t kt)))

-- another sender's slot is not the one that a sender has or gets
pub slots_differ : (us : List Block) (s t : Bytes) → same s t ≡ false → is (slot_of us t) (slot_for us s) ≡ false
slots_differ us s t e =
    is_other (slot_of us t) (slot_for us s) (split (has (is_sender_block_of s) us)
    (λ ks i. same_no s t e (sym (slot_of_one us s t ks (i ∙ slot_for_known us s ks))))
    (λ ks i. omega (arith, slot_for_new us s ks, slot_of_few us t)))

-- lookup and search are inverse where senders are distinct
sender_block_apart : (x y : Block) → is_sender y ≡ true → same_sender x y ≡ false → is_sender_block_of (sender y) x ≡ false
unfolding is_sender_block_of same_sender
sender_block_apart x y s f = split (is_sender x and same (sender x) (sender y)) (λ u. clash (and_both _ _ (and_both _ _ (and_left _ _ u) s) (and_right _ _ u)) f)
    (λ u. u)

pub slot_of_numbered : (us : List Block) → apart same_sender us ≡ true → (i : ℕ) → is_sender (numbered us i) ≡ true → slot_of us (sender (numbered us i)) ≡ i
unfolding slot_of numbered
slot_of_numbered us a zero s = clash s no_block_sender
slot_of_numbered us a (suc k) s =
    apart_place same_sender (is_sender_block_of (sender (get_or us k []))) us k [] (get_or_inside us k [] is_sender no_block_sender s) (sender_block_own (get_or us k []) s)
    (λ x f. sender_block_apart x (get_or us k []) s f) a

-- ---- whose a series is

-- the series x stands for the sender e of the list
pub record Owner (us : List Block) (x : Block) : Type 0 where
  pub eic : Bytes
  pub known : has (is_sender_block_of eic) us ≡ true
  pub slot : slot_of us eic ≡ senders_slot x
  pub party : parties_of (is_external x) eic (pair x) ≡ true

unfoldable pub Owned : List Block → Type 0
Owned us = All (λ x. is_series x ≡ true → Owner us x) us

numbered_known : (us : List Block) (i : ℕ) → is_sender (numbered us i) ≡ true → has (is_sender_block_of (sender (numbered us i))) us ≡ true
numbered_known us i s = split (has (is_sender_block_of (sender (numbered us i))) us) (λ u. u)
    (λ u. clash (sender_block_own (numbered us i) s)
    (all_numbered (λ z. is_sender z ≡ true → is_sender_block_of (sender (numbered us i)) z ≡ false) us i (λ q. clash q no_block_sender)
    (all_imply (λ z. is_sender_block_of (sender (numbered us i)) z ≡ false) (λ z. is_sender z ≡ true → is_sender_block_of (sender (numbered us i)) z ≡ false)
    (λ z q r. q) us (has_no_all _ us u)) s))

pub owned : (book : Bytes) → Sound book → Owned (used book)
unfolding Owned
owned book s = all_imply (λ x. used_sound (day_block book) (used book) x ≡ true) (λ x. is_series x ≡ true → Owner (used book) x) one (used book) s.each
  where
    one : (x : Block) → used_sound (day_block book) (used book) x ≡ true → is_series x ≡ true → Owner (used book) x
    one x q r =
        let o = series_owner (day_block book) (used book) x (used_series _ _ x q r) in
        record {
          eic = sender (numbered (used book) (senders_slot x));
          known = numbered_known (used book) (senders_slot x) o.0;
          slot = slot_of_numbered (used book) s.senders (senders_slot x) o.0;
          party = o.1;
        }

owned_range : (us : List Block) → Owned us → All (λ x. is_series x ≡ true → (zero < senders_slot x) × (senders_slot x ≤ length us)) us
unfolding Owned
owned_range us w =
    all_imply (λ x. is_series x ≡ true → Owner us x) (λ x. is_series x ≡ true → (zero < senders_slot x) × (senders_slot x ≤ length us))
    (λ x f s. let q = f s in (rw q.slot at (slot_of_positive us q.eic q.known), rw q.slot at (slot_of_few us q.eic))) us w

-- the slot that a sender has, and the one that it gets: the same series
pub own_by_slot_for : (us : List Block) → Owned us → (e : Bytes) → All (λ x. is_series_of (slot_for us e) x ≡ is_series_of (slot_of us e) x) us
own_by_slot_for us w e = split (has (is_sender_block_of e) us)
    (λ t. rw (slot_for_known us e t) (all_each (λ x. is_series_of (slot_of us e) x ≡ is_series_of (slot_of us e) x) (λ x. refl) us))
    (λ t. all_imply (λ x. is_series x ≡ true → (zero < senders_slot x) × (senders_slot x ≤ length us)) (λ x. is_series_of (slot_for us e) x ≡ is_series_of (slot_of us e) x)
    (λ x f. out (slot_for us e) x f (λ r q. omega (arith, r.1, slot_for_new us e t)) ∙ sym
    (out (slot_of us e) x f (λ r q. omega (arith, r.0, slot_of_none us e t)))) us (owned_range us w))
  where
    out : (i : ℕ) (x : Block) → (is_series x ≡ true → (zero < senders_slot x) × (senders_slot x ≤ length us)) → ((zero < senders_slot x) × (senders_slot x ≤ length us)
        → senders_slot x ≡ i → ⊥) → is_series_of i x ≡ false
    out i x f g = split (is_series_of i x) (λ u. absurd (g (f (series_of_series i x u)) (series_of_slot i x u))) (λ u. u)

pub own_series_lem : (us : List Block) → Owned us → (e : Bytes) → keep (is_series_of (slot_for us e)) us ≡ own_series us e
unfolding own_series
own_series_lem us w e = keep_agree (is_series_of (slot_for us e)) (is_series_of (slot_of us e)) us (own_by_slot_for us w e)

-- ---- the senders' slots after an acceptance

pub fresh_new : (ours : Bytes) (us : List Block) (h : Block) (series : List Block) → has (is_sender_block_of (sender h)) us ≡ false
    → fresh ours us h series ≡ sender_kept ours h series ∷ map (with_senders_slot (slot_for us (sender h))) (keep (is_new (own_series us (sender h))) series)
unfolding fresh
fresh_new ours us h series e = rw e

module _ (ours : Bytes) (us : List Block) (h : Block) (series : List Block) (c : Shape us h series) where
  abbrev again : Block → Block
  again = renewed ours (slot_for us (sender h)) h series

  pub fresh_no_sender_block : (e : Bytes) → same (sender h) e ≡ false → has (is_sender_block_of e) (fresh ours us h series) ≡ false
  fresh_no_sender_block e d =
      all_has_no (is_sender_block_of e) (fresh ours us h series)
      (by_fresh ours us h series c (λ z. is_sender_block_of e z ≡ false) (λ y. is_series y ≡ true) c.series_kind
      (λ t. sender_block_no e _ (rw (sender_kept_sender ours us h series c) d)) (λ y s n. sender_block_series e _ (series_with_senders_slot _ y ∙ s)))

  has_sender_block_renewed : (e : Bytes) → has (is_sender_block_of e) (map again us) ≡ has (is_sender_block_of e) us
  has_sender_block_renewed e = has_map_each again (is_sender_block_of e) (is_sender_block_of e) (sender_block_renewed ours us h series c e) us

  place_sender_block_renewed : (e : Bytes) → place (is_sender_block_of e) (map again us) ≡ place (is_sender_block_of e) us
  place_sender_block_renewed e = place_map_each again (is_sender_block_of e) (is_sender_block_of e) (sender_block_renewed ours us h series c e) us

  slot_placed_own : slot_of (placed ours us h series) (sender h) ≡ slot_for us (sender h)
  unfolding slot_of placed
  slot_placed_own = split (has (is_sender_block_of (sender h)) us)
      (λ k. place_append_first (is_sender_block_of (sender h)) (map again us) (fresh ours us h series) (has_sender_block_renewed (sender h) ∙ k) ∙ place_sender_block_renewed
      (sender h) ∙ sym (slot_for_known us (sender h) k))
      (λ k. ap (λ z. place (is_sender_block_of (sender h)) (map again us ++ z)) (fresh_new ours us h series k)
      ∙ place_append_second (is_sender_block_of (sender h)) (map again us) (sender_kept ours h series) _ (has_sender_block_renewed (sender h) ∙ k)
      (sender_block_yes (sender h) _ (sender_kept_is_sender ours us h series c) (sender_kept_sender ours us h series c))
      ∙ ap suc (length-map us again) ∙ sym (slot_for_new us (sender h) k))

  slot_placed_other : (e : Bytes) → same (sender h) e ≡ false → slot_of (placed ours us h series) e ≡ slot_of us e
  unfolding slot_of placed
  slot_placed_other e d = place_append_only (is_sender_block_of e) (map again us) (fresh ours us h series) (fresh_no_sender_block e d) ∙ place_sender_block_renewed e

  slot_after : (n : ℕ) (e : Bytes) → slot_of (used_after n ours us h series) e ≡ slot_of (placed ours us h series) e
  unfolding slot_of used_after
  slot_after n e = place_map_each (remarked n (slot_for us (sender h)) (placed ours us h series)) (is_sender_block_of e) (is_sender_block_of e)
      (sender_block_remarked n (slot_for us (sender h)) (placed ours us h series) e) (placed ours us h series)

  pub slot_after_own : (n : ℕ) → slot_of (used_after n ours us h series) (sender h) ≡ slot_for us (sender h)
  slot_after_own n = slot_after n (sender h) ∙ slot_placed_own

  pub slot_after_other : (n : ℕ) (e : Bytes) → same (sender h) e ≡ false → slot_of (used_after n ours us h series) e ≡ slot_of us e
  slot_after_other n e d = slot_after n e ∙ slot_placed_other e d

  -- every series placed stands for a sender: a stored one for its own, whose slot stays, and the message's for the message's sender
  has_sender_block_placed : (e : Bytes) → has (is_sender_block_of e) us ≡ true → has (is_sender_block_of e) (placed ours us h series) ≡ true
  unfolding placed
  has_sender_block_placed e k = has_append (is_sender_block_of e) (map again us) (fresh ours us h series) ∙ or_yes_left _ _ (has_sender_block_renewed e ∙ k)

  slot_placed_known : (e : Bytes) → has (is_sender_block_of e) us ≡ true → slot_of (placed ours us h series) e ≡ slot_of us e
  unfolding slot_of placed
  slot_placed_known e k = place_append_first (is_sender_block_of e) (map again us) (fresh ours us h series) (has_sender_block_renewed e ∙ k) ∙ place_sender_block_renewed e

  sender_placed : has (is_sender_block_of (sender h)) (placed ours us h series) ≡ true
  sender_placed = split (has (is_sender_block_of (sender h)) (placed ours us h series)) (λ u. u) (λ u.
      let z : slot_for us (sender h) ≡ zero = sym slot_placed_own ∙ slot_of_none (placed ours us h series) (sender h) u in
      split (has (is_sender_block_of (sender h)) us)
      (λ k. has_sender_block_placed (sender h) k)
      (λ k. absurd (omega (arith, slot_for_new us (sender h) k))))

  pub owned_placed : Owned us → All (λ y. parties_of (is_external y) (sender h) (pair y) ≡ true) series → Owned (placed ours us h series)
  unfolding Owned
  owned_placed w p =
      by_origin ours us h series c (λ z. is_series z ≡ true → Owner now z) (λ x. is_series x ≡ true → Owner us x)
      (λ y. (length y ≡ 512) × (parties_of (is_external y) (sender h) (pair y) ≡ true)) w
      (all_both (λ y. length y ≡ 512) (λ y. parties_of (is_external y) (sender h) (pair y) ≡ true) series c.series_whole p)
      old (λ s. clash s (sender_kept_no_series ours us h series c)) young
    where
      now : List Block
      now = placed ours us h series

      old : (x : Block) → (is_series x ≡ true → Owner us x) → is_series (again x) ≡ true → Owner now (again x)
      old x f t =
          let s : is_series x ≡ true = sym (series_renewed ours us h series c x) ∙ t in
          let o : Owner us x = f s in
          record {
            eic = o.eic;
            known = has_sender_block_placed o.eic o.known;
            slot = slot_placed_known o.eic o.known ∙ o.slot ∙ sym ((renewed_keeps ours us h series c).slot x s);
            party = rw (key_pair _ x ((renewed_keeps ours us h series c).keys x s), key_is_external _ x ((renewed_keeps ours us h series c).keys x s)) o.party;
          }

      young : (y : Block) → (length y ≡ 512) × (parties_of (is_external y) (sender h) (pair y) ≡ true) → is_series (with_senders_slot (slot_for us (sender h)) y) ≡ true
          → Owner now (with_senders_slot (slot_for us (sender h)) y)
      young y q s = record {
        eic = sender h;
        known = sender_placed;
        slot = slot_placed_own ∙ sym (adopted ours us h series c y q.0);
        party = rw (key_pair _ y (key_with_senders_slot (slot_for us (sender h)) y), key_is_external _ y (key_with_senders_slot (slot_for us (sender h)) y)) q.1;
      }
