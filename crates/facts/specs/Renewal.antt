-- An acceptance renews the sender's own blocks and leaves every other: a stored series keeps its slot, its sender's slot and its key, for it is replaced by
-- the message's series of its key; and every new block is a stored one renewed, the sender's block, or a new series.
use Rattle.std.specs.Prelude.{◌≡◌, ◌∷◌, ◌+◌, ◌≤◌, ◌<◌}
use Rattle.laws.specs.Base.{refl, sym, ap, ap₂, ◌∙◌, true, false, cond, Option, none, some, List, [], map, ℕ, suc, arith, length, length-append, length-map}
use Rattle.laws.specs.Tests.{◌and◌, is}
use Rattle.laws.specs.Tests.Laws.{split, clash}
use Rattle.laws.specs.Lists.{same, find, has, keep, All}
use Rattle.laws.specs.Lists.Each.{all_imply, all_both, all_append, all_keep, all_kept, all_find, all_map}
use Rattle.laws.specs.Lists.Search.{has_no_place, find_passes, place_length}
use Rattle.laws.specs.Lists.Count.{count_keep}
use Rattle.laws.specs.Lists.Keep.{until_count}
use Rattle.paper.specs.Layout.{Bytes, Block, area, sender, senders_slot, key, with_senders_slot}
use Rattle.paper.specs.Book.{day_block, slots, is_free, used, free_slots, is_sender, is_series, numbered, key_is, is_sender_block_of, slot_of, is_series_of, own_sender, own_series}
use Rattle.paper.specs.Message.{head_of, series_of}
use Rattle.paper.specs.Rules.{is_new, new_blocks}
use Rattle.paper.specs.Acceptance.{slot_for, sender_kept, replaced, renewed, fresh, placed}
use Rattle.facts.specs.Layout.{with_senders_slot_length, with_nets_length, senders_slot_with_senders_slot, kind_with_senders_slot, key_with_senders_slot, kind_with_nets, sender_with_nets}
use Rattle.facts.specs.Book.{no_block_sender, sender_kind, kind_sender, sender_not_series, sender_block_sender, sender_block_eic, sender_block_series, series_of_series, series_of_slot, series_of_other}
use Rattle.facts.specs.Sound.{used_few}
use Rattle.facts.specs.Verdict.{head_length, series_lengths, Accepts}
use Rattle.facts.specs.Keys.{key_is_yes}
use Rattle.facts.specs.Pairs.{Keeps}

-- what is used here of an accepted message
pub record Shape (us : List Block) (h : Block) (series : List Block) : Type 0 where
  pub head_whole : length h ≡ 512
  pub head_sender : is_sender h ≡ true
  pub series_whole : All (λ y. length y ≡ 512) series
  pub series_kind : All (λ y. is_series y ≡ true) series
  pub fits : slot_for us (sender h) < 65536

pub slot_for_few : (us : List Block) (e : Bytes) → slot_for us e ≤ suc (length us)
unfolding slot_for slot_of
slot_for_few us e = split (has (is_sender_block_of e) us) (λ t. rw t (omega (arith, place_length (is_sender_block_of e) us))) (λ t. rw t (omega arith))

pub shape : (book message : Bytes) → Accepts book message → Shape (used book) (head_of message) (series_of message)
shape book message a = record {
  head_whole = head_length message a.right;
  head_sender = a.right.head_kind;
  series_whole = series_lengths message;
  series_kind = a.right.series_kinds;
  fits = omega (arith, slot_for_few (used book) (sender (head_of message)), used_few book a.was);
}

pub series_with_senders_slot : (slot : ℕ) (b : Block) → is_series (with_senders_slot slot b) ≡ is_series b
unfolding is_series
series_with_senders_slot slot b = ap (λ z. is z 2) (kind_with_senders_slot slot b)

module _ (ours : Bytes) (us : List Block) (h : Block) (series : List Block) (c : Shape us h series) where
  abbrev slot : ℕ
  slot = slot_for us (sender h)

  abbrev new : List Block
  new = keep (is_new (own_series us (sender h))) series

  abbrev again : Block → Block
  again = renewed ours (slot_for us (sender h)) h series

  -- ---- the sender's block

  pub sender_kept_sender : sender (sender_kept ours h series) ≡ sender h
  unfolding sender_kept
  sender_kept_sender = sender_with_nets _ h

  pub sender_kept_is_sender : is_sender (sender_kept ours h series) ≡ true
  unfolding sender_kept
  sender_kept_is_sender = kind_sender _ (kind_with_nets _ h ∙ sender_kind h c.head_sender)

  pub sender_kept_no_series : is_series (sender_kept ours h series) ≡ false
  sender_kept_no_series = sender_not_series _ sender_kept_is_sender

  pub sender_kept_length : length (sender_kept ours h series) ≡ 512
  unfolding sender_kept
  sender_kept_length = with_nets_length _ h ∙ c.head_whole

  -- ---- a block renewed

  pub renewed_sender : (b : Block) → is_sender_block_of (sender h) b ≡ true → renewed ours (slot_for us (sender h)) h series b ≡ sender_kept ours h series
  unfolding renewed
  renewed_sender b t = rw t

  pub renewed_own : (b : Block) → is_series_of (slot_for us (sender h)) b ≡ true → renewed ours (slot_for us (sender h)) h series b ≡ replaced (slot_for us (sender h)) b
      (find (key_is (key b)) series)
  unfolding renewed
  renewed_own b t = rw (sender_block_series (sender h) b (series_of_series _ b t), t)

  pub renewed_other : (b : Block) → is_sender_block_of (sender h) b ≡ false → is_series_of (slot_for us (sender h)) b ≡ false → renewed ours (slot_for us (sender h)) h series b ≡ b
  unfolding renewed
  renewed_other b t u = rw (t, u)

  -- a fact P of what replaces a series, from a fact B of the message's series
  by_replaced : (P B : Block → Type 0) → All B series → (b : Block) → P b → ((y : Block) → B y → key y ≡ key b → P (with_senders_slot slot y)) → (o : Option Block)
      → find (key_is (key b)) series ≡ o → P (replaced slot b o)
  unfolding replaced
  by_replaced P B q b p f none e = p
  by_replaced P B q b p f (some y) e = f y (all_find B (key_is (key b)) series y q e) (key_is_yes (key b) y (find_passes _ series y e))

  -- and of a series renewed
  pub by_renewed : (P B : Block → Type 0) → All B series → (b : Block) → is_series b ≡ true → P b
      → (is_series_of (slot_for us (sender h)) b ≡ true → (y : Block) → B y → key y ≡ key b → P (with_senders_slot (slot_for us (sender h)) y)) → P
      (renewed ours (slot_for us (sender h)) h series b)
  by_renewed P B q b s p f = split (is_series_of slot b)
      (λ u. rw (renewed_own b u) (by_replaced P B q b p (f u) (find (key_is (key b)) series) refl))
      (λ u. rw (renewed_other b (sender_block_series _ b s) u) p)

  pub series_renewed : (b : Block) → is_series (again b) ≡ is_series b
  series_renewed b = split (is_series b)
      (λ s. by_renewed (λ z. is_series z ≡ true) (λ y. is_series y ≡ true) c.series_kind b s s (λ u y t e. series_with_senders_slot slot y ∙ t) ∙ sym s)
      (λ s. split (is_sender_block_of (sender h) b)
      (λ t. rw (renewed_sender b t) (sender_kept_no_series ∙ sym s))
      (λ t. rw (renewed_other b t (series_of_other _ b s))))

  pub renewed_keeps : Keeps again
  renewed_keeps = record {
    series = series_renewed;
    slot = λ b s. by_renewed (λ z. senders_slot z ≡ senders_slot b) (λ y. length y ≡ 512) c.series_whole b s refl (λ u y l e. senders_slot_with_senders_slot slot y
        c.fits l ∙ sym (series_of_slot slot b u));
    keys = λ b s. by_renewed (λ z. key z ≡ key b) (λ y. length y ≡ 512) c.series_whole b s refl (λ u y l e. key_with_senders_slot slot y ∙ e);
  }

  pub renewed_length : (b : Block) → length b ≡ 512 → length (again b) ≡ 512
  renewed_length b l = split (is_series b)
      (λ s. by_renewed (λ z. length z ≡ 512) (λ y. length y ≡ 512) c.series_whole b s l (λ u y k e. with_senders_slot_length slot y ∙ k))
      (λ s. split (is_sender_block_of (sender h) b)
      (λ t. rw (renewed_sender b t) sender_kept_length)
      (λ t. rw (renewed_other b t (series_of_other _ b s)) l))

  pub sender_block_renewed : (e : Bytes) (b : Block) → is_sender_block_of e (again b) ≡ is_sender_block_of e b
  unfolding is_sender_block_of is_sender
  sender_block_renewed e b = split (is_series b)
      (λ s. sender_block_series e (again b) (series_renewed b ∙ s) ∙ sym (sender_block_series e b s))
      (λ s. split (is_sender_block_of (sender h) b)
      (λ t. rw (renewed_sender b t)
      (ap₂ (λ x y. is x 1 and same y e) (sender_kind _ sender_kept_is_sender ∙ sym (sender_kind b (sender_block_sender _ b t)))
      (sender_kept_sender ∙ sym (sender_block_eic _ b t))))
      (λ t. ap (is_sender_block_of e) (renewed_other b t (series_of_other _ b s))))

  -- a series that is not the sender's stays
  pub renewed_others_series : (b : Block) → is_series b ≡ true → is_series_of (slot_for us (sender h)) b ≡ false → again b ≡ b
  renewed_others_series b s o = renewed_other b (sender_block_series _ b s) o

  -- ---- the new blocks

  -- a new series, told its sender's slot
  pub adopted : (y : Block) → length y ≡ 512 → senders_slot (with_senders_slot (slot_for us (sender h)) y) ≡ slot_for us (sender h)
  adopted y l = senders_slot_with_senders_slot slot y c.fits l

  -- a fact P of every block added, from a fact B of the message's series
  pub by_fresh : (P B : Block → Type 0) → All B series → (has (is_sender_block_of (sender h)) us ≡ false → P (sender_kept ours h series))
      → ((y : Block) → B y → is_new (own_series us (sender h)) y ≡ true → P (with_senders_slot (slot_for us (sender h)) y)) → All P (fresh ours us h series)
  unfolding fresh
  by_fresh P B b s f =
      all_append P (cond (has (is_sender_block_of (sender h)) us) [] (sender_kept ours h series ∷ [])) (map (with_senders_slot slot) new)
      (split (has (is_sender_block_of (sender h)) us) (λ t. rw t tt) (λ t. rw t (s t, tt)))
      (all_map P (with_senders_slot slot) new
      (all_imply (λ y. B y × (is_new (own_series us (sender h)) y ≡ true)) (λ y. P (with_senders_slot slot y)) (λ y q. f y q.0 q.1) new
      (all_both B (λ y. is_new (own_series us (sender h)) y ≡ true) new (all_keep B (is_new (own_series us (sender h))) series b)
      (all_kept (is_new (own_series us (sender h))) series))))

  -- a fact P of every block placed, from a fact Q of the stored ones and a fact B of the message's series
  pub by_origin : (P Q B : Block → Type 0) → All Q us → All B series → ((x : Block) → Q x → P (renewed ours (slot_for us (sender h)) h series x)) → P (sender_kept ours h series)
      → ((y : Block) → B y → P (with_senders_slot (slot_for us (sender h)) y)) → All P (placed ours us h series)
  unfolding placed
  by_origin P Q B q b old s f = all_append P (map again us) (fresh ours us h series) (all_map P again us (all_imply Q (λ x. P (again x)) old us q))
      (by_fresh P B b (λ t. s) (λ y p n. f y p))

  pub fresh_slots : All (λ z. is_series z ≡ true → senders_slot z ≡ slot_for us (sender h)) (fresh ours us h series)
  fresh_slots = by_fresh (λ z. is_series z ≡ true → senders_slot z ≡ slot) (λ y. length y ≡ 512) c.series_whole (λ t s. clash s sender_kept_no_series)
      (λ y l n s. adopted y l)

  pub placed_lengths : All (λ z. length z ≡ 512) us → All (λ z. length z ≡ 512) (placed ours us h series)
  placed_lengths l =
      by_origin (λ z. length z ≡ 512) (λ z. length z ≡ 512) (λ z. length z ≡ 512) l c.series_whole
      renewed_length sender_kept_length (λ y e. with_senders_slot_length slot y ∙ e)

-- ---- how many there are

pub placed_length : (ours : Bytes) (us : List Block) (h : Block) (series : List Block) → length (placed ours us h series) ≡ length us + length (fresh ours us h series)
unfolding placed
placed_length ours us h series =
    length-append (map (renewed ours (slot_for us (sender h)) h series) us) (fresh ours us h series) ∙ ap (λ k. k + length (fresh ours us h series)) (length-map us _)

fresh_few : (ours : Bytes) (us : List Block) (h : Block) (series : List Block) → length (fresh ours us h series) ≤ new_blocks (own_sender us (sender h)) (own_series us (sender h)) series
unfolding fresh new_blocks own_sender slot_of numbered
fresh_few ours us h series =
    let k = length-map (keep (is_new (own_series us (sender h))) series) (with_senders_slot (slot_for us (sender h))) in
    let l = count_keep (is_new (own_series us (sender h))) series in
    split (has (is_sender_block_of (sender h)) us)
    (λ t. rw t (omega arith))
    (λ t. rw (t, has_no_place _ us t, no_block_sender) (omega arith))

pub placed_fits : (book message : Bytes) → Accepts book message → length (placed (area (day_block book)) (used book) (head_of message) (series_of message)) ≤ length (slots book)
unfolding used free_slots
placed_fits book message a = omega (
  arith,
  a.fits,
  placed_length (area (day_block book)) (used book) (head_of message) (series_of message),
  fresh_few (area (day_block book)) (used book) (head_of message) (series_of message),
  until_count is_free (slots book),
)
