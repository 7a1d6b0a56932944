-- The messages that a sound book keeps: the latest of a sender is its sender block and its series as they are stored, so the plain rule reads of them what the book has.
use Rattle.std.specs.Prelude.{◌≡◌}
use Rattle.laws.specs.Base.{refl, sym, ap, ◌∙◌, true, false, Option, none, some, option_map, List, length}
use Rattle.laws.specs.Tests.Laws.{split}
use Rattle.laws.specs.Lists.{find, has}
use Rattle.laws.specs.Lists.Each.{all_find}
use Rattle.laws.specs.Lists.Search.{has_yes, has_no_find, find_passes}
use Rattle.paper.specs.Layout.{Bytes, Block, sender, nets}
use Rattle.paper.specs.Book.{used, is_sender, is_sender_block_of, own_series}
use Rattle.paper.specs.Message.{head_of, series_of}
use Rattle.paper.specs.Nets.{nets_of}
use Rattle.paper.specs.PlainRule.{latest, series_of_latest, plain_nets}
use Rattle.paper.specs.Conversion.{kept_message, kept_messages}
use Rattle.facts.specs.Book.{sender_block_sender, sender_block_eic, used_lengths}
use Rattle.facts.specs.Sound.{Sound}
use Rattle.facts.specs.KeptMessages.{head_of_kept, series_of_kept, latest_kept}
use Rattle.promises.specs.Laws.NetsTrue.{NetsTrue}
use Rattle.promises.specs.Laws.OwnSeries.{own_none}
use Rattle.promises.specs.Words.{head_content, plain_head_content}

module _ (book : Bytes) (s : Sound book) (e : Bytes) where
  abbrev us : List Block
  us = used book

  -- a fact of the sender's block and of its latest message: it has both or neither
  by_stored : (P : Option Block → Option Bytes → Type 0) → (has (is_sender_block_of e) us ≡ false → P none none)
      → ((b : Block) → find (is_sender_block_of e) us ≡ some b → P (some b) (some (kept_message us b))) → P (find (is_sender_block_of e) us) (latest e (kept_messages us))
  by_stored P o f = rw (latest_kept us (used_lengths book) e s.senders) (split (has (is_sender_block_of e) us)
      (λ t. let q = has_yes _ us t in rw q.1 (f q.0 q.1))
      (λ t. rw (has_no_find _ us t) (o t)))

  -- of a stored sender b
  module _ (b : Block) (f : find (is_sender_block_of e) (used book) ≡ some b) where
    passes : is_sender_block_of e b ≡ true
    passes = find_passes _ us b f

    whole : length b ≡ 512
    whole = all_find (λ x. length x ≡ 512) _ us b (used_lengths book) f

    series_is : series_of (kept_message us b) ≡ own_series us e
    series_is = series_of_kept us (used_lengths book) b whole ∙ ap (own_series us) (sender_block_eic e b passes)

  pub series_of_latest_kept : series_of_latest (latest e (kept_messages (used book))) ≡ own_series (used book) e
  unfolding series_of_latest
  series_of_latest_kept = by_stored (λ o m. series_of_latest m ≡ own_series us e) (λ t. sym (own_none book s e t)) series_is

  pub head_of_latest_kept : option_map head_of (latest e (kept_messages (used book))) ≡ find (is_sender_block_of e) (used book)
  head_of_latest_kept = by_stored (λ o m. option_map head_of m ≡ o) (λ t. refl) (λ b f. ap some (head_of_kept us (used_lengths book) b (whole b f)))

  pub heads_kept : option_map head_content (find (is_sender_block_of e) (used book)) ≡ plain_head_content (kept_messages (used book)) e
  unfolding plain_head_content
  heads_kept = by_stored (λ o m. option_map head_content o ≡ option_map (λ z. head_content (head_of z)) m) (λ t. refl)
      (λ b f. ap (λ z. some (head_content z)) (sym (head_of_kept us (used_lengths book) b (whole b f))))

  pub plain_nets_kept : (ours : Bytes) → NetsTrue ours (used book) → option_map nets (find (is_sender_block_of e) (used book)) ≡ plain_nets ours (kept_messages (used book)) e
  unfolding plain_nets NetsTrue
  plain_nets_kept ours v = by_stored (λ o m. option_map nets o ≡ option_map (λ z. nets_of ours e (series_of z)) m) (λ t. refl)
      (λ b f. ap some
      (all_find (λ x. is_sender x ≡ true → nets x ≡ nets_of ours (sender x) (own_series us (sender x))) _ us b v f (sender_block_sender e b (passes b f))
      ∙ ap (λ z. nets_of ours z (own_series us z)) (sender_block_eic e b (passes b f)) ∙ ap (nets_of ours e) (sym (series_is b f))))
