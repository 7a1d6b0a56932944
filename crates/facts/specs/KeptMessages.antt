-- The messages that a conversion finds kept: each is its sender's block and series, whole blocks joined, and so is read back as these; as no two senders share an
-- EIC, the latest message of a sender is the one made of its block.
use Rattle.std.specs.Prelude.{◌≡◌, ◌∷◌}
use Rattle.laws.specs.Base.{refl, sym, ap, ◌∙◌, true, false, Option, none, some, option_map, List, [], map, arith, length, drop_at, take_at}
use Rattle.laws.specs.Tests.{neg}
use Rattle.laws.specs.Tests.Laws.{split, clash, and_left, and_right, and_both, and_no_left, neg_yes}
use Rattle.laws.specs.Lists.{same, find, every, keep, apart, All}
use Rattle.laws.specs.Lists.Same.{same_yes, same_equal}
use Rattle.laws.specs.Lists.Each.{all_imply, all_keep, every_all}
use Rattle.laws.specs.Lists.Search.{has_no_find, all_has_no}
use Rattle.laws.specs.Cut.Laws.{cut_join}
use Rattle.paper.specs.Layout.{Bytes, Block, blocks, sender}
use Rattle.paper.specs.Book.{is_sender, is_sender_block_of, own_series}
use Rattle.paper.specs.Sound.{same_sender}
use Rattle.paper.specs.Message.{head_of, series_of}
use Rattle.paper.specs.PlainRule.{or_else, latest}
use Rattle.paper.specs.Conversion.{kept_message, kept_messages}
use Rattle.facts.specs.Book.{sender_block_sender, sender_block_eic, sender_block_yes, sender_block_no}

no_sender_block : (e : Bytes) (b : Block) → is_sender b ≡ false → is_sender_block_of e b ≡ false
unfolding is_sender_block_of
no_sender_block e b t = and_no_left _ _ t

-- behind a sender none has its EIC
sender_once : (b : Block) (e : Bytes) (l : List Block) → is_sender b ≡ true → sender b ≡ e → every (λ y. neg (same_sender b y)) l ≡ true
    → find (is_sender_block_of e) l ≡ none
unfolding same_sender
sender_once b e l s i a =
    has_no_find _ l (all_has_no (is_sender_block_of e) l (all_imply (λ y. neg (same_sender b y) ≡ true) (λ y. is_sender_block_of e y ≡ false) one l (every_all _ l a)))
  where
    one : (y : Block) → neg (same_sender b y) ≡ true → is_sender_block_of e y ≡ false
    one y q = split (is_sender_block_of e y)
        (λ t. clash (and_both _ _ (and_both _ _ s (sender_block_sender e y t)) (same_equal _ _ (i ∙ sym (sender_block_eic e y t)))) (neg_yes _ q))
        (λ t. t)

or_else_none : (o : Option Bytes) → or_else o none ≡ o
unfolding or_else
or_else_none none = refl
or_else_none (some message) = refl

module _ (us : List Block) (whole : All (λ b. length b ≡ 512) us) where
  pub head_of_kept : (s : Block) → length s ≡ 512 → head_of (kept_message us s) ≡ s
  unfolding head_of kept_message
  head_of_kept s l = take_at s _ 512 l

  pub series_of_kept : (s : Block) → length s ≡ 512 → series_of (kept_message us s) ≡ own_series us (sender s)
  unfolding series_of kept_message own_series
  series_of_kept s l = ap blocks (drop_at s _ 512 l) ∙ cut_join 512 (own_series us (sender s)) (omega arith) (all_keep (λ b. length b ≡ 512) _ us whole)

  latest_from : (e : Bytes) (l : List Block) → All (λ b. length b ≡ 512) l → apart same_sender l ≡ true
      → latest e (map (kept_message us) (keep is_sender l)) ≡ option_map (kept_message us) (find (is_sender_block_of e) l)
  unfolding latest or_else keep find apart
  latest_from e [] h a = refl
  latest_from e (b ∷ l) h a = split (is_sender b)
      (λ t. split (same (sender b) e)
      (λ u. rw (
        t,
        sender_block_yes e b t (same_yes _ _ u),
        head_of_kept b h.0,
        u,
        latest_from e l h.1 (and_right _ _ a),
        sender_once b e l t (same_yes _ _ u) (and_left _ _ a),
      ))
      (λ u. rw (t, sender_block_no e b u, head_of_kept b h.0, u) (or_else_none _ ∙ latest_from e l h.1 (and_right _ _ a))))
      (λ t. rw (t, no_sender_block e b t) (latest_from e l h.1 (and_right _ _ a)))

  pub latest_kept : (e : Bytes) → apart same_sender us ≡ true → latest e (kept_messages us) ≡ option_map (kept_message us) (find (is_sender_block_of e) us)
  unfolding kept_messages
  latest_kept e a = latest_from e us whole a
