-- One block as an acceptance leaves it, by its number in the message and the answers of the tests that the code makes.
use Rattle.std.specs.Prelude.{◌≡◌, ◌-◌, ◌<◌}
use Rattle.laws.specs.Kit.{sym, ap, ap₂, ◌∙◌, Bool, true, false, cond, List, [], ℕ, length, get_or, ◌and◌}
use Rattle.laws.specs.Lists.{find, place, All}
use Rattle.laws.specs.Lists.Each.{all_imply}
use Rattle.laws.specs.Lists.Search.{has_no_find, place_agree, place_none, place_find}
use Rattle.laws.specs.Bytes.{written}
use Rattle.laws.specs.Bytes.Laws.{written_all}
use Rattle.laws.specs.InPlace.{done, done_next}
use Rattle.paper.specs.Layout.{Bytes, Block, sender, key, with_senders_slot, with_nets}
use Rattle.paper.specs.Book.{is_sender_block_of, is_series_of, key_is}
use Rattle.paper.specs.Acceptance.{sender_kept, replaced, renewed}
use Rattle.paper.specs.Nets.{nets_of}
use Rattle.facts.specs.Renewal.{Shape, sender_kept_sender}
use Rattle.index.specs.declared.By.{By}
use Rattle.index.specs.declared.By.TheVariants.{Key}
use Rattle.index.specs.Linked.{alike, own_with, Found}
use Rattle.accept.specs.Steps.{renewed_with, Numbers}

-- ---- the numbers that the judgement has found: a message names no sender's slot, so that its series are told by what they are sought by alone

sent_with : (by : By) (b y : Block) → is_series_of 0 y ≡ true → own_with 0 by b y ≡ alike by b y
unfolding own_with ◌and◌
sent_with by b y e = rw e

pub number_found : (by : By) (b : Block) (series : List Block) → All (λ y. is_series_of 0 y ≡ true) series → place (own_with 0 by b) series ≡ place (alike by b) series
number_found by b series h = place_agree _ _ series (all_imply (λ y. is_series_of 0 y ≡ true) (λ y. own_with 0 by b y ≡ alike by b y) (sent_with by b) series h)

pub numbers_found : (us series : List Block) (numbers : List ℕ) → All (λ y. is_series_of 0 y ≡ true) series → Found 0 Key series us numbers → Numbers us series numbers
unfolding Numbers alike
numbers_found us series numbers h f k c = f.each k c ∙ number_found Key (get_or us k []) series h

-- block i is not yet renewed where those before it are: l are the blocks, a what the first i of them have become
pub number_of : (f : Block → Block) (l series : List Block) (numbers : List ℕ) → Numbers l series numbers → (i : ℕ) → i < length l → (a : List Block) → a ≡ done (λ r. f) l i
    → (n : ℕ) → n ≡ get_or numbers i 0 → (b : Block) → b ≡ get_or a i [] → n ≡ place (key_is (key b)) series
unfolding Numbers
number_of f l series numbers g i h a e n q b s = q ∙ g i h ∙ ap (λ x. place (key_is (key x)) series) (sym (s ∙ ap (λ k. get_or k i []) e ∙ done_next (λ r. f) l i [] h))

-- ---- by the tests

module _ (slot : ℕ) (kept : Block) (series : List Block) (b : Block) {r : Bool} where
  pub renewed_sender : r ≡ true → r ≡ is_sender_block_of (sender kept) b → kept ≡ renewed_with slot kept series b
  unfolding renewed_with
  renewed_sender t e = rw (← e, t)

  module _ (t : r ≡ false) (e : r ≡ is_sender_block_of (sender kept) b) {q : Bool} where
    pub renewed_other : q ≡ false → q ≡ is_series_of slot b → b ≡ renewed_with slot kept series b
    unfolding renewed_with
    renewed_other u f = rw (← e, t, ← f, u)

    module _ (u : q ≡ true) (f : q ≡ is_series_of slot b) (k : ℕ) (p : k ≡ place (key_is (key b)) series) where
      pub renewed_absent : k ≡ 0 → b ≡ renewed_with slot kept series b
      unfolding renewed_with replaced
      renewed_absent z = rw (← e, t, ← f, u, has_no_find _ series (place_none _ series k p z))

      pub renewed_series : (k ≡ 0 → ⊥) → with_senders_slot slot (get_or series (k - 1) []) ≡ renewed_with slot kept series b
      unfolding renewed_with replaced
      renewed_series z = rw (← e, t, ← f, u, place_find _ series k p [] z)

-- ---- kept is the sender block with its nets: the message's first block written over a row z of its length, and then the nets of e

pub kept_written : (ours h : Bytes) (series : List Block) (z : Bytes) {e c r : Bytes} → length h ≡ length z → c ≡ written 0 h z → e ≡ sender h → r ≡ with_nets (nets_of ours e series) c
    → r ≡ sender_kept ours h series
unfolding sender_kept
kept_written ours h series z w q f g = g ∙ ap₂ (λ e c. with_nets (nets_of ours e series) c) f (q ∙ written_all h z w)

pub renewed_kept : (ours : Bytes) (us : List Block) (h : Block) (series : List Block) → Shape us h series → (slot : ℕ)
    → renewed_with slot (sender_kept ours h series) series ≡ renewed ours slot h series
unfolding renewed_with renewed
renewed_kept ours us h series c slot =
    ap (λ e b. cond (is_sender_block_of e b) (sender_kept ours h series) (cond (is_series_of slot b) (replaced slot b (find (key_is (key b)) series)) b))
    (sender_kept_sender ours us h series c)
