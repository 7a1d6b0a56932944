-- Past rule 1 the verdict is worked out from the day block, the sender's own stored blocks and rights, the number of free slots and the message, and takes nothing else
-- as an argument. Of the sender block the rules read kind, id and version; of the series id, key, version and quantities, and of the rights all bytes, whatever their order.
use Rattle.std.specs.Prelude.{◌≡◌, ◌∷◌, ◌++◌, ◌+◌}
use Rattle.laws.specs.Base.{refl, sym, ◌∙◌, true, List, [], ℕ, arith}
use Rattle.laws.specs.Lists.{has}
use Rattle.laws.specs.Lists.Each.{all_each}
use Rattle.laws.specs.Lists.Count.{count_agree}
use Rattle.laws.specs.Bytes.{number}
use Rattle.laws.specs.Order.Laws.{along_agree}
use Rattle.paper.specs.Layout.{Bytes, Block, kind, version, id_of, sender, key, quantities}
use Rattle.paper.specs.Book.{day_block, used, free_slots, is_sender, is_series, id_is, own_sender, own_series, own_rights}
use Rattle.paper.specs.Sound.{sound}
use Rattle.paper.specs.Message.{head_of, series_of}
use Rattle.paper.specs.Rules.{fine, number_of, over_positions, rule1, id_or_version_broken, rule6, with_other_key, with_other_id, rule7, rule14, series_version, rule15, absent, rule16, is_new, new_blocks, rule17, head_verdict, form_verdict, closed_verdict, names, rule18, right_for, right_verdict, late_verdict, values_verdict, series_verdict, each_series, last_verdict, judge, verdict}
use Rattle.facts.specs.Layout.{Alike, alike_version, alike_id, alike_key, alike_quantity}
use Rattle.facts.specs.Sound.{sound_says}
use Rattle.promises.specs.Laws.Contents.{parts_agree, OfOneSender, own_of_one_sender, ReadsContents, key_reads, has_contents, stored_contents}
use Rattle.promises.specs.Laws.OwnRights.{has_rights, one_right}
use Rattle.promises.specs.Words.{head_content, SameContents, SameRights, Determines}

-- ---- the sender block: kind, id, version

module _ (known known_there : Block) (e : head_content known ≡ head_content known_there) where
  is_sender_by_content : is_sender known ≡ is_sender known_there
  unfolding head_content is_sender kind number
  is_sender_by_content = rw (parts_agree 0 108 0 1 known known_there (omega arith) (omega arith) e)

  rule6_by_content : (head : Block) → rule6 known head ≡ rule6 known_there head
  unfolding head_content rule6 id_or_version_broken id_of version number
  rule6_by_content head =
      rw (
        is_sender_by_content,
        parts_agree 0 108 8 16 known known_there (omega arith) (omega arith) e,
        parts_agree 0 108 2 2 known known_there (omega arith) (omega arith) e,
      )

  head_by_content : (day head : Block) → head_verdict day known head ≡ head_verdict day known_there head
  unfolding head_verdict
  head_by_content day head = rw (rule6_by_content head)

-- ---- what is stored of a series: kind, version, quantities

module _ (x z : Block) (a : Alike x z) where
  is_series_by_content : is_series x ≡ is_series z
  unfolding is_series kind number
  is_series_by_content = rw (a.front 0 1 (omega arith))

  quantities_by_content : quantities x ≡ quantities z
  unfolding quantities
  quantities_by_content = a.back 108 400 (omega arith) (omega arith)

  late_by_content : (day head : Block) (number : ℕ) (y : Block) → late_verdict day x head number y ≡ late_verdict day z head number y
  unfolding late_verdict over_positions closed_verdict rule14 rule15 series_version
  late_by_content day head number y =
      rw (
        along_agree number_of fine (closed_verdict day x number y) (closed_verdict day z number y) 100 0 (λ k low high. rw (alike_quantity x z a k (omega arith))),
        is_series_by_content,
        quantities_by_content,
        alike_version x z a,
      )

-- ---- the sender's series

id_reads : (id : Bytes) → ReadsContents (id_is id)
unfolding id_is
id_reads id x y a = rw (alike_id x y a)

other_key_reads : (y : Block) → ReadsContents (with_other_key y)
unfolding with_other_key
other_key_reads y x z a = rw (id_reads (id_of y) x z a, key_reads (key y) x z a)

other_id_reads : (y : Block) → ReadsContents (with_other_id y)
unfolding with_other_id
other_id_reads y x z a = rw (id_reads (id_of y) x z a, key_reads (key y) x z a)

absent_reads : (series : List Block) → ReadsContents (absent series)
unfolding absent
absent_reads series x z a = rw (alike_key x z a)

-- the sender's rights, by what is asked of them
abbrev RightsAgree : List Block → List Block → Type 0
RightsAgree rights rights_there = (y : Block) → (has (names y) rights ≡ has (names y) rights_there) × (right_for rights y ≡ right_for rights_there y)

right_by_rights : (rights rights_there : List Block) → RightsAgree rights rights_there → (n : ℕ) (seen : List Block) (number : ℕ) (y : Block)
    → right_verdict n rights seen number y ≡ right_verdict n rights_there seen number y
unfolding right_verdict rule18
right_by_rights rights rights_there r n seen number y = rw ((r y).0, (r y).1)

module _ (own own_there : List Block) (a : OfOneSender own) (b : OfOneSender own_there) (s : SameContents own own_there) (rights rights_there : List Block)
    (r : RightsAgree rights rights_there) where
  series_by_content : (day head : Block) (seen : List Block) (number : ℕ) (y : Block)
      → series_verdict day own rights head seen number y ≡ series_verdict day own_there rights_there head seen number y
  unfolding series_verdict form_verdict values_verdict rule7
  series_by_content day head seen number y =
      rw (
        has_contents own own_there a b s _ (other_key_reads y),
        has_contents own own_there a b s _ (other_id_reads y),
        right_by_rights rights rights_there r _ seen number y,
        late_by_content _ _ (stored_contents own own_there a b s y) day head number y,
      )

  each_by_content : (day head : Block) (seen : List Block) (number : ℕ) (ys : List Block)
      → each_series day own rights head seen number ys ≡ each_series day own_there rights_there head seen number ys
  unfolding each_series
  each_by_content day head seen number [] = refl
  each_by_content day head seen number (y ∷ ys) = rw (series_by_content day head seen number y, each_by_content day head (seen ++ y ∷ []) (number + 1) ys)

  new_by_content : (y : Block) → is_new own y ≡ is_new own_there y
  unfolding is_new
  new_by_content y = rw (has_contents own own_there a b s _ (key_reads (key y)))

  -- ---- the verdict, in another book

  module _ (known known_there : Block) (e : head_content known ≡ head_content known_there) where
    last_by_content : (free free_there : ℕ) → free ≡ free_there → (series : List Block)
        → last_verdict known own free series ≡ last_verdict known_there own_there free_there series
    unfolding last_verdict rule16 rule17 new_blocks
    last_by_content free free_there f series =
        rw (
          f,
          has_contents own own_there a b s _ (absent_reads series),
          is_sender_by_content known known_there e,
          count_agree (is_new own) (is_new own_there) series (all_each (λ y. is_new own y ≡ is_new own_there y) new_by_content series),
        )

    judge_by_content : (free free_there : ℕ) → free ≡ free_there → (day head : Block) (series : List Block)
        → judge day known own rights free head series ≡ judge day known_there own_there rights_there free_there head series
    unfolding judge
    judge_by_content free free_there f day head series =
        rw (head_by_content known known_there e day head, each_by_content day head [] 1 series, last_by_content free free_there f series)

pub verdict_isolated : (book other message : Bytes) → sound book ≡ true → sound other ≡ true → day_block book ≡ day_block other
    → head_content (own_sender (used book) (sender (head_of message))) ≡ head_content (own_sender (used other) (sender (head_of message)))
    → SameContents (own_series (used book) (sender (head_of message))) (own_series (used other) (sender (head_of message)))
    → SameRights (own_rights (used book) (sender (head_of message))) (own_rights (used other) (sender (head_of message)))
    → free_slots book ≡ free_slots other → verdict book message ≡ verdict other message
unfolding verdict rule1
verdict_isolated book other message s t d h c r f =
    rw (
      s,
      t,
      d,
      judge_by_content _ _ (own_of_one_sender book (sound_says book s) _) (own_of_one_sender other (sound_says other t) _) c _ _
          (λ y. (has_rights _ _ r (names y), one_right other (sound_says other t) _ _ r y)) _ _ h (free_slots book) (free_slots other) f
          (day_block other) (head_of message) (series_of message),
    )

-- an outcome that is a function of the inputs is one
pub determined : {I A : Type 0} (answer : I → A) (bytes : I → Bytes) → Determines {I = I} {A = A} (λ i r x. (r ≡ answer i) × (x ≡ bytes i))
determined answer bytes i a b x y p q = (p.0 ∙ sym q.0, p.1 ∙ sym q.1)
