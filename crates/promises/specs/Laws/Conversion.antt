-- A conversion works marks and nets out from what it leaves as it was, so those that it writes are true; every other byte stays, and where marks and nets were true
-- before, these stay too.
use Rattle.std.specs.Prelude.{◌≡◌, ◌++◌, ◌+◌, ◌*◌, ◌<◌}
use Rattle.laws.specs.Base.{refl, sym, ap, ◌∙◌, Bool, true, Option, none, some, option_map, List, map, ℕ, arith, length, drop}
use Rattle.laws.specs.Tests.{is}
use Rattle.laws.specs.Tests.Laws.{split, is_yes, is_no}
use Rattle.laws.specs.Lists.{find, nth, All}
use Rattle.laws.specs.Lists.Each.{all_imply, all_both, all_drop, all_until, nth_map}
use Rattle.laws.specs.Lists.Search.{find_passes, find_map}
use Rattle.laws.specs.Cut.{join}
use Rattle.laws.specs.Cut.Laws.{cut_all}
use Rattle.paper.specs.Layout.{Bytes, Block, n_of, area, sender, nets, mark, quantities, with_mark, with_nets}
use Rattle.paper.specs.Book.{day_block, slots, is_free, used, is_sender, is_series, is_right, slot_of, is_trade_of, own_series}
use Rattle.paper.specs.Marks.{mark_in}
use Rattle.paper.specs.Nets.{nets_of}
use Rattle.paper.specs.Finals.{held}
use Rattle.paper.specs.PlainRun.{plain_run}
use Rattle.paper.specs.Conversion.{conversion_number, converted_block, used_converted, converted}
use Rattle.facts.specs.Layout.{part_with_mark_before, part_with_mark_after, part_with_nets_before, mark_with_mark, nets_with_nets}
use Rattle.facts.specs.Book.{series_of_series, right_not_sender, right_not_series}
use Rattle.facts.specs.Pairs.{trade_of_own, trade_of_kept}
use Rattle.facts.specs.Remarking.{mark_in_length}
use Rattle.facts.specs.Conversion.{Converts, converts, conversion_refused, converted_sender, converted_series, converted_other, sender_converted, quantities_converted, converted_keeps, mark_in_converted_list, mark_in_converted, nets_converted_list}
use Rattle.facts.specs.Unchanged.{converted_same, used_converted_same, book_joined}
use Rattle.facts.specs.Nets.{nets_of_length}
use Rattle.promises.specs.Laws.Parts.{again_of, used_again_of}
use Rattle.promises.specs.Laws.Marks.{MarksTrue}
use Rattle.promises.specs.Laws.NetsTrue.{NetsTrue}
use Rattle.promises.specs.Laws.PlainRun.{yes_true}
use Rattle.promises.specs.Laws.ConvertedSlots.{kind_again, used_converted_lem, day_block_converted, slot_converted}
use Rattle.promises.specs.Laws.SoundConverted.{Was, all_were, all_again}
use Rattle.promises.specs.Words.{head_content, ButMark}

module _ (book : Bytes) (c : Converts book) where
  abbrev ours : Bytes
  ours = area (day_block book)

  abbrev us : List Block
  us = used book

  abbrev n : ℕ
  n = n_of (day_block book)

  abbrev again : Block → Block
  again = again_of book

  abbrev after : List Block
  after = used_again_of book

  -- ---- its marks and nets are true

  again_mark : (x : Block) → Was book x → is_series (again x) ≡ true → mark (again x) ≡ mark_in n after (again x)
  unfolding used_converted
  again_mark x w t =
      let s : is_series x ≡ true = sym (kind_again book c x).1 ∙ t in
      ap mark (converted_series n ours us x s) ∙ mark_with_mark (mark_in n us x) x (mark_in_length n us x) w.0
      ∙ sym (mark_in_converted_list n ours us us (again x) ∙ mark_in_converted n ours us us x s)

  pub marks_converted : MarksTrue (n_of (day_block (converted book))) (used (converted book))
  unfolding MarksTrue
  marks_converted = rw (day_block_converted book c, used_converted_lem book c) (all_again book c (λ x. is_series x ≡ true → mark x ≡ mark_in n after x) again_mark)

  nets_again : (e : Bytes) → nets_of ours e (own_series after e) ≡ nets_of ours e (own_series us e)
  unfolding used_converted
  nets_again e = nets_converted_list n ours us us e

  again_nets : (x : Block) → Was book x → is_sender (again x) ≡ true → nets (again x) ≡ nets_of ours (sender (again x)) (own_series after (sender (again x)))
  again_nets x w t =
      let s : is_sender x ≡ true = sym (kind_again book c x).0 ∙ t in
      ap nets (converted_sender n ours us x s) ∙ nets_with_nets _ x (nets_of_length ours (sender x) (own_series us (sender x))) w.0
      ∙ sym (ap (λ e. nets_of ours e (own_series after e)) (sender_converted n ours us x) ∙ nets_again (sender x))

  pub nets_converted : NetsTrue (area (day_block (converted book))) (used (converted book))
  unfolding NetsTrue
  nets_converted = rw (day_block_converted book c, used_converted_lem book c) (all_again book c (λ x. is_sender x ≡ true → nets x ≡ nets_of ours (sender x) (own_series after (sender x))) again_nets)

  -- ---- what each party holds stays

  pub held_converted : (e p : Bytes) → held (used (converted book)) e p ≡ held (used book) e p
  unfolding held used_converted
  held_converted e p =
      ap (λ l. held l e p) (used_converted_lem book c)
      ∙ ap (λ i. option_map quantities (find (is_trade_of i (some p)) (map again us))) (slot_converted book c e)
      ∙ ap (option_map quantities) (find_map again mine mine (trade_of_kept again (converted_keeps n ours us) (slot_of us e) (some p)) us)
      ∙ stays (find mine us) refl
    where
      mine : Block → Bool
      mine = is_trade_of (slot_of us e) (some p)

      stays : (o : Option Block) → find mine us ≡ o → option_map quantities (option_map again o) ≡ option_map quantities o
      stays none f = refl
      stays (some x) f = ap some (quantities_converted n ours us x (series_of_series _ x (trade_of_own _ _ x (find_passes _ us x f))))

  -- ---- each block in its slot

  module _ (slot : ℕ) (x : Block) (there : nth (used book) slot ≡ some x) where
    in_slot : nth (used (converted book)) slot ≡ some (again x)
    unfolding used_converted
    in_slot = ap (λ l. nth l slot) (used_converted_lem book c) ∙ nth_map again us slot ∙ ap (option_map again) there

    pub series_stays : is_series x ≡ true → (y : Block) × (nth (used (converted book)) slot ≡ some y) × ButMark x y
    series_stays t = (
      with_mark (mark_in n us x) x,
      in_slot ∙ ap some (converted_series n ours us x t),
      record { before_mark = λ o k h. part_with_mark_before _ o k x h; after_mark = λ o k h f. part_with_mark_after _ o k x (mark_in_length n us x) h f },
    )

    pub sender_stays : is_sender x ≡ true → (y : Block) × (nth (used (converted book)) slot ≡ some y) × (head_content y ≡ head_content x)
    unfolding head_content
    sender_stays t = (
      with_nets (nets_of ours (sender x) (own_series us (sender x))) x,
      in_slot ∙ ap some (converted_sender n ours us x t),
      part_with_nets_before _ 0 108 x (omega arith),
    )

    pub right_stays : is_right x ≡ true → nth (used (converted book)) slot ≡ some x
    right_stays t = in_slot ∙ ap some (converted_other n ours us x (right_not_sender x t) (right_not_series x t))

-- ---- true marks and nets

-- each used block is made of bytes
bytes_used : (book : Bytes) → All (λ y. y < 256) book → All (λ x. All (λ y. y < 256) x) (used book)
unfolding used slots
bytes_used book h = all_until (λ x. All (λ y. y < 256) x) is_free (slots book)
    (cut_all (λ y. y < 256) 512 (drop 512 book) (all_drop (λ y. y < 256) 512 book h))

unchanged : (book : Bytes) → All (λ y. y < 256) book → Converts book → MarksTrue (n_of (day_block book)) (used book) → NetsTrue (area (day_block book)) (used book) → converted book ≡ book
unfolding MarksTrue NetsTrue
unchanged book h c m v =
    c.result ∙ ap (λ l. day_block book ++ join l ++ drop (512 + 512 * length us) book) (used_converted_same n ours us each) ∙ book_joined book
  where
    ours : Bytes
    ours = area (day_block book)

    us : List Block
    us = used book

    n : ℕ
    n = n_of (day_block book)

    True : Block → Type 0
    True x = (is_series x ≡ true → mark x ≡ mark_in n us x) × (is_sender x ≡ true → nets x ≡ nets_of ours (sender x) (own_series us (sender x)))

    each : All (λ x. converted_block n ours us x ≡ x) us
    each = all_imply (λ x. Was book x × (All (λ y. y < 256) x × True x)) (λ x. converted_block n ours us x ≡ x)
        (λ x q. converted_same x q.0.0 q.1.0 q.0.1.1 n ours us q.1.1.1 q.1.1.0) us
        (all_both (Was book) (λ x. All (λ y. y < 256) x × True x) us (all_were book c)
        (all_both (λ x. All (λ y. y < 256) x) True us (bytes_used book h)
        (all_both (λ x. is_series x ≡ true → mark x ≡ mark_in n us x) (λ x. is_sender x ≡ true → nets x ≡ nets_of ours (sender x) (own_series us (sender x))) us m v)))

pub true_book_stays : (book : Bytes) → All (λ byte. byte < 256) book → plain_run book ≡ record { number = 0; holds = true } → converted book ≡ book
true_book_stays book h e = split (is (conversion_number book) 0)
    (λ t. let r = yes_true book e in unchanged book h (converts book (is_yes _ _ t)) r.0 r.1)
    (λ t. conversion_refused book (is_no _ _ t))
