-- What is stored of a series, and rules 16 and 17, by places: where the searches found what they promise, these are the paper's rules.
use Rattle.std.specs.Prelude.{◌≡◌, ◌+◌, ◌/◌, ◌≤◌, ◌<◌}
use Rattle.laws.specs.Kit.{sym, ap, ◌∙◌, true, cond, option_get_or, List, [], ℕ, arith, length, take, get_or, take_all, ◌and◌, neg, is, less}
use Rattle.laws.specs.Lists.{same, place, has, count, keep}
use Rattle.laws.specs.Lists.Each.{all_imply, all_each, take_as_map}
use Rattle.laws.specs.Lists.Search.{has_agree, has_take_below, has_keep_and, find_keep_and, place_is_0}
use Rattle.laws.specs.Lists.Count.{count_agree, count_map}
use Rattle.laws.specs.Cut.{cut}
use Rattle.laws.specs.Cut.Laws.{cut_length}
use Rattle.paper.specs.Layout.{Bytes, Block, key}
use Rattle.paper.specs.Book.{is_sender, numbered, key_is, is_series_of}
use Rattle.paper.specs.Rules.{stored_of, absent, rule16, is_new, new_blocks, rule17}
use Rattle.facts.specs.Book.{numbered_found}
use Rattle.index.specs.Linked.{alike, own_with, Found}
use Rattle.index.specs.declared.By.TheVariants.{Key}
use Rattle.rules.specs.ByPlaces.{absent_by, rule16_by, new_blocks_by, rule17_by}
use Rattle.judge.specs.Looked.{Taken}

-- the series y of the sender in a slot, at the place k among the used slots us
module _ (slot : ℕ) (us : List Block) (y : Block) where
  pub stored_block : (k : ℕ) → k ≡ place (own_with slot Key y) us → numbered us k ≡ stored_of (keep (is_series_of slot) us) y
  unfolding own_with alike stored_of key_is
  stored_block k e =
      ap (numbered us) e ∙ numbered_found (λ x. is_series_of slot x and same (key x) (key y)) us ∙ ap (λ o. option_get_or o []) (sym (find_keep_and (λ x. same (key x) (key y)) (is_series_of slot) us))

  stored_new : is (place (own_with slot Key y) us) 0 ≡ is_new (keep (is_series_of slot) us) y
  unfolding own_with alike is_new key_is
  stored_new = place_is_0 (λ x. is_series_of slot x and same (key x) (key y)) us ∙ ap neg (sym (has_keep_and (λ x. same (key x) (key y)) (is_series_of slot) us))

-- ---- rule 17: the places that are 0

new_counted : (slot : ℕ) (us series : List Block) (places : List ℕ) (m : ℕ) → m ≡ length series → length series ≤ 1000 → Found slot Key us series places
    → count (λ n. is n 0) (take m places) ≡ count (is_new (keep (is_series_of slot) us)) series
new_counted slot us series places m e h a =
    ap (λ k. count (λ n. is n 0) (take k places)) e
    ∙ ap (count (λ n. is n 0)) (take_as_map (λ y. place (own_with slot Key y) us) [] series places a.each (rw a.room h))
    ∙ count_map (λ y. place (own_with slot Key y) us) (λ n. is n 0) series
    ∙ count_agree _ _ series (all_each _ (stored_new slot us) series)

-- ---- rule 16: a stored series has no number

in_message : (x y : Block) → is_series_of 0 y ≡ true → own_with 0 Key x y ≡ key_is (key x) y
unfolding own_with alike ◌and◌
in_message x y e = rw e

-- ---- both, of the used slots of a sound book and the series of a message that rule 2 lets pass

module _ (slot : ℕ) (us series : List Block) (k : Taken us series) where
  module _ (numbers : List ℕ) (a : Found 0 Key series us numbers) where
    absent_found : (i : ℕ) → i < length us → absent_by slot (get_or numbers i 0) (get_or us i []) ≡ (is_series_of slot (get_or us i []) and neg (has (key_is (key (get_or us i []))) series))
    unfolding absent_by
    absent_found i h =
        ap (λ b. is_series_of slot (get_or us i []) and b)
        (ap (λ n. is n 0) (a.each i h) ∙ place_is_0 _ series ∙ ap neg (has_agree _ _ series (all_imply _ _ (in_message (get_or us i [])) series k.kinds)))

    pub rule_16_found : rule16_by slot us numbers ≡ rule16 (keep (is_series_of slot) us) series
    unfolding rule16_by rule16 absent
    rule_16_found =
        sym (has_take_below (λ x. is_series_of slot x and neg (has (key_is (key x)) series)) (λ i. absent_by slot (get_or numbers i 0) (get_or us i [])) [] us absent_found (length us) (omega arith))
        ∙ ap (has (λ x. is_series_of slot x and neg (has (key_is (key x)) series))) (take_all (length us) us (omega arith))
        ∙ sym (has_keep_and (λ x. neg (has (key_is (key x)) series)) (is_series_of slot) us)

  pub rule_17_found : (x : Block) (free m : ℕ) (places : List ℕ) → m ≡ length series → Found slot Key us series places
      → rule17_by x free (take m places) ≡ rule17 x (keep (is_series_of slot) us) free series
  unfolding rule17_by new_blocks_by rule17 new_blocks
  rule_17_found x free m places e a =
      let s : length series ≤ 200 = k.short in
      ap (λ n. less free (cond (is_sender x) 0 1 + n)) (new_counted slot us series places m e (omega arith) a)

-- ---- how many there can be

pub sizes : (us series : Bytes) {l : List Block} → cut 512 series ≡ l → Taken (cut 512 us) l → (length us / 512 ≤ 1000) × (length series / 512 ≤ 1000)
sizes us series {l} e k =
    let a : length (cut 512 us) ≤ 1000 = k.few in
    let b : length l ≤ 200 = k.short in
    (omega (arith, cut_length 512 us), omega (arith, cut_length 512 series, ap length e))
