-- Rule 7's clauses on other series, by places: the first series of the message with an id or a key is an earlier one; the sender's stored
-- series with the id is not the one with the key.
use Rattle.std.specs.Prelude.{◌≡◌, ◌+◌, ◌<◌}
use Rattle.laws.specs.Kit.{refl, sym, ap, ap₂, ◌∙◌, Bool, true, false, List, [], ℕ, add-one, length, take, get_or, ◌and◌, ◌or◌, neg, is, split, and_left, and_right, and_both, or_yes_left, or_yes_right, or_else, is_equal}
use Rattle.laws.specs.Lists.{same, place, has, apart, keep}
use Rattle.laws.specs.Lists.Same.{same_yes, same_refl}
use Rattle.laws.specs.Lists.Each.{all_imply, all_take, all_get_or_inside}
use Rattle.laws.specs.Lists.Search.{has_agree, has_keep_or, has_take_place}
use Rattle.laws.specs.Lists.Apart.{apart_places_differ}
use Rattle.paper.specs.Layout.{Bytes, Block, id_of, key}
use Rattle.paper.specs.Ids.{id_well_formed}
use Rattle.paper.specs.Book.{id_is, key_is, is_series_of}
use Rattle.paper.specs.Sound.{same_series}
use Rattle.paper.specs.Rules.{with_other_key, with_other_id, rule7}
use Rattle.facts.specs.Book.{series_of_series, series_of_slot}
use Rattle.index.specs.Linked.{alike, own_with, Found}
use Rattle.index.specs.declared.By.{By}
use Rattle.index.specs.declared.By.TheVariants.{Id, Key}
use Rattle.rules.specs.ByPlaces.{known_otherwise, rule7_by}
use Rattle.judge.specs.Looked.{Taken, Looked}

five : (a b c d e : Bool) → (a or b or c or d or e) ≡ (a or ((b or d) or (c or e)))
unfolding ◌or◌
five true b c d e = refl
five false true c d e = refl
five false false true true e = refl
five false false true false e = refl
five false false false d e = refl

-- ---- the stored ones

module _ (slot : ℕ) (y : Block) where
  clash_by : (x z : Block) → is_series_of slot x ≡ true → is_series_of slot z ≡ true → ((same (id_of x) (id_of y) and same (id_of z) (id_of y)) or (same (key x) (key y) and same (key z) (key y))) ≡ true
      → same_series x z ≡ true
  unfolding same_series
  clash_by x z e f g =
      and_both _ _ (and_both _ _ (and_both _ _ (series_of_series slot x e) (series_of_series slot z f)) (is_equal _ _ (series_of_slot slot x e ∙ sym (series_of_slot slot z f))))
      (both (id_of x) (id_of z) (id_of y) (key x) (key z) (key y) g)
    where
      both : (a b c u v w : Bytes) → ((same a c and same b c) or (same u w and same v w)) ≡ true → (same a b or same u v) ≡ true
      both a b c u v w g =
          split (same a c and same b c)
          (λ k. or_yes_left _ _ (rw (same_yes a c (and_left _ _ k), same_yes b c (and_right _ _ k)) (same_refl c)))
          (λ k. let m = or_else _ _ g k in or_yes_right _ _ (rw (same_yes u w (and_left _ _ m), same_yes v w (and_right _ _ m)) (same_refl w)))

  stored_crossed : (l : List Block) → apart same_series l ≡ true
      → (has (with_other_key y) (keep (is_series_of slot) l) or has (with_other_id y) (keep (is_series_of slot) l)) ≡ neg (is (place (own_with slot Id y) l) (place (own_with slot Key y) l))
  unfolding with_other_key with_other_id id_is key_is own_with alike
  stored_crossed l a =
      sym (has_keep_or (is_series_of slot) (with_other_key y) (with_other_id y) l)
      ∙ apart_places_differ (is_series_of slot) (λ x. same (id_of x) (id_of y)) (λ x. same (key x) (key y)) same_series clash_by l a

-- ---- all of rule 7's clauses, of series i + 1

module _ (us : List Block) (e : Bytes) (series : List Block) (slot : ℕ) (fi fk si rs sk : List ℕ) (k : Taken us series) (a : Looked us e series slot fi fk si rs sk) (i : ℕ) (h : i < length series) where
  abbrev y : Block
  y = get_or series i []

  seen : (by : By) (f : List ℕ) → Found 0 by series series f → alike by y y ≡ true → has (alike by y) (take i series) ≡ neg (is (get_or f i 0) (i + 1))
  unfolding own_with ◌and◌
  seen by f e t =
      has_agree _ (own_with 0 by y) (take i series) (all_imply _ _ (λ x q. rw q) (take i series) (all_take _ i series k.kinds))
      ∙ has_take_place (own_with 0 by y) series i [] h (rw (all_get_or_inside (λ x. is_series_of 0 x ≡ true) series i [] h k.kinds) t)
      ∙ ap₂ (λ n m. neg (is n m)) (sym (e.each i h)) (sym (add-one i))

  pub rule_7_found : rule7_by (known_otherwise (i + 1) (get_or fi i 0) (get_or fk i 0) (get_or si i 0) (get_or sk i 0)) y ≡ rule7 (keep (is_series_of slot) us) (take i series) y
  unfolding rule7_by known_otherwise rule7 alike id_is key_is
  rule_7_found =
      sym
      (five (neg (id_well_formed (id_of y))) _ _ _ _
      ∙ ap (λ b. neg (id_well_formed (id_of y)) or b)
      (ap₂ (λ b c. b or c) (ap₂ (λ b c. b or c) (seen Id fi a.first_ids_found (same_refl (id_of y))) (seen Key fk a.first_keys_found (same_refl (key y))))
      (stored_crossed slot y us k.apart ∙ ap₂ (λ n m. neg (is n m)) (sym (a.stored_ids_found.each i h)) (sym (a.stored_keys.each i h)))))
