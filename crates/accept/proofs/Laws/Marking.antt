-- A mark is worked out from kind, sender's slot, type, pair and quantities of the blocks, and a mark that is put right changes none of these: so a list
-- of which some blocks are marked anew gives the same marks, and the same partners.
use Rattle.std.specs.Prelude.{◌≡◌, ◌+◌, ◌<◌}
use Rattle.laws.specs.Kit.{refl, sym, ap, ◌∙◌, Bool, true, false, Option, none, some, option_map, List, [], map, ℕ, length, get_or, set, set-get_or, ◌and◌, neg, is}
use Rattle.laws.specs.Lists.{same, find, place, has}
use Rattle.laws.specs.Lists.Search.{has_map_each, find_map, place_map_each}
use Rattle.laws.specs.InPlace.{done, done_seen, done_next, done_more}
use Rattle.paper.specs.Layout.{Bytes, Block, kind, business_type, senders_slot, pair, quantities, with_mark}
use Rattle.paper.specs.Book.{is_series, is_trade, trade, trade_is, is_series_of, is_trade_of}
use Rattle.paper.specs.Marks.{is_counterpart, counterpart, counterpart_slot, mark_in}
use Rattle.paper.specs.Acceptance.{touched, remarked}
use Rattle.facts.specs.Keys.{key_business, key_pair}
use Rattle.facts.specs.Remarking.{kind_remarked, senders_slot_remarked, key_remarked, quantities_remarked}
use Rattle.accept.specs.Steps.{touched_by, partner_by, Side, Sides}

-- ---- what a mark is worked out from

pub record View : Type 0 where
  pub kind : ℕ
  pub slot : ℕ
  pub type : ℕ
  pub pair : Bytes
  pub quantities : Bytes

unfoldable pub view : Block → View
view b = record { kind = kind b; slot = senders_slot b; type = business_type b; pair = pair b; quantities = quantities b }

trade_view : Option Bytes → View → Bool
trade_view none v = false
trade_view (some p) v = is v.type 2 and same v.pair p

trade_view_lem : (t : Option Bytes) (x : Block) → trade_view t (view x) ≡ trade_is t x
unfolding trade_view trade_is view is_trade
trade_view_lem none x = refl
trade_view_lem (some p) x = refl

is_counterpart_view : ℕ → Option Bytes → View → Bool
is_counterpart_view slot t v = is v.kind 2 and neg (is v.slot slot) and trade_view t v

counterpart_view : (slot : ℕ) (t : Option Bytes) (x : Block) → is_counterpart_view slot t (view x) ≡ is_counterpart slot t x
unfolding is_counterpart_view is_counterpart view is_series
counterpart_view slot t x = ap (λ z. is (kind x) 2 and neg (is (senders_slot x) slot) and z) (trade_view_lem t x)

quantities_view : (o : Option Block) → option_map quantities o ≡ option_map (λ (v : View). v.quantities) (option_map view o)
unfolding view
quantities_view none = refl
quantities_view (some x) = refl

module _ (slot : ℕ) (t : Option Bytes) (l : List Block) where
  found_view : option_map quantities (find (is_counterpart slot t) l) ≡ option_map (λ (v : View). v.quantities) (find (is_counterpart_view slot t) (map view l))
  found_view =
      quantities_view (find (is_counterpart slot t) l)
      ∙ ap (option_map (λ (v : View). v.quantities)) (sym (find_map view (is_counterpart_view slot t) (is_counterpart slot t) (counterpart_view slot t) l))

  place_view : place (is_counterpart slot t) l ≡ place (is_counterpart_view slot t) (map view l)
  place_view = sym (place_map_each view (is_counterpart_view slot t) (is_counterpart slot t) (counterpart_view slot t) l)

mark_reads : (n : ℕ) (l r : List Block) (y : Block) → map view l ≡ map view r → mark_in n l y ≡ mark_in n r y
unfolding mark_in counterpart counterpart_slot
mark_reads n l r y e =
    rw (found_view (senders_slot y) (trade y) l, found_view (senders_slot y) (trade y) r, place_view (senders_slot y) (trade y) l, place_view (senders_slot y) (trade y) r, e)

-- ---- what is touched

is_trade_of_view : ℕ → Option Bytes → View → Bool
is_trade_of_view slot t v = is v.kind 2 and is v.slot slot and trade_view t v

trade_of_view : (slot : ℕ) (t : Option Bytes) (x : Block) → is_trade_of_view slot t (view x) ≡ is_trade_of slot t x
unfolding is_trade_of_view is_trade_of is_series_of view is_series
trade_of_view slot t x = ap (λ z. is (kind x) 2 and is (senders_slot x) slot and z) (trade_view_lem t x)

has_view : (slot : ℕ) (t : Option Bytes) (l : List Block) → has (is_trade_of slot t) l ≡ has (is_trade_of_view slot t) (map view l)
has_view slot t l = sym (has_map_each view (is_trade_of_view slot t) (is_trade_of slot t) (trade_of_view slot t) l)

has_reads : (slot : ℕ) (t : Option Bytes) (l r : List Block) → map view l ≡ map view r → has (is_trade_of slot t) l ≡ has (is_trade_of slot t) r
has_reads slot t l r e = rw (has_view slot t l, has_view slot t r, e)

touched_reads : (slot : ℕ) (l r : List Block) (y : Block) → map view l ≡ map view r → touched slot l y ≡ touched slot r y
unfolding touched
touched_reads slot l r y e = rw (has_reads slot (trade y) l r e)

counterpart_reads : (l r : List Block) (y : Block) → map view l ≡ map view r → counterpart_slot l y ≡ counterpart_slot r y
unfolding counterpart_slot
counterpart_reads l r y e = rw (place_view (senders_slot y) (trade y) l, place_view (senders_slot y) (trade y) r, e)

-- ---- marked anew

module _ (n slot : ℕ) where
  pub remarked_reads : (l r : List Block) (y : Block) → map view l ≡ map view r → remarked n slot l y ≡ remarked n slot r y
  unfolding remarked touched
  remarked_reads l r y e = rw (mark_reads n l r y e, has_reads slot (trade y) l r e)

  pub remarked_keeps : (l : List Block) (y : Block) → view (remarked n slot l y) ≡ view y
  unfolding view
  remarked_keeps l y =
      let k = key_remarked n slot l y in
      rw (kind_remarked n slot l y, senders_slot_remarked n slot l y, key_business _ _ k, key_pair _ _ k, quantities_remarked n slot l y)

-- ---- a block that is touched

pub partner_kept : {slot : ℕ} {l : List Block} {partners homes : List ℕ} {k : ℕ} {z : Block} → Side slot l partners homes k z
    → {y : Block} → y ≡ z → {r : Bool} → r ≡ touched_by slot k y → r ≡ true → {x : Block} → x ≡ z → {p : ℕ} → p ≡ partner_by slot k partners homes x → p ≡ counterpart_slot l z
partner_kept s o u t w e = rw w at e ∙ s.partner (sym (rw o at u) ∙ t)

-- block i of a, the list l of which the first i are marked anew
module _ (n slot : ℕ) (l a : List Block) (i : ℕ) (h : i < length l) (e : a ≡ done (remarked n slot) l i) where
  seen : map view l ≡ map view a
  seen = sym (ap (map view) e ∙ done_seen view (remarked n slot) (remarked_keeps n slot) (remarked_reads n slot) l i)

  -- the side of block i, whose number in the message is k
  module _ (partners homes numbers : List ℕ) (f : Sides slot l partners homes numbers) {k : ℕ} (q : k ≡ get_or numbers i 0) where
    pub side_kept : Side slot a partners homes k (get_or a i [])
    unfolding Sides
    side_kept =
        let y : get_or a i [] ≡ get_or l i [] = ap (λ z. get_or z i []) e ∙ done_next (remarked n slot) l i [] h in
        let s = f i h in
        rw (q, y) record {
          few = s.few;
          is_touched = s.is_touched ∙ touched_reads slot l a (get_or l i []) seen;
          partner = λ t. s.partner t ∙ counterpart_reads l a (get_or l i []) seen;
        }

    next : {b : List Block} → b ≡ set a i (remarked n slot a (get_or a i [])) → b ≡ done (remarked n slot) l (i + 1)
    next w = done_more view (remarked n slot) (remarked_keeps n slot) (remarked_reads n slot) l i [] h a _ e w

    -- written if it is touched, and left else
    module _ {r : Bool} {y : Block} (o : y ≡ get_or a i []) (u : r ≡ touched_by slot k y) where
      pub marked_more : r ≡ true → {b : List Block} → b ≡ set a i (with_mark (mark_in n a (get_or a i [])) (get_or a i [])) → b ≡ done (remarked n slot) l (i + 1)
      unfolding remarked
      marked_more t w = next (w ∙ ap (set a i) (sym (rw (← side_kept.is_touched, ← rw o at u, t))))

      pub left_more : r ≡ false → a ≡ done (remarked n slot) l (i + 1)
      unfolding remarked
      left_more t = next (sym (rw (← side_kept.is_touched, ← rw o at u, t) (set-get_or a i [])))
