-- The whole text: which of the three it is, and what becomes of it in a buffer that may be too short.
use Rattle.std.specs.Prelude.{◌≡◌, ◌/◌, ◌≤◌, ◌<◌}
use Rattle.laws.specs.Kit.{sym, ap, ◌∙◌, true, false, List, ℕ, arith, length, less_true, less_false}
use Rattle.laws.specs.Cut.{cut}
use Rattle.laws.specs.Cut.Laws.{cut_length}
use Rattle.paper.specs.Layout.{Bytes, Block}
use Rattle.paper.specs.Book.{used}
use Rattle.paper.specs.Sound.{sound}
use Rattle.paper.specs.Listing.{text, listing}
use Rattle.listing_text.specs.Bound.{used_most}
use Rattle.listing_text.specs.Text.{Appended, listing_of, text_length, text_into}

-- ---- a text of n bytes and a buffer

module _ (t out : Bytes) (n : ℕ) (e : n ≡ length t) where
  pub too_short : length out < n → (0 ≡ text_length t (length out)) × (out ≡ text_into t out)
  unfolding text_length text_into
  too_short h = (rw (← e, less_true _ _ h), rw (← e, less_true _ _ h))

  pub room_enough : {r : ℕ} {y : Bytes} → n ≤ length out → Appended 0 t out r y → (r ≡ text_length t (length out)) × (y ≡ text_into t out)
  unfolding text_length text_into
  room_enough {r} {y} h f = let p : r ≡ length t = omega (arith, f.place) in (rw (← e, less_false _ _ h) (p ∙ sym e), rw (← e, less_false _ _ h) f.bytes)

-- ---- which text

module _ (book : Bytes) where
  pub listing_long : 32768 < length book → text "too long\n" ≡ listing book
  unfolding listing
  listing_long h = rw (less_true _ _ h)

  module _ (h : length book ≤ 32768) where
    pub listing_unsound : sound book ≡ false → text "not sound\n" ≡ listing book
    unfolding listing
    listing_unsound e = rw (less_false _ _ h, e)

    pub listing_sound : {us : List Block} → sound book ≡ true → us ≡ used book → listing_of us ≡ listing book
    unfolding listing listing_of
    listing_sound e q = rw (less_false _ _ h, e, q)

    pub used_few : (us : Bytes) → cut 512 us ≡ used book → length us / 512 ≤ 63
    used_few us q = omega (arith, cut_length 512 us, ap length q, used_most book h)
