-- The mark and the block of a stored series, by its place.
use Rattle.std.specs.Prelude.{◌≡◌}
use Rattle.laws.specs.Kit.{sym, true, false, List, [], ℕ}
use Rattle.laws.specs.Lists.{place}
use Rattle.paper.specs.declared.MarkAnswer.{MarkAnswer}
use Rattle.paper.specs.Layout.{Bytes, Block, differing, first, partner}
use Rattle.paper.specs.Book.{used, numbered}
use Rattle.paper.specs.Sound.{sound}
use Rattle.paper.specs.Readings.{is_stored_as, stored_as, mark_given, mark_refused, mark_found, mark_answer, accepted_block}
use Rattle.readings.proofs.Laws.Found.{found_none, found_some, found}

module _ (us : List Block) (e i : Bytes) (t : ℕ) (q : t ≡ place (is_stored_as us e i) us) where
  pub mark_none : t ≡ 0 → mark_refused 23 ≡ mark_found (stored_as us e i)
  unfolding stored_as mark_found
  mark_none z = rw (found_none (is_stored_as us e i) us t q z)

  pub mark_some : (t ≡ 0 → ⊥) → {x : Block} → x ≡ numbered us t → mark_given (differing x) (first x) (partner x) ≡ mark_found (stored_as us e i)
  unfolding stored_as mark_found
  mark_some z h = rw (found_some (is_stored_as us e i) us t q z, h)

module _ (book e i : Bytes) where
  pub mark_unsound : sound book ≡ false → mark_refused 1 ≡ mark_answer book e i
  unfolding mark_answer
  mark_unsound h = rw h

  pub mark_sound : sound book ≡ true → {us : List Block} {r : MarkAnswer} → us ≡ used book → r ≡ mark_found (stored_as us e i) → r ≡ mark_answer book e i
  unfolding mark_answer
  mark_sound h u q = rw (h, sym u) q

  pub block_unsound : sound book ≡ false → [] ≡ accepted_block book e i
  unfolding accepted_block
  block_unsound h = rw h

  pub block_sound : sound book ≡ true → {us : List Block} (t : ℕ) {x : Block} → us ≡ used book → t ≡ place (is_stored_as us e i) us → x ≡ numbered us t → x ≡ accepted_block book e i
  unfolding accepted_block stored_as
  block_sound h {us} t u q f = rw (h, ← u) (found (is_stored_as us e i) us t q f)
