-- Laws of the check on site: rows that are passed.
use Rattle.std.specs.Prelude.{◌≡◌, ◌+◌, ◌-◌, ◌≤◌, ◌<◌}
use Rattle.laws.specs.Base.{refl, ap, Bool, List, ℕ, zero, suc, add-one, sub-zero, arith, length}
use Rattle.laws.specs.Kit.{◌and◌, is_equal, is_other}
use Rattle.desk_text.specs.Words.{past_piece, past_pieces, piece_numbered}
use Rattle.cases_site.specs.Site.{row_right, row_book, rows_from}

-- ---- pieces

past_more : (end k : ℕ) (s : List ℕ) → past_pieces end (suc k) s ≡ past_piece end (past_pieces end k s)
unfolding past_pieces
past_more end zero s = refl
past_more end (suc k) s = past_more end k (past_piece end s)

pub rows_all : (n : ℕ) (right : Bool) (book rest : List ℕ) → rows_from (n - 0) right book rest ≡ rows_from n right book rest
rows_all n right book rest = ap (λ m. rows_from m right book rest) (sub-zero n)

-- ---- the rows from row k on, of a table of n bytes, give t

module _ (n k : ℕ) (right : Bool) (book table : List ℕ) {t : Bool × List ℕ} where
  pub rows_turn :
      k < n →
      (length (piece_numbered 59 k table) ≡ 0 → ⊥) →
      rows_from (n - k) right book (past_pieces 59 k table) ≡ t →
      rows_from (n - (k + 1)) (row_right book (piece_numbered 59 k table) and right) (row_book book (piece_numbered 59 k table)) (past_pieces 59 (k + 1) table) ≡ t
  unfolding rows_from piece_numbered
  rows_turn h e p =
      let q : n - k ≡ suc (n - (k + 1)) = omega arith in
      rw (add-one k, past_more 59 k table) (rw (q, is_other _ 0 e, add-one k) at p)

  pub rows_end : k < n → length (piece_numbered 59 k table) ≡ 0 → rows_from (n - k) right book (past_pieces 59 k table) ≡ t → (right, book) ≡ t
  unfolding rows_from piece_numbered
  rows_end h e p = let q : n - k ≡ suc (n - (k + 1)) = omega arith in rw (q, is_equal _ 0 e) at p

  pub rows_none : n ≤ k → rows_from (n - k) right book (past_pieces 59 k table) ≡ t → (right, book) ≡ t
  unfolding rows_from
  rows_none h p = let q : n - k ≡ 0 = omega arith in rw q at p
