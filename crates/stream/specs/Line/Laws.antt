-- Pieces put one behind the other in a line: those of the numbers passed stand in it, and the next goes behind them; and the word of a byte that is no tag.
use Rattle.std.specs.Prelude.{◌≡◌, false, ℕ, zero, suc, ◌+◌, ◌-◌, ◌≤◌, length, take}
use Rattle.std.proofs.Math.Path.{refl, sym, ap}
use Rattle.std.proofs.Common.{◌∙◌, ⊎_elim, suc-add, zero-add, arith}
use mathlib.Core.List.{List, [], ◌∷◌, ◌++◌, append_assoc, append-nil}
use Rattle.laws.specs.Loops.{Step, End, step_take, end_whole}
use Rattle.paper.specs.Layout.{Bytes}
use Rattle.desk_text.specs.Put.{Put}
use Rattle.desk_text.specs.Put.Laws.{none, then, called}
use Rattle.desk_text.specs.Words.{lines, first_piece, past_piece, past_pieces, piece_numbered, line_numbered}
use Rattle.paper.specs.Listing.{text}
use Rattle.laws.specs.Tests.{is}
use Rattle.laws.specs.Lists.{until}
use Rattle.stream.specs.Records.{known}
use Rattle.stream.specs.Records.Laws.{unknown_tag}
use Rattle.stream.specs.Line.{pieces, words, word_of}

module _ {A : Type 0} (f : A → Bytes) where
  pieces_append : (l r : List A) → pieces f (l ++ r) ≡ pieces f l ++ pieces f r
  unfolding pieces
  pieces_append [] r = refl
  pieces_append (x ∷ xs) r = ap (λ t. f x ++ t) (pieces_append xs r) ∙ sym (append_assoc (f x) (pieces f xs) (pieces f r))

  pub pieces_none : (at : ℕ) (x : Bytes) → at ≤ length x → Put at (pieces f []) at x x
  unfolding pieces
  pieces_none at x h = none at x h

  pieces_step : (l : List A) (i : ℕ) (a : A) → Step l i a → pieces f (take i l) ++ f a ≡ pieces f (take (i + 1) l)
  unfolding pieces
  pieces_step l i a s = sym (ap (pieces f) (step_take l i a s) ∙ pieces_append (take i l) (a ∷ []) ∙ ap (λ t. pieces f (take i l) ++ t) (append-nil (f a)))

  pub pieces_more : (l : List A) (i : ℕ) {a : A} {at r s : ℕ} {x y z : Bytes} → Step l i a → Put at (pieces f (take i l)) r x y → Put r (f a) s y z → Put at (pieces f (take (i + 1) l)) s x z
  pieces_more l i {a} s g h = called _ (pieces_step l i a s) (then g h)

  pub pieces_end : (l : List A) (i : ℕ) {at r : ℕ} {x y : Bytes} → End l i → Put at (pieces f (take i l)) r x y → Put at (pieces f l) r x y
  pieces_end l i s g = called _ (ap (pieces f) (end_whole l i s)) g

-- ---- a byte that is no tag has no word: behind the last row nothing is left

past_add : (end a b : ℕ) (s : Bytes) → past_pieces end (a + b) s ≡ past_pieces end b (past_pieces end a s)
unfolding past_pieces
past_add end zero b s = rw (zero-add b) refl
past_add end (suc a) b s = rw (suc-add a b) (past_add end a b (past_piece end s))

past_none : (end k : ℕ) → past_pieces end k [] ≡ []
unfolding past_pieces past_piece first_piece until
past_none end zero = refl
past_none end (suc k) = past_none end k

words_passed : past_pieces 10 28 words ≡ []
unfolding words lines past_pieces past_piece first_piece text until is
words_passed = refl

word_behind : (n : ℕ) → 28 ≤ n → word_of n ≡ []
unfolding word_of line_numbered piece_numbered first_piece until
word_behind n h =
    let q : n ≡ 28 + (n - 28) = omega arith in
    rw q (ap (first_piece 10) (past_add 10 28 (n - 28) words ∙ ap (past_pieces 10 (n - 28)) words_passed ∙ past_none 10 (n - 28)))

word_zero : word_of 0 ≡ []
unfolding word_of words lines line_numbered piece_numbered past_pieces first_piece text until is
word_zero = refl

pub word_none : (n : ℕ) → known n ≡ false → word_of n ≡ []
word_none n h = ⊎_elim (λ e. rw e word_zero) (λ l. word_behind n l) (unknown_tag n h)
