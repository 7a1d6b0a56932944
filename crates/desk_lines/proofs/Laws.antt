-- Laws of the parts of a line.
use Rattle.std.specs.Prelude.{◌≡◌, ◌∷◌, ◌++◌, ◌+◌, ◌≤◌}
use Rattle.laws.specs.Kit.{refl, List, [], append-nil, ℕ, add-one, arith, length, take_at, less, is, is_yes, is_equal, is_other, split, less_no, less_false}
use mathlib.Core.Bool.{cond}
use Rattle.laws.specs.Bytes.{part}
use Rattle.laws.specs.Lists.{until}
use Rattle.paper.specs.Layout.{entry}
use Rattle.paper.specs.Listing.{text}
use Rattle.paper.specs.QuantityText.{quantity_text, quantity_printed, printed_into}
use Rattle.facts.specs.QuantityText.{text_most}
use Rattle.desk_text.specs.Put.{Put}
use Rattle.desk_text.specs.Put.Laws.{none, then}
use Rattle.desk_text.specs.Words.{first_piece, past_pieces, piece_numbered, line_numbered, lines, meanings, meaning}
use Rattle.desk_lines.specs.Lines.{reason, telling, megawatts, quantities_text}

-- ---- what a number means

meaning_zero : meaning 0 ≡ []
unfolding meaning meanings lines line_numbered piece_numbered past_pieces first_piece until is text
meaning_zero = refl

pub reason_said : (number : ℕ) → cond (is number 0) [] (text ": ") ++ meaning number ≡ reason number
unfolding reason
reason_said number = split (is number 0) (λ e. rw (e, is_yes _ _ e) meaning_zero) (λ e. rw e)

-- ---- what is told only where a call is accepted

module _ {number r : ℕ} {x y : List ℕ} (told : List ℕ) where
  pub refused : (number ≡ 0 → ⊥) → Put 0 (telling number []) r x y → Put 0 (telling number told) r x y
  unfolding telling
  refused e g = rw (is_other _ _ e) (rw (is_other _ _ e) at g)

  pub accepted : {s : ℕ} {z : List ℕ} → number ≡ 0 → Put 0 (telling number []) r x y → Put r told s y z → Put 0 (telling number told) s x z
  unfolding telling
  accepted e g h = rw (is_equal _ _ e) (then (rw (is_equal _ _ e, append-nil _) at g) h)

-- ---- a quantity, as printing puts it into eight bytes

pub printed_part : (kw : ℕ) (b : List ℕ) → length b ≡ 8 → part 0 (quantity_printed kw (length b)).length (printed_into kw b) ≡ megawatts kw
unfolding quantity_printed printed_into megawatts is part
printed_part kw b n =
    split (less 9999999 kw) (λ e. rw e) (λ e.
    let m : length (quantity_text kw) ≤ 8 = text_most kw (less_no _ _ e) in
    rw (e, less_false (length b) (length (quantity_text kw)) (omega arith)) (take_at (quantity_text kw) _ (length (quantity_text kw)) refl))

-- ---- quantities, one behind the other

pub quantities_none : (q x : List ℕ) (at : ℕ) → at ≤ length x → Put at (quantities_text q 0) at x x
unfolding quantities_text
quantities_none q x at h = none at x h

pub quantities_more : (q : List ℕ) (k : ℕ) {at r s : ℕ} {x y z : List ℕ} → Put at (quantities_text q k) r x y → Put r (32 ∷ megawatts (entry q k)) s y z → Put at (quantities_text q (k + 1)) s x z
unfolding quantities_text
quantities_more q k g h = rw (add-one k) (then g h)
