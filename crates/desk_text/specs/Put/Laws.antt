-- Laws of text that grows piece by piece.
use Rattle.std.specs.Prelude.{◌≡◌, List, [], ◌++◌, ℕ, ◌+◌, ◌≤◌, ◌<◌, length}
use Rattle.std.proofs.Common.{sym, ap, ◌∙◌, add-zero, add_assoc, arith, length-append}
use Rattle.laws.specs.Tests.{less}
use Rattle.laws.specs.Tests.Laws.{split, less_yes, less_no, less_false}
use Rattle.laws.specs.Bytes.{written}
use Rattle.laws.specs.Bytes.Laws.{written_none, written_length, written_append}
use Rattle.laws.specs.Slices.{written_past}
use Rattle.desk_text.specs.Put.{within, Put}

-- ---- a place within a room

pub within_inside : (a m : ℕ) → a ≤ m → within a m ≡ a
unfolding within
within_inside a m h = rw (less_false m a h)

pub within_past : (a m : ℕ) → m ≤ a → within a m ≡ m
unfolding within
within_past a m h =
    split (less m a) (λ e. rw e) (λ e. rw e (let l : a ≤ m = less_no m a e in let q : a ≡ m = omega arith in q))

within_add : (a b m : ℕ) → within (within a m + b) m ≡ within (a + b) m
within_add a b m =
    split (less m a)
    (λ e. let l : m < a = less_yes m a e in rw (within_past a m (omega arith)) (within_past (m + b) m (omega arith) ∙ sym (within_past (a + b) m (omega arith))))
    (λ e. rw (within_inside a m (less_no m a e)))

-- ---- pieces, one behind the other

pub then_text : (a m : ℕ) (q w : List ℕ) → length w ≡ m → written (within a m) q w ≡ written a q w
then_text a m q w e =
    split (less m a)
    (λ t. let l : m < a = less_yes m a t in rw (within_past a m (omega arith)) (written_past m q w (omega arith) ∙ sym (written_past a q w (omega arith))))
    (λ t. rw (within_inside a m (less_no m a t)))

module _ {at r s : ℕ} {p q x y z : List ℕ} where
  pub then : Put at p r x y → Put r q s y z → Put at (p ++ q) s x z
  then g h =
      let n : length y ≡ length x = ap length g.text ∙ written_length at p x in
      record {
        size = h.size ∙ ap (λ k. within (r + length q) k) n ∙ ap (λ k. within (k + length q) (length x)) g.size ∙ within_add (at + length p) (length q) (length x) ∙ ap (λ k. within k (length x)) (add_assoc at (length p) (length q) ∙ ap (λ k. at + k) (sym (length-append p q)));
        text = h.text ∙ ap (λ k. written k q y) g.size ∙ then_text (at + length p) (length x) q y n ∙ ap (written (at + length p) q) g.text ∙ sym (written_append at p q x);
        fits = h.fits;
      }

pub none : (at : ℕ) (x : List ℕ) → at ≤ length x → Put at [] at x x
none at x h = record { size = sym (ap (λ k. within k (length x)) (add-zero at) ∙ within_inside at (length x) h); text = sym (written_none at x); fits = h }

-- a piece as it is named
pub called : {at r : ℕ} {p x y : List ℕ} (q : List ℕ) → p ≡ q → Put at p r x y → Put at q r x y
called q e g = rw e at g
