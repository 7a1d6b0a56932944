-- A text put piece by piece.
pub mod Line
pub mod Whole
use Rattle.std.specs.Prelude.{◌≡◌, ◌∷◌, ◌++◌, ◌+◌}
use Rattle.laws.specs.Kit.{refl, sym, ap, ◌∙◌, [], ℕ, add-zero, add_assoc, length, drop, set, length-append, Step, End}
use Rattle.laws.specs.Bytes.{written}
use Rattle.laws.specs.Bytes.Laws.{written_none, written_cons, written_append}
use Rattle.paper.specs.Layout.{Bytes}
use Rattle.listing_text.specs.Text.{Appended}

pub put : {at k : ℕ} {a x y : Bytes} → k ≡ length a → y ≡ written at a x → Appended at a x (at + k) y
put {at} e q = record { place = ap (λ n. at + n) e; bytes = q }

pub put_none : (at : ℕ) (x : Bytes) → Appended at [] x at x
put_none at x = record { place = sym (add-zero at); bytes = sym (written_none at x) }

-- the same text by another name
pub put_as : {at r : ℕ} {a b x y : Bytes} → a ≡ b → Appended at a x r y → Appended at b x r y
put_as e f = rw (← e) f

-- one piece after another
pub then : {at r q : ℕ} {a b x y z : Bytes} → Appended at a x r y → Appended r b y q z → Appended at (a ++ b) x q z
then {at} {r} {q} {a} {b} {x} {y} {z} f g = record {
  place = g.place ∙ ap (λ k. k + length b) f.place ∙ add_assoc at (length a) (length b) ∙ ap (λ k. at + k) (sym (length-append a b));
  bytes = g.bytes ∙ rw (f.place, f.bytes) (sym (written_append at a b x));
}

-- what is left to put once a piece of it is put
pub left : {at r q : ℕ} {a b x y z : Bytes} → Appended at (a ++ b) x q z → Appended at a x r y → Appended r b y q z
left {at} {r} {q} {a} {b} {x} {y} {z} f g = record {
  place = f.place ∙ ap (λ k. at + k) (length-append a b) ∙ sym (add_assoc at (length a) (length b)) ∙ ap (λ k. k + length b) (sym g.place);
  bytes = f.bytes ∙ written_append at a b x ∙ sym (rw (g.place, g.bytes));
}

-- one byte behind a piece
pub then_byte : {at r : ℕ} {a x y z : Bytes} (e : ℕ) → Appended at a x r y → z ≡ set y r e → Appended at (a ++ e ∷ []) x (r + 1) z
then_byte {r = r} {y = y} e f q = then f (record { place = refl; bytes = q ∙ sym (written_cons r e [] y ∙ written_none (r + 1) (set y r e)) })

-- ---- a text put byte by byte

pub text_start : (s out : Bytes) (at : ℕ) → written (at + 0) (drop 0 s) out ≡ written at s out
text_start s out at = rw (add-zero at)

pub text_turn : (s out : Bytes) (at i : ℕ) {y t : Bytes} {e : ℕ} → Step s i e → written (at + i) (drop i s) out ≡ t → y ≡ set out (at + i) e
    → written (at + (i + 1)) (drop (i + 1) s) y ≡ t
text_turn s out at i {e = e} step p q = rw (q, ← add_assoc at i 1) (sym (written_cons (at + i) e (drop (i + 1) s) out) ∙ rw step.rest at p)

pub text_end : (s out : Bytes) (at i : ℕ) {t : Bytes} → End s i → written (at + i) (drop i s) out ≡ t → out ≡ t
text_end s out at i end p = sym (written_none (at + i) out) ∙ rw end.rest at p
