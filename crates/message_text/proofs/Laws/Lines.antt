-- A block lent and back, a series begun, the lines of a text one after the other, and what is laid copied into the buffer.
use Rattle.std.specs.Result.{IsErr, IsErrAnd}
use Rattle.laws.specs.Base.{false≢true}
use Rattle.std.specs.Prelude.{None, Some, Result, Ok, Err, ◌≡◌, ◌∷◌, ◌++◌, ◌+◌, ◌-◌, ◌*◌, ◌≤◌, ◌<◌}
use Rattle.laws.specs.Kit.{refl, sym, ap, ◌∙◌, Bool, true, false, List, [], ℕ, min, add-sub_cancel_left, zero-add, arith, length, take, drop, replicate, drop-drop, length-take-le, length-append, take_at, ◌and◌, is, upto, and_right, less_false, upto_yes}
use lib.ListN.{length-replicate}
use lib.Seq.{take-append-le}
use Rattle.laws.specs.Bytes.{part, written}
use Rattle.laws.specs.Bytes.Laws.{written_take_drop, zeros_split}
use Rattle.laws.specs.Slices.{part_slice}
use Rattle.paper.specs.Check.{sealed}
use Rattle.paper.specs.Layout.{Bytes, Block, kind, n_of, version}
use Rattle.message_text.specs.declared.WrongLine.{WrongLine}
use Rattle.message_text.specs.declared.TextRead.{TextRead}
use Rattle.layout.specs.Written.{with_series_count}
use Rattle.message_words.specs.Words.{before, behind, lines}
use Rattle.message_text.specs.MessageText.{Gives, Lays, Reads, Tells, Laid, in_block, laid, field_laid, new_block, counted, series_laid, with_block, begun, with_line, wrong_at, with_lines, text_laid, zeros_for, copied}
use Rattle.message_words.specs.Words.Laws.{lines_none, lines_more}

-- ---- a block lent and back

pub block_back : (o : ℕ) (b y : Bytes) → take o b ++ (y ++ drop (o + 512 - o) (drop o b)) ≡ with_block o y b
unfolding with_block
block_back o b y = rw add-sub_cancel_left (rw drop-drop)

-- the first block
pub front_back : (b y : Bytes) → y ++ drop 512 b ≡ with_block 0 y b
unfolding with_block
front_back b y = refl

pub field_back : (series : ℕ) (w v b : Bytes) {fine : Bool} {y : Block}
    → (let x = take (512 * series + 512 - 512 * series) (drop (512 * series) b) in (fine ≡ (in_block w v x).0) × (y ≡ sealed (in_block w v x).1))
    → Gives (field_laid series w v b) (laid fine series) (take (512 * series) b ++ (y ++ drop (512 * series + 512 - 512 * series) (drop (512 * series) b)))
unfolding field_laid
field_back series w v b {fine} {y} f =
    let g = rw (part_slice (512 * series) (512 * series + 512) 512 b refl) at f in
    (ap (λ t. laid t series) g.0, block_back (512 * series) b y ∙ ap (λ z. with_block (512 * series) z b) g.1)

-- ---- what became of a line, as it is answered

module _ {p : Laid × Bytes} {fine : Bool} {series : ℕ} {x : Bytes} (g : Gives p (laid fine series) x) where
  pub lays_wrong : fine ≡ false → Lays p None x
  lays_wrong e = (ap (λ z. z.fine) (sym g.0) ∙ e, g.1)

  pub lays_right : fine ≡ true → 512 * (series + 1) ≤ length x → Lays p (Some series) x
  lays_right e h = ((sym g.0 ∙ ap (λ t. laid t series) e, h), g.1)

-- ---- a series begun

pub room_fits : (k need room : ℕ) → (is k 1 and upto need room) ≡ true → need ≤ room
room_fits k need room t = upto_yes _ _ (and_right _ _ t)

module _ (series : ℕ) (id b : Bytes) where
  pub begun_none : (is (kind b) 1 and upto (512 * (series + 1) + 512) (length b)) ≡ false → Gives (begun series id b) (laid false series) b
  unfolding begun
  begun_none z = (rw z, rw z)

  -- n and v are read, h is the sender's block that counts it, y the series' own
  pub begun_fits : (is (kind b) 1 and upto (512 * (series + 1) + 512) (length b)) ≡ true → {n v : ℕ} {h y : Block} → n ≡ n_of b → v ≡ version b
      → h ≡ sealed (with_series_count (series + 1) (take 512 b))
      → (let c = h ++ drop 512 b in y ≡ new_block 2 2 n v id (take (512 * (series + 1) + 512 - 512 * (series + 1)) (drop (512 * (series + 1)) c)))
      → (let c = h ++ drop 512 b in Gives (begun series id b) (laid (upto (length id) 16) (series + 1)) (take (512 * (series + 1)) c ++ (y ++ drop (512 * (series + 1) + 512 - 512 * (series + 1)) (drop (512 * (series + 1)) c))))
  unfolding begun series_laid counted part
  begun_fits z {h = h} {y = y} en ev qh qy =
      let p = rw (part_slice (512 * (series + 1)) (512 * (series + 1) + 512) 512 (h ++ drop 512 b) refl, front_back b h, en, ev) at qy in
      (rw z, rw (z, front_back b h, ← qh) (block_back (512 * (series + 1)) (with_block 0 h b) y ∙ ap (λ x. with_block (512 * (series + 1)) x (with_block 0 h b)) p))

-- ---- the lines

module _ (k : ℕ) (m : Laid × Bytes) where
  pub lines_wrong : (ls : List Bytes) → m.0.fine ≡ false → with_lines k m ls ≡ (wrong_at k, m.1)
  unfolding with_lines
  lines_wrong [] e = rw e
  lines_wrong (l ∷ ls) e = rw e

-- t is what is left of the text, b the blocks so far, r what all lines give
module _ (k series : ℕ) (t b : Bytes) {r : TextRead × Bytes} (e : with_lines k (laid true series, b) (lines t) ≡ r) where
  next : (l c : Bytes) → 0 < length t → l ≡ before 10 t → c ≡ (with_line series l b).1 → with_lines (k + 1) ((with_line series l b).0, c) (lines (behind 10 t)) ≡ r
  unfolding with_lines
  next l c h f q = rw (q, f) (rw (lines_more t h) at e)

  -- the next line gives so many series, or is wrong
  pub lines_on : {l u c : Bytes} {s : ℕ} → 0 < length t → l ≡ before 10 t → Lays (with_line series l b) (Some s) c → u ≡ behind 10 t → with_lines (k + 1) (laid true s, c) (lines u) ≡ r
  lines_on {l} {u} {c} h f q g = rw g (rw q.0.0 at (next l c h f q.1))

  pub lines_stop : {l c : Bytes} → 0 < length t → l ≡ before 10 t → Lays (with_line series l b) None c → Gives r (wrong_at (k + 1)) c
  lines_stop {l} {c} h f q =
      let p = sym (lines_wrong (k + 1) ((with_line series l b).0, c) (lines (behind 10 t)) q.0) ∙ next l c h f q.1 in (ap (λ a. a.0) p, ap (λ a. a.1) p)

  pub lines_end : length t ≤ 0 → Gives r (record { line = 0; length = 512 * (series + 1) }) b
  unfolding with_lines
  lines_end h = let p = rw (lines_none t h) at e in (ap (λ a. a.0) p, ap (λ a. a.1) p)

-- ---- the whole text: y is the first block as it is begun

pub text_laid_lem : (kind business : ℕ) (t z : Bytes) → 512 ≤ length z → {y : Bytes} → y ≡ new_block kind business 0 0 [] (take 512 z) → (r : Result ℕ WrongLine) (x : Bytes)
    → Reads (with_lines 0 (laid true 0, y ++ drop 512 z) (lines t)) r x → Reads (text_laid kind business t z) r x
unfolding text_laid
text_laid_lem kind business t z h {y} e r x g = rw (less_false _ _ h, ← e, ← front_back z y) g

-- ---- what is laid, copied

pub zeros_length : (m : ℕ) → length {A = ℕ} (replicate m 0) ≡ m
zeros_length m = length-replicate m 0

pub zeros_again : (m : ℕ) → replicate {A = ℕ} m 0 ≡ replicate (length {A = ℕ} (replicate m 0)) 0
zeros_again m = ap (λ k. replicate k 0) (sym (zeros_length m))

zeros_take : (n m : ℕ) → n ≤ m → take {A = ℕ} n (replicate m 0) ≡ replicate n 0
zeros_take n m h = rw (← zeros_split n m h) (take_at (replicate n 0) (replicate (m - n) 0) n (length-replicate n 0))

copied_front : (v b : Bytes) → length v ≤ length b → written 0 v b ≡ v ++ drop (length v) b
copied_front v b h = let j : 0 + length v ≤ length b = omega arith in written_take_drop 0 v b j ∙ ap (λ k. v ++ drop k b) (zero-add (length v))

-- a part of what came back is a part of it with what was not lent behind
module _ (k : ℕ) (y rest : Bytes) (h : k ≤ length y) where
  pub part_inside : k ≤ length (y ++ rest)
  part_inside = rw (length-append y rest) (omega arith)

  pub part_whole : k ≡ length (take k (y ++ rest))
  part_whole = sym (length-take-le k (y ++ rest) part_inside)

-- of the zeros as many were lent as the buffer b has bytes, and came back as y; of these r says how many are copied
pub copied_back : (a business n : ℕ) (t b y zeros : Bytes) {r : TextRead} {x : Bytes} → zeros ≡ replicate (length zeros) 0 → n ≡ min (length b) (length zeros)
    → length y ≡ length (take n zeros) → r.length ≤ length y
    → Gives (text_laid a business t (take n zeros)) r y
    → x ≡ written 0 (take r.length (y ++ drop n zeros)) b
    → Gives (copied b (text_laid a business t (zeros_for (length zeros) b))) r x
unfolding copied zeros_for
copied_back a business n t b y zeros {r} {x} v f l k g w =
    let h : n ≤ length zeros = omega arith in
    let z : take n zeros ≡ replicate n 0 = ap (take n) v ∙ zeros_take n (length zeros) h in
    let i : length (take n zeros) ≡ n = length-take-le n zeros h in
    let p = rw (z ∙ ap (λ j. replicate j 0) f) at g in
    let c : length (take r.length y) ≡ r.length = length-take-le r.length y k in
    let o : length (take r.length y) ≤ length b = omega arith in
    (p.0, w ∙ rw (take-append-le r.length y (drop n zeros) k, ← p.0, ← p.1) (copied_front (take r.length y) b o ∙ ap (λ j. take r.length y ++ drop j b) c))

pub copied_of : (m a business : ℕ) (t b zeros : Bytes) {r : TextRead} {x : Bytes} → length zeros ≡ m
    → Gives (copied b (text_laid a business t (zeros_for (length zeros) b))) r x → Gives (copied b (text_laid a business t (zeros_for m b))) r x
copied_of m a business t b zeros e g = rw e at g

-- ---- the answer, as it is told

pub reads_told : (p : TextRead × Bytes) (r : Result ℕ WrongLine) (x : Bytes) (t : TextRead) → Reads p r x → Tells r t → Gives p t x × (t.length ≤ length x)
reads_told p (Ok n) x t g e = ((e ∙ sym g.0.0, g.1), rw (ap (λ (a : TextRead). a.length) e) g.0.1)
reads_told p (Err l) x t g e = ((e ∙ sym g.0, g.1), rw (ap (λ (a : TextRead). a.length) e) (omega arith))

pub wrong_line : (l : WrongLine) (k : ℕ) → ◌≡◌ {A = Result ℕ WrongLine} (Err l) (Err (record { 0 = k })) → l.0 ≡ k
wrong_line l k e = let q : l ≡ record { 0 = k } = cc in ap (λ (y : WrongLine). y.0) q

-- a wrong line that is handed on
pub reads_wrong : (p : TextRead × Bytes) (r : Result ℕ WrongLine) (x : Bytes) (e : WrongLine) → IsErr r → IsErrAnd r (λ y. y ≡ e) → p.0 ≡ wrong_at e.0 → x ≡ p.1 → Reads p r x
reads_wrong p (Ok n) x e i a q g = absurd (false≢true i)
reads_wrong p (Err l) x e i a q g = (q ∙ ap (λ (y : WrongLine). wrong_at y.0) (sym a), g)
