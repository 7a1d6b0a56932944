-- A part of a list that was lent and is back: one block, or the first blocks.
use Rattle.std.specs.Prelude.{◌≡◌, ◌++◌, ◌+◌, ◌-◌, ◌*◌, ◌/◌, ◌≤◌, ◌<◌}
use Rattle.laws.specs.Kit.{sym, ap, ap₂, ◌∙◌, List, [], append_assoc, ℕ, add-sub_cancel_left, arith, length, take, drop, get_or, set, drop-drop}
use Rattle.laws.specs.Bytes.{written}
use Rattle.laws.specs.Bytes.Laws.{written_take_drop}
use Rattle.laws.specs.Cut.{cut}
use Rattle.laws.specs.Cut.Laws.{width_blocks, block_length, cut_at, take_cut, cut_drop, cut_append, cut_put}
use Rattle.slots.proofs.Laws.{block_some}

-- block i came back as f makes it of what it was
pub cut_lent : (f : List ℕ → List ℕ) (b : List ℕ) (i : ℕ) {y : List ℕ} → 512 * i + 512 ≤ length b → y ≡ f (take (512 * i + 512 - 512 * i) (drop (512 * i) b)) → length y ≡ 512
    → cut 512 (take (512 * i) b ++ (y ++ drop (512 * i + 512 - 512 * i) (drop (512 * i) b))) ≡ set (cut 512 b) i (f (get_or (cut 512 b) i []))
cut_lent f b i {y} h q e =
    let n : i < length b / 512 = width_blocks 512 (length b) i (omega arith) h in
    let d : drop (512 * i + 512 - 512 * i) (drop (512 * i) b) ≡ drop (512 * i + length y) b = rw (add-sub_cancel_left, e) (drop-drop 512 (512 * i) b) in
    let p : take (512 * i) b ++ (y ++ drop (512 * i + 512 - 512 * i) (drop (512 * i) b)) ≡ written (512 * i) y b =
    ap (λ l. take (512 * i) b ++ (y ++ l)) d ∙ sym (append_assoc (take (512 * i) b) y (drop (512 * i + length y) b)) ∙ sym (written_take_drop (512 * i) y b (omega arith))
    in
    ap (cut 512) p ∙ cut_put 512 i y b e n ∙ ap (set (cut 512 b) i) (q ∙ ap f (block_some b i n))

-- the first k blocks, and those blocks lent and back as g makes them of what they were
pub cut_first : (b : List ℕ) (k : ℕ) → 512 * k ≤ length b → cut 512 (take (512 * k) b) ≡ take k (cut 512 b)
cut_first b k h = take_cut 512 b k (omega arith)

pub cut_lent_first : (g : List (List ℕ) → List (List ℕ)) (b : List ℕ) (k : ℕ) (y : List ℕ) → 512 * k ≤ length b → length y ≡ 512 * k → cut 512 y ≡ g (cut 512 (take (512 * k) b))
    → cut 512 (y ++ drop (512 * k) b) ≡ g (take k (cut 512 b)) ++ drop k (cut 512 b)
cut_lent_first g b k y h e q =
    cut_append 512 k y (drop (512 * k) b) e ∙ ap₂ (λ p r. p ++ r) (q ∙ ap g (cut_first b k h)) (cut_drop 512 b k)

pub block_whole : (b : List ℕ) (i : ℕ) → i < length b / 512 → length (get_or (cut 512 b) i []) ≡ 512
block_whole b i h = ap length (cut_at 512 b i h) ∙ block_length 512 b i h
