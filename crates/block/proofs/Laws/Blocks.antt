-- Turns of the loop over blocks: the test so far and the blocks that are left still give the test of all.
use Rattle.std.specs.Prelude.{◌≡◌, ◌∷◌, ◌+◌, ◌-◌, ◌*◌, ◌≤◌, ◌<◌}
use Rattle.laws.specs.Kit.{refl, sym, ap, ◌∙◌, Bool, List, ℕ, mul-zero, mul-one, add-sub_cancel_left, arith, length, take, drop, length-drop, drop-drop, ◌and◌, and_true, and_assoc}
use Rattle.laws.specs.Lists.{every}
use Rattle.laws.specs.Bytes.{part}
use Rattle.laws.specs.Bytes.Laws.{part_take}
use Rattle.laws.specs.Slices.{part_slice}
use Rattle.laws.specs.Cut.{cut, block}
use Rattle.laws.specs.Cut.Laws.{width_blocks, block_zero, drop_cut, cut_drop, cut_short}

module _ (p : List ℕ → Bool) where
  -- a test of every block is a test of the next one and of every block behind it
  every_cut : (w i : ℕ) (s : List ℕ) → 0 < w → i + w ≤ length s → every p (cut w (drop i s)) ≡ (p (part i w s) and every p (cut w (drop (i + w) s)))
  unfolding part every
  every_cut w i s z h =
      let k : w * 0 + w ≤ length (drop i s) = rw (length-drop i s, mul-zero w) (omega arith) in
      let e : cut w (drop i s) ≡ block w (drop i s) 0 ∷ drop 1 (cut w (drop i s)) = drop_cut w (drop i s) 0 (width_blocks w _ 0 z k) in
      let f : cut w (drop (i + w) s) ≡ drop 1 (cut w (drop i s)) = ap (cut w) (sym (drop-drop w i s) ∙ ap (λ n. drop n (drop i s)) (sym (mul-one w))) ∙ cut_drop w (drop i s) 1 in
      rw (e, block_zero w (drop i s), f)

  -- of four in a row
  every_four : (v : List ℕ) → 2048 ≤ length v → every p (cut 512 v) ≡ ((p (part 0 512 v) and (p (part 512 512 v) and (p (part 1024 512 v) and p (part 1536 512 v)))) and every p (cut 512 (drop 2048 v)))
  every_four v h =
      let k : 0 < 512 = omega arith in
      rw (every_cut 512 0 v k (omega arith), every_cut 512 512 v k (omega arith), every_cut 512 1024 v k (omega arith), every_cut 512 1536 v k (omega arith)) (simp and_assoc)

  -- a turn over four blocks of 512: what is tested and what is left still give the whole
  pub turn_4 : (i : ℕ) (s : List ℕ) (ok : Bool) {q t : Bool} → i + 2048 ≤ length s
      → q ≡ (p (part 0 512 (take (i + 2048 - i) (drop i s))) and (p (part 512 512 (take (i + 2048 - i) (drop i s))) and (p (part 1024 512 (take (i + 2048 - i) (drop i s))) and p (part 1536 512 (take (i + 2048 - i) (drop i s))))))
      → (ok and every p (cut 512 (drop i s))) ≡ t → (ok and q and every p (cut 512 (drop (i + 2048) s))) ≡ t
  turn_4 i s ok h e g =
      let v = drop i s in
      let l : 2048 ≤ length v = rw (length-drop i s) (omega arith) in
      rw (e, add-sub_cancel_left, part_take 0 512 2048 v (omega arith), part_take 512 512 2048 v (omega arith), part_take 1024 512 2048 v (omega arith), part_take 1536 512 2048 v (omega arith), ← drop-drop 2048 i s)
      (and_assoc ok _ _ ∙ (rw (every_four v l) at g))
