-- A book's slots, lent whole, come back as the phases leave them; its day block stays, and nothing stands behind the slots.
use Rattle.std.specs.Prelude.{◌≡◌, ◌++◌, ◌+◌, ◌-◌, ◌*◌, ◌/◌, ◌%◌, ◌≤◌}
use Rattle.laws.specs.Kit.{refl, sym, ap, ◌∙◌, List, [], append_assoc, append-nil, ℕ, arith, length, take, drop, length-take, length-drop, drop_of_length-le, drop-drop}
use Rattle.laws.specs.Lists.{until}
use Rattle.laws.specs.Bytes.{number, value}
use Rattle.laws.specs.Bytes.Laws.{part_take}
use Rattle.laws.specs.Slices.{rest_slice}
use Rattle.laws.specs.Cut.{cut, join}
use Rattle.laws.specs.Cut.Laws.{cut_drop, join_cut, join_append}
use Rattle.laws.specs.InPlace.{over}
use Rattle.paper.specs.Layout.{Bytes, Block, n_of, area}
use Rattle.paper.specs.Book.{day_block, slots, is_free, used}
use Rattle.paper.specs.Message.{head_of, series_of}
use Rattle.paper.specs.Acceptance.{placed, used_after, accepted}
use Rattle.paper.specs.Looks.{visited}
use Rattle.index.specs.Handed.{Handed}
use Rattle.accept.specs.Fits.{Placing, Fits}

-- ---- bytes of whole blocks, joined again

joined : (a : List Block) (c y : Bytes) → length c % 512 ≡ 0 → length y ≡ length c → cut 512 y ≡ over a (cut 512 c) → y ≡ join a ++ drop (512 * length a) c
unfolding over
joined a c y w z q =
    sym (join_cut 512 (length c / 512) y (omega arith)) ∙ ap join q ∙ join_append a (drop (length a) (cut 512 c))
    ∙ ap (λ r. join a ++ r) (ap join (sym (cut_drop 512 c (length a))) ∙ join_cut 512 (length c / 512 - length a) (drop (512 * length a) c) (omega (arith, length-drop (512 * length a) c)))

put_back : (b y : Bytes) (a : List Block) → y ≡ join a ++ drop (512 * length a) (drop 512 b)
    → take 512 b ++ (y ++ drop (length b - 512) (drop 512 b)) ≡ day_block b ++ join a ++ drop (512 + 512 * length a) b
unfolding day_block
put_back b y a j =
    let n : drop (length b - 512) (drop 512 b) ≡ [] = drop_of_length-le (drop 512 b) {i = length b - 512} (omega (arith, length-drop 512 b)) in
    ap (λ r. take 512 b ++ (y ++ r)) n ∙ ap (λ r. take 512 b ++ r) (append-nil y ∙ j ∙ ap (λ r. join a ++ r) (drop-drop (512 * length a) 512 b))
    ∙ sym (append_assoc (take 512 b) (join a) (drop (512 + 512 * length a) b))

-- ---- the slots are a book's, lent whole

pub lent_handed : (b m : Bytes) (used_count known : ℕ) (places numbers : List ℕ) → Handed (used b) (head_of m) (series_of m) used_count known places numbers
    → Handed (until is_free (cut 512 (take (length b - 512) (drop 512 b)))) (take 512 m) (cut 512 (take (length m - 512) (drop 512 m))) used_count known places numbers
unfolding slots used head_of series_of
lent_handed b m used_count known places numbers f = rw (rest_slice 512 b, rest_slice 512 m) f

pub lent_looks : (b m ours : Bytes) → ours ≡ area (day_block b) → (looked : ℕ)
    → looked ≡ length (visited (placed ours (until is_free (cut 512 (take (length b - 512) (drop 512 b)))) (take 512 m) (cut 512 (take (length m - 512) (drop 512 m)))))
    → looked ≡ length (visited (placed (area (day_block b)) (used b) (head_of m) (series_of m)))
unfolding slots used head_of series_of
lent_looks b m ours o looked e = e ∙ rw (rest_slice 512 b, rest_slice 512 m, o) refl

pub slots_length : (b : Bytes) → length (take (length b - 512) (drop 512 b)) ≡ length b - 512
slots_length b = ap length (rest_slice 512 b) ∙ length-drop 512 b

module _ (b m : Bytes) (f : Fits b m) where
  pub head_lent : (512 ≡ length (take 512 m)) × (512 ≤ length m)
  unfolding head_of
  head_lent = let e : length (take 512 m) ≡ 512 = f.placing.head_whole in (sym e, omega (arith, length-take 512 m))

  n_day : (n : ℕ) → n ≡ n_of b → n ≡ n_of (day_block b)
  unfolding n_of day_block number
  n_day n e = e ∙ ap value (sym (part_take 1 1 512 b (omega arith)))

  pub book_long : 512 ≤ length b
  book_long = let h : 1 ≤ length b / 512 = f.least in omega arith

  pub lent_placing : (n : ℕ) → n ≡ n_of b → (ours : Bytes) → ours ≡ area (day_block b)
      → Placing n ours (length (cut 512 (take (length b - 512) (drop 512 b)))) (until is_free (cut 512 (take (length b - 512) (drop 512 b)))) (take 512 m) (cut 512 (take (length m - 512) (drop 512 m)))
  unfolding slots used head_of series_of
  lent_placing n e ours o = rw (rest_slice 512 b, rest_slice 512 m, n_day n e, o) f.placing

  pub lent_accepted : (n : ℕ) → n ≡ n_of b → (ours : Bytes) → ours ≡ area (day_block b) → (y : Bytes) → length y ≡ length b - 512
      → cut 512 y ≡ over (used_after n ours (until is_free (cut 512 (take (length b - 512) (drop 512 b)))) (take 512 m) (cut 512 (take (length m - 512) (drop 512 m)))) (cut 512 (take (length b - 512) (drop 512 b)))
      → take 512 b ++ (y ++ drop (length b - 512) (drop 512 b)) ≡ accepted b m
  unfolding slots used head_of series_of accepted
  lent_accepted n e ours o y z q =
      let w : length b % 512 ≡ 0 = f.whole in
      let i : n ≡ n_of (day_block b) = n_day n e in
      let t : cut 512 y ≡ over (used_after (n_of (day_block b)) (area (day_block b)) (used b) (head_of m) (series_of m)) (cut 512 (drop 512 b)) = rw (rest_slice 512 b, rest_slice 512 m, i, o) at q in
      let j = joined (used_after (n_of (day_block b)) (area (day_block b)) (used b) (head_of m) (series_of m)) (drop 512 b) y (omega (arith, length-drop 512 b)) (omega (arith, length-drop 512 b)) t in
      put_back b y (used_after (n_of (day_block b)) (area (day_block b)) (used b) (head_of m) (series_of m)) j
