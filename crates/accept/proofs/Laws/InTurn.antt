-- The new blocks one after another.
use Rattle.std.specs.Prelude.{◌≡◌, ◌++◌, ◌+◌, ◌≤◌, ◌<◌}
use Rattle.laws.specs.Kit.{List, [], ℕ, arith, length, get_or, length-append}
use Rattle.paper.specs.Layout.{Block}
use Rattle.accept.specs.Steps.{Laid, added_at, added_to}
use Rattle.accept.proofs.Laws.Laying.{laid_then}
use Rattle.accept.proofs.Laws.Adding.{added_more, added_room}

-- the series before k are laid over l from s on, which gives r; y is series k, and v its place among the stored ones
module _ (slot s : ℕ) (places : List ℕ) (l series : List Block) (k : ℕ) (r : List Block) (next : ℕ) (inside : s ≤ length l) (i : Laid s (added_to slot places series k) l r next)
    (v : ℕ) (y : Block) (ev : v ≡ get_or places k 0) (ey : y ≡ get_or series k []) where
  pub add_room : (m : ℕ) → k < m → next + length (added_at slot v y) ≤ s + length (added_to slot places series m)
  add_room m h = let n : next ≡ s + length (added_to slot places series k) = i.end in rw (ev, ey) (omega (arith, added_room slot places series k m h))

  pub add_go : {q : List Block} {f : ℕ} → Laid next (added_at slot v y) r q f → Laid s (added_to slot places series (k + 1)) l q f
  add_go j = rw (added_more slot places series k) (laid_then s l inside i (rw (ev, ey) at j))

-- ---- the sender's block a, then the series b: the room of both

module _ (u : ℕ) (l a b : List Block) (room : u + length (a ++ b) ≤ length l) where
  pub sender_room : u + length a ≤ length l
  sender_room = omega (arith, length-append a b)

  module _ {r : List Block} {e : ℕ} (i : Laid u a l r e) where
    pub series_room : e + length b ≤ length l
    series_room = let n : e ≡ u + length a = i.end in omega (arith, length-append a b)

    pub both_laid : {q : List Block} {f : ℕ} → Laid e b r q f → Laid u (a ++ b) l q f
    both_laid j = laid_then u l (omega arith) i j
