-- A book's slots, of which the phases borrow the first ones: what comes back is what the definition says of all slots.
use Rattle.std.specs.Prelude.{◌≡◌, ◌++◌, ◌+◌, ◌*◌, ◌/◌, ◌≤◌}
use Rattle.laws.specs.Kit.{ap, ◌∙◌, cond, List, map, ℕ, arith, length, take, drop, length-append, length-drop, length-take-le, is}
use Rattle.laws.specs.Lists.{until}
use Rattle.laws.specs.Lists.Keep.{until_length, until_take}
use Rattle.laws.specs.Cut.{cut}
use Rattle.laws.specs.Cut.Laws.{cut_length}
use Rattle.laws.specs.InPlace.{over}
use Rattle.paper.specs.Layout.{Bytes, Block}
use Rattle.paper.specs.Book.{is_free}
use Rattle.paper.specs.Acceptance.{sender_kept, placed, remarked, used_after}
use Rattle.paper.specs.Looks.{visited}
use Rattle.index.specs.Handed.{Handed}
use Rattle.accept.specs.Fits.{Placing}
use Rattle.accept.specs.Steps.{Laid, sender_if_new, added_to, renewed_with, Numbers, Housed}
use Rattle.slots.proofs.Laws.Lent.{cut_first, cut_lent_first}
use Rattle.accept.proofs.Laws.Phases.{room, used_numbers, first_placed, placed_housed, three}

-- ---- the phases over bytes: b are the slots, d the message's series

pub back_length : (r b : Bytes) (e : ℕ) → e ≤ length b → length r ≡ length (take e b) → length (r ++ drop e b) ≡ length b
back_length r b e h q = omega (arith, length-append r (drop e b), length-drop e b, length-take-le e b h)

module _ (n : ℕ) (ours b : Bytes) (h : Block) (d : Bytes) (p : Placing n ours (length (cut 512 b)) (until is_free (cut 512 b)) h (cut 512 d)) (u known : ℕ) (places numbers : List ℕ)
    (f : Handed (until is_free (cut 512 b)) h (cut 512 d) u known places numbers) where
  pub used_fits : (512 * u ≤ length b) × (u ≤ 1000)
  used_fits =
      let m : length (cut 512 b) ≤ 1000 = p.few in
      (omega (arith, f.used_count_is, cut_length 512 b, until_length is_free (cut 512 b)), omega (arith, f.used_count_is, until_length is_free (cut 512 b)))

  pub series_short : length d / 512 ≤ 1000
  series_short = let m : length (cut 512 d) ≤ 200 = p.series_few in omega (arith, cut_length 512 d)

  first_blocks_lem : take u (cut 512 b) ≡ until is_free (cut 512 b)
  first_blocks_lem = until_take is_free (cut 512 b) u f.used_count_is

  module _ (slot : ℕ) (es : slot ≡ cond (is known 0) (u + 1) known) (kept : Block) (k : kept ≡ sender_kept ours h (cut 512 d)) where
    pub blocks_room : 512 * (u + length (sender_if_new known kept ++ added_to slot places (cut 512 d) (length d / 512))) ≤ length b
    blocks_room = omega (arith, cut_length 512 b, rw (cut_length 512 d) at (room n ours (cut 512 b) _ h (cut 512 d) p u known places numbers f first_blocks_lem slot es kept k))

    module _ (b1 : Bytes) (z1 : length b1 ≡ length b) (next : ℕ)
        (i : Laid u (sender_if_new known kept ++ added_to slot places (cut 512 d) (length d / 512)) (cut 512 b) (cut 512 b1) next) where
      next_fits : 512 * next ≤ length b
      next_fits = let e = i.end in omega (arith, blocks_room)

      laid : Laid u (sender_if_new known kept ++ added_to slot places (cut 512 d) (length (cut 512 d))) (cut 512 b) (cut 512 b1) next
      laid = rw (cut_length 512 d) i

      pub renew_numbers : Numbers (cut 512 (take (512 * u) b1)) (cut 512 d) numbers
      renew_numbers =
          let w = used_fits.0 in
          rw (cut_first b1 u (omega arith)) (used_numbers n ours (cut 512 b) _ h (cut 512 d) p u known places numbers f first_blocks_lem slot es kept k (cut 512 b1) next laid)

      module _ (r1 : Bytes) (z2 : length r1 ≡ 512 * u) (f1 : cut 512 r1 ≡ map (renewed_with slot kept (cut 512 d)) (cut 512 (take (512 * u) b1))) where
        after_length : length (r1 ++ drop (512 * u) b1) ≡ length b1
        after_length = let w = used_fits.0 in omega (arith, length-append r1 (drop (512 * u) b1), length-drop (512 * u) b1)

        renewed_is : cut 512 (r1 ++ drop (512 * u) b1) ≡ map (renewed_with slot kept (cut 512 d)) (take u (cut 512 b1)) ++ drop u (cut 512 b1)
        renewed_is = let w = used_fits.0 in cut_lent_first (map (renewed_with slot kept (cut 512 d))) b1 u r1 (omega arith) z2 f1

        pub remark_housed : Housed slot (cut 512 (take (512 * next) (r1 ++ drop (512 * u) b1))) (cut 512 d)
        remark_housed =
            let v = next_fits in
            rw (cut_first (r1 ++ drop (512 * u) b1) next (omega (arith, after_length)))
            (placed_housed n ours (cut 512 b) _ h (cut 512 d) p u known places numbers f first_blocks_lem slot es kept k (cut 512 b1) next laid (cut 512 (r1 ++ drop (512 * u) b1)) renewed_is)

        pub looks_told : {looks : ℕ} → looks ≡ length (visited (cut 512 (take (512 * next) (r1 ++ drop (512 * u) b1)))) → looks ≡ length (visited (placed ours (until is_free (cut 512 b)) h (cut 512 d)))
        looks_told e =
            let v = next_fits in
            e ∙ ap (λ l. length (visited l)) (cut_first (r1 ++ drop (512 * u) b1) next (omega (arith, after_length))
            ∙ first_placed n ours (cut 512 b) _ h (cut 512 d) p u known places numbers f first_blocks_lem slot es kept k (cut 512 b1) next laid (cut 512 (r1 ++ drop (512 * u) b1)) renewed_is)

        module _ (r2 : Bytes) (z3 : length r2 ≡ 512 * next)
            (f2 : cut 512 r2 ≡ map (remarked n slot (cut 512 (take (512 * next) (r1 ++ drop (512 * u) b1)))) (cut 512 (take (512 * next) (r1 ++ drop (512 * u) b1)))) where
          pub into_is : cut 512 (r2 ++ drop (512 * next) (r1 ++ drop (512 * u) b1)) ≡ over (used_after n ours (until is_free (cut 512 b)) h (cut 512 d)) (cut 512 b)
          into_is =
              let v = next_fits in
              three n ours (cut 512 b) _ h (cut 512 d) p u known places numbers f first_blocks_lem slot es kept k (cut 512 b1) next laid (cut 512 (r1 ++ drop (512 * u) b1)) renewed_is
              (cut 512 (r2 ++ drop (512 * next) (r1 ++ drop (512 * u) b1)))
              (cut_lent_first (λ l. map (remarked n slot l) l) (r1 ++ drop (512 * u) b1) next r2 (omega (arith, after_length)) z3 f2)
