-- The sums written as entries are the nets, where the sums were 0 before the series were added.
use Rattle.std.specs.Prelude.{◌≡◌, ◌≤◌, ◌<◌, ◌%◌}
use Rattle.laws.specs.Kit.{refl, sym, ap, ◌∙◌, true, List, ℕ, arith, length, get_or, zero, suc, zero-add, is, is_yes}
use Rattle.laws.specs.Lists.{keep}
use Rattle.laws.specs.Lists.Each.{all_imply, every_all, all_get_or}
use Rattle.laws.specs.Bytes.Laws.{part_written_same}
use Rattle.paper.specs.Layout.{Bytes, Block, zeros, nets}
use Rattle.paper.specs.Book.{is_series_of, slot_of, own_series}
use Rattle.paper.specs.Nets.{net_of, nets_to, nets_of}
use Rattle.layout.specs.Written.{entries, with_entries}
use Rattle.layout.proofs.Laws.{entries_length}
use Rattle.nets.specs.Sums.{Raised, shares, share, share_if}
use Rattle.nets.proofs.Laws.Raising.{raised_agree}
use Rattle.nets.proofs.Laws.Nets.{Few, few_keep, net_shares, shares_kept}

zero_at : (z : List ℕ) (k : ℕ) → zeros z ≡ true → get_or z k 0 ≡ 0
unfolding zeros
zero_at z k e = all_get_or (λ y. y ≡ 0) z k 0 refl (all_imply (λ y. is y 0 ≡ true) (λ y. y ≡ 0) (λ y t. is_yes y 0 t) z (every_all _ z e))

module _ (o e : Bytes) (l : List Block) (z v : List ℕ) (f : Few l) (n : zeros z ≡ true) (r : Raised 100 (shares (share o e) l) z v) where
  sum_net : (k : ℕ) → k < 100 → get_or v k 0 % 4294967296 ≡ net_of o e l k
  unfolding Raised
  sum_net k h = r k h ∙ rw (zero_at z k n, zero-add (shares (share o e) l k)) (sym (net_shares o e l k f))

  entries_to : (k : ℕ) → k ≤ 100 → entries v k ≡ nets_to o e l k
  unfolding entries nets_to
  entries_to zero h = refl
  entries_to (suc k) h = rw (entries_to k (omega arith), sum_net k h)

  pub entries_nets : entries v 100 ≡ nets_of o e l
  unfolding nets_of
  entries_nets = entries_to 100 (omega arith)

-- a block's entries, read where they were written
pub nets_with_entries : (v : List ℕ) (b : Block) → length b ≡ 512 → nets (with_entries v b) ≡ entries v 100
unfolding nets with_entries
nets_with_entries v b h = rw (entries_length v 100) at (part_written_same 108 (entries v 100) b (omega (arith, entries_length v 100)))

-- of all series
pub nets_all : (o e : Bytes) (l : List Block) (z v : List ℕ) → Few l → zeros z ≡ true → Raised 100 (shares (share_if (λ x. true) o e) l) z v → entries v 100 ≡ nets_of o e l
unfolding shares share_if
nets_all o e l z v f n r = entries_nets o e l z v f n (raised_agree 100 _ _ z v (λ k. refl) r)

-- of the sender in its slot
pub nets_own : (o e : Bytes) (l : List Block) (slot : ℕ) (z v : List ℕ) → Few l → zeros z ≡ true → slot ≡ slot_of l e → Raised 100 (shares (share_if (is_series_of slot) o e) l) z v
    → entries v 100 ≡ nets_of o e (own_series l e)
unfolding own_series
nets_own o e l slot z v f n q r =
    entries_nets o e (keep (is_series_of slot) l) z v (few_keep (is_series_of slot) l f) n (raised_agree 100 _ _ z v (shares_kept (is_series_of slot) o e l) r)
    ∙ ap (λ j. nets_of o e (keep (is_series_of j) l)) q
