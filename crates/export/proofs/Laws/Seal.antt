-- One test of the length decides both, the answer and the bytes.
use Rattle.std.specs.Prelude.{◌≡◌}
use Rattle.laws.specs.Base.{sym, true, false, length}
use Rattle.laws.specs.Kit.{is, is_equal, is_other}
use Rattle.paper.specs.Layout.{Bytes}
use Rattle.paper.specs.Check.{sealed}
use Rattle.export.specs.Seal.{is_one_block, sealed_block}

pub seal_refused : (b : Bytes) → (length b ≡ 512 → ⊥) → (false ≡ is_one_block b) × (b ≡ sealed_block b)
unfolding is_one_block sealed_block
seal_refused b h = let t : is (length b) 512 ≡ false = is_other _ _ h in (sym t, rw t)

pub seal_done : (b : Bytes) {c : Bytes} → length b ≡ 512 → c ≡ sealed b → (true ≡ is_one_block b) × (c ≡ sealed_block b)
unfolding is_one_block sealed_block
seal_done b h e = let t : is (length b) 512 ≡ true = is_equal _ _ h in (sym t, rw t e)
