-- What is written so far is the bytes of the first k numbers.
use Rattle.std.specs.Prelude.{◌≡◌, ◌<◌}
use Rattle.laws.specs.Kit.{arith, refl, get_or}
use Rattle.layout.specs.Written.{with_entries}
use Rattle.layout.proofs.Laws.{entries_none, entries_more}
use Rattle.layout.proofs.write.write_entries.Goals as goal

pub loop-k-init : goal.loop-k-init
loop-k-init c = (refl, entries_none _ _)

pub loop-k-preserved : goal.loop-k-preserved
loop-k-preserved c =
    let h : get_or c.args.v.now c.loop-k.k 0 < 4294967296 = omega (arith, c.type_inv.v c.loop-k.k) in
    (omega arith, entries_more c.loop-k.k _ _ c.loop-k.invariant.1 h c.write_quantity.ensures)

pub returns : goal.returns
unfolding with_entries
returns c = let e : c.loop-k.k ≡ 100 = omega arith in rw e at c.loop-k.invariant.1
