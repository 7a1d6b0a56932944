-- The three tests of the length are the definition's.
use Rattle.std.specs.Prelude.{◌≡◌, ◌/◌, ◌%◌, length}
use Rattle.laws.specs.Kit.{arith, sym, ◌and◌, is, upto, and_assoc}
use Rattle.paper.specs.Ranges.{whole_blocks}
use Rattle.sound_blocks.proofs.ranges.whole_blocks.Goals as goal

pub returns : goal.returns
unfolding whole_blocks ◌and◌ is upto
returns c =
    let m = length c.args.b.now % 512 in
    let n = length c.args.b.now / 512 in
    let e : c.contains.result ≡ (upto c.args.least n and upto n c.args.most) =
    rw (c.contains.ensures.value, c.new.ensures.start, c.new.ensures.end, c.new.ensures.exhausted) (grind arith)
    in
    rw e (sym (and_assoc (is m 0) (upto c.args.least n) (upto n c.args.most)))
