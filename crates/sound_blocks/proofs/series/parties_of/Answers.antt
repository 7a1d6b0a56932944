-- The two parts are the parties, and the tests are the definition's.
use Rattle.std.specs.Prelude.{◌≡◌}
use Rattle.laws.specs.Kit.{arith, refl, length, take, drop, ◌and◌, ◌or◌, neg}
use Rattle.laws.specs.Bytes.{part}
use Rattle.laws.specs.Bytes.Laws.{part_rest}
use Rattle.paper.specs.Layout.{Bytes}
use Rattle.paper.specs.Sound.{parties_of}
use Rattle.sound_blocks.proofs.series.parties_of.Goals as goal

one_party : (p : Bytes) → part 0 16 p ≡ take 16 p
unfolding part
one_party p = refl

other_party : (p : Bytes) → part 16 (length p) p ≡ drop 16 p
other_party p = part_rest 16 (length p) p (omega arith)

pub returns : goal.returns
unfolding parties_of ◌and◌ ◌or◌ neg
returns c = rw (← one_party, ← other_party) (simp (c.same-3.ensures, c.same-2.ensures, c.same.ensures, c.part_of-other.ensures, c.part_of-one.ensures) refl)
