-- The bytes of a number are its remainders by 256, set one after the other.
use Rattle.std.specs.Prelude.{◌≡◌, ◌/◌}
use Rattle.laws.specs.Kit.{arith, refl}
use Rattle.laws.specs.Bytes.{written, little}
use Rattle.block.proofs.numbers.write_first_4.Goals as goal

pub returns : goal.returns
unfolding written little
returns c =
    let x = c.args.x in
    let third : x / 65536 ≡ x / 256 / 256 = omega arith in
    let fourth : x / 16777216 ≡ x / 256 / 256 / 256 = omega arith in
    simp (c.put_byte-4.ensures, c.put_byte-3.ensures, c.put_byte-2.ensures, c.put_byte.ensures, c.to_le_bytes-bytes.ensures) (rw (third, fourth) refl)
