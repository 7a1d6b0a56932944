-- As many bytes as there are, or fewer, can be taken.
use Rattle.std.specs.Prelude.{◌≤◌}
use Rattle.laws.specs.Kit.{arith, sym, length, length-take-le}
use Rattle.field.proofs.within.Goals as goal

pub returns : goal.returns
returns c =
    let least : c.min.result ≤ length c.args.buffer.now = omega (arith, c.min.ensures) in
    (c.min.ensures, least, sym (length-take-le _ c.args.buffer.now least))
