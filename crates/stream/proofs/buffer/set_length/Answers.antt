-- A length that the buffer has room for is told, and the bytes gained are cleared; any other leaves the buffer as it was.
use Rattle.laws.specs.Kit.{refl, upto_true, upto_false}
use Rattle.stream.specs.Buffer.{length_numbers, length_after}
use Rattle.stream.proofs.buffer.set_length.Goals as goal

pub returns-then-buffer-new : goal.returns-then-buffer-new
unfolding length_numbers length_after
returns-then-buffer-new c = rw (upto_false _ _ c.if-buffer-new.true) (refl, refl)

pub returns : goal.returns
unfolding length_numbers length_after
returns c =
    rw (upto_true _ _ c.if-buffer-new.false) (c.«of».ensures, c.clear.ensures)
