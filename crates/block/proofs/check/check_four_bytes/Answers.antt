-- Four steps from a check give the check and the bytes times powers of 31, and each power is 31 times the one before.
use Rattle.std.specs.Prelude.{◌+◌, ◌*◌}
use Rattle.laws.specs.Kit.{refl, sym, ◌∙◌}
use Rattle.block.proofs.Laws.Steps.{step, stepped, more, summed, four_steps}
use Rattle.block.proofs.check.check_four_bytes.Goals as goal

pub returns : goal.returns
returns c = let a = c.args in
    summed (923521 * a.c) (29791 * a.w) (961 * a.x) (31 * a.y + a.z)
    (more 29791 a.c (more 961 a.c (more 31 a.c c.thirty_one_times.ensures c.thirty_one_times-2.ensures) c.thirty_one_times-3.ensures) c.thirty_one_times-four.ensures)
    (more 961 a.w (more 31 a.w c.thirty_one_times-4.ensures c.thirty_one_times-5.ensures) c.thirty_one_times-three.ensures)
    (more 31 a.x c.thirty_one_times-6.ensures c.thirty_one_times-two.ensures)
    (stepped a.y a.z c.thirty_one_times-7.ensures refl ∙ step a.y a.z)
    refl refl refl
    ∙ sym (four_steps a.c a.w a.x a.y a.z)
