-- Of a number that no tag has no length is lawful: 0, or one behind the last row.
use Rattle.std.specs.Prelude.{◌≡◌, ◌<◌, ◌≤◌, ℕ}
use Rattle.laws.specs.Kit.{arith, split, less, upto, less_yes, less_no, false, get_or-eq_default}
use Rattle.stream.specs.Records.{known, sizes_of, rows, unknown}
use Rattle.stream.proofs.tag.TagTryFromU8.try_from.Goals as goal

behind : (n : ℕ) → 28 ≤ n → known n ≡ false
unfolding known sizes_of rows upto
behind n h = rw (get_or-eq_default rows unknown h)

zero : (n : ℕ) → n ≡ 0 → known n ≡ false
unfolding known sizes_of rows upto
zero n h = rw h

pub returns-in_default : goal.returns-in_default
returns-in_default c =
    split (less c.args.number 28) (λ e. zero _ (let h : c.args.number < 28 = less_yes _ _ e in omega arith)) (λ e. behind _ (less_no _ _ e))
