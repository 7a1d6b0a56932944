use Rattle.std.specs.Prelude.{◌+◌, ◌/◌, ◌≡◌, ◌≤◌}
use Rattle.laws.specs.Kit.{[], drop, length, take}
use Rattle.laws.specs.Cut.{cut}
use Rattle.laws.specs.Lists.{keep}
use Rattle.paper.specs.Layout.{sender}
use Rattle.paper.specs.Book.{is_series_of, own_rights}
use Rattle.paper.specs.Rules.{each_series}
use Rattle.judge.specs.Sums.{Kept}
use Rattle.judge.proofs.series.each_series.Given as goal

abbrev pub invariant-loop-i : goal.invariant-loop-i
invariant-loop-i l = (length l.series / 512 ≤ 200)
    × (each_series l.book.day.now (keep (is_series_of l.found.slot) (cut 512 l.book.us.now)) (own_rights (cut 512 l.book.us.now) (sender l.h)) l.h [] 1 (cut 512 l.series) ≡ each_series l.book.day.now (keep (is_series_of l.found.slot) (cut 512 l.book.us.now)) (own_rights (cut 512 l.book.us.now) (sender l.h)) l.h (take l.i (cut 512 l.series)) (l.i + 1) (drop l.i (cut 512 l.series)))
    × Kept l.found.rights (cut 512 l.series) l.on l.i l.sums
