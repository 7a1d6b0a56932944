use Rattle.std.specs.Prelude.{◌≡◌, ◌≤◌, ◌+◌, ◌*◌, ◌/◌}
use Rattle.laws.specs.Kit.{length, drop}
use Rattle.laws.specs.Bytes.{written}
use Rattle.laws.specs.Cut.{cut}
use Rattle.paper.specs.Listing.{series_lines}
use Rattle.listing_text.specs.Text.{Appended}
use Rattle.listing_text.proofs.put_lines.Given as goal

abbrev pub invariant-loop-i : goal.invariant-loop-i
invariant-loop-i l = (l.i ≤ length l.us / 512) × (l.place ≤ 47 + 88 * l.i) × (length l.out ≡ length l.initial.out) × Appended l.place (series_lines (cut 512 l.us) (l.i + 1) (drop l.i (cut 512 l.us))) l.out (l.at + length (series_lines (cut 512 l.us) 1 (cut 512 l.us))) (written l.at (series_lines (cut 512 l.us) 1 (cut 512 l.us)) l.initial.out)
