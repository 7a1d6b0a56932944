-- What is laid in two turns, the sender's block and then the series, is laid in one.
use Rattle.std.specs.Prelude.{◌/◌}
use Rattle.laws.specs.Kit.{arith, length}
use Rattle.laws.specs.Cut.{cut}
use Rattle.laws.specs.Cut.Laws.{cut_length}
use Rattle.accept.specs.Steps.{sender_if_new, added_to}
use Rattle.accept.proofs.Laws.InTurn.{sender_room, series_room, both_laid}
use Rattle.accept.proofs.adding.add_blocks.Goals as goal

pub add_sender-start-requires : goal.add_sender-start-requires
add_sender-start-requires c =
    let r = sender_room c.args.used (cut 512 c.args.slots.now) (sender_if_new c.args.had.0 c.args.kept.now) (added_to c.args.slot.0 c.args.places.now (cut 512 c.args.series.now) (length c.args.series.now / 512)) (omega (arith, c.requires.0, cut_length 512 c.args.slots.now)) in
    omega (arith, r, cut_length 512 c.args.slots.now)

pub add_series-requires : goal.add_series-requires
add_series-requires c =
    let r = series_room c.args.used (cut 512 c.args.slots.now) (sender_if_new c.args.had.0 c.args.kept.now) (added_to c.args.slot.0 c.args.places.now (cut 512 c.args.series.now) (length c.args.series.now / 512)) (omega (arith, c.requires.0, cut_length 512 c.args.slots.now)) c.add_sender-start.ensures in
    (c.requires.1, omega (arith, r, cut_length 512 c.args.slots.now))

pub returns : goal.returns
returns c =
    let l = both_laid c.args.used (cut 512 c.args.slots.now) (sender_if_new c.args.had.0 c.args.kept.now) (added_to c.args.slot.0 c.args.places.now (cut 512 c.args.series.now) (length c.args.series.now / 512)) (omega (arith, c.requires.0, cut_length 512 c.args.slots.now)) c.add_sender-start.ensures c.add_series.ensures in
    record { laid = l; fits = omega (arith, c.requires.0, l.end) }
