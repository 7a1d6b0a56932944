-- The phases put together are what the definition says; each part of the slots that is lent comes back as its phase leaves it.
use Rattle.std.specs.Prelude.{◌≡◌, ◌++◌, ◌*◌, ◌≤◌}
use Rattle.laws.specs.Kit.{arith, ◌∙◌, length, take, drop, length-take-le}
use Rattle.laws.specs.Cut.Laws.{cut_length}
use Rattle.accept.proofs.Laws.Parts.{back_length, used_fits, series_short, blocks_room, renew_numbers, remark_housed, looks_told, into_is}
use Rattle.accept.proofs.accept_into.Goals as goal

pub overflow_mul-used_end : goal.overflow_mul-used_end
overflow_mul-used_end c = omega (arith, (used_fits _ _ c.args.slots.now _ c.args.series.now c.requires.0 _ _ _ _ c.requires.1).1)

pub slot_for-slot-requires : goal.slot_for-slot-requires
slot_for-slot-requires c = (used_fits _ _ c.args.slots.now _ c.args.series.now c.requires.0 _ _ _ _ c.requires.1).1

pub kept_sender-kept-requires : goal.kept_sender-kept-requires
kept_sender-kept-requires c =
    let s = series_short _ _ c.args.slots.now _ c.args.series.now c.requires.0 _ _ _ _ c.requires.1 in
    (c.requires.0.head_whole, omega (arith, s))

pub add_blocks-next-requires : goal.add_blocks-next-requires
add_blocks-next-requires c = (
  blocks_room _ _ c.args.slots.now _ c.args.series.now c.requires.0 _ _ _ _ c.requires.1 _ c.slot_for-slot.ensures _ c.kept_sender-kept.ensures,
  series_short _ _ c.args.slots.now _ c.args.series.now c.requires.0 _ _ _ _ c.requires.1,
)

pub slice_bounds-renew_all-end : goal.slice_bounds-renew_all-end
slice_bounds-renew_all-end c =
    omega (arith, c.add_blocks-next.auto.slots, (used_fits _ _ c.args.slots.now _ c.args.series.now c.requires.0 _ _ _ _ c.requires.1).0)

pub renew_all-requires : goal.renew_all-requires
renew_all-requires c =
    let h : 512 * c.args.standing.used ≤ length c.add_blocks-next.new.slots = omega (arith, c.add_blocks-next.auto.slots, (used_fits _ _ c.args.slots.now _ c.args.series.now c.requires.0 _ _ _ _ c.requires.1).0) in
    let first : length (take (512 * c.args.standing.used) c.add_blocks-next.new.slots) ≡ 512 * c.args.standing.used = length-take-le (512 * c.args.standing.used) c.add_blocks-next.new.slots h in (
      omega (arith, first, (used_fits _ _ c.args.slots.now _ c.args.series.now c.requires.0 _ _ _ _ c.requires.1).1),
      renew_numbers _ _ c.args.slots.now _ c.args.series.now c.requires.0 _ _ _ _ c.requires.1 _ c.slot_for-slot.ensures _ c.kept_sender-kept.ensures c.add_blocks-next.new.slots c.add_blocks-next.auto.slots _ c.add_blocks-next.ensures.laid,
    )

pub overflow_mul-end : goal.overflow_mul-end
overflow_mul-end c =
    omega (arith, c.add_blocks-next.ensures.fits, c.requires.0.few, cut_length 512 c.args.slots.now)

pub slice_bounds-remark_all-end : goal.slice_bounds-remark_all-end
slice_bounds-remark_all-end c =
    let h : 512 * c.args.standing.used ≤ length c.add_blocks-next.new.slots = omega (arith, c.add_blocks-next.auto.slots, (used_fits _ _ c.args.slots.now _ c.args.series.now c.requires.0 _ _ _ _ c.requires.1).0) in
    omega (arith, c.add_blocks-next.auto.slots, c.add_blocks-next.ensures.fits, back_length c.renew_all.new.us c.add_blocks-next.new.slots (512 * c.args.standing.used) h c.renew_all.auto.us)

pub remark_all-requires : goal.remark_all-requires
remark_all-requires c =
    let h : 512 * c.args.standing.used ≤ length c.add_blocks-next.new.slots = omega (arith, c.add_blocks-next.auto.slots, (used_fits _ _ c.args.slots.now _ c.args.series.now c.requires.0 _ _ _ _ c.requires.1).0) in
    let first : length (take (512 * c.args.standing.used) c.add_blocks-next.new.slots) ≡ 512 * c.args.standing.used = length-take-le (512 * c.args.standing.used) c.add_blocks-next.new.slots h in
    let back = back_length c.renew_all.new.us c.add_blocks-next.new.slots (512 * c.args.standing.used) h c.renew_all.auto.us in
    let m : 512 * c.add_blocks-next.result ≤ length (c.renew_all.new.us ++ drop (512 * c.args.standing.used) c.add_blocks-next.new.slots) = omega (arith, c.add_blocks-next.auto.slots, c.add_blocks-next.ensures.fits, back) in
    let whole : length (take (512 * c.add_blocks-next.result) (c.renew_all.new.us ++ drop (512 * c.args.standing.used) c.add_blocks-next.new.slots)) ≡ 512 * c.add_blocks-next.result = length-take-le (512 * c.add_blocks-next.result) (c.renew_all.new.us ++ drop (512 * c.args.standing.used) c.add_blocks-next.new.slots) m in (
      c.requires.0.small,
      omega (arith, whole, c.add_blocks-next.ensures.fits, c.requires.0.few, cut_length 512 c.args.slots.now),
      remark_housed _ _ c.args.slots.now _ c.args.series.now c.requires.0 _ _ _ _ c.requires.1 _ c.slot_for-slot.ensures _ c.kept_sender-kept.ensures c.add_blocks-next.new.slots c.add_blocks-next.auto.slots _ c.add_blocks-next.ensures.laid
          c.renew_all.new.us (c.renew_all.auto.us ∙ first) c.renew_all.ensures,
    )

pub returns : goal.returns
returns c =
    let h : 512 * c.args.standing.used ≤ length c.add_blocks-next.new.slots = omega (arith, c.add_blocks-next.auto.slots, (used_fits _ _ c.args.slots.now _ c.args.series.now c.requires.0 _ _ _ _ c.requires.1).0) in
    let first : length (take (512 * c.args.standing.used) c.add_blocks-next.new.slots) ≡ 512 * c.args.standing.used = length-take-le (512 * c.args.standing.used) c.add_blocks-next.new.slots h in
    let back = back_length c.renew_all.new.us c.add_blocks-next.new.slots (512 * c.args.standing.used) h c.renew_all.auto.us in
    let m : 512 * c.add_blocks-next.result ≤ length (c.renew_all.new.us ++ drop (512 * c.args.standing.used) c.add_blocks-next.new.slots) = omega (arith, c.add_blocks-next.auto.slots, c.add_blocks-next.ensures.fits, back) in
    let whole : length (take (512 * c.add_blocks-next.result) (c.renew_all.new.us ++ drop (512 * c.args.standing.used) c.add_blocks-next.new.slots)) ≡ 512 * c.add_blocks-next.result = length-take-le (512 * c.add_blocks-next.result) (c.renew_all.new.us ++ drop (512 * c.args.standing.used) c.add_blocks-next.new.slots) m in (
      into_is _ _ c.args.slots.now _ c.args.series.now c.requires.0 _ _ _ _ c.requires.1 _ c.slot_for-slot.ensures _ c.kept_sender-kept.ensures c.add_blocks-next.new.slots c.add_blocks-next.auto.slots _ c.add_blocks-next.ensures.laid
          c.renew_all.new.us (c.renew_all.auto.us ∙ first) c.renew_all.ensures c.remark_all.new.us (c.remark_all.auto.us ∙ whole) c.remark_all.ensures.0,
      looks_told _ _ c.args.slots.now _ c.args.series.now c.requires.0 _ _ _ _ c.requires.1 _ c.slot_for-slot.ensures _ c.kept_sender-kept.ensures c.add_blocks-next.new.slots c.add_blocks-next.auto.slots _ c.add_blocks-next.ensures.laid
          c.renew_all.new.us (c.renew_all.auto.us ∙ first) c.renew_all.ensures c.remark_all.ensures.1,
    )
