-- Rules 1 and 2 come first; past them the book's slots are the used ones and the free ones behind.
use Rattle.std.proofs.Common.{rules}
use Rattle.std.specs.Prelude.{◌≡◌, Err}
use Rattle.laws.specs.Kit.{◌∙◌, ap, arith, sym}
use Rattle.laws.specs.Bytes.{part}
use Rattle.paper.specs.Layout.{sender}
use Rattle.paper.specs.Book.{day_block, slot_of}
use Rattle.facts.specs.Sound.{sound_says}
use Rattle.judge.proofs.Laws.Order.{gives_err, gives_ok, kept_by}
use Rattle.judge.proofs.Laws.Whole.{free_count, judged_by_lem, malformed, unsound, kept_sound, taken, handed_on}
use Rattle.judge.proofs.judge_book.Goals as goal

pub returns-in_err-broken : goal.returns-in_err-broken
returns-in_err-broken c =
    let e : c.from_residual.result ≡ Err c.in_err-broken.field-0.0 = search rules in
    record { verdict = unsound _ _ c.sound.ensures c.in_err-broken.ensures.gives e; handed = rw e tt }

pub returns-in_err-broken-2 : goal.returns-in_err-broken-2
returns-in_err-broken-2 c =
    let e : c.from_residual-in_err-broken-2.result ≡ Err c.in_err-broken-2.field-0.0 = search rules in
    record { verdict = malformed _ _ (kept_sound _ c.sound.ensures c.in_ok-broken.ensures.gives) c.rule_2.ensures c.in_err-broken-2.ensures.gives e; handed = rw e tt }

pub overflow_sub-standing : goal.overflow_sub-standing
overflow_sub-standing c = omega (arith, (sound_says _ (kept_sound _ c.sound.ensures c.in_ok-broken.ensures.gives)).least)

pub overflow_sub-standing-2 : goal.overflow_sub-standing-2
overflow_sub-standing-2 c = omega (arith, c.used_part-us.ensures.1)

pub judge_from-requires : goal.judge_from-requires
judge_from-requires c = (
  c.slot_of-slot.ensures ∙ ap (slot_of _) (c.sender.ensures ∙ ap sender c.head_of.ensures),
  taken _ _ (kept_sound _ c.sound.ensures c.in_ok-broken.ensures.gives) (sym c.rule_2.ensures ∙ kept_by 1 0 0 c.in_ok-broken-2.ensures.gives) c.used_part-us.ensures.0,
  c.requires.0,
  c.requires.1,
)

pub returns-in_err-judge_from : goal.returns-in_err-judge_from
unfolding day_block part
returns-in_err-judge_from c =
    let e : c.from_residual-in_err-judge_from.result ≡ Err c.in_err-judge_from.field-0.0 = search rules in
    let right = kept_sound _ c.sound.ensures c.in_ok-broken.ensures.gives in
    record {
      verdict = judged_by_lem _ _ right (sym c.rule_2.ensures ∙ kept_by 1 0 0 c.in_ok-broken-2.ensures.gives) c.part_of-day.ensures c.used_part-us.ensures.0 (free_count _ _ c.used_part-us.ensures.0 right) (gives_err c.in_err-judge_from.ensures.0 e);
      handed = rw e tt;
    }

pub returns : goal.returns
unfolding day_block part
returns c =
    let right = kept_sound _ c.sound.ensures c.in_ok-broken.ensures.gives in
    record {
      verdict = judged_by_lem _ _ right (sym c.rule_2.ensures ∙ kept_by 1 0 0 c.in_ok-broken-2.ensures.gives) c.part_of-day.ensures c.used_part-us.ensures.0 (free_count _ _ c.used_part-us.ensures.0 right) (gives_ok c.in_ok-judge_from.ensures.0);
      handed = handed_on _ _ c.used_part-us.result.now c.used_part-us.ensures.0 (c.slot_of-slot.ensures ∙ ap (slot_of _) (c.sender.ensures ∙ ap sender c.head_of.ensures)) c.in_ok-judge_from.ensures.1.0 c.in_ok-judge_from.ensures.1.1;
    }
