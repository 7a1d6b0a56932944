-- Each kind's table is the definition's.
use Rattle.laws.specs.Kit.{arith, sym, ◌∙◌, ◌and◌, is, less, upto, is_other}
use Rattle.paper.specs.Listing.{text}
use Rattle.message_text.specs.Rows.{field_by}
use Rattle.message_text.specs.MessageText.{field_of, between}
use Rattle.message_text.proofs.Laws.Fields.{field_inside, table_inside, sender_rows, series_rows, right_rows}
use Rattle.message_text.proofs.fill.field_of.Goals as goal

pub returns-in-1 : goal.returns-in-1
unfolding field_of field_by between upto less ◌and◌ is text
returns-in-1 c =
    let e = rw (c.stands.ensures.0, c.stands.ensures.1, c.stands-in-1.ensures.0, c.stands-in-1.ensures.1, c.stands-in-1-2.ensures.0, c.stands-in-1-2.ensures.1, c.stands-in-1-3.ensures.0, c.stands-in-1-3.ensures.1, c.stands-in-1-4.ensures.0, c.stands-in-1-4.ensures.1, c.stands-in-1-5.ensures.0, c.stands-in-1-5.ensures.1) at c.field_in.ensures in
    let q = e ∙ sym (sender_rows c.args.w.now) in
    rw c.in-1.is (q, rw q (field_inside 1 c.args.w.now))

pub returns-in-2 : goal.returns-in-2
unfolding field_of field_by between upto less ◌and◌ is text
returns-in-2 c =
    let e = rw (c.stands-in-2.ensures.0, c.stands-in-2.ensures.1, c.stands-in-2-2.ensures.0, c.stands-in-2-2.ensures.1, c.stands-in-2-3.ensures.0, c.stands-in-2-3.ensures.1, c.stands-in-2-4.ensures.0, c.stands-in-2-4.ensures.1, c.stands-in-2-5.ensures.0, c.stands-in-2-5.ensures.1, c.stands-in-2-6.ensures.0, c.stands-in-2-6.ensures.1, c.stands-in-2-7.ensures.0, c.stands-in-2-7.ensures.1, c.stands-in-2-8.ensures.0, c.stands-in-2-8.ensures.1, c.stands-in-2-9.ensures.0, c.stands-in-2-9.ensures.1) at c.field_in-in-2.ensures in
    let q = e ∙ sym (series_rows c.args.w.now) in
    rw c.in-2.is (q, rw q (field_inside 2 c.args.w.now))

pub returns-in_default : goal.returns-in_default
unfolding field_of field_by between upto less ◌and◌ text
returns-in_default c =
    let e = rw (c.stands-in_default.ensures.0, c.stands-in_default.ensures.1, c.stands-in_default-2.ensures.0, c.stands-in_default-2.ensures.1, c.stands-in_default-3.ensures.0, c.stands-in_default-3.ensures.1, c.stands-in_default-4.ensures.0, c.stands-in_default-4.ensures.1, c.stands-in_default-5.ensures.0, c.stands-in_default-5.ensures.1, c.stands-in_default-6.ensures.0, c.stands-in_default-6.ensures.1) at c.field_in-in_default.ensures in
    let q = e ∙ sym (right_rows c.args.w.now) in
    rw (is_other c.args.kind 1 (λ e. omega arith), is_other c.args.kind 2 (λ e. omega arith)) (q, rw q (table_inside _ c.args.w.now))
