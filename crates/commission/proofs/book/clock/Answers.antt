-- The minute is read as the definition reads it.
use Rattle.std.specs.Prelude.{Option}
use Rattle.std.specs.Option.{unwrap_or}
use Rattle.laws.specs.Kit.{sym, ap, ◌∙◌}
use Rattle.paper.specs.declared.Minute.{Minute}
use Rattle.paper.specs.declared.ClockAnswer.{ClockAnswer}
use Rattle.desk_text.specs.Numbers.{minute_of}
use Rattle.cases_site.specs.Site.{minute_in}
use Rattle.commission.proofs.book.clock.Goals as goal

pub returns : goal.returns
unfolding minute_in
returns c =
    let m = c.unwrap_or.ensures ∙ ap (λ (q : Option Minute). unwrap_or q (minute_of 10080)) c.minute_read.ensures in
    rw (sym (ap (λ (q : Minute). q.0) m)) (ap (λ (a : ClockAnswer). a.number) c.clock.ensures.0, c.clock.ensures.1)
