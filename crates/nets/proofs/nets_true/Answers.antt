-- No sender passes; a sender passes if its nets have the bytes of the sums of its own series.
use Rattle.laws.specs.Kit.{refl, ap, ◌∙◌, ◌or◌, neg}
use Rattle.paper.specs.Layout.{nets}
use Rattle.paper.specs.PlainRun.{nets_true}
use Rattle.nets.proofs.Laws.Words.{nets_with_entries}
use Rattle.laws.specs.Kit.{sym}
use Rattle.nets.proofs.nets_true.Goals as goal

pub returns-then-not-is_sender : goal.returns-then-not-is_sender
unfolding nets_true ◌or◌ neg
returns-then-not-is_sender c = rw (sym c.is_sender.ensures ∙ c.if-not-is_sender.true)

pub returns : goal.returns
unfolding nets_true ◌or◌ neg
returns c =
    let due = c.nets-2.ensures ∙ ap nets c.write_entries.ensures ∙ nets_with_entries _ _ refl ∙ c.own_nets.ensures in
    rw ((sym c.is_sender.ensures ∙ c.if-not-is_sender.false), ← c.nets.ensures, ← due) c.same.ensures
