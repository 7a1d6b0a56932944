-- Each arm calls what the definition names for its command's number; no other command has one that it names.
use Rattle.std.specs.Prelude.{◌≡◌, Option, Some}
use Rattle.laws.specs.Kit.{ap, ◌∙◌, refl, inl, inr, is}
use Rattle.paper.specs.declared.QuantityRead.{QuantityRead}
use Rattle.desk_text.specs.declared.commands.Command.{Command}
use Rattle.desk_text.specs.Commands.{number_of}
use Rattle.cases_site.specs.Site.{came, book_after}
use Rattle.commission.proofs.table.came.Goals as goal

number : {command : Option Command} {d e : Command} → command ≡ Some d → d ≡ e → number_of command ≡ number_of (Some e)
number h k = ap number_of (h ∙ ap Some k)

pub returns-in-Open : goal.returns-in-Open
unfolding came book_after number_of is
returns-in-Open c = rw (number c.in-Some.is c.in-Open.is) c.opened.ensures

pub returns-in-Clock : goal.returns-in-Clock
unfolding came book_after number_of is
returns-in-Clock c = rw (number c.in-Some.is c.in-Clock.is) c.clock.ensures

pub returns-in-Submit : goal.returns-in-Submit
unfolding came book_after number_of is
returns-in-Submit c = rw (number c.in-Some.is c.in-Submit.is) c.sold.ensures

pub returns-in-Block : goal.returns-in-Block
unfolding came book_after number_of is
returns-in-Block c = rw (number c.in-Some.is c.in-Block.is) (c.kept_version.ensures, refl)

pub returns-in-Final : goal.returns-in-Final
unfolding came book_after number_of is
returns-in-Final c = rw (number c.in-Some.is c.in-Final.is) (c.final_number.ensures, refl)

pub returns-in-Message : goal.returns-in-Message
unfolding came book_after number_of is
returns-in-Message c = rw (number c.in-Some.is c.in-Message.is) c.submitted.ensures

pub returns-in-Eic : goal.returns-in-Eic
unfolding came book_after number_of is
returns-in-Eic c = rw (number c.in-Some.is c.in-Eic.is) (c.eic_number.ensures, refl)

pub returns-in-Kw : goal.returns-in-Kw
unfolding came book_after number_of is
returns-in-Kw c = rw (number c.in-Some.is c.in-Kw.is) (ap (λ (q : QuantityRead). q.number) c.quantity_read.ensures, refl)

pub returns-in-Convert : goal.returns-in-Convert
unfolding came book_after number_of is
returns-in-Convert c = rw (number c.in-Some.is c.in-Convert.is) c.convert.ensures

pub returns-in-Right : goal.returns-in-Right
unfolding came book_after number_of is
returns-in-Right c = rw (number c.in-Some.is c.in-Right.is) c.entered.ensures

pub returns-in_default : goal.returns-in_default
unfolding came book_after number_of is
returns-in_default c = rw c.in_default.is (c.check.ensures, refl)

pub returns-in-Mark : goal.returns-in-Mark
unfolding came book_after number_of is
returns-in-Mark c = elim c.in-Mark.is [
  | inl h ↦ rw (number c.in-Some.is h) (c.check-in-Mark.ensures, refl)
  | inr (inl h) ↦ rw (number c.in-Some.is h) (c.check-in-Mark.ensures, refl)
  | inr (inr (inl h)) ↦ rw (number c.in-Some.is h) (c.check-in-Mark.ensures, refl)
  | inr (inr (inr (inl h))) ↦ rw (number c.in-Some.is h) (c.check-in-Mark.ensures, refl)
  | inr (inr (inr (inr h))) ↦ rw (number c.in-Some.is h) (c.check-in-Mark.ensures, refl)
]
