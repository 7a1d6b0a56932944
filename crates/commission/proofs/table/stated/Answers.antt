-- The code's `&` and `|` are the definition's; a command has a number above 0.
use Rattle.std.specs.Prelude.{◌≡◌, Option, None, Some}
use Rattle.std.specs.Option.{is_some}
use Rattle.laws.specs.Kit.{◌∙◌, ◌and◌, ◌or◌, less, refl}
use Rattle.paper.specs.Listing.{text}
use Rattle.desk_text.specs.Commands.{number_of}
use Rattle.desk_text.specs.declared.commands.Command.{Command}
use Rattle.desk_text.specs.declared.commands.Command.TheVariants.{Open, Clock, Submit, Mark, Block, Final, Plain, List, Message, Eic, Kw, Commission, Convert, Right, Settle}
use Rattle.cases_site.specs.Site.{stated}
use Rattle.commission.proofs.table.stated.Goals as goal

named : (command : Option Command) → is_some command ≡ less 0 (number_of command)
unfolding less number_of
named None = refl
named (Some Open) = refl
named (Some Clock) = refl
named (Some Submit) = refl
named (Some Mark) = refl
named (Some Block) = refl
named (Some Final) = refl
named (Some Plain) = refl
named (Some List) = refl
named (Some Message) = refl
named (Some Eic) = refl
named (Some Kw) = refl
named (Some Commission) = refl
named (Some Convert) = refl
named (Some Right) = refl
named (Some Settle) = refl

pub returns : goal.returns
unfolding stated ◌and◌ ◌or◌ text
returns c = rw (c.same.ensures, c.is_some.ensures ∙ named c.args.command) refl
