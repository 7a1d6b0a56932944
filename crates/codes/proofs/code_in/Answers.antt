-- The table holds each number's code, and past its end no number has one.
use Rattle.laws.specs.Table.Laws.{table_at}
use Rattle.paper.specs.Codes.{reason_code}
use Rattle.codes.proofs.Laws.{code_none_above}
use Rattle.std.proofs.Common.{rules}
use Rattle.codes.proofs.code_in.Goals as goal

pub returns-then-number-gt32 : goal.returns-then-number-gt32
returns-then-number-gt32 c = code_none_above c.args.number c.if-number-gt32.true

pub returns : goal.returns
returns c = table_at reason_code 33 c.args.codes.now c.requires c.args.number (search rules)
