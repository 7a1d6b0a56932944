-- Rule 17 is judged only past rule 16.
use Rattle.std.proofs.Common.{rules}
use Rattle.laws.specs.Kit.{◌∙◌, refl, sym}
use Rattle.laws.specs.Cut.Laws.{cut_length}
use Rattle.paper.specs.Rules.{last_verdict}
use Rattle.judge.specs.Order.{last_verdict_of}
use Rattle.judge.proofs.Laws.Order.{gives_by, gives_hit, gives_pass}
use Rattle.judge.proofs.Laws.Places.{rule_16_found, rule_17_found, sizes}
use Rattle.judge.proofs.last_verdict.Goals as goal

pub rule_16-requires : goal.rule_16-requires
rule_16-requires c = (sizes _ _ refl c.requires.0).0

pub returns-in_err-broken : goal.returns-in_err-broken
unfolding last_verdict_of last_verdict
returns-in_err-broken c = gives_hit _ (gives_by 15 _ _ c.in_err-broken.ensures.gives (c.rule_16.ensures ∙ rule_16_found _ _ _ c.requires.0 _ c.requires.2)) (search rules)

pub rule_17-r17-requires : goal.rule_17-r17-requires
rule_17-r17-requires c = ((sizes _ _ refl c.requires.0).1, c.requires.1.room)

pub returns : goal.returns
unfolding last_verdict_of last_verdict
returns c =
    gives_pass (gives_by 15 _ _ c.in_ok-broken.ensures.gives (c.rule_16.ensures ∙ rule_16_found _ _ _ c.requires.0 _ c.requires.2))
    (gives_by 16 _ _ c.broken-2.ensures.gives
    (rw c.numbered-known.ensures at (c.rule_17-r17.ensures ∙ rule_17_found _ _ _ c.requires.0 _ _ _ _ (sym (cut_length 512 c.args.series.now)) c.requires.1)))
