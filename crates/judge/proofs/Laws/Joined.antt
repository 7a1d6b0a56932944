-- The verdict past rules 1 and 2, part by part: the sender's stored blocks are found by its slot among the used slots.
use Rattle.std.specs.Prelude.{◌≡◌, Result, Ok, Err, OnOk}
use Rattle.laws.specs.Kit.{sym, List, ℕ}
use Rattle.paper.specs.declared.Verdict.{Verdict}
use Rattle.paper.specs.Layout.{Bytes, Block, sender}
use Rattle.paper.specs.Book.{numbered, slot_of, own_sender, own_series}
use Rattle.paper.specs.Message.{head_of, series_of}
use Rattle.paper.specs.Rules.{◌then◌, head_verdict, judge}
use Rattle.judge.specs.Order.{Gives, each_series_of, last_verdict_of, judged_by}
use Rattle.judge.proofs.Laws.Order.{gives_hit, gives_pass}

module _ (d : Block) (us : List Block) (slot free : ℕ) (m : Bytes) (q : slot ≡ slot_of us (sender (head_of m))) where
  abbrev head : Verdict
  head = head_verdict d (numbered us slot) (head_of m)

  abbrev last : Verdict
  last = last_verdict_of us slot free (series_of m)

  in_order : (head then each_series_of d us slot m then last) ≡ judged_by d us free m
  unfolding judged_by judge each_series_of last_verdict_of own_sender own_series
  in_order = rw q

  pub judged_head : {r : Result (Unit {0}) Verdict} {v : Verdict} → Gives {T = Unit {0}} (Err v) head → r ≡ Err v → Gives r (judged_by d us free m)
  judged_head a e = rw (sym in_order) (gives_hit _ a e)

  module _ {u : Unit {0}} (a : Gives (Ok u) head) where
    pub judged_series : {r : Result (Unit {0}) Verdict} {v : Verdict} → Gives {T = Unit {0}} (Err v) (each_series_of d us slot m) → r ≡ Err v → Gives r (judged_by d us free m)
    judged_series b e = rw (sym in_order) (gives_pass a (gives_hit _ b e))

    pub judged_last : {r : Result (Unit {0}) Verdict} {u : Unit {0}} → Gives (Ok u) (each_series_of d us slot m) → Gives r last → Gives r (judged_by d us free m)
    judged_last b f = rw (sym in_order) (gives_pass a (gives_pass b f))

-- what is so anyway
pub if_ok_both : {T E : Type 0} (r : Result T E) {A B : Type 0} → A → B → OnOk r (A × B)
if_ok_both (Ok x) a b = (a, b)
if_ok_both (Err e) a b = tt
