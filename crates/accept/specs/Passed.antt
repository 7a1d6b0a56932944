-- A verdict of 0 gives what the code of an acceptance relies on: rules 1 and 2 give lengths, kinds and slots in range, rules 9 and 10 that every trade is of the
-- area, rule 16 that no stored series is absent, rule 17 that the new blocks have room.
use Rattle.std.specs.Prelude.{◌≡◌, true, ◌/◌, ◌≤◌, length}
use Rattle.std.proofs.Common.{arith}
use Rattle.laws.specs.Lists.Each.{all_imply}
use Rattle.paper.specs.Layout.{Bytes, sender, pair}
use Rattle.paper.specs.Book.{day_block, used, is_external, own_series}
use Rattle.paper.specs.Sound.{parties_of}
use Rattle.paper.specs.Message.{head_of, series_of}
use Rattle.paper.specs.Rules.{number_of, verdict}
use Rattle.facts.specs.Book.{slots_length}
use Rattle.facts.specs.Sound.{day_n}
use Rattle.facts.specs.Verdict.{Line, head_length, series_lengths, series_some_few, accepts}
use Rattle.facts.specs.Trades.{used_trades, sent_trades, sent_trades_apart}
use Rattle.facts.specs.Renewal.{placed_fits}
use Rattle.facts.specs.Senders.{owned, own_series_lem}
use Rattle.accept.specs.Fits.{Fits}

pub passed_fits : (book message : Bytes) → number_of (verdict book message) ≡ 0 → Fits book message
passed_fits book message e =
    let a = accepts book message e in
    let s = a.was in
    let m = a.right in
    let h : 2 ≤ length book / 512 = s.least in
    let k : length book / 512 ≤ 1001 = s.most in
    record {
      whole = s.whole;
      least = omega arith;
      placing = record {
        small = day_n (day_block book) s.day;
        few = omega (arith, slots_length book);
        room = placed_fits book message a;
        head_whole = head_length message m;
        head_kind = m.head_kind;
        series_few = (series_some_few message m).1;
        series_whole = series_lengths message;
        series_kind = m.series_kinds;
        series_slot = m.series_slots;
        series_parties = all_imply (Line (day_block book) (own_series (used book) (sender (head_of message))) (head_of message)) (λ y. parties_of (is_external y) (sender (head_of message)) (pair y) ≡ true) (λ y l. l.parties) (series_of message) a.each;
        used_trades = used_trades book s;
        sent_trades = sent_trades book message a;
        trades_apart = sent_trades_apart book message a;
        owners = owned book s;
        own = own_series_lem (used book) (owned book s) (sender (head_of message));
        present = a.present;
      };
    }
