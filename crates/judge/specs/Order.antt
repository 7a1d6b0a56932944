-- The order of checks past rules 1 and 2, by what is found before they are judged.
use Rattle.std.specs.Prelude.{◌≡◌, Bool, List, [], ℕ, ◌+◌, get_or, Result, Ok, Err, IfErr}
use Rattle.laws.specs.Lists.{keep}
use Rattle.paper.specs.declared.Verdict.{Verdict}
use Rattle.paper.specs.Layout.{Bytes, Block, n_of, sender}
use Rattle.paper.specs.Book.{numbered, is_series_of, own_sender, own_series, own_rights}
use Rattle.paper.specs.Message.{head_of, series_of}
use Rattle.paper.specs.Rules.{fine, number_of, ◌then◌, broken, broken_by, over_positions, rule8, wrong_character, rule9, rule10, quantity_verdict, late_verdict, each_series, last_verdict, judge}
use Rattle.rules.specs.ByPlaces.{rule7_by, rule18_by, rule19_by}
use Rattle.judge.specs.declared.series.Told.{Told}

-- what a check has found: Ok where no rule is broken, else Err with the verdict of the first that is
abbrev pub verdict_in : {T : Type 0} → Result T Verdict → Verdict
verdict_in (Ok x) = fine
verdict_in (Err w) = w

-- it is the verdict v, and an Err is a refusal
pub record Gives {T : Type 0} (found : Result T Verdict) (v : Verdict) : Type 0 where
  pub verdict : verdict_in found ≡ v
  pub refusal : IfErr found (λ w. number_of w ≡ 0 → ⊥)

-- rules 7 to 10 on the series y, by whether another has its id or its key
unfoldable pub form_by : (day head : Block) (otherwise : Bool) (number : ℕ) (y : Block) → Verdict
form_by day head otherwise number y =
    broken (rule7_by otherwise y) 7 number 0
    then broken_by (rule8 head y) 8 number (wrong_character y)
    then broken (rule9 day y) 9 number 0
    then broken (rule10 y) 10 number 0

-- rule 19 at position k + 1, by the sums on the right r, those of y among them
unfoldable pub limit_by : (n : ℕ) (r : Block) (sums : List ℕ) (number : ℕ) (y : Block) (k : ℕ) → Verdict
limit_by n r sums number y k = broken (rule19_by n r (get_or sums k 0) y k) 19 number (k + 1)

-- rules 18 and 19, by the place of the right among the used slots us
unfoldable pub right_by : (n : ℕ) (us : List Block) (right : ℕ) (sums : List ℕ) (number : ℕ) (y : Block) → Verdict
right_by n us right sums number y = broken (rule18_by y right) 18 number 0 then over_positions (limit_by n (numbered us right) sums number y)

-- rules 11 to 13, these, 14 and 15, by what was found of y
unfoldable pub values_by : (day head : Block) (us : List Block) (found : Told) (sums : List ℕ) (y : Block) → Verdict
values_by day head us found sums y =
    over_positions (quantity_verdict (n_of day) found.number y)
    then right_by (n_of day) us found.right sums found.number y
    then late_verdict day (numbered us found.place) head found.number y

unfoldable pub series_by : (day head : Block) (us : List Block) (found : Told) (sums : List ℕ) (y : Block) → Verdict
series_by day head us found sums y = form_by day head found.otherwise found.number y then values_by day head us found sums y

-- a message's series in turn, beside those that the sender in a slot has among the used slots us, and beside its rights
unfoldable pub each_series_of : (day : Block) (us : List Block) (slot : ℕ) (message : Bytes) → Verdict
each_series_of day us slot message = each_series day (keep (is_series_of slot) us) (own_rights us (sender (head_of message))) (head_of message) [] 1 (series_of message)

-- rules 16 and 17, beside what the sender in a slot has among the used slots us
unfoldable pub last_verdict_of : (us : List Block) (slot free : ℕ) (series : List Block) → Verdict
last_verdict_of us slot free series = last_verdict (numbered us slot) (keep (is_series_of slot) us) free series

-- the whole, by the used slots us
unfoldable pub judged_by : (day : Block) (us : List Block) (free : ℕ) (message : Bytes) → Verdict
judged_by day us free message =
    judge day (own_sender us (sender (head_of message))) (own_series us (sender (head_of message))) (own_rights us (sender (head_of message))) free (head_of message) (series_of message)
