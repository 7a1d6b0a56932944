-- Which series have the same id or the same key, and on which right each is sent: found once, handed down to the rules and on to the acceptance.
use Rattle.std.specs.Prelude.{◌≡◌, true, List, ℕ, ◌≤◌, length, Result, IfOk}
use Rattle.laws.specs.Lists.{apart, All}
use Rattle.paper.specs.declared.Verdict.{Verdict}
use Rattle.paper.specs.Layout.{Bytes, Block, sender}
use Rattle.paper.specs.Book.{used, is_series_of}
use Rattle.paper.specs.Message.{head_of, series_of}
use Rattle.paper.specs.Sound.{same_series}
use Rattle.paper.specs.Rules.{verdict}
use Rattle.index.specs.declared.By.TheVariants.{Id, Key}
use Rattle.index.specs.Linked.{Found}
use Rattle.index.specs.Rights.{FoundRights}
use Rattle.index.specs.Handed.{Handed}
use Rattle.judge.specs.declared.series.Searched.{Searched}
use Rattle.judge.specs.declared.Judged.{Judged}
use Rattle.judge.specs.Order.{Gives}

-- us are the used slots of a sound book, series those of a message that rule 2 lets pass
pub record Taken (us series : List Block) : Type 0 where
  pub few : length us ≤ 1000
  pub short : length series ≤ 200
  pub apart : apart same_series us ≡ true
  pub kinds : All (λ y. is_series_of 0 y ≡ true) series

-- of each series that the sender e sends: the message's first with its id, and with its key, the sender's stored ones, and the right
pub record Looked (us : List Block) (e : Bytes) (series : List Block) (slot : ℕ) (first_ids first_keys stored_ids rights places : List ℕ) : Type 0 where
  pub first_ids_found : Found 0 Id series series first_ids
  pub first_keys_found : Found 0 Key series series first_keys
  pub stored_ids_found : Found slot Id us series stored_ids
  pub stored_keys : Found slot Key us series places
  pub rights_held : FoundRights e us series rights

abbrev pub LookedIn : (us : List Block) (message : Bytes) (found : Searched) (places : List ℕ) → Type 0
LookedIn us message found places =
    Looked us (sender (head_of message)) (series_of message) found.slot found.first_ids found.first_keys found.stored_ids found.rights places

-- the verdict, and what is handed on to the acceptance, if there is one
pub record JudgedBook (r : Result Judged Verdict) (book message : Bytes) (places numbers : List ℕ) : Type 0 where
  pub verdict : Gives r (verdict book message)
  pub handed : IfOk r (λ j. Handed (used book) (head_of message) (series_of message) j.used j.slot.0 places numbers)
