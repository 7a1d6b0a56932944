-- The numbers by which an entering is answered.
use Rattle.std.specs.Prelude.{ℕ, Result, Ok, Err}
use Rattle.entering.specs.declared.Refusal.{Refusal}
use Rattle.entering.specs.declared.Refusal.TheVariants.{NotSound, Unfit, Full}

abbrev pub refusal_number : Refusal → ℕ
refusal_number NotSound = 1
refusal_number Unfit = 40
refusal_number Full = 17

-- 0 where there is a place
abbrev pub answer_number : Result ℕ Refusal → ℕ
answer_number (Ok at) = 0
answer_number (Err refusal) = refusal_number refusal
