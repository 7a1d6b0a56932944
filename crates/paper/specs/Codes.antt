-- "The code of each number stands in one fixed table": A53 is 53; 0 where a number has no code.
use Rattle.std.specs.Prelude.{cond, List, [], ◌∷◌, ℕ}
use Rattle.laws.specs.Tests.{◌or◌, is}
use Rattle.paper.specs.declared.Reply.{Reply}

pub record Row : Type 0 where
  pub number : ℕ
  pub code : ℕ

abbrev row : (number : ℕ) (code : ℕ) → Row
row number code = record { number = number; code = code }

-- 0 is the acceptance, 30 and 31 are refusals of quantity text
unfoldable pub table : List Row
table =
    row 0 1
    ∷ row 3 53
    ∷ row 4 78
    ∷ row 5 4
    ∷ row 6 51
    ∷ row 7 55
    ∷ row 8 22
    ∷ row 9 23
    ∷ row 10 62
    ∷ row 11 46
    ∷ row 12 42
    ∷ row 13 49
    ∷ row 14 57
    ∷ row 15 50
    ∷ row 16 52
    ∷ row 18 59
    ∷ row 19 59
    ∷ row 30 42
    ∷ row 31 46
    ∷ []

unfoldable pub code_in : (rows : List Row) (number : ℕ) → ℕ
code_in [] number = 0
code_in (r ∷ rows) number = cond (is r.number number) r.code (code_in rows number)

unfoldable pub reason_code : (number : ℕ) → ℕ
reason_code number = code_in table number

-- A01 beside an acceptance; "Refusals carry A02 beside their code": 0 where there is no code
unfoldable pub status_code : (number : ℕ) → ℕ
status_code number = cond (is number 0) 1 (cond (is (reason_code number) 0) 0 2)

-- the kinds of reply
abbrev pub acknowledgement : ℕ
acknowledgement = 0

abbrev pub uninterpretable_message : ℕ
uninterpretable_message = 1

abbrev pub desk_notice : ℕ
desk_notice = 2

-- "where there is no code the reply is 000's uninterpretable-message mail, or for 1 and 17 a desk notice", and so for 40, of which no sender knows
unfoldable pub reply_kind : (number : ℕ) → ℕ
reply_kind number = cond (is number 1 or is number 17 or is number 40) desk_notice (cond (is (reason_code number) 0) uninterpretable_message acknowledgement)

-- how a submission with this answer is replied to
unfoldable pub reply_to : (number : ℕ) → Reply
reply_to number = record { kind = reply_kind number; status = status_code number; code = reason_code number }
