-- A worked case: what is asked of the definitions, and what document 01 says, both as numbers.
use Rattle.std.specs.Prelude.{◌∷◌}
use Prim.Native.String.{String}
use Rattle.laws.specs.Base.{Bool, cond, List, [], ℕ}
use Rattle.laws.specs.Lists.{same}
use Rattle.paper.specs.declared.Verdict.{Verdict}
use Rattle.paper.specs.declared.MarkAnswer.{MarkAnswer}
use Rattle.paper.specs.declared.FinalAnswer.{FinalAnswer}
use Rattle.paper.specs.Layout.{Bytes}
use Rattle.paper.specs.Eic.{eic_sum, eic_number, eic_valid}
use Rattle.paper.specs.Rules.{verdict}
use Rattle.paper.specs.Finals.{final}
use Rattle.paper.specs.Readings.{mark_answer}
use Rattle.paper.specs.QuantityText.{quantity_read}
use Rattle.paper.specs.Listing.{text}

pub record Case : Type 0 where
  pub given : List ℕ
  pub wanted : List ℕ

infix 70 ◌gives◌
abbrev pub ◌gives◌ : List ℕ → List ℕ → Case
a gives b = record { given = a; wanted = b }

-- the cases that give something else than they should
abbrev pub wrong : List Case → List Case
wrong [] = []
wrong (c ∷ cs) = cond (same c.given c.wanted) (wrong cs) (c ∷ wrong cs)

-- f of a list. The list is worked out before f is, and so once: a book serves many cases
abbrev pub once : {A : Type 0} → (Bytes → A) → Bytes → A
once f [] = f []
once f (x ∷ xs) = f (x ∷ xs)

-- ---- what is asked

-- yes is 1, no is 0
abbrev pub flag : Bool → ℕ
flag answer = cond answer 1 0

-- which character is wrong
abbrev pub character : Bytes → List ℕ
character code = eic_number code ∷ []

-- is it valid, and the sum s
abbrev pub eic : String → List ℕ
eic code = flag (eic_valid (text code)) ∷ eic_sum (text code) ∷ []

-- number and kilowatts
abbrev pub reads : String → List ℕ
reads s = (quantity_read (text s)).number ∷ (quantity_read (text s)).kilowatts ∷ []

-- number, series, position, code, character
abbrev pub told_by : Verdict → List ℕ
told_by v = v.number ∷ v.series ∷ v.position.0 ∷ v.code ∷ v.character ∷ []

abbrev pub submission : (book message : Bytes) → List ℕ
submission book message = once (λ m. told_by (verdict book m)) message

-- number, count, code, first, partner
abbrev pub told_by_mark : MarkAnswer → List ℕ
told_by_mark a = a.number ∷ a.differ ∷ a.code ∷ a.first.0 ∷ a.partner.0 ∷ []

abbrev pub mark_of : (book sender id : Bytes) → List ℕ
mark_of book sender id = told_by_mark (mark_answer book sender id)

-- number and kilowatts
abbrev pub told_by_final : FinalAnswer → List ℕ
told_by_final a = a.number ∷ a.kilowatts ∷ []

abbrev pub final_value : (book out_party in_party : Bytes) (position : ℕ) → List ℕ
final_value book out_party in_party position = told_by_final (final book out_party in_party position)

-- ---- what it should be

abbrev pub yes : List ℕ
yes = 1 ∷ []

abbrev pub no : List ℕ
no = 0 ∷ []

abbrev pub good : List ℕ
good = 0 ∷ []

abbrev pub wrong_at : ℕ → List ℕ
wrong_at place = place ∷ []

abbrev pub valid : (s : ℕ) → List ℕ
valid s = 1 ∷ s ∷ []

abbrev pub invalid : (s : ℕ) → List ℕ
invalid s = 0 ∷ s ∷ []

abbrev pub kilowatts : ℕ → List ℕ
kilowatts quantity = 0 ∷ quantity ∷ []

abbrev pub refused : (number : ℕ) → List ℕ
refused number = number ∷ 0 ∷ []

abbrev pub acceptance : List ℕ
acceptance = 0 ∷ 0 ∷ 0 ∷ 1 ∷ 0 ∷ []

abbrev pub broken : (rule series position code : ℕ) → List ℕ
broken rule series position code = rule ∷ series ∷ position ∷ code ∷ 0 ∷ []

-- by a code's character
abbrev pub broken_by : (rule series code character : ℕ) → List ℕ
broken_by rule series code character = rule ∷ series ∷ 0 ∷ code ∷ character ∷ []
