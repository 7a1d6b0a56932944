-- The walk of a new reader: series 1, 2 and on, each once, and past the last one nothing, however often it is asked.
use Rattle.std.specs.Prelude.{◌≡◌, refl, true, List, [], ℕ, suc, ◌+◌, ◌-◌, ◌/◌, ◌≤◌, ◌<◌, zero, length, drop}
use Rattle.std.proofs.Common.{sym, ap, ◌∙◌, arith, length-drop}
use Rattle.std.proofs.Math.ListN.{get_or-eq_default}
use Rattle.laws.specs.Tests.{less}
use Rattle.laws.specs.Tests.Laws.{split, and_left, and_right, neg_no, less_yes, less_no, less_true, upto_yes}
use Rattle.laws.specs.Cut.{cut, chunks}
use Rattle.laws.specs.Cut.Laws.{cut_length}
use Rattle.paper.specs.Layout.{Bytes, Block}
use Rattle.paper.specs.Ranges.{whole_blocks}
use Rattle.paper.specs.Book.{numbered}
use Rattle.paper.specs.Message.{series_of, message_right, rule2, series_numbered}
use Rattle.reader.specs.Walk.{readable, series_at, following, after}

numbered_none : (k : ℕ) → numbered [] k ≡ []
unfolding numbered
numbered_none zero = refl
numbered_none (suc k) = refl

no_series : series_of [] ≡ []
unfolding series_of cut chunks
no_series = refl

-- what is read gives the series that the message has
pub read_numbered : (message : Bytes) (k : ℕ) → series_at (readable message) k ≡ series_numbered message k
unfolding readable series_at series_numbered
read_numbered message k = split (rule2 message) (λ t. rw t (ap (λ l. numbered l k) no_series ∙ numbered_none k)) (λ t. rw t)

-- ---- at most 200 series

series_few : (message : Bytes) → message_right message ≡ true → length (series_of message) ≤ 200
unfolding message_right whole_blocks series_of
series_few message e =
    let most : length message / 512 ≤ 201 = upto_yes _ _ (and_right _ _ (and_left _ _ (and_left _ _ (and_left _ _ e)))) in
    rw (cut_length 512 (drop 512 message), length-drop 512 message) (omega arith)

numbered_past : (l : List Block) (k : ℕ) → length l < k → numbered l k ≡ []
unfolding numbered
numbered_past l zero h = refl
numbered_past l (suc k) h = get_or-eq_default l [] (omega arith)

past_last : (message : Bytes) (k : ℕ) → 200 < k → series_numbered message k ≡ []
unfolding series_numbered rule2
past_last message k h =
    split (rule2 message) (λ t. rw t) (λ t. rw t (numbered_past (series_of message) k (omega (arith, series_few message (neg_no _ t)))))

-- ---- the numbers of the walk

after_within : (steps : ℕ) → steps ≤ 200 → after steps ≡ steps + 1
unfolding after following
after_within zero h = refl
after_within (suc j) h = rw (after_within j (omega arith), less_true (j + 1) 201 (omega arith)) (omega arith)

after_past : (more : ℕ) → after (more + 200) ≡ 201
unfolding after following less
after_past zero = after_within 200 (omega arith)
after_past (suc j) = let e : suc j + 200 ≡ suc (j + 200) = omega arith in ap after e ∙ ap following (after_past j)

pub walk_gives : (message : Bytes) (steps : ℕ) → series_at (readable message) (after steps) ≡ series_numbered message (steps + 1)
walk_gives message steps =
    read_numbered message (after steps)
    ∙ split (less steps 200)
    (λ t. rw (after_within steps (omega (arith, less_yes steps 200 t))))
    (λ t.
    let e : steps ≡ steps - 200 + 200 = omega (arith, less_no steps 200 t) in
    let z : after steps ≡ 201 = ap after e ∙ after_past (steps - 200) in
    rw z (past_last message 201 (omega arith) ∙ sym (past_last message (steps + 1) (omega (arith, less_no steps 200 t)))))
