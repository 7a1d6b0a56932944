-- No listing is longer than 5,591 bytes: a header of 47 and, for a book of at most 64 blocks, at most 63 lines of at most 88.
use Rattle.std.specs.Prelude.{◌≡◌, cond, List, [], ◌∷◌, ◌++◌, ℕ, ◌+◌, ◌*◌, ◌≤◌, length}
use Rattle.std.proofs.Common.{append_assoc, arith, length-append}
use Rattle.laws.specs.Tests.{is, less}
use Rattle.laws.specs.Tests.Laws.{split, less_no}
use Rattle.laws.specs.Lists.Keep.{until_length}
use Rattle.laws.specs.Bytes.Laws.{part_length_most}
use Rattle.paper.specs.Layout.{Bytes, Block, id_of, sender, senders_slot, in_party, out_party, differing, first, partner}
use Rattle.paper.specs.Ids.{id_text}
use Rattle.paper.specs.Book.{slots, is_free, used, is_series, numbered}
use Rattle.paper.specs.Sound.{sound}
use Rattle.paper.specs.QuantityText.{width_of, decimal}
use Rattle.paper.specs.Listing.{text, line, series_line, series_lines, header, listing}
use Rattle.facts.specs.Book.{slots_length}
use Rattle.facts.specs.QuantityText.{decimal_length}
use Rattle.listing_text.specs.Text.{names, parties, marks}

-- ---- words

pub decimal_most : (x : ℕ) → length (decimal x) ≤ 4
unfolding width_of
decimal_most x = rw (decimal_length x)
    (split (less x 10) (λ e. rw e (omega arith))
    (λ e. split (less x 100) (λ f. rw (e, f) (omega arith)) (λ f. split (less x 1000) (λ g. rw (e, f, g) (omega arith)) (λ g. rw (e, f, g) (omega arith)))))

pub sender_most : (x : Block) → length (sender x) ≤ 16
unfolding sender
sender_most x = part_length_most _ 16 x

pub in_party_most : (x : Block) → length (in_party x) ≤ 16
unfolding in_party
in_party_most x = part_length_most _ 16 x

pub out_party_most : (x : Block) → length (out_party x) ≤ 16
unfolding out_party
out_party_most x = part_length_most _ 16 x

id_of_most : (x : Block) → length (id_of x) ≤ 16
unfolding id_of
id_of_most x = part_length_most _ 16 x

id_text_most : (f : Bytes) → length (id_text f) ≤ length f
unfolding id_text
id_text_most f = until_length (λ y. is y 0) f

pub id_most : (x : Block) → length (id_text (id_of x)) ≤ 16
id_most x = omega (arith, id_text_most (id_of x), id_of_most x)

-- ---- lines

-- the three parts of a line
pub line_parts : (us : List Block) (slot : ℕ) (x : Block) → names us slot x ++ parties x ++ marks x ≡ series_line us slot x
unfolding names parties marks series_line line
line_parts us slot x = simp append_assoc

pub line_most : (us : List Block) (slot : ℕ) (x : Block) → length (series_line us slot x) ≤ 88
unfolding names parties marks
line_most us slot x =
    let d = decimal_most in
    rw (← line_parts us slot x)
    (simp length-append (omega (arith, d slot, sender_most (numbered us (senders_slot x)), id_most x, in_party_most x, out_party_most x, d (differing x), d (first x), d (partner x))))

pub lines_most : (us : List Block) (slot : ℕ) (l : List Block) → length (series_lines us slot l) ≤ 88 * length l
unfolding series_lines
lines_most us slot [] = omega arith
lines_most us slot (b ∷ bs) =
    rw (length-append (cond (is_series b) (series_line us slot b) []) (series_lines us (slot + 1) bs))
    (split (is_series b) (λ e. rw e (omega (arith, line_most us slot b, lines_most us (slot + 1) bs))) (λ e. rw e (omega (arith, lines_most us (slot + 1) bs))))

-- ---- the whole

pub used_most : (book : Bytes) → length book ≤ 32768 → length (used book) ≤ 63
unfolding used
used_most book h = omega (arith, until_length is_free (slots book), slots_length book)

pub listing_most : (book : Bytes) → length (listing book) ≤ 5591
unfolding listing header text
listing_most book =
    split (less 32768 (length book)) (λ e. rw e (omega arith))
    (λ e. split (sound book)
    (λ f. rw (e, f, length-append header (series_lines (used book) 1 (used book))) (omega (arith, lines_most (used book) 1 (used book), used_most book (less_no _ _ e))))
    (λ f. rw (e, f) (omega arith)))
