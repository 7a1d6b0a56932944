-- Document 01's listing example as text: the two messages that its parties file; C-14's message of three business types, and its right; and lines that are wrong.
use Prim.Native.String.{String}
use Rattle.std.specs.Prelude.{◌≡◌, refl, Bool, true, List, [], ◌∷◌, ◌++◌, ℕ, length, replicate}
use Rattle.paper.specs.Layout.{Bytes}
use Rattle.paper.specs.Message.{message_right}
use Rattle.paper.specs.Listing.{text}
use Rattle.cases.specs.Case.{Case, ◌gives◌, wrong, once}
use Rattle.cases.specs.Opened.{paper}
use Rattle.cases.specs.Examples.{area, seller, buyer, head, steady, but_at, sale, purchase, examples}
use Rattle.cases_rights.specs.Blocks.{tirag, yearly, on_daily, netted, rights}
use Rattle.message_words.specs.Words.{before, behind, lines_up_to, lines, word, value, skipped, number_of, first_of, last_of}
use Rattle.layout.specs.Written.{padded, with_front, with_series_count, with_business_type, with_field, with_quantity}
use Rattle.message_text.specs.MessageText.{sender_words, series_words, right_words, between, field_in, field_of, with_number, most, with_text, spread, with_positions, in_field, in_block, field_laid, new_block, with_block, counted, series_laid, begun, with_line, with_lines, text_laid, zeros_for, copied, message_text, right_text}

-- to name it on an `unfolding` line opens the text form
unfoldable pub text_form : ℕ
unfolding before behind lines_up_to lines word value skipped number_of first_of last_of padded with_front with_series_count with_business_type with_field with_quantity sender_words series_words right_words between field_in field_of with_number most with_text spread with_positions in_field in_block field_laid new_block with_block counted series_laid begun with_line with_lines text_laid zeros_for copied message_text right_text
text_form = 0

-- the buffer after it, which held sevens
abbrev pub laid_into : (room : ℕ) → String → Bytes
laid_into room t = (message_text (text t) (replicate room 7)).1

unfoldable pub of_seller : String
of_seller = "message PLAN\nversion 1\nsender 14XBILANZGR-1--F\nreceiver 14XAT-APCS-----Q\nday 20190131\nn 96\n\nseries TS0001\narea 10YAT-APG------L\nin 14XBG-EMPFANG--0\nout 14XBILANZGR-1--F\n1-96 45.000\n"

pub seller_files : laid_into 1034 of_seller ≡ head seller 1 1 ++ sale 1 (steady 45000) ++ replicate 10 7
unfolding paper examples text_form of_seller
seller_files = refl

-- a remark, a range and then one position of it
unfoldable pub of_buyer : String
of_buyer = "# as document 01's listing has it\nmessage PLAN\nversion 1\nsender 14XBG-EMPFANG--0\nreceiver 14XAT-APCS-----Q\nday 20190131\nn 96\nseries FPL01\narea 10YAT-APG------L\nin 14XBG-EMPFANG--0\nout 14XBILANZGR-1--F\n1-96 45\n2 44"

pub buyer_files : laid_into 1024 of_buyer ≡ head buyer 1 1 ++ purchase 1 (but_at 2 44000 (steady 45000))
unfolding paper examples text_form of_buyer
buyer_files = refl

-- C-14: a trade, a schedule on a right, one without capacity; the areas apart
unfoldable pub of_three : String
of_three = "message PLAN\nversion 1\nsender 14XBILANZGR-1--F\nreceiver 14XAT-APCS-----Q\nday 20190131\nn 96\nseries TS0001\narea 10YAT-APG------L\nin 14XBG-EMPFANG--0\nout 14XBILANZGR-1--F\n1-96 45\nseries FPL02\ntype 3\ncontract 1\nagreement CEPS-APG-D-14356\nin-area 10YAT-APG------L\nout-area 10YCZ-CEPS-----N\nin 14XBILANZGR-1--F\nout 13XBILANZGR-2--Q\n1-96 5\nseries FPL01\ntype 6\nin-area 10YAT-APG------L\nout-area 10YAT-TIRAG-N--C\nin 14XBILANZGR-1--F\nout 14XBILANZGR-1--F\n1-96 19\n"

pub three_types : laid_into 2048 of_three ≡ head seller 1 3 ++ sale 1 (steady 45000) ++ on_daily (steady 5000) ++ netted "FPL01" area tirag (steady 19000)
unfolding paper examples rights text_form of_three
three_types = refl

-- C-14's right
unfoldable pub of_right : String
of_right = "# a yearly one\nn 96\nholder 14XBILANZGR-1--F\nin-area 10YAT-APG------L\nout-area 10YCZ-CEPS-----N\ncontract 4\nagreement CEPS-APG-Y-2723\n1-96 15.000\n"

pub right_entered : (right_text (text of_right) (replicate 522 7)).1 ≡ yearly (steady 15000) ++ replicate 10 7
unfolding paper examples rights text_form of_right
right_entered = refl

-- a wrong line leaves the buffer as it was
pub nothing_laid : laid_into 1024 "n 96\nseries A\nversion 2\nnote X\n" ≡ replicate 1024 7
unfolding paper text_form
nothing_laid = refl

-- two series of different versions break no rule 2
abbrev pub right_message : (room : ℕ) → String → Bool
right_message room t = once message_right (laid_into room t)

pub two_series : right_message 1536 "n 92\nversion 3\nseries A\nin X\nversion 2\nseries B\n92 9999.999\n" ≡ true
unfolding paper text_form
two_series = refl

pub two_long : (message_text (text "series A\nseries B\n") (replicate 1536 7)).0.length ≡ 1536
unfolding paper text_form
two_long = refl

-- the line that is wrong
abbrev pub wrong_line : (room : ℕ) → String → List ℕ
wrong_line room t = (message_text (text t) (replicate room 7)).0.line ∷ []

unfoldable pub refusals : List Case
refusals =
    -- a word of no block, of the other block, in capitals
    wrong_line 512 "n 96\nnote X\n" gives (2 ∷ [])
    ∷ wrong_line 512 "in X\n" gives (1 ∷ [])
    ∷ wrong_line 1024 "series A\nsender X\n" gives (2 ∷ [])
    ∷ wrong_line 1024 "series A\nholder X\n" gives (2 ∷ [])
    ∷ wrong_line 512 "N 96\n" gives (1 ∷ [])
    -- a number
    ∷ wrong_line 512 "version\n" gives (1 ∷ [])
    ∷ wrong_line 512 "version 1.0\n" gives (1 ∷ [])
    ∷ wrong_line 512 "version 10000\n" gives (1 ∷ [])
    ∷ wrong_line 512 "n 256\n" gives (1 ∷ [])
    ∷ wrong_line 512 "n 255\n" gives (0 ∷ [])
    ∷ wrong_line 1024 "series A\ntype 256\n" gives (2 ∷ [])
    ∷ wrong_line 1024 "series A\ntype 255\ncontract A01\n" gives (3 ∷ [])
    -- a text longer than its field, or its two fields
    ∷ wrong_line 512 "day 201901311\n" gives (1 ∷ [])
    ∷ wrong_line 1024 "series A2345678901234567\n" gives (1 ∷ [])
    ∷ wrong_line 1024 "series A234567890123456\n" gives (0 ∷ [])
    ∷ wrong_line 1024 "series A\narea A2345678901234567\n" gives (2 ∷ [])
    ∷ wrong_line 1024 "series A\nagreement A234567890123456\nout-area A2345678901234567\n" gives (3 ∷ [])
    -- positions and quantities
    ∷ wrong_line 1024 "1 1\nseries A\n" gives (1 ∷ [])
    ∷ wrong_line 1024 "series A\n0 1\n" gives (2 ∷ [])
    ∷ wrong_line 1024 "series A\n100 1\n101 1\n" gives (3 ∷ [])
    ∷ wrong_line 1024 "series A\n3-2 1\n" gives (2 ∷ [])
    ∷ wrong_line 1024 "series A\n3- 1\n" gives (2 ∷ [])
    ∷ wrong_line 1024 "series A\n\n3-3 1.\n" gives (3 ∷ [])
    ∷ wrong_line 1024 "series A\n3 -1\n" gives (2 ∷ [])
    -- room
    ∷ wrong_line 511 "" gives (1 ∷ [])
    ∷ wrong_line 512 "n 96\nseries A\n" gives (2 ∷ [])
    ∷ wrong_line 1535 "series A\nseries B\n" gives (2 ∷ [])
    ∷ wrong_line 1536 "series A\nseries B\n" gives (0 ∷ [])
    ∷ []

pub refusals_right : wrong refusals ≡ []
unfolding paper text_form refusals
refusals_right = refl

-- the line of a right that is wrong
abbrev pub wrong_in_right : (room : ℕ) → String → List ℕ
wrong_in_right room t = (right_text (text t) (replicate room 7)).0.line ∷ []

unfoldable pub refused_rights : List Case
refused_rights =
    -- a right has no series, no type of its own, no id and no version
    wrong_in_right 1024 "n 96\nseries A\n" gives (2 ∷ [])
    ∷ wrong_in_right 512 "type 3\n" gives (1 ∷ [])
    ∷ wrong_in_right 512 "version 1\n" gives (1 ∷ [])
    ∷ wrong_in_right 512 "in X\n" gives (1 ∷ [])
    ∷ wrong_in_right 512 "contract 255\ncontract 256\n" gives (2 ∷ [])
    ∷ wrong_in_right 512 "holder A2345678901234567\n" gives (1 ∷ [])
    ∷ wrong_in_right 512 "100 9999.999\n101 0\n" gives (2 ∷ [])
    ∷ wrong_in_right 511 "" gives (1 ∷ [])
    ∷ []

pub refused_rights_right : wrong refused_rights ≡ []
unfolding paper text_form refused_rights
refused_rights_right = refl
