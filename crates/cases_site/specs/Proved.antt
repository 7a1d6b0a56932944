-- Each row of the check on site gives what its table expects: the table's answer is yes.
use Rattle.std.specs.Prelude.{◌≡◌}
use Rattle.laws.specs.Base.{refl, true, ℕ, replicate}
use Rattle.desk_text.specs.Put.{within}
use Rattle.desk_text.specs.Numbers.{number_read, minute_after, minute_before, minute_read}
use Rattle.desk_text.specs.Words.{lines, first_piece, past_piece, past_pieces, piece_numbered, line_numbered, commands}
use Rattle.desk_text.specs.Arguments.{command_from, command_number, word_value, byte_value}
use Rattle.listing_text.specs.Text.{text_length, text_into}
use Rattle.paper.specs.Layout.{Bytes}
use Rattle.cases.specs.Opened.{paper}
use Rattle.cases.specs.Examples.{examples}
use Rattle.cases_text.specs.Text.{text_form}
use Rattle.site_leaves.specs.Leaves.{block_with}
use Rattle.cases_site.specs.Site.{opening, minute_in, laid_first, message_of, right_of, sellers_lines, held, sellers_text, came, book_after, stated, row_right, row_book, rows_from, table_run, shown, right_with_page}
use Rattle.cases_site.specs.Tables.{rows, eics, quantities, checks, leads, versions, closed, rights, listed, page}

-- to name it on an `unfolding` line opens the check on site
unfoldable pub site : ℕ
unfolding within number_read minute_after minute_before minute_read lines first_piece past_piece past_pieces piece_numbered line_numbered commands command_from command_number word_value byte_value opening minute_in block_with laid_first message_of right_of sellers_lines held sellers_text came book_after stated row_right row_book rows rows_from table_run text_length text_into shown right_with_page
site = 0

-- what asks no book leaves it as it was
pub eics_right : (book : Bytes) → table_run book eics ≡ (true, book)
unfolding paper examples site eics
eics_right book = refl

pub quantities_right : (book : Bytes) → table_run book quantities ≡ (true, book)
unfolding paper examples site quantities
quantities_right book = refl

pub checks_right : (book : Bytes) → table_run book checks ≡ (true, book)
unfolding paper examples site checks
checks_right book = refl

pub leads_right : (table_run (replicate 1024 0) leads).0 ≡ true
unfolding paper examples site leads
leads_right = refl

pub versions_right : (table_run (replicate 1536 0) versions).0 ≡ true
unfolding paper examples text_form site versions
versions_right = refl

pub closed_right : (table_run (replicate 2048 0) closed).0 ≡ true
unfolding paper examples text_form site closed
closed_right = refl

pub rights_right : (table_run (replicate 2560 0) rights).0 ≡ true
unfolding paper examples text_form site rights
rights_right = refl

pub listed_right : right_with_page page (table_run (replicate 2560 0) listed) ≡ true
unfolding paper examples text_form site listed page
listed_right = refl
