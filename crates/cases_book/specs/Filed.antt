-- The seller has filed 45,000 throughout, in a book of two slots: all that is asked of that book, which is worked out once.
use Rattle.std.specs.Prelude.{◌≡◌, ◌++◌}
use Rattle.laws.specs.Base.{refl, List, []}
use Rattle.paper.specs.Layout.{Bytes}
use Rattle.cases.specs.Case.{Case, wrong, once}
use Rattle.cases.specs.Opened.{paper}
use Rattle.cases.specs.Examples.{late, sold, examples}
use Rattle.cases_book.specs.Refusals.{of_known}
use Rattle.cases_book.specs.Edges.{stored_version, of_last_version}
use Rattle.cases_book.specs.Calls.{of_seller}

unfoldable pub of_filed : Bytes → List Case
of_filed book = once (λ b. of_known b ++ of_seller b) (late book) ++ of_last_version book

pub filed : wrong (once of_filed (sold 2)) ≡ []
unfolding paper examples of_known of_seller stored_version of_last_version of_filed
filed = refl
