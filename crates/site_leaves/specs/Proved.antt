-- The quantity texts of the check on site are read, and one is printed, as is expected of them.
use Rattle.std.specs.Prelude.{◌≡◌}
use Rattle.laws.specs.Base.{refl, true, replicate}
use Rattle.laws.specs.Lists.{same}
use Rattle.laws.specs.Bytes.{part}
use Rattle.paper.specs.QuantityText.{quantity_printed, printed_into}
use Rattle.paper.specs.Listing.{text}
use Rattle.cases.specs.Opened.{paper}
use Rattle.site_leaves.specs.Leaves.{reads_as}

pub a_reads : reads_as (text "0.194") 194 ≡ true
unfolding paper reads_as
a_reads = refl

pub b_reads : reads_as (text "9999.999") 9999999 ≡ true
unfolding paper reads_as
b_reads = refl

pub c_reads : reads_as (text "60.0") 60000 ≡ true
unfolding paper reads_as
c_reads = refl

pub printed_right : same (text "60.000") (part 0 (quantity_printed 60000 8).length (printed_into 60000 (replicate 8 0))) ≡ true
unfolding paper
printed_right = refl
