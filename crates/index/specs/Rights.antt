-- Rights linked by their agreement, and of each series on a right the right that it names.
pub mod Laws
use Rattle.std.specs.Prelude.{Bool, List, ℕ}
use Rattle.laws.specs.Tests.{◌and◌, is}
use Rattle.paper.specs.Layout.{Bytes, Block, agreement}
use Rattle.paper.specs.Book.{with_capacity, is_right_of}
use Rattle.paper.specs.Rules.{names}
use Rattle.index.specs.Linked.{bucket, FoundBy}

-- the rights that e holds
unfoldable pub right_in : Bytes → ℕ → Block → Bool
right_in e g r = is_right_of e r and is (bucket (agreement r)) g

-- y is a schedule on the right r, which e holds
unfoldable pub is_right_for : Bytes → Block → Block → Bool
is_right_for e y r = is_right_of e r and (with_capacity y and names y r)

-- of each series the place, among the used slots us, of the right on which e sends it; 0 where there is none
abbrev pub FoundRights : (e : Bytes) (us series : List Block) (found : List ℕ) → Type 0
FoundRights e us series found = FoundBy (is_right_for e) us series found
