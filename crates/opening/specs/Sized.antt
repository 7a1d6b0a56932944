-- The lengths that the day block has room for.
use Rattle.std.specs.Prelude.{◌≡◌, length}
use Rattle.paper.specs.Opening.{Opening}

pub record Sized (o : Opening) : Type 0 where
  pub day_8 : length o.day ≡ 8
  pub area_16 : length o.area ≡ 16
  pub receiver_16 : length o.receiver ≡ 16
