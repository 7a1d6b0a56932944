-- What a law brings in of equations, Booleans, options, lists and numbers, in one line.
pub use Rattle.std.specs.Prelude.{◌≡◌, refl, Bool, true, false, cond, not, ◌&&◌, ◌||◌, List, [], ◌∷◌, ◌++◌, map, ℕ, zero, suc, ◌+◌, ◌-◌, ◌*◌, ◌/◌, ◌%◌, ◌^◌, ◌≤◌, ◌<◌, length, take, drop, get_or, set, replicate}
pub use Rattle.std.proofs.Common.{sym, ap, ap₂, ◌∙◌, true≢false, append_assoc, append-nil, add_comm, add-suc, add-zero, le_refl, le_trans, lt_of_lt_of_le, mul-le-mul_left, mul-one, mul-suc, mul-zero, pow-suc, suc-add, suc-mul, zero-add, zero-mul, add-one, arith, drop_of_length-le, length-append, length-drop, length-set, length-take, take-append-drop, drop_at, drop-cons, drop-drop, drop-set-lt, get_or-take, length-take-le, take-add, take_all, take_at, take-suc, take-suc-set, take-take}
pub use Rattle.std.proofs.lemmas.Bool.{false≢true}
pub use Rattle.std.proofs.Math.Option.{Option, none, some, get_or as option_get_or, map as option_map}
pub use Rattle.std.proofs.Math.Nat.{add-sub_cancel_left, div-eq_of_lt, div-zero, lt-mul-div-succ, mul-add-div, mul-div_cancel_left, mul-div-le, pow-le-pow_right, pow-zero, sub-zero, zero-div}
pub use Rattle.std.proofs.Math.ListN.{get_or-append}
pub use Rattle.std.proofs.lemmas.List.{length-map, length-replicate, replicate-append-replicate, drop-append-le, drop-set-add, get_or_at, set-append_left, set_at, set_comm, set_split, take-append-le, take-set-le}
pub use Rattle.std.proofs.Math.Seq.{drop-append-add, drop-nil, length-sets, set_out, split_at, take-nil, take-set-lt}
pub use Rattle.std.proofs.lemmas.List.Edits.{sets, sets-eq}
