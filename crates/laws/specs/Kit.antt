-- What a proof of code brings in of equations, Booleans, options, lists, numbers, references, tests and loops, in one line.
pub use Rattle.std.specs.Prelude.{◌≡◌, refl, Bool, true, false, cond, not, ◌&&◌, ◌⊎◌, List, [], ◌∷◌, ◌++◌, map, ℕ, ◌≤◌, ◌<◌, ◌-◌, ◌+◌, ◌*◌, ◌/◌, ◌%◌, ◌^◌, min, suc, zero, length, take, drop, get_or, replicate, set}
pub use Rattle.std.proofs.Common.{sym, ap, ◌∙◌, ap₂, inl, inr, ⊎_elim, append_assoc, append-nil, add_assoc, add-mul, add-zero, div-add-mod', le_of_lt, mul-le-mul, mul-one, mul-zero, pow-suc, zero-add, add-one, arith, drop_of_length-le, length-append, length-drop, length-set, length-take, drop_at, drop-cons, drop-drop, drop-set-lt, get_or-append-add, get_or-drop, get_or-set_other, get_or-set_same, get_or-take, length-take-le, take_all, take_at, take-suc, take-take, rules}
pub use Rattle.std.proofs.Math.Option.{Option, get_or as option_get_or, map as option_map, none, some}
pub use Rattle.std.proofs.Math.Nat.{add-sub_cancel_left, add-mod-mod, add-mul-mod_self_left, mod-add-mod, pow-le-pow_right}
pub use Rattle.std.proofs.Math.ListN.{get_or-append, get_or-eq_default, get_or-map}
pub use Rattle.std.proofs.lemmas.List.{length-map, set-get_or}
pub use Rattle.std.proofs.Math.Seq.{drop-append_seam, set_out, take-append_seam}
pub use denote.Ref.{MutRef, NamedLft, Bor, MutBor, mut_Tells, shr_vals, mut_vals}
unfoldable pub use Rattle.laws.specs.Tests.{◌and◌, ◌or◌, below, is, less, neg, upto}
pub use Rattle.laws.specs.Tests.Laws.{split, told, denied, and_assoc, and_both, and_left, and_no_left, and_no_right, and_right, and_true, below_more, clash, is_equal, is_no, is_other, is_same, is_yes, less_false, less_no, less_true, less_yes, lt_or, neg_false, neg_no, neg_or_neg, neg_true, or_else, or_left, or_no, or_yes_left, or_yes_right, upto_false, upto_true, upto_yes}
unfoldable pub use Rattle.laws.specs.Loops.{place_from}
pub use Rattle.laws.specs.Loops.{at_end, step_cut_at, end_cut, step_byte, end_list, End, Step, apart_end, apart_go, apart_start, below_go, every_end, every_go, every_start, same_end, same_go, same_start, search_end_place, search_miss, search_place, search_start, step_take, until_rest_end, until_rest_go, until_rest_hit, until_rest_start}
