-- The worked example's table T: its file passes the check and holds its rows; damaged files and their refusals; the empty table; and tables that extend others.
use mathlib.Core.Path.{◌≡◌, refl}
use mathlib.Core.List.{List, [], ◌∷◌, ◌++◌, map}
use Prim.Native.Nat.{ℕ, zero, suc, ◌+◌, ◌*◌}
use lib.ListN.{take, drop, set, replicate}
use Rattle.wire.specs.Little.{little}
use Rattle.schema.specs.Checked.{Good, Refused}
use Rattle.schema.specs.Extended.{Yes, No}
use Rattle.schema.specs.Table.{Table}
use Rattle.schema.specs.File.{cell, shaped, layout_of, tabulate, empty_table, table_of}
use Rattle.schema.specs.Check.{lowest, good_row, good_field, find_among, good_method, small, bad_row, bad_field, bad_method, checked_table, checked}
use Rattle.schema.specs.Extend.{every, field_kept, row_kept_of, method_kept, widened, bitmap_kept, extended, extension}

-- Type 0 uint8, 1 string, 2 struct (0, optional 1), 3 array of 2, 4 struct (3, optional 0). Method 1, 2, 3 is YYNN, input 2, output 4.
abbrev pub T : Table
T =
    record {
      types =
          record { kind = 6; a = 0; b = 0 }
          ∷ record { kind = 12; a = 0; b = 0 }
          ∷ record { kind = 16; a = 0; b = 2 }
          ∷ record { kind = 14; a = 2; b = 0 }
          ∷ record { kind = 16; a = 2; b = 2 }
          ∷ [];
      fields =
          record { ty = 0; optional = 0 }
          ∷ record { ty = 1; optional = 1 }
          ∷ record { ty = 3; optional = 0 }
          ∷ record { ty = 0; optional = 1 }
          ∷ [];
      methods =
          record {
            «package» = 1;
            service = 2;
            method = 3;
            form = 12;
            input = 2;
            output = 4;
            input_stream = 4294967295;
            output_stream = 4294967295;
          }
          ∷ [];
    }

-- The file of T: 140 bytes, trailer 60, 92, 124, 1.
abbrev pub file : List ℕ
file =
    6 ∷ 0 ∷ 0 ∷ 0 ∷ 0 ∷ 0 ∷ 0 ∷ 0 ∷ 0 ∷ 0 ∷ 0 ∷ 0 ∷
    12 ∷ 0 ∷ 0 ∷ 0 ∷ 0 ∷ 0 ∷ 0 ∷ 0 ∷ 0 ∷ 0 ∷ 0 ∷ 0 ∷
    16 ∷ 0 ∷ 0 ∷ 0 ∷ 0 ∷ 0 ∷ 0 ∷ 0 ∷ 2 ∷ 0 ∷ 0 ∷ 0 ∷
    14 ∷ 0 ∷ 0 ∷ 0 ∷ 2 ∷ 0 ∷ 0 ∷ 0 ∷ 0 ∷ 0 ∷ 0 ∷ 0 ∷
    16 ∷ 0 ∷ 0 ∷ 0 ∷ 2 ∷ 0 ∷ 0 ∷ 0 ∷ 2 ∷ 0 ∷ 0 ∷ 0 ∷
    0 ∷ 0 ∷ 0 ∷ 0 ∷ 0 ∷ 0 ∷ 0 ∷ 0 ∷ 1 ∷ 0 ∷ 0 ∷ 0 ∷
    1 ∷ 0 ∷ 0 ∷ 0 ∷ 3 ∷ 0 ∷ 0 ∷ 0 ∷ 0 ∷ 0 ∷ 0 ∷ 0 ∷
    0 ∷ 0 ∷ 0 ∷ 0 ∷ 1 ∷ 0 ∷ 0 ∷ 0 ∷ 1 ∷ 0 ∷ 0 ∷ 0 ∷
    2 ∷ 0 ∷ 0 ∷ 0 ∷ 3 ∷ 0 ∷ 0 ∷ 0 ∷ 12 ∷ 0 ∷ 0 ∷ 0 ∷
    2 ∷ 0 ∷ 0 ∷ 0 ∷ 4 ∷ 0 ∷ 0 ∷ 0 ∷ 255 ∷ 255 ∷ 255 ∷ 255 ∷
    255 ∷ 255 ∷ 255 ∷ 255 ∷ 60 ∷ 0 ∷ 0 ∷ 0 ∷ 92 ∷ 0 ∷ 0 ∷ 0 ∷
    124 ∷ 0 ∷ 0 ∷ 0 ∷ 1 ∷ 0 ∷ 0 ∷ 0 ∷ []

pub T-good : checked file ≡ Good
unfolding little cell shaped layout_of tabulate table_of lowest good_row good_field find_among good_method small bad_row bad_field bad_method checked_table checked
T-good = refl

pub T-rows : table_of file ≡ T
unfolding little cell shaped layout_of tabulate table_of
T-rows = refl

-- T's method entry twice: the later is at fault.
abbrev twice : List ℕ
twice = take 124 file ++ (take 32 (drop 92 file) ++ (60 ∷ 0 ∷ 0 ∷ 0 ∷ 92 ∷ 0 ∷ 0 ∷ 0 ∷ 156 ∷ 0 ∷ 0 ∷ 0 ∷ 1 ∷ 0 ∷ 0 ∷ 0 ∷ []))

-- Damaged files, in the order of the tests: no trailer; a byte short; layout number 2; fields elsewhere; kind 17 in type 1; an array of type 5;
-- an array with b; both a type and a field at fault; optional 2 in field 1; type 5 in field 2; form 13 without a fourth type; form 16; two equal methods.
pub T_damaged : map checked
    ([] ∷
    take 139 file ∷
    set file 136 2 ∷
    set file 124 72 ∷
    set file 12 17 ∷
    set file 40 5 ∷
    set file 44 1 ∷
    set (set file 72 2) 12 17 ∷
    set file 72 2 ∷
    set file 76 5 ∷
    set file 104 13 ∷
    set file 104 16 ∷
    twice ∷
    [])
    ≡
    (Refused 40 0 ∷
    Refused 40 0 ∷
    Refused 40 0 ∷
    Refused 40 0 ∷
    Refused 42 1 ∷
    Refused 42 3 ∷
    Refused 42 3 ∷
    Refused 42 1 ∷
    Refused 43 1 ∷
    Refused 43 2 ∷
    Refused 44 0 ∷
    Refused 44 0 ∷
    Refused 44 1 ∷
    [])
unfolding little cell shaped layout_of tabulate table_of lowest good_row good_field find_among good_method small bad_row bad_field bad_method checked_table checked
T_damaged = refl

-- So many types, all bool.
abbrev bools : ℕ → Table
bools n = record { types = replicate n (record { kind = 1; a = 0; b = 0 }); fields = []; methods = [] }

pub most : (checked_table (bools 256) ≡ Good) × (checked_table (bools 257) ≡ Refused 41 0)
unfolding lowest good_row good_field find_among good_method small bad_row bad_field bad_method checked_table
most = (refl, refl)

-- The 32-bit number x below 256.
abbrev four : ℕ → List ℕ
four x = x ∷ 0 ∷ 0 ∷ 0 ∷ []

-- Three empty sections are a legal table: the trailer 0, 0, 0, 1 alone.
pub empty-good : let s = four 0 ++ (four 0 ++ (four 0 ++ four 1)) in (checked s ≡ Good) × (table_of s ≡ empty_table)
unfolding little cell shaped layout_of tabulate table_of lowest good_row good_field find_among good_method small bad_row bad_field bad_method checked_table checked
empty-good = (refl, refl)

-- T with a third field in type 2, an optional uint8.
abbrev pub longer : List ℕ
longer =
    6 ∷ 0 ∷ 0 ∷ 0 ∷ 0 ∷ 0 ∷ 0 ∷ 0 ∷ 0 ∷ 0 ∷ 0 ∷ 0 ∷
    12 ∷ 0 ∷ 0 ∷ 0 ∷ 0 ∷ 0 ∷ 0 ∷ 0 ∷ 0 ∷ 0 ∷ 0 ∷ 0 ∷
    16 ∷ 0 ∷ 0 ∷ 0 ∷ 0 ∷ 0 ∷ 0 ∷ 0 ∷ 3 ∷ 0 ∷ 0 ∷ 0 ∷
    14 ∷ 0 ∷ 0 ∷ 0 ∷ 2 ∷ 0 ∷ 0 ∷ 0 ∷ 0 ∷ 0 ∷ 0 ∷ 0 ∷
    16 ∷ 0 ∷ 0 ∷ 0 ∷ 3 ∷ 0 ∷ 0 ∷ 0 ∷ 2 ∷ 0 ∷ 0 ∷ 0 ∷
    0 ∷ 0 ∷ 0 ∷ 0 ∷ 0 ∷ 0 ∷ 0 ∷ 0 ∷ 1 ∷ 0 ∷ 0 ∷ 0 ∷
    1 ∷ 0 ∷ 0 ∷ 0 ∷ 0 ∷ 0 ∷ 0 ∷ 0 ∷ 1 ∷ 0 ∷ 0 ∷ 0 ∷
    3 ∷ 0 ∷ 0 ∷ 0 ∷ 0 ∷ 0 ∷ 0 ∷ 0 ∷ 0 ∷ 0 ∷ 0 ∷ 0 ∷
    1 ∷ 0 ∷ 0 ∷ 0 ∷ 1 ∷ 0 ∷ 0 ∷ 0 ∷ 2 ∷ 0 ∷ 0 ∷ 0 ∷
    3 ∷ 0 ∷ 0 ∷ 0 ∷ 12 ∷ 0 ∷ 0 ∷ 0 ∷ 2 ∷ 0 ∷ 0 ∷ 0 ∷
    4 ∷ 0 ∷ 0 ∷ 0 ∷ 255 ∷ 255 ∷ 255 ∷ 255 ∷ 255 ∷ 255 ∷ 255 ∷ 255 ∷
    60 ∷ 0 ∷ 0 ∷ 0 ∷ 100 ∷ 0 ∷ 0 ∷ 0 ∷ 132 ∷ 0 ∷ 0 ∷ 0 ∷
    1 ∷ 0 ∷ 0 ∷ 0 ∷ []

-- It extends T, and T does not extend it.
pub T-extended : extension file longer ≡ Yes
unfolding little cell shaped layout_of tabulate table_of lowest good_row good_field find_among good_method small bad_row bad_field bad_method checked_table checked every field_kept row_kept_of method_kept widened bitmap_kept extended extension
T-extended = refl

pub T-shortened : extension longer file ≡ No
unfolding little cell shaped layout_of tabulate table_of lowest good_row good_field find_among good_method small bad_row bad_field bad_method checked_table checked every field_kept row_kept_of method_kept widened bitmap_kept extended extension
T-shortened = refl

-- n optional fields of type 0; and the file whose type 0 is uint8 and whose type 1 is a struct of them.
abbrev optionals : ℕ → List ℕ
optionals zero = []
optionals (suc n) = four 0 ++ (four 1 ++ optionals n)

abbrev struct_of : ℕ → List ℕ
struct_of n =
    four 6 ++ (four 0 ++ (four 0 ++
    (four 16 ++ (four 0 ++ (four n ++
    (optionals n ++
    (four 24 ++ (four (24 + 8 * n) ++ (four (24 + 8 * n) ++ four 1)))))))))

-- Seven fields may become eight, eight not nine.
pub eight-fields : (extension (struct_of 7) (struct_of 8) ≡ Yes) × (extension (struct_of 8) (struct_of 9) ≡ No)
unfolding little cell shaped layout_of tabulate table_of lowest good_row good_field find_among good_method small bad_row bad_field bad_method checked_table checked every field_kept row_kept_of method_kept widened bitmap_kept extended extension
eight-fields = (refl, refl)
