-- Why a payload is refused: what stands at the place of the refusal, and what stands before it. No reader is mentioned.
use Rattle.std.specs.Prelude.{◌≡◌, ◌⊎◌, List, [], ◌∷◌, ◌++◌, true, ℕ, suc, ◌*◌, ◌/◌, ◌%◌, ◌^◌, ◌≤◌, ◌<◌, length, get_or}
use Rattle.wire.specs.Varuint.{Spelled, Completed}
use Rattle.wire.specs.Little.{little}
use Rattle.utf8.specs.Utf8.{Utf8}
use Rattle.parse.specs.Reader.{MalformedBytes}
use Rattle.schema.specs.declared.Field.{Field}
use Rattle.schema.specs.Table.{Shape, unknown, scalar, text, array, map, struct, width, bitmap_bytes}
use Rattle.schema.specs.Check.{no_field}
use Rattle.value.specs.Value.{Value, Values, content, size}
use Rattle.value.specs.Plan.{Item, plan}
use Rattle.value.specs.Read.{known_bits, unknown_bits}
use Rattle.value.specs.Spell.{BitmapSpells, HeadSpells, AllSpell, keys_of, Distinct, Spells, RootSpells, nth}

-- ---- own bytes

-- How many bytes, at the least, stand after a length or a count for each that it counts: 1 for a byte or an element, 2 for a pair. 0 for a shape without one.
abbrev pub least : Shape → ℕ
least (text _) = 1
least (array _) = 1
least (map _ _) = 2
least unknown = 0
least (scalar _) = 0
least (struct _) = 0

-- Field i is required, and its bit is not set in m.
abbrev pub Absent : List Field → (m i : ℕ) → Type 0
Absent fs m i = (i < length fs) × ((get_or fs i no_field).optional ≡ 1 → ⊥) × (m / 2 ^ i % 2 ≡ 0)

-- A bit of m beyond the fields is set.
abbrev pub Beyond : List Field → (m : ℕ) → Type 0
Beyond fs m = (i : ℕ) × (length fs ≤ i) × (m / 2 ^ i % 2 ≡ 1)

-- The bitmap x, before the bytes `rest`, is cut, or lacks a required field.
pub data BitmapFault (fs : List Field) : (x rest : List ℕ) (number : ℕ) → Type 0 where
  cut : {x : List ℕ} → length x < bitmap_bytes (length fs) → BitmapFault fs x [] 20
  absent : {x rest : List ℕ} (i : ℕ) → length x ≡ bitmap_bytes (length fs) → Absent fs (little x) i → BitmapFault fs x rest 25

-- The faulty bytes x among the own bytes of a value of each shape, after the bytes u of the same value and before the bytes `rest`.
pub data OwnFault : Shape → (u x rest : List ℕ) (number : ℕ) → Type 0 where
  cut-number : {s : Shape} {x : List ℕ} → 0 < least s → Completed Spelled x → OwnFault s [] x [] 20
  bad_number : {s : Shape} {x rest : List ℕ} → 0 < least s → MalformedBytes x → OwnFault s [] x rest 21
  exceeds : {s : Shape} {x rest : List ℕ} (n : ℕ) → Spelled n x → length rest < least s * n → OwnFault s [] x rest 20
  cut-scalar : {kind : ℕ} {x : List ℕ} → length x < width kind → OwnFault (scalar kind) [] x [] 20
  no_bool : {b : ℕ} {rest : List ℕ} → 2 ≤ b → OwnFault (scalar 1) [] (b ∷ []) rest 22
  no_string : {u x rest : List ℕ} → Spelled (length x) u → (Utf8 x → ⊥) → OwnFault (text 12) u x rest 23
  many-pairs : {k v : ℕ} {x rest : List ℕ} (n : ℕ) → Spelled n x → 2 * n ≤ length rest → 64 < n → OwnFault (map k v) [] x rest 31
  bits : {fs : List Field} {x rest : List ℕ} {n : ℕ} → BitmapFault fs x rest n → OwnFault (struct fs) [] x rest n
  unknown-bit : {fs : List Field} {x rest : List ℕ} (m : ℕ) → BitmapSpells fs m x → Beyond fs m → OwnFault (struct fs) [] x rest 26

-- ---- whole values

-- A composite of shape s starts with the head u, and the bytes y spell its first items, with d levels of depth allowed and the keys `earlier`, no two
-- equal. Then the item i is due, at the bytes `left`.
pub record Due (S : ℕ → Shape) (d : ℕ) (s : Shape) (u y left : List ℕ) (i : Item) (earlier : List (List ℕ)) : Type 0 where
  pub head : ℕ
  pub before : List Item
  pub after : List Item
  pub shown : Values
  pub starts : HeadSpells s head u
  pub enough : least s * head ≤ length (y ++ left)
  pub planned : plan s head ≡ before ++ (i ∷ after)
  pub spelled : AllSpell (Spells S d) before shown y
  pub distinct : Distinct (keys_of before shown)
  pub keys : keys_of before shown ≡ earlier

-- The content is one of the keys.
abbrev pub AmongKeys : List (List ℕ) → List ℕ → Type 0
AmongKeys keys x = (j : ℕ) × (j < length keys) × (get_or keys j [] ≡ x)

-- The value is the key of one of the first m pairs.
abbrev pub KeyAmong : (m : ℕ) → Values → Value → Type 0
KeyAmong m vs v = (j : ℕ) × (j < m) × (nth vs (2 * j) ≡ v)

-- The faulty bytes x in a value of type t, with d levels of depth allowed, after the bytes u of the same value and before the bytes `rest`: no level is
-- left; its own bytes are faulty; an item that it holds is; or such an item is a key, whole, and equal to an earlier one.
pub data Faulty (S : ℕ → Shape) : (d t : ℕ) (u x rest : List ℕ) (number : ℕ) → Type 0 where
  too_deep : {t : ℕ} {rest : List ℕ} → Faulty S 0 t [] [] rest 28
  own : {d t n : ℕ} {u x rest : List ℕ} → OwnFault (S t) u x rest n → Faulty S (suc d) t u x rest n
  inner : {d t n : ℕ} {u y w x rest : List ℕ} {i : Item} {earlier : List (List ℕ)} → Due S d (S t) u y (w ++ (x ++ rest)) i earlier
      → Faulty S d i.type w x rest n → Faulty S (suc d) t (u ++ (y ++ w)) x rest n
  repeated : {d t : ℕ} {u y x rest : List ℕ} {i : Item} {earlier : List (List ℕ)} → Due S d (S t) u y (x ++ rest) i earlier
      → i.key ≡ true → (v : Value) → Spells S d i.type v x → AmongKeys earlier (content v) → Faulty S (suc d) t (u ++ y) x rest 24

-- ---- the root

-- The root, a struct of the fields fs, has the bits m in the bitmap u, and the bytes y spell its first known fields that are present. Those in `after` are due.
pub record RootDue (S : ℕ → Shape) (fs : List Field) (m : ℕ) (u y : List ℕ) (after : List Item) : Type 0 where
  pub before : List Item
  pub shown : Values
  pub starts : BitmapSpells fs m u
  pub planned : plan (struct fs) (known_bits fs m) ≡ before ++ after
  pub spelled : AllSpell (Spells S 15) before shown y

-- The faulty bytes x of a payload, after the bytes u and before the bytes `rest`: of the bitmap, of a field; surplus bytes where no unknown bit is set;
-- or a tail with fewer bytes than unknown bits.
pub data RootFault (S : ℕ → Shape) (fs : List Field) : (u x rest : List ℕ) (number : ℕ) → Type 0 where
  bits : {n : ℕ} {x rest : List ℕ} → BitmapFault fs x rest n → RootFault S fs [] x rest n
  field : {m n : ℕ} {u y w x rest : List ℕ} {i : Item} {after : List Item} → RootDue S fs m u y (i ∷ after) → Faulty S 15 i.type w x rest n
      → RootFault S fs (u ++ (y ++ w)) x rest n
  surplus : {m : ℕ} {u y x : List ℕ} → RootDue S fs m u y [] → unknown_bits fs m ≡ 0 → 0 < length x → RootFault S fs (u ++ y) x [] 27
  short-tail : {m : ℕ} {u y x : List ℕ} → RootDue S fs m u y [] → length x < unknown_bits fs m → RootFault S fs (u ++ y) x [] 20

-- The payload, as type t by the shapes S, with room for so many rows: 46 for a type that is no struct; 7 above 16,384 bytes; faulty bytes at their place;
-- 30 where the payload is right and has more values than there is room for.
pub data Reason (S : ℕ → Shape) (t : ℕ) (payload : List ℕ) (room : ℕ) : (number place : ℕ) → Type 0 where
  no-struct : ((fs : List Field) → S t ≡ struct fs → ⊥) → Reason S t payload room 46 0
  too_long : (fs : List Field) → S t ≡ struct fs → 16384 < length payload → Reason S t payload room 7 0
  faulty : {n : ℕ} (fs : List Field) (u x rest : List ℕ) → S t ≡ struct fs → length payload ≤ 16384 → payload ≡ u ++ (x ++ rest)
      → RootFault S fs u x rest n → Reason S t payload room n (length u)
  too_few-rows : (fs : List Field) (v : Value) (tail : List ℕ) → S t ≡ struct fs → length payload ≤ 16384 → RootSpells S fs v payload tail → room < size v
      → Reason S t payload room 30 0

-- The numbers for which the bytes after the faulty ones do not matter.
abbrev pub Settles : ℕ → Type 0
Settles n = ((21 ≤ n) × (n ≤ 26)) ⊎ ((n ≡ 28) ⊎ (n ≡ 31))
