-- The reader: a value of a type, with places, or a refusal with its number and place.
use Rattle.std.specs.Prelude.{List, [], ◌∷◌, Bool, true, false, not, ◌&&◌, ◌||◌, cond, ℕ, zero, suc, ◌-◌, ◌*◌, ◌/◌, ◌%◌, ◌^◌, leb, ltb, eqb, length, take}
use Rattle.std.specs.Int.Count.{ones_in}
use Rattle.wire.specs.Little.{little}
use Rattle.utf8.specs.Utf8.{utf8}
use Rattle.parse.specs.Reader.{Answer, refused, seen, Reader, ReaderOf, ◌>>=◌, ◌>>◌, return, at, refuse, check, cursor_at, block, count}
use Rattle.schema.specs.declared.Field.{Field}
use Rattle.schema.specs.Table.{Table, Shape, unknown, scalar, text, array, map, struct, shape, width, bitmap_bytes}
use Rattle.value.specs.declared.Row.{Row}
pub use Rattle.value.specs.Plan.{Item}
unfoldable pub use Rattle.value.specs.Plan.{plain_item, pairs_allowed, pairs, present, plan, row_count}
use Rattle.value.specs.Comparisons.{comparisons}
use Rattle.value.specs.Value.{Tree, tip, branch, Forest, stop, plus, rows, value, content}

-- ---- a value's own bytes

-- What a value's own bytes say: a content; or a composite's place, and its head, which is the count or the presence bits.
pub data Own : Type 0 where
  plain : (content : List ℕ) → Own
  parts : (start head : ℕ) → Own

-- Each field that is not optional has its bit set in m.
unfoldable pub required_set : List Field → ℕ → Bool
required_set [] m = true
required_set (f ∷ fs) m = (eqb f.optional 1 || eqb (m % 2) 1) && required_set fs (m / 2)

-- A struct's presence bits as a number, unknown ones too.
unfoldable pub bitmap : List Field → Reader ℕ
bitmap fs = at λ start. do
  bits ← block (bitmap_bytes (length fs))
  check (required_set fs (little bits)) 25 start.at
  return (little bits)

-- The own bytes of a value of each shape. (A good table has no child of an unknown type.)
abbrev pub own : Shape → Reader Own
own unknown = refuse 42 0
own (scalar kind) = at λ start. do
  x ← block (width kind)
  check (not (eqb kind 1) || ltb (little x) 2) 22 start.at
  return (plain x)
own (text kind) = do
  n ← count 1
  at λ start. do
    x ← block n
    check (not (eqb kind 12) || utf8 x) 23 start.at
    return (plain x)
own (array e) = do
  n ← count 1
  at λ start. return (parts start.at n)
own (map k v) = at λ here. do
  n ← count 2
  check (pairs_allowed n) 31 here.at
  at λ start. return (parts start.at n)
own (struct fs) = at λ start. do
  m ← bitmap fs
  check (ltb m (2 ^ length fs)) 26 start.at
  return (parts start.at m)

-- ---- whole values

-- Two contents are the same; a content is among others.
abbrev pub same : List ℕ → List ℕ → Bool
same [] [] = true
same [] (y ∷ ys) = false
same (x ∷ xs) [] = false
same (x ∷ xs) (y ∷ ys) = eqb x y && same xs ys

abbrev pub among : List ℕ → List (List ℕ) → Bool
among x [] = false
among x (y ∷ ys) = same x y || among x ys

abbrev pub with_key : Bool → List ℕ → List (List ℕ) → List (List ℕ)
with_key true x keys = x ∷ keys
with_key false x keys = keys

-- The items of a plan one after the other, each by the reader p of its type. A key equal to one before it is refused at its start, once it is whole.
unfoldable pub walk : {E : Type 0} → (ℕ → ReaderOf E Tree) → (keys : List (List ℕ)) → List Item → ReaderOf E Forest
walk p keys [] = return stop
walk p keys (i ∷ is) = at λ here. do
  t ← p i.type
  check (not (i.key && among (content (value t)) keys)) 24 here.at
  ts ← walk p (with_key i.key (content (value t)) keys) is
  return (plus t ts)

-- The row of a leaf whose content ends at `end`, and of a composite that reaches from `start` to `end`.
abbrev pub leaf_row : (t end size : ℕ) → Row
leaf_row t end size = record { ty = t; place = end - size; length = size; count = 0 }

abbrev pub node_row : (t start end n : ℕ) → Row
node_row t start end n = record { ty = t; place = start; length = end - start; count = n }

-- A value of type t and shape s from what its own bytes say, with the reader p for what it holds.
abbrev pub whole_value : (ℕ → Reader Tree) → ℕ → Shape → Own → Reader Tree
whole_value p t s (plain x) = at λ end. return (tip (leaf_row t end.at (length x)) x)
whole_value p t s (parts start head) = do
  ts ← walk p [] (plan s head)
  at λ end. return (branch (node_row t start end.at (row_count s head)) head ts)

-- A value of type t, with d levels of depth still allowed.
unfoldable pub parse : (ℕ → Shape) → (d t : ℕ) → Reader Tree
parse S zero t = at λ here. refuse 28 here.at
parse S (suc d) t = do
  o ← own (S t)
  whole_value (parse S d) t (S t) o

-- ---- the root

-- The presence bits of the root, unknown ones too: the number of the bitmap at the payload's front.
abbrev pub root_bits : List Field → (payload : List ℕ) → ℕ
root_bits fs payload = little (take (bitmap_bytes (length fs)) payload)

-- The presence bits of the known fields, and how many unknown bits (01's term), those beyond them, are set.
abbrev pub known_bits : List Field → ℕ → ℕ
known_bits fs m = m % 2 ^ length fs

abbrev pub unknown_bits : List Field → ℕ → ℕ
unknown_bits fs m = ones_in (8 * bitmap_bytes (length fs) - length fs) (m / 2 ^ length fs)

-- What follows the root's known fields. Each unknown bit that is set asks for a byte or more of a tail (01's term), which is not read.
unfoldable pub root_ending : (unknown : ℕ) → Reader (Unit {0})
root_ending zero = at λ end. check (eqb (length end.left) 0) 27 end.at
root_ending (suc k) = at λ end. check (leb (suc k) (length end.left)) 20 end.at

-- The root, a struct of the fields fs, at depth 1; 16 is the greatest depth. The cursor in the answer is at the tail.
unfoldable pub root_struct : (ℕ → Shape) → ℕ → List Field → Reader Tree
root_struct S t fs = at λ start. do
  m ← bitmap fs
  ts ← walk (parse S 15) [] (plan (struct fs) (known_bits fs m))
  at λ end. do
    root_ending (unknown_bits fs m)
    return (branch (node_row t start.at end.at (row_count (struct fs) (known_bits fs m))) (known_bits fs m) ts)

-- ---- the whole reader

-- What f gives for a struct's fields; `other` for any other shape.
abbrev pub on_struct_of : {A : Type 0} → Shape → (other : A) → (List Field → A) → A
on_struct_of (struct fs) other f = f fs
on_struct_of unknown other f = other
on_struct_of (scalar _) other f = other
on_struct_of (text _) other f = other
on_struct_of (array _) other f = other
on_struct_of (map _ _) other f = other

abbrev pub root_of : (ℕ → Shape) → ℕ → List ℕ → Answer Tree
root_of S t payload =
    on_struct_of (S t) (refused 46 0) (λ fs. cond (leb (length payload) 16384) (root_struct S t fs (cursor_at payload 0)) (refused 7 0))

-- The answer: a number with a place, or the rows with the tail's place and length, and how many key comparisons were due.
pub data Reading : Type 0 where
  refusal : (number place : ℕ) → Reading
  accepted : List Row → (tail_place_of tail_length_of comparisons : ℕ) → Reading

-- The answer for a root of type t that was read by the shapes S. The rows that are shown of it have to fit into a sheet with room for so many.
abbrev pub reading_as : (shown : Tree → List Row) → (ℕ → Shape) → ℕ → (room : ℕ) → Answer Tree → Reading
reading_as shown S t room (refused n p) = refusal n p
reading_as shown S t room (seen tree end) =
    cond (leb (length (shown tree)) room) (accepted (shown tree) end.at (length end.left) (comparisons S (value tree) t)) (refusal 30 0)

-- All its rows are shown.
abbrev pub reading : (ℕ → Shape) → ℕ → (room : ℕ) → Answer Tree → Reading
reading S t room answer = reading_as rows S t room answer

-- A payload read as a struct of type t by a good table.
unfoldable pub read : Table → ℕ → List ℕ → (room : ℕ) → Reading
read T t payload room = reading (shape T) t room (root_of (shape T) t payload)
