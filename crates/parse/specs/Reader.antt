-- Readers: functions from a cursor to a refusal, or to what was read and the cursor after it. They read the bytes of a payload, or the rows of a sheet.
use Rattle.std.specs.Prelude.{◌≡◌, ◌⊎◌, List, Bool, true, false, ℕ, ◌+◌, ◌-◌, ◌*◌, ◌<◌, leb, length, take, drop}
use Rattle.wire.specs.Varuint.{Groups, last_or, TenthAbove, front_var_u_int, VarUInt, Number, Cut, Malformed}

-- Where a reader stands: what is left, and the place of the first of it.
pub record CursorOf (E : Type 0) : Type 0 where
  pub left : List E
  pub at : ℕ

-- A refusal with its number and place, or what was read and the cursor after it.
pub data AnswerOf (E A : Type 0) : Type 0 where
  refused : (number place : ℕ) → AnswerOf E A
  seen : A → CursorOf E → AnswerOf E A

-- The answer accepts.
abbrev pub Accepted : {E A : Type 0} → AnswerOf E A → Type 0
Accepted (refused n p) = ⊥
Accepted (seen a c) = Unit {0}

abbrev pub ReaderOf : Type 0 → Type 0 → Type 0
ReaderOf E A = CursorOf E → AnswerOf E A

unfoldable pub and_then : {E A B : Type 0} → AnswerOf E A → (A → ReaderOf E B) → AnswerOf E B
and_then (refused n p) f = refused n p
and_then (seen a c) f = f a c

abbrev pub ◌>>=◌ : {E A B : Type 0} → ReaderOf E A → (A → ReaderOf E B) → ReaderOf E B
◌>>=◌ m f = λ c. and_then (m c) f

abbrev pub ◌>>◌ : {E A B : Type 0} → ReaderOf E A → ReaderOf E B → ReaderOf E B
◌>>◌ m f = λ c. and_then (m c) (λ _. f)

abbrev pub return : {E A : Type 0} → A → ReaderOf E A
return a c = seen a c

-- Hands on the cursor as it is now.
abbrev pub at : {E A : Type 0} → (CursorOf E → ReaderOf E A) → ReaderOf E A
at f c = f c c

abbrev pub refuse : {E A : Type 0} → (number place : ℕ) → ReaderOf E A
refuse n p c = refused n p

-- Goes on where the test holds.
unfoldable pub check : {E : Type 0} → Bool → (number place : ℕ) → ReaderOf E (Unit {0})
check true n p c = seen tt c
check false n p c = refused n p

-- Readers of bytes.
abbrev pub Cursor : Type 0
Cursor = CursorOf ℕ

abbrev pub Answer : Type 0 → Type 0
Answer A = AnswerOf ℕ A

abbrev pub Reader : Type 0 → Type 0
Reader A = ReaderOf ℕ A

-- The cursor at a place of a payload.
abbrev pub cursor_at : List ℕ → ℕ → Cursor
cursor_at payload at = record { left = drop at payload; at = at }

-- The next n bytes; where fewer remain the item is refused at its first byte.
unfoldable pub block : ℕ → Reader (List ℕ)
block n c =
    and_then
    (check (leb n (length c.left)) 20 c.at c)
    (λ _ c. seen (take n c.left) (record { left = drop n c.left; at = c.at + n }))

-- What a VarUInt at the cursor's place answers: a cut one is 20, a malformed one 21, both at its first byte.
abbrev pub number_read : Cursor → VarUInt → Answer ℕ
number_read c (Number n next) = seen n (record { left = drop (next - c.at) c.left; at = next })
number_read c Cut = refused 20 c.at
number_read c Malformed = refused 21 c.at

unfoldable pub var_u_int : Reader ℕ
var_u_int c = number_read c (front_var_u_int c.left c.at)

-- The bytes of a malformed VarUInt: two groups or more of which the last is 0, or nine groups that go on and a tenth byte above 1.
abbrev pub MalformedBytes : List ℕ → Type 0
MalformedBytes x = ((n : ℕ) × Groups 9 n x × (1 < length x) × (last_or 0 x ≡ 0)) ⊎ ((length x ≡ 10) × TenthAbove x)

-- What remains has room for n items of at least `least` bytes each.
abbrev pub enough : (least n : ℕ) → List ℕ → Bool
enough least n left = leb (least * n) (length left)

-- A length or a count; above what remains it is refused at its VarUInt.
unfoldable pub count : (least : ℕ) → Reader ℕ
count least = at λ start. do
  n ← var_u_int
  at λ rest. check (enough least n rest.left) 20 start.at
  return n
