-- Entries as a relation, beside the test: which bytes are an entry, where one starts, and a record that is whole entries one after the other.
use Rattle.std.specs.Prelude.{◌≡◌, List, [], ◌∷◌, ◌++◌, ℕ}
use Rattle.frame.specs.declared.Header.{Header}
use Rattle.frame.specs.IsFrame.{IsFrame}

-- A side byte: C or S.
pub data Side : ℕ → Type 0 where
  client : Side 67
  server : Side 83

-- An entry is a side byte and a frame.
pub data IsEntry : List ℕ → Type 0 where
  entry : {side : ℕ} {h : Header} {payload frame : List ℕ} → Side side → IsFrame h payload frame → IsEntry (side ∷ frame)

-- The bytes s start with the entry e.
pub record Starts (s e : List ℕ) : Type 0 where
  pub rest : List ℕ
  pub split : s ≡ e ++ rest
  pub is : IsEntry e

-- The bytes s start with no entry.
abbrev pub NoEntry : List ℕ → Type 0
NoEntry s = (e : List ℕ) → Starts s e → ⊥

-- Entries one after the other, and the record that they are.
pub data Entries : (s : List ℕ) → List (List ℕ) → Type 0 where
  no_more : Entries [] []
  one_more : {e s : List ℕ} {es : List (List ℕ)} → IsEntry e → Entries s es → Entries (e ++ s) (e ∷ es)
