-- Texts on a page, as ASCII codes.
use Rattle.std.specs.Prelude.{◌≡◌, List, [], ◌∷◌, ◌++◌, ℕ, ◌+◌, length}
use Rattle.buffer.specs.Store.{put}
use Rattle.text.specs.declared.Page.{Page}
use Rattle.text.specs.Decimal.{decimal}

-- A blank and a number.
unfoldable pub field : ℕ → List ℕ
field n = (32 ∷ []) ++ decimal n

-- What a page shows: its buffer's bytes, how many have been put, and which buffer it is.
pub record Shown : Type 0 where
  pub bytes : List ℕ
  pub len : ℕ
  pub name : ℕ

abbrev pub shown : Page → Shown
shown p = record { bytes = p.out.now; len = p.len; name = p.out.ghost_name }

-- The same with a text put after what has been put, each byte that has a place there.
unfoldable pub put_on : Shown → List ℕ → Shown
put_on p text = record { bytes = put p.bytes p.len text; len = p.len + length text; name = p.name }

-- A page as it is before and after a text was put on it.
abbrev pub AddedTo : (before after : Page) (text : List ℕ) → Type 0
AddedTo before after text = shown after ≡ put_on (shown before) text
