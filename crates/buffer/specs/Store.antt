-- What a lent slice holds after stores.
use Rattle.std.specs.Prelude.{List, ◌++◌, ℕ, ◌+◌, length, take, drop}
use Rattle.std.proofs.lemmas.List.Edits.{sets}

-- Bytes stored one after the other. A store past the end is none.
unfoldable pub put : List ℕ → ℕ → List ℕ → List ℕ
put out pos bs = sets out pos bs

-- d with vs in the place of what stood there from at on.
abbrev pub written : List ℕ → ℕ → List ℕ → List ℕ
written d at vs = take at d ++ (vs ++ drop (at + length vs) d)
