-- Which errors the functions of files answer, and what an error leaves of a reader.
use Rattle.std.specs.Prelude.{ℕ, List, length, take, pos, ◌≡◌, ◌≤◌, ◌⊎◌, Some, IsUtf8}
use Rattle.std.specs.IoError.{raw_os_error}
use Rattle.std.specs.Io.KnownBytes.{Appends, Consumes}
use Rattle.std.specs.declared.option.Option.{Option}
use Rattle.std.specs.declared.io.Error.{Error}
use Rattle.files.specs.declared.FileError.{FileError}
use Rattle.files.specs.declared.FileError.TheVariants.{Name, File}

-- the system's number 22 for an argument that is missing, and 36 for a name that is too long
abbrev pub IsNumberOfName : Error → Type 0
IsNumberOfName e = (raw_os_error e ≡ Some (pos 22)) ⊎ (raw_os_error e ≡ Some (pos 36))

-- an argument is no file's name, and nothing else
abbrev pub IsNameError : FileError → Type 0
IsNameError (Name e) = IsNumberOfName e
IsNameError (File argument e) = ⊥

-- argument i is no file's name, or the system refused a call on the file that it names
abbrev pub IsReadError : ℕ → FileError → Type 0
IsReadError i (Name e) = IsNumberOfName e
IsReadError i (File argument e) = argument ≡ i

-- the system's number 84, for a name that is no UTF-8 text
abbrev pub IsNoText : List ℕ → Error → Type 0
IsNoText path e = (raw_os_error e ≡ Some (pos 84)) × (IsUtf8 path → ⊥)

-- a reader gave the bytes that stand at the front of buf, and no others
abbrev pub GivesFront : Option (List ℕ) → Option (List ℕ) → List ℕ → Type 0
GivesFront old new buf = (n : ℕ) × (n ≤ length buf) × Consumes old new (take n buf)

-- a writer took the bytes up to some place, and no others
abbrev pub TakesFront : Option (List ℕ) → Option (List ℕ) → List ℕ → Type 0
TakesFront old new bytes = (n : ℕ) × (n ≤ length bytes) × Appends old new (take n bytes)

-- a reader gave some bytes, none or more, and has what stood after them left
abbrev pub GivesSome : Option (List ℕ) → Option (List ℕ) → Type 0
GivesSome old new = (bs : List ℕ) × Consumes old new bs
