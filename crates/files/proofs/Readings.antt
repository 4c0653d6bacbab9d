-- Readers that give some bytes, one call after another.
use Rattle.std.proofs.Common.{List, [], ◌++◌, ℕ, take, Result, Ok, Err, IfOk, OnErr}
use Rattle.std.specs.declared.option.Option.{Option}
use Rattle.std.specs.declared.io.Error.{Error}
use Rattle.std.specs.Io.KnownBytes.{Consumes, Keeps}
use Rattle.std.proofs.KnownBytes.{Consumes-nil, Consumes-trans, Consumes-kept}
use Rattle.files.specs.Failures.{GivesSome, GivesFront}

pub GivesSome-none : (a : Option (List ℕ)) → GivesSome a a
GivesSome-none a = ([], Consumes-nil a)

pub GivesSome-more : (a b c : Option (List ℕ)) (bs : List ℕ) → GivesSome a b → Consumes b c bs → GivesSome a c
GivesSome-more a b c bs p q = (p.0 ++ bs, Consumes-trans a b c p.0 bs p.1 q)

pub GivesSome-trans : (a b c : Option (List ℕ)) → GivesSome a b → GivesSome b c → GivesSome a c
GivesSome-trans a b c p q = GivesSome-more a b c q.0 p q.1

pub GivesSome-kept : (a b c : Option (List ℕ)) → GivesSome a b → Keeps b c → GivesSome a c
GivesSome-kept a b c p q = (p.0, Consumes-kept a b c p.0 p.1 q)

-- What `fill` gave, whether it failed or not.
pub GivesSome-filled : (r : Result ℕ Error) (a b : Option (List ℕ)) (buf : List ℕ) → IfOk r (λ n. Consumes a b (take n buf)) → OnErr r (GivesFront a b buf) → GivesSome a b
GivesSome-filled (Ok n) a b buf p q = (take n buf, p)
GivesSome-filled (Err e) a b buf p q = (take q.0 buf, q.2)
