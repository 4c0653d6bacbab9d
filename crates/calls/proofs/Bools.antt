-- Laws of `implies`.
use mathlib.Core.Path.{◌≡◌, refl}
use mathlib.Core.Bool.{Bool, true, false}
use Rattle.schema.proofs.Bools.{clash}
use Rattle.calls.specs.Record.{implies}

pub imp_i : (a b : Bool) → (a ≡ true → b ≡ true) → implies a b ≡ true
imp_i true b f = f refl
imp_i false b f = refl

pub imp_e : (a b : Bool) → implies a b ≡ true → a ≡ true → b ≡ true
imp_e true b h p = h
imp_e false b h p = clash false p refl
