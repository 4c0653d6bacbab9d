-- A plan settled over the lent rows: within them and past their end.
use mathlib.Core.Path.{◌≡◌, sym, ap, ◌∙◌}
use Prim.Native.Nat.{ℕ, ◌<◌, ◌≤◌, ◌*◌, ◌^◌}
use native.Mathlib.Omega.{arith}
use mathlib.Core.List.{List}
use lib.ListN.{length, get_or, set, length-replicate, get_or-eq_default}
use lib.Seq.{set_out}
use Rattle.schema.specs.Table.{Table}
use Rattle.schema.specs.File.{table_of}
use Rattle.calls.specs.declared.Call.{Call}
use Rattle.calls.specs.declared.Tally.{Tally}
use Rattle.calls.specs.Counting.{no_tally}
use Rattle.receiver.specs.Plan.{Plan}
use Rattle.receiver.specs.Received.{Received}
use Rattle.receiver.specs.Released.{Released}
use Rattle.receiver.specs.Settled.{Settled}
use Rattle.receiver.specs.SettledRelease.{SettledRelease}
use Rattle.receiver.specs.Answer.{RowEffect, row_effect, effect, in_row}
use Rattle.receiver.specs.Planning.{plan_of, release_plan}
use Rattle.receiver.specs.Receive.{settled, received}
use Rattle.receiver.specs.Run.{fresh_tallies}
use Rattle.receiver.specs.Fresh.{fresh_effect, received_fresh}
use Rattle.receiver.proofs.Rows.{fresh-row}
use Rattle.receiver.specs.Release.{release_effect, release_settled, released}

-- the machine computes the place of a row in bytes
pub in_room : (n i : ℕ) → i < n → n * 20 < 2 ^ 63 → i * 20 < 2 ^ 64
in_room n i h r = omega arith

-- ---- a frame

module _ (s : List ℕ) (side : ℕ) (bytes sheet : List ℕ) (ts : List Tally) (l : List Call) (p : Plan) (planned : p ≡ plan_of s side bytes (length ts) l) where
  pub within : (r : Settled) (cs : List ℕ) → row_effect r.answer cs r.row ≡ settled s bytes sheet l (get_or ts p.row no_tally) p.next
      → effect r.answer cs (set ts p.row r.row) ≡ received s side bytes sheet ts l
  unfolding received
  within r cs e =
      ap (in_row ts p.row) e ∙ ap (λ (q : Plan). in_row ts q.row (settled s bytes sheet l (get_or ts q.row no_tally) q.next)) planned

  pub beyond : (r : Received) (cs : List ℕ) → let x = settled s bytes sheet l no_tally p.next in (r ≡ x.answer) × (cs ≡ x.sheet) → length ts ≤ p.row
      → effect r cs ts ≡ received s side bytes sheet ts l
  unfolding received
  beyond r cs e h =
      let x : Tally → RowEffect = λ t. settled s bytes sheet l t p.next in
      let missing : get_or ts p.row no_tally ≡ no_tally = get_or-eq_default ts no_tally h in
      (λ i. effect (e.0 i) (e.1 i) ts)
      ∙ ap (λ (y : List Tally). effect (x no_tally).answer (x no_tally).sheet y) (sym (set_out ts p.row (x no_tally).row h))
      ∙ ap (λ (t : Tally). in_row ts p.row (x t)) (sym missing)
      ∙ ap (λ (q : Plan). in_row ts q.row (settled s bytes sheet l (get_or ts q.row no_tally) q.next)) planned

-- ---- fresh rows

pub fresh-long : (T : Table) → length (fresh_tallies T) ≡ length T.methods
unfolding fresh_tallies
fresh-long T = length-replicate (length T.methods) no_tally

-- A plan for as many rows as methods, settled with a row of zeros.
pub fresh-settled : (s : List ℕ) (side : ℕ) (bytes sheet : List ℕ) (l : List Call) (p : Plan) → p ≡ plan_of s side bytes (length (table_of s).methods) l
    → (r : Received) (cells : List ℕ) → let x = settled s bytes sheet l no_tally p.next in (r ≡ x.answer) × (cells ≡ x.sheet)
    → fresh_effect r cells ≡ received_fresh s side bytes sheet l
unfolding received received_fresh
fresh-settled s side bytes sheet l p planned r cells is =
    let ts = fresh_tallies (table_of s) in
    let same : p ≡ plan_of s side bytes (length ts) l = planned ∙ ap (λ (n : ℕ). plan_of s side bytes n l) (sym (fresh-long (table_of s))) in
    let row : no_tally ≡ get_or ts p.row no_tally = sym (fresh-row (table_of s) p.row) in
    (λ i. fresh_effect (is.0 i) (is.1 i))
    ∙ ap (λ (t : Tally). let x = settled s bytes sheet l t p.next in fresh_effect x.answer x.sheet) row
    ∙ ap (λ (q : Plan). let x = settled s bytes sheet l (get_or ts q.row no_tally) q.next in fresh_effect x.answer x.sheet) same

-- ---- a release

module _ (s : List ℕ) (l : List Call) (id : ℕ) (ts : List Tally) (p : Plan) (planned : p ≡ release_plan s l id (length ts)) where
  pub release-within : (r : SettledRelease) → r ≡ release_settled l (get_or ts p.row no_tally) p.next
      → release_effect r.answer (set ts p.row r.row) ≡ released s l id ts
  unfolding released
  release-within r e =
      ap (λ (x : SettledRelease). release_effect x.answer (set ts p.row x.row)) e
      ∙ ap (λ (q : Plan). let x = release_settled l (get_or ts q.row no_tally) q.next in release_effect x.answer (set ts q.row x.row)) planned

  pub release-beyond : (r : Released) → r ≡ (release_settled l no_tally p.next).answer → length ts ≤ p.row → release_effect r ts ≡ released s l id ts
  unfolding released
  release-beyond r e h =
      let x : Tally → SettledRelease = λ t. release_settled l t p.next in
      let missing : get_or ts p.row no_tally ≡ no_tally = get_or-eq_default ts no_tally h in
      ap (λ (a : Released). release_effect a ts) e
      ∙ ap (λ (y : List Tally). release_effect (x no_tally).answer y) (sym (set_out ts p.row (x no_tally).row h))
      ∙ ap (λ (t : Tally). release_effect (x t).answer (set ts p.row (x t).row)) (sym missing)
      ∙ ap (λ (q : Plan). let y = release_settled l (get_or ts q.row no_tally) q.next in release_effect y.answer (set ts q.row y.row)) planned
