-- Laws of the keys of a map: what each return of `write_key` shows of the items from a key on, and a turn of the loop over pairs.
use Rattle.std.specs.Prelude.{Result, Ok, Err}
use mathlib.Core.Path.{◌≡◌, refl, sym, ◌∙◌}
use mathlib.Core.Bool.{Bool, true, false}
use mathlib.Core.List.{List, ◌∷◌}
use Prim.Native.Nat.{ℕ, ◌+◌, ◌-◌, ◌/◌, ◌≤◌, ◌<◌}
use native.Mathlib.Omega.{arith}
use lib.ListN.{length}
use Rattle.buffer.specs.Span.{span}
use Rattle.parse.specs.Reader.{CursorOf, AnswerOf, refused, Accepted}
use Rattle.schema.specs.Table.{Shape}
use Rattle.value.specs.declared.Row.{Row}
use Rattle.value.specs.Value.{Tree, Forest}
use Rattle.value.specs.Read.{Item, plain_item, pairs, among, walk}
use Rattle.value.specs.Spell.{leaf_bytes}
use Rattle.value.specs.Write.{RowReader, show}
use Rattle.walks.specs.Shape.{leaf_shape}
use Rattle.walks.specs.Keys.{keys_in, Kept}
use Rattle.walks.proofs.Items.{item-accepted, item-stop, item-past, key-known, key-again, key-past, pairs-some}
use Rattle.constants.specs.Number.{number_of}
use Rattle.constants.specs.declared.refusal.Refusal.TheVariants.{RepeatedKey}
use Rattle.constants.specs.declared.refusal.Refused.{Refused}
use Rattle.writer.specs.declared.leaf.Placed.{Placed}
use Rattle.writer.specs.declared.walk.Past.{Past}
use Rattle.writer.specs.Emit.{PutAt, emitted, Final, stopped, emit, emit_all}
use Rattle.writer.specs.Leaf.{rows_at, row_says, LeafRow}
use Rattle.writer.specs.Walk.{key_first, past_key, KeyReady, KeyWithin, KeyPut}
use Rattle.writer.proofs.Steps.{put_is, emitting, shown-stopped, shown-along, tip-bytes, show-deep, leaf-accepted}
use Rattle.writer.proofs.Composites.{leaf-failed, leaf_in, leaf-read, Came}

-- ---- one key

module _ (B cells out keys : List ℕ) (i kind key row pos : ℕ) (judging : Bool) where
  key-stopped : (e : Refused) → ((S : ℕ → Shape) → S key ≡ leaf_shape kind → (depth : ℕ) → (depth ≡ 0 → ⊥) → show S B depth key (rows_at cells row) ≡ refused (number_of e.refusal) e.place)
      → {out' keys' : List ℕ} → KeyPut B cells out keys i kind key row pos judging (Err e) out' keys'
  unfolding emit_all
  key-stopped e h =
      record {
        same = λ S is depth some rest. item-stop (emitting S) (show S B depth) (keys_in B keys i) refl (rows_at cells row) (emitted pos out) _ (rw (h S is depth some));
        within = tt;
      }

  module _ {leaf : Result Placed Refused} (read : LeafRow cells B kind key row leaf) where
    pub key-failed : {e : Refused} → leaf ≡ Err e → {r : Result Past Refused} {out' keys' : List ℕ} → r ≡ Err e
        → KeyPut B cells out keys i kind key row pos judging r out' keys'
    key-failed {e} q is = rw is (key-stopped e (λ S is depth some. leaf-failed read S is some q))

    module _ {x : Placed} (q : leaf ≡ Ok x) where
      pub key_twice : among (span B x.place x.length) (keys_in B keys i) ≡ true → {r : Result Past Refused} {out' keys' : List ℕ} → r ≡ Err (record { place = row; refusal = RepeatedKey })
          → KeyPut B cells out keys i kind key row pos judging r out' keys'
      unfolding emit_all
      key_twice t e =
          rw e
          (record {
            same =
                λ S is depth some rest.
                let w = leaf-read read S is some q in
                key-again (emitting S) (show S B depth) (keys_in B keys i) refl (rows_at cells row) w.1 (emitted pos out) t;
            within = tt;
          })

      pub key-done : length out ≤ 16384 → among (span B x.place x.length) (keys_in B keys i) ≡ false → {next : ℕ} {out' keys' : List ℕ}
          → PutAt out pos (leaf_bytes (leaf_shape kind) (span B x.place x.length)) next out' → keys_in B keys' (i + 1) ≡ span B x.place x.length ∷ keys_in B keys i → Kept B keys' judging (i + 1)
          → KeyPut B cells out keys i kind key row pos judging (Ok (record { row = row + 1; pos = next })) out' keys'
      unfolding emit_all
      key-done small new {next} {out'} put f kept =
          let own = leaf_in read q in
          record {
            same =
                λ S is depth some rest.
                let w = leaf-read read S is some q in
                rw f
                (sym
                (key-past (emitting S) (show S B depth) (keys_in B keys i) refl (rows_at cells row) w.1 (emitted pos out) new small
                (rw (tip-bytes S key w.0 (span B x.place x.length), is) (put_is put))));
            within = (omega (arith, own.0), put.capped, kept);
          }

  module _ (ready : KeyReady B cells out keys i kind key row pos judging) (j : judging ≡ false) where
    pub key-says : Accepted (row_says B key (leaf_shape kind) (rows_at cells row))
    key-says =
        let w = ready.judged j in
        leaf-accepted w.0 B w.3 key (rows_at cells row) w.1 (item-accepted (show w.0 B w.2) (keys_in B keys i) refl (rows_at cells row) w.4.1)

    pub key-once : {leaf : Result Placed Refused} → LeafRow cells B kind key row leaf → {x : Placed} → leaf ≡ Ok x → among (span B x.place x.length) (keys_in B keys i) ≡ false
    key-once read {x} q =
        let w = ready.judged j in
        let r = leaf-read read w.0 w.1 w.3 q in
        (key-known (show w.0 B w.2) (keys_in B keys i) refl (rows_at cells row) r.1 w.4.1).0

-- ---- a pair

-- the pairs left are a key, its value and the others
pub pair-first : (P : ℕ → RowReader Tree) (k v : ℕ) {n i : ℕ} (keys : List (List ℕ)) (c : CursorOf Row) → i < n
    → Accepted (walk P keys (pairs (n - i) k v) c) → Accepted (walk P keys (key_first k (plain_item v ∷ pairs (n - (i + 1)) k v)) c)
pair-first P k v {n} {i} keys c some h = rw (pairs-some k v some) at h

-- where the depth allows none, the walk ends at the next key
pub pairs-deep : (S : ℕ → Shape) (B cells : List ℕ) {depth : ℕ} (keys : List (List ℕ)) (k v : ℕ) {n i : ℕ} (row pos : ℕ) (out : List ℕ) → i < n → depth ≡ 0
    → stopped 28 row ≡ emit_all S (pairs (n - i) k v) (walk (show S B depth) keys (pairs (n - i) k v) (rows_at cells row)) pos out
unfolding emit emit_all
pairs-deep S B cells {depth} keys k v row pos out some d =
    item-stop (emitting S) (show S B depth) keys (pairs-some k v some) (rows_at cells row) (emitted pos out) _
    (shown-stopped S k pos out (show-deep S B depth k (rows_at cells row) d))

-- After key i, with the answer r for it: its value of type v and the pairs left of n end as all do.
pub record AfterKey (S : ℕ → Shape) (B cells keys : List ℕ) (i key v n depth : ℕ) (judging : Bool) (r : Result Past Refused) (out : List ℕ) (end : Final) : Type 0 where
  pub same : past_key S B cells keys i depth (plain_item v ∷ pairs (n - (i + 1)) key v) r out ≡ end
  pub within : KeyWithin B cells keys i judging r

pub after-key : (S : ℕ → Shape) {B cells out keys out' keys' : List ℕ} {i kind key row pos : ℕ} {judging : Bool} {r : Result Past Refused}
    → KeyPut B cells out keys i kind key row pos judging r out' keys' → S key ≡ leaf_shape kind → (depth : ℕ) → (depth ≡ 0 → ⊥) → (v : ℕ) {n : ℕ} → i < n → {end : Final}
    → emit_all S (pairs (n - i) key v) (walk (show S B depth) (keys_in B keys i) (pairs (n - i) key v) (rows_at cells row)) pos out ≡ end
    → AfterKey S B cells keys' i key v n depth judging r out' end
after-key S {i = i} {key = key} put is depth deep v {n} some all =
    record { same = put.same S is depth deep (plain_item v ∷ pairs (n - (i + 1)) key v) ∙ (rw (pairs-some key v some) at all); within = put.within }

module _ {S : ℕ → Shape} {B cells keys : List ℕ} {i key v n depth : ℕ} {judging : Bool} {r : Result Past Refused} {out : List ℕ} {end : Final}
    (w : AfterKey S B cells keys i key v n depth judging r out end) where
  pub key-was : {r' : Result Past Refused} → r ≡ r' → AfterKey S B cells keys i key v n depth judging r' out end
  key-was e = rw e at w

  module _ {p : Past} (e : r ≡ Ok p) where
    pub pair-accepted : (is₀ : List Item) (o₀ : AnswerOf Row Forest) (pos₀ : ℕ) (out₀ : List ℕ) → end ≡ emit_all S is₀ o₀ pos₀ out₀ → Accepted o₀
        → Accepted (show S B depth v (rows_at cells p.row))
    pair-accepted is₀ o₀ pos₀ out₀ q a =
        let rest = pairs (n - (i + 1)) key v in
        let c = rows_at cells p.row in
        let P = show S B depth in
        let seen = keys_in B keys (i + 1) in
        item-accepted P seen refl c (shown-along S (plain_item v ∷ rest) is₀ (walk P seen (plain_item v ∷ rest) c) o₀ p.pos pos₀ out out₀ ((key-was e).same ∙ q) a)

    pub pair-stop : {a q : ℕ} → stopped a q ≡ emit S v (show S B depth v (rows_at cells p.row)) p.pos out → stopped a q ≡ end
    unfolding emit emit_all
    pair-stop h = item-stop (emitting S) (show S B depth) (keys_in B keys (i + 1)) refl (rows_at cells p.row) (emitted p.pos out) _ h ∙ (key-was e).same

    -- its value was written one way or the other
    pub pair-past : length out ≤ 16384 → (at to : ℕ) (mid : List ℕ) → Came cells (emit S v (show S B depth v (rows_at cells p.row)) p.pos out) out at to mid
        → (emit_all S (pairs (n - (i + 1)) key v) (walk (show S B depth) (keys_in B keys (i + 1)) (pairs (n - (i + 1)) key v) (rows_at cells at)) to mid ≡ end)
        × (at ≤ length cells / 4) × (to ≤ 16385) × (length mid ≡ length out)
    unfolding emit emit_all
    pair-past small at to mid came =
        let v = came.walked in (
          sym (item-past (emitting S) (show S B depth) (keys_in B keys (i + 1)) refl (rows_at cells p.row) (emitted p.pos out) small v.same) ∙ (key-was e).same,
          v.within.0,
          v.within.1,
          came.long,
        )
