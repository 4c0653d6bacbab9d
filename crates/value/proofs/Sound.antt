-- What the reader accepts, the bytes spell.
use mathlib.Core.Path.{◌≡◌, refl}
use mathlib.Core.List.{List, [], ◌∷◌, ◌++◌, append-nil}
use mathlib.Core.Bool.{Bool, true, not, ◌||◌}
use Prim.Native.Nat.{ℕ, zero, suc}
use lib.Dec.{eqb}
use borrow.Author.Tests.{ltb-true, leb-true, not-true, eq-eqb}
use Rattle.utf8.proofs.Utf8s.{utf8-is}
use Rattle.parse.specs.Reader.{Cursor, Reader}
use Rattle.parse.proofs.Answers.{Reads, not-ok, stay, reads_then, reads-check}
use Rattle.parse.proofs.Pieces.{block_reads, count-reads}
use Rattle.schema.specs.declared.Field.{Field}
use Rattle.schema.specs.Table.{Shape, unknown, scalar, text, array, map, struct}
use Rattle.value.specs.Value.{Tree, Value, value, values}
use Rattle.value.specs.Read.{Item, Own, plain, parts, plan, bitmap, own, walk, whole_value, parse}
use Rattle.value.specs.Spell.{LeafSpells, BitmapSpells, HeadSpells, AllSpell, WholeSpells, Spells}
use Rattle.value.proofs.Keys.{Fresh, fresh-distinct}

pub bitmap-reads : (fs : List Field) (c : Cursor) → Reads c (BitmapSpells fs) (bitmap fs c)
unfolding bitmap
bitmap-reads fs c =
    reads_then (block_reads _ c) (λ x c' u q. reads-check _ _ _ _ _ (λ e. stay (rw (append-nil, q.0) (q.1, refl, e))))

-- What the own bytes of a value say.
abbrev pub OwnSpells : Shape → Own → List ℕ → Type 0
OwnSpells s (plain x) u = LeafSpells s x u
OwnSpells s (parts start h) u = HeadSpells s h u

-- A test that asks only where the kind is k.
pub asked : (k kind : ℕ) (b : Bool) → not (eqb kind k) || b ≡ true → kind ≡ k → b ≡ true
asked k kind b e h = rw (eq-eqb kind k h) at e

pub own-reads : (s : Shape) (c : Cursor) → Reads c (OwnSpells s) (own s c)
own-reads unknown c = not-ok
own-reads (scalar kind) c =
    reads_then (block_reads _ c) (λ x c' u q. reads-check _ _ _ _ _ (λ e.
    stay (rw (append-nil, q.0) (refl, q.1, λ k. ltb-true _ 2 (asked 1 kind _ e k)))))
own-reads (text kind) c =
    reads_then (count-reads _ c) (λ n c' v s. reads_then (block_reads n c') (λ x c'' u q. reads-check _ _ _ _ _ (λ e.
    stay (v, rw (append-nil, q.0), rw q.1 s, λ k. (utf8-is _).0 (asked 12 kind _ e k)))))
own-reads (array e) c = reads_then (count-reads _ c) (λ n c' u s. stay (rw append-nil s))
own-reads (map k v) c = reads_then (count-reads _ c) (λ n c' u s. reads-check _ _ _ _ _ (λ e. stay (rw append-nil (s, leb-true n _ e))))
own-reads (struct fs) c =
    reads_then (bitmap-reads fs c) (λ m c' u q. reads-check _ _ _ _ _ (λ e. stay (rw append-nil (q, ltb-true m _ e))))

module _ (P : ℕ → Value → List ℕ → Type 0) (p : ℕ → Reader Tree) (p_p : (t : ℕ) (c : Cursor) → Reads c (λ tree u. P t (value tree) u) (p t c)) where
  pub walk-reads : (keys : List (List ℕ)) (is : List Item) (c : Cursor)
      → Reads c (λ ts u. AllSpell P is (values ts) u × Fresh keys is (values ts)) (walk p keys is c)
  unfolding walk values
  walk-reads keys [] c = stay (refl, tt)
  walk-reads keys (i ∷ is) c =
      reads_then (p_p i.type c) (λ t c' u r. reads-check _ _ _ _ _ (λ e.
      reads_then (walk-reads _ is c') (λ ts c'' u' r'. stay ((u, u', rw append-nil, r, r'.0), (not-true _ e, r'.1)))))

  whole-reads : (t : ℕ) (s : Shape) (o : Own) (u : List ℕ) → OwnSpells s o u → (c : Cursor)
      → Reads c (λ tree u'. WholeSpells P s (value tree) (u ++ u')) (whole_value p t s o c)
  unfolding value
  whole-reads t s (plain x) u q c = stay (rw append-nil q)
  whole-reads t s (parts start h) u q c =
      reads_then (walk-reads [] (plan s h) c) (λ ts c' u' r. stay (u, u', rw append-nil, q, r.0, fresh-distinct (plan s h) (values ts) r.1))

module _ (S : ℕ → Shape) where
  pub parse-reads : (d t : ℕ) (c : Cursor) → Reads c (λ tree u. Spells S d t (value tree) u) (parse S d t c)
  unfolding parse
  parse-reads zero t c = not-ok
  parse-reads (suc d) t c = reads_then (own-reads (S t) c) (λ o c' u q. whole-reads (Spells S d) (parse S d) (parse-reads d) t (S t) o u q c')
