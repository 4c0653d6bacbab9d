-- What the place and the length of each row delimit: where the bytes of each value stand in a payload B. No reader is mentioned.
use Rattle.std.specs.Prelude.{◌≡◌, List, [], ◌∷◌, ℕ, zero, suc, ◌+◌, ◌-◌, ◌≤◌, length, drop}
use Rattle.buffer.specs.Span.{span, SpanIs}
use Rattle.schema.specs.declared.Field.{Field}
use Rattle.schema.specs.Table.{Shape, unknown, scalar, text, array, map, struct, bitmap_bytes}
use Rattle.value.specs.Value.{Tree, tip, branch, Forest, stop, plus, Value, node, Values, values}
use Rattle.value.specs.Read.{Item, plan}
use Rattle.value.specs.Spell.{LeafSpells, HeadSpells, AllSpell, WholeSpells, Spells, RootSpells}

-- The trees of a plan stand one after the other in the bytes from `start` up to `end`, each by the relation P of its type.
abbrev pub AllStand : (ℕ → Tree → (start end : ℕ) → Type 0) → List Item → Forest → (start end : ℕ) → Type 0
AllStand P [] stop start end = start ≡ end
AllStand P [] (plus t ts) start end = ⊥
AllStand P (i ∷ is) stop start end = ⊥
AllStand P (i ∷ is) (plus t ts) start end = (next : ℕ) × P i.type t start next × AllStand P is ts next end

-- The n bytes at the place of a composite's row, where its own bytes begin at `start`: a struct with its bitmap, or all the elements of an array or a
-- map, which stand after the count.
abbrev pub NodeSpan : (ℕ → Value → List ℕ → Type 0) → List ℕ → Shape → (head : ℕ) → Values → (start place n : ℕ) → Type 0
NodeSpan P B (struct fs) m vs start p n = (p ≡ start) × WholeSpells P (struct fs) (node m vs) (span B p n)
NodeSpan P B (array e) k vs start p n = (start ≤ p) × HeadSpells (array e) k (span B start (p - start)) × AllSpell P (plan (array e) k) vs (span B p n)
NodeSpan P B (map a b) k vs start p n = (start ≤ p) × HeadSpells (map a b) k (span B start (p - start)) × AllSpell P (plan (map a b) k) vs (span B p n)
NodeSpan P B unknown h vs start p n = ⊥
NodeSpan P B (scalar _) h vs start p n = ⊥
NodeSpan P B (text _) h vs start p n = ⊥

-- Where the first value that a composite holds begins, by the place of its row.
abbrev pub first_at : Shape → (place : ℕ) → ℕ
first_at (struct fs) p = p + bitmap_bytes (length fs)
first_at (array _) p = p
first_at (map _ _) p = p
first_at unknown p = p
first_at (scalar _) p = p
first_at (text _) p = p

-- The bytes from `start` up to `end` are those of a tree of type t, and each of its rows delimits its own: a leaf's row its content, a composite's
-- row what `NodeSpan` says; all of them reach up to the end of the value's bytes.
abbrev pub Delimits : (ℕ → Shape) → List ℕ → (d t : ℕ) → Tree → (start end : ℕ) → Type 0
Delimits S B zero t tree start end = ⊥
Delimits S B (suc d) t (tip r x) start end =
    LeafSpells (S t) x (span B start (end - start)) × SpanIs B r.place r.length x × (r.place + r.length ≡ end)
Delimits S B (suc d) t (branch r h ts) start end =
    NodeSpan (Spells S d) B (S t) h (values ts) start r.place r.length
    × (r.place + r.length ≡ end)
    × (end ≤ length B)
    × AllStand (Delimits S B d) (plan (S t) h) ts (first_at (S t) r.place) end

-- The root, a struct of the fields fs: its row is the payload without the tail, which begins at `end`.
abbrev pub RootDelimits : (ℕ → Shape) → List ℕ → List Field → Tree → (end : ℕ) → Type 0
RootDelimits S B fs (tip r x) end = ⊥
RootDelimits S B fs (branch r h ts) end =
    RootSpells S fs (node h (values ts)) B (drop end B)
    × (r.place ≡ 0)
    × (r.length ≡ end)
    × (end ≤ length B)
    × AllStand (Delimits S B 15) (plan (struct fs) h) ts (bitmap_bytes (length fs)) end
