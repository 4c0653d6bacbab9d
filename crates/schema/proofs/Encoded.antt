-- A schema file has its shape exactly where it is the file of a table, and then it is the file of the table that is read from it.
use mathlib.Core.Path.{◌≡◌, refl, sym, ap, ap₂, subst, ◌∙◌}
use mathlib.Core.Logic.{◌↔◌}
use mathlib.Core.List.{List, [], ◌∷◌, ◌++◌, append-nil, append_assoc}
use mathlib.Core.Bool.{true}
use Prim.Native.Nat.{ℕ, zero, suc, ◌+◌, ◌*◌, ◌≤◌, ◌<◌, suc-le-suc}
use native.Mathlib.Nat.{zero-lt-suc, add-zero, add_comm, mul-zero, mul-suc}
use native.Mathlib.Omega.{arith}
use lib.ListN.{length, take, drop, length-append, length-drop, take-append-drop}
use lib.Seq.{length-take-le, drop-length, drop-drop, drop-append-add}
use Rattle.wire.specs.Little.{little, bytes, Bytes}
use Rattle.wire.proofs.Numbers.{length-bytes, little-bytes, bytes-little, bytes_take, bytes_drop}
use Rattle.schema.specs.Table.{Table}
use Rattle.schema.specs.File.{cell, type_at, field_at, method_at, trailer_at, fields_at_of, methods_at_of, shaped, layout_of, tabulate, sections, table_of}
use Rattle.schema.specs.Good.{HasShape}
use Rattle.schema.specs.Encoded.{type_numbers, field_numbers, method_numbers, joined, in_bytes, type_bytes, field_bytes, method_bytes, trailer_bytes, file_of}
use Rattle.schema.proofs.Files.{tests_of, filled, table_is}
use Rattle.schema.proofs.Goods.{of-shape}

-- ---- the numbers that stand in a file from one place to another

module _ (s : List ℕ) where
  -- the numbers of the list, one after the other
  data Run : (from to : ℕ) → List ℕ → Type 0 where
    end : {p to : ℕ} → p ≡ to → Run p to []
    num : {p to : ℕ} {ns : List ℕ} (q : ℕ) → q ≡ p → p + 4 ≤ length s → Run (p + 4) to ns → Run p to (cell s q ∷ ns)

  run-append : (p q r : ℕ) (ns ms : List ℕ) → Run p q ns → Run q r ms → Run p r (ns ++ ms)
  run-append p q r ns ms (end e) w = rw e w
  run-append p q r ns ms (num {ns = ns'} at e h v) w = num at e h (run-append (p + 4) q r ns' ms v w)

  run_length : (p q : ℕ) (ns : List ℕ) → Run p q ns → p + 4 * length ns ≡ q
  run_length p q ns (end e) = omega arith
  run_length p q ns (num {ns = ns'} at e h v) = let l = run_length (p + 4) q ns' v in omega arith

  -- the entries of a section one after the other
  run-joined : {A : Type 0} (numbers : A → List ℕ) (n : ℕ) (f : ℕ → A) (place : ℕ → ℕ)
      → ((i : ℕ) → i < n → Run (place i) (place (suc i)) (numbers (f i))) → Run (place 0) (place n) (joined numbers (tabulate f n))
  unfolding joined tabulate
  run-joined numbers zero f place each = end refl
  run-joined numbers (suc n) f place each =
      run-append (place 0) (place 1) (place (suc n)) (numbers (f 0)) (joined numbers (tabulate (λ i. f (suc i)) n)) (each 0 (zero-lt-suc n))
      (run-joined numbers n (λ i. f (suc i)) (λ i. place (suc i)) (λ i h. each (suc i) (suc-le-suc h)))

  module _ (b : Bytes s) where
    four : (p : ℕ) → p + 4 ≤ length s → bytes 4 (cell s p) ≡ take 4 (drop p s)
    unfolding cell
    four p h =
        let l : length (take 4 (drop p s)) ≡ 4 = length-take-le 4 (drop p s) (rw length-drop (omega arith)) in
        ap (λ (k : ℕ). bytes k (little (take 4 (drop p s)))) (sym l) ∙ bytes-little (take 4 (drop p s)) (bytes_take 4 (drop p s) (bytes_drop s p b))

    run-bytes : (p q : ℕ) (ns : List ℕ) → Run p q ns → in_bytes ns ++ drop q s ≡ drop p s
    unfolding in_bytes
    run-bytes p q ns (end e) = rw e
    run-bytes p q ns (num {ns = ns'} at e h v) =
        let head : bytes 4 (cell s at) ≡ take 4 (drop p s) = ap (λ (k : ℕ). bytes 4 (cell s k)) e ∙ four p h in
        append_assoc (bytes 4 (cell s at)) (in_bytes ns') (drop q s)
        ∙ ap₂ (λ (x y : List ℕ). x ++ y) head (run-bytes (p + 4) q ns' v ∙ sym (drop-drop 4 p s))
        ∙ take-append-drop 4 (drop p s)

-- ---- entries and sections

module _ (s : List ℕ) where
  type-run : (q p to : ℕ) → q ≡ p → p + 12 ≡ to → to ≤ length s → Run s p to (type_numbers (type_at s q))
  type-run q p to e f h =
      num {p = p} q e (omega arith)
      (num {p = p + 4} (q + 4) (omega arith) (omega arith)
      (num {p = p + 4 + 4} (q + 8) (omega arith) (omega arith) (end {p = p + 4 + 4 + 4} {to = to} (omega arith))))

  field-run : (q p to : ℕ) → q ≡ p → p + 8 ≡ to → to ≤ length s → Run s p to (field_numbers (field_at s q))
  field-run q p to e f h =
      num {p = p} q e (omega arith)
      (num {p = p + 4} (q + 4) (omega arith) (omega arith) (end {p = p + 4 + 4} {to = to} (omega arith)))

  method-run : (q p to : ℕ) → q ≡ p → p + 32 ≡ to → to ≤ length s → Run s p to (method_numbers (method_at s q))
  method-run q p to e f h =
      num {p = p} q e (omega arith)
      (num {p = p + 4} (q + 4) (omega arith) (omega arith)
      (num {p = p + 4 + 4} (q + 8) (omega arith) (omega arith)
      (num {p = p + 4 + 4 + 4} (q + 12) (omega arith) (omega arith)
      (num {p = p + 4 + 4 + 4 + 4} (q + 16) (omega arith) (omega arith)
      (num {p = p + 4 + 4 + 4 + 4 + 4} (q + 20) (omega arith) (omega arith)
      (num {p = p + 4 + 4 + 4 + 4 + 4 + 4} (q + 24) (omega arith) (omega arith)
      (num {p = p + 4 + 4 + 4 + 4 + 4 + 4 + 4} (q + 28) (omega arith) (omega arith) (end {p = p + 4 + 4 + 4 + 4 + 4 + 4 + 4 + 4} {to = to} (omega arith)))))))))

  trailer-run : 16 ≤ length s → Run s (trailer_at s) (length s) (fields_at_of s ∷ methods_at_of s ∷ cell s (trailer_at s + 8) ∷ cell s (trailer_at s + 12) ∷ [])
  trailer-run h =
      let p = trailer_at s in
      num {p = p} p refl (omega arith)
      (num {p = p + 4} (p + 4) (omega arith) (omega arith)
      (num {p = p + 4 + 4} (p + 8) (omega arith) (omega arith)
      (num {p = p + 4 + 4 + 4} (p + 12) (omega arith) (omega arith) (end {p = p + 4 + 4 + 4 + 4} {to = length s} (omega arith)))))

  module _ (h : shaped s ≡ true) where
    types-run : Run s 0 (fields_at_of s) (joined type_numbers (sections s).types)
    unfolding layout_of
    types-run =
        let f = filled s h in
        let e : 12 * (layout_of s).types ≡ fields_at_of s = f.types in
        subst (λ (to : ℕ). Run s 0 to (joined type_numbers (sections s).types)) e
        (run-joined s type_numbers (layout_of s).types (λ i. type_at s (12 * i)) (λ i. 12 * i)
        (λ i k. type-run (12 * i) (12 * i) (12 * suc i) refl (omega arith) (omega arith)))

    fields-run : Run s (fields_at_of s) (methods_at_of s) (joined field_numbers (sections s).fields)
    unfolding layout_of
    fields-run =
        let f = filled s h in
        let e : fields_at_of s + 8 * (layout_of s).fields ≡ methods_at_of s = f.fields in
        subst (λ (to : ℕ). Run s (fields_at_of s) to (joined field_numbers (sections s).fields)) e
        (subst (λ (from : ℕ). Run s from (fields_at_of s + 8 * (layout_of s).fields) (joined field_numbers (sections s).fields)) (add-zero (fields_at_of s))
        (run-joined s field_numbers (layout_of s).fields (λ i. field_at s (fields_at_of s + 8 * i)) (λ i. fields_at_of s + 8 * i)
        (λ i k. field-run (fields_at_of s + 8 * i) (fields_at_of s + 8 * i) (fields_at_of s + 8 * suc i) refl (omega arith) (omega arith))))

    methods-run : Run s (methods_at_of s) (trailer_at s) (joined method_numbers (sections s).methods)
    unfolding layout_of
    methods-run =
        let f = filled s h in
        let e : methods_at_of s + 32 * (layout_of s).methods ≡ trailer_at s = omega (arith, f.methods) in
        subst (λ (to : ℕ). Run s (methods_at_of s) to (joined method_numbers (sections s).methods)) e
        (subst (λ (from : ℕ). Run s from (methods_at_of s + 32 * (layout_of s).methods) (joined method_numbers (sections s).methods)) (add-zero (methods_at_of s))
        (run-joined s method_numbers (layout_of s).methods (λ i. method_at s (methods_at_of s + 32 * i)) (λ i. methods_at_of s + 32 * i)
        (λ i k. method-run (methods_at_of s + 32 * i) (methods_at_of s + 32 * i) (methods_at_of s + 32 * suc i) refl (omega arith) (omega arith))))

length-in_bytes : (ns : List ℕ) → length (in_bytes ns) ≡ 4 * length ns
unfolding in_bytes
length-in_bytes [] = refl
length-in_bytes (n ∷ ns) = length-append (bytes 4 n) (in_bytes ns) ∙ omega (arith, length-bytes 4 n, length-in_bytes ns)

-- A file of the right shape is made of the table that is read from it.
pub file-made : (s : List ℕ) → Bytes s → HasShape s → file_of (table_of s) ≡ s
file-made s b shape =
    let h = of-shape s shape in
    let t = tests_of s h in
    let S = sections s in
    let types = joined type_numbers S.types in
    let fields = joined field_numbers S.fields in
    let methods = joined method_numbers S.methods in
    let trailer = fields_at_of s ∷ methods_at_of s ∷ cell s (trailer_at s + 8) ∷ cell s (trailer_at s + 12) ∷ [] in
    let lt : length (type_bytes S) ≡ fields_at_of s = omega (arith, length-in_bytes types, run_length s 0 (fields_at_of s) types (types-run s h)) in
    let lf : length (type_bytes S) + length (field_bytes S) ≡ methods_at_of s =
    omega (arith, lt, length-in_bytes fields, run_length s (fields_at_of s) (methods_at_of s) fields (fields-run s h)) in
    let lm : length (type_bytes S) + length (field_bytes S) + length (method_bytes S) ≡ cell s (trailer_at s + 8) =
    omega (arith, lf, t.own, length-in_bytes methods, run_length s (methods_at_of s) (trailer_at s) methods (methods-run s h)) in
    let end : trailer_bytes (length (type_bytes S)) (length (field_bytes S)) (length (method_bytes S)) ≡ drop (trailer_at s) s =
    (λ i. in_bytes (lt i ∷ lf i ∷ lm i ∷ sym t.number i ∷ []))
    ∙ sym (append-nil (in_bytes trailer))
    ∙ ap (λ (x : List ℕ). in_bytes trailer ++ x) (sym (drop-length s))
    ∙ run-bytes s b (trailer_at s) (length s) trailer (trailer-run s t.trailer) in
    ap file_of (table_is s h)
    ∙ ap (λ (x : List ℕ). type_bytes S ++ (field_bytes S ++ (method_bytes S ++ x))) end
    ∙ ap (λ (x : List ℕ). type_bytes S ++ (field_bytes S ++ x)) (run-bytes s b (methods_at_of s) (trailer_at s) methods (methods-run s h))
    ∙ ap (λ (x : List ℕ). type_bytes S ++ x) (run-bytes s b (fields_at_of s) (methods_at_of s) fields (fields-run s h))
    ∙ run-bytes s b 0 (fields_at_of s) types (types-run s h)

-- ---- the file of any table has the shape, where its places are 32-bit numbers

module _ {A : Type 0} (numbers : A → List ℕ) (k : ℕ) (each : (x : A) → length (numbers x) ≡ k) where
  joined_length : (xs : List A) → length (joined numbers xs) ≡ k * length xs
  unfolding joined
  joined_length [] = sym (mul-zero k)
  joined_length (x ∷ xs) =
      length-append (numbers x) (joined numbers xs) ∙ ap₂ (λ (i j : ℕ). i + j) (each x) (joined_length xs) ∙ add_comm k (k * length xs) ∙ sym (mul-suc k (length xs))

module _ (a b c d : ℕ) where
  trailer-cells : a < 4294967296 → b < 4294967296 → c < 4294967296 → d < 4294967296 → let v = in_bytes (a ∷ b ∷ c ∷ d ∷ []) in
      (cell v 0 ≡ a) × (cell v 4 ≡ b) × (cell v 8 ≡ c) × (cell v 12 ≡ d)
  unfolding cell in_bytes bytes
  trailer-cells p q r t = (little-bytes 4 a p, little-bytes 4 b q, little-bytes 4 c r, little-bytes 4 d t)

cell-after : (u v : List ℕ) (k : ℕ) → cell (u ++ v) (length u + k) ≡ cell v k
unfolding cell
cell-after u v k = ap (λ (x : List ℕ). little (take 4 x)) (drop-append-add u v k)

module _ (T : Table) (small : length (file_of T) < 4294967296) where
  abbrev before : List ℕ
  before = type_bytes T ++ (field_bytes T ++ method_bytes T)

  abbrev trailer : List ℕ
  trailer = trailer_bytes (length (type_bytes T)) (length (field_bytes T)) (length (method_bytes T))

  parted : file_of T ≡ before ++ trailer
  parted =
      sym (append_assoc (type_bytes T) (field_bytes T ++ method_bytes T) trailer
      ∙ ap (λ (x : List ℕ). type_bytes T ++ x) (append_assoc (field_bytes T) (method_bytes T) trailer))

  made-shape : HasShape (file_of T)
  made-shape =
      let a = length (type_bytes T) in
      let b = length (field_bytes T) in
      let c = length (method_bytes T) in
      let la : a ≡ 12 * length T.types =
      omega (arith, length-in_bytes (joined type_numbers T.types), joined_length type_numbers 3 (λ _. refl) T.types) in
      let lb : b ≡ 8 * length T.fields =
      omega (arith, length-in_bytes (joined field_numbers T.fields), joined_length field_numbers 2 (λ _. refl) T.fields) in
      let lc : c ≡ 32 * length T.methods =
      omega (arith, length-in_bytes (joined method_numbers T.methods), joined_length method_numbers 8 (λ _. refl) T.methods) in
      let lu : length before ≡ a + b + c =
      length-append (type_bytes T) (field_bytes T ++ method_bytes T) ∙ omega (arith, length-append (field_bytes T) (method_bytes T)) in
      let whole : length (file_of T) ≡ length before + 16 =
      ap length parted ∙ length-append before trailer ∙ omega (arith, length-in_bytes (a ∷ (a + b) ∷ (a + b + c) ∷ 1 ∷ [])) in
      let e : trailer_at (file_of T) ≡ length before = omega (arith, whole) in
      let at : (k : ℕ) → cell (file_of T) (trailer_at (file_of T) + k) ≡ cell trailer k =
      λ k. ap₂ (λ (x : List ℕ) (n : ℕ). cell x (n + k)) parted e ∙ cell-after before trailer k in
      let cells = trailer-cells a (a + b) (a + b + c) 1 (omega arith) (omega arith) (omega arith) (omega arith) in
      record {
        types = length T.types;
        fields = length T.fields;
        methods = length T.methods;
        whole = omega (arith, whole, lu, la, lb, lc);
        fields_place = ap (cell (file_of T)) (sym (add-zero _)) ∙ at 0 ∙ cells.0 ∙ la;
        methods_place = at 4 ∙ cells.1 ∙ omega (arith, la, lb);
        trailer_place = at 8 ∙ cells.2 ∙ omega (arith, la, lb, lc);
        number = at 12 ∙ cells.3;
      }

-- A file has the shape exactly where it is made of a table: types from 0 on, fields, methods, and the trailer that points back.
pub shape-iff : (s : List ℕ) → Bytes s → length s < 4294967296 → HasShape s ↔ ((T : Table) × (s ≡ file_of T))
shape-iff s b small = (
  λ h. (table_of s, sym (file-made s b h)),
  λ (T, e). subst HasShape (sym e) (made-shape T (subst (λ (x : List ℕ). length x < 4294967296) e small)),
)
