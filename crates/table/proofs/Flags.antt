-- Flags of methods that were seen: a method whose flag is not set shares its identifiers with none of them.
use Rattle.std.proofs.Common.{◌≡◌, ℕ, zero, suc, ◌+◌, ◌<◌, Bool, true, false, not, ◌&&◌, ◌||◌, ltb, List, [], ◌∷◌, length, get_or, set, sym, refl, ap, ◌∙◌, subst, ⊎_elim, not-suc-le-zero, arith, length-set, get_or-set_same, ltb-false, ltb-true, None}
use mathlib.Core.Path.{subst⁻¹}
use Rattle.schema.specs.declared.Method.{Method}
use Rattle.schema.specs.Table.{Table}
use Rattle.schema.specs.Check.{method_row, formed, find_among, is_missing, good_method}
use Rattle.table.specs.Flags.{mixed, flag_of}
use Rattle.schema.proofs.Bools.{cases, clash, is_false}
use Rattle.schema.proofs.Lowest.{below_none}
use Rattle.table.proofs.Checks.{method-judged}
use Rattle.schema.proofs.Goods.{names_of}
use Rattle.table.proofs.Products.{top_below}

of-below : (b : Bool) (p s m : ℕ) → flag_of b p s m < 4096
unfolding flag_of mixed
of-below true p s m = top_below 12 52 _
of-below false p s m = top_below 12 52 _

pub flag_below : (k : ℕ) (b : Bool) (p s m : ℕ) → k ≡ flag_of b p s m → k < 4096
flag_below k b p s m e = subst⁻¹ (λ (n : ℕ). n < 4096) e (of-below b p s m)

-- a flag that is set stays set
pub set-kept : (seen : List Bool) (i j : ℕ) → get_or seen j false ≡ true → get_or (set seen i true) j false ≡ true
set-kept [] i j h = h
set-kept (b ∷ bs) zero zero h = refl
set-kept (b ∷ bs) zero (suc j) h = h
set-kept (b ∷ bs) (suc i) zero h = h
set-kept (b ∷ bs) (suc i) (suc j) h = set-kept bs i j h

abbrev pub flag : (mixing : Bool) → Method → ℕ
flag b m = flag_of b m.«package» m.service m.method

-- the flags of the first i methods are set
pub record MethodsFlagged (T : Table) (mixing : Bool) (seen : List Bool) (i : ℕ) : Type 0 where
  pub flags : (j : ℕ) → j < i → get_or seen (flag mixing (method_row T j)) false ≡ true
  pub wide : length seen ≡ 4096

pub flagged-none : (T : Table) (b : Bool) (seen : List Bool) → length seen ≡ 4096 → MethodsFlagged T b seen 0
flagged-none T b seen h = record { flags = λ j k. absurd (not-suc-le-zero k); wide = h }

module _ (T : Table) (b : Bool) (seen : List Bool) (i : ℕ) (f : MethodsFlagged T b seen i) (m : Method) (is : m ≡ method_row T i) where
  pub flagged-next : (k : ℕ) → k ≡ flag b m → MethodsFlagged T b (set seen k true) (i + 1)
  flagged-next k e = record {
    flags = λ j h.
        ⊎_elim (λ l. set-kept seen k (flag b (method_row T j)) (f.flags j (ltb-true j i l)))
        (λ l.
        let low = ltb-false j i l in
        let last : j ≡ i = omega arith in
        let here : flag b (method_row T j) ≡ k = ap (λ (n : ℕ). flag b (method_row T n)) last ∙ sym (e ∙ ap (flag b) is) in
        ap (λ (n : ℕ). get_or (set seen k true) n false) here ∙ get_or-set_same seen k true false (omega (arith, flag_below k b m.«package» m.service m.method e, f.wide)))
        (cases (ltb j i));
    wide = length-set seen k true ∙ f.wide;
  }

  unseen : get_or seen (flag b m) false ≡ false → find_among T i m.«package» m.service m.method ≡ None
  unfolding find_among
  unseen e =
      below_none _ i (λ j h. is_false _ (λ n.
      let s = names_of (method_row T j) m n in
      clash (get_or seen (flag b m) false) (subst (λ (k : ℕ). get_or seen k false ≡ true) (λ x. flag_of b (s.«package» x) (s.service x) (s.method x)) (f.flags j h)) e))

  -- looking through the earlier methods only where the flag is set makes no difference
  looked : (c : Bool) → get_or seen (flag b m) false ≡ c
      → (not c || is_missing (find_among T i m.«package» m.service m.method)) ≡ is_missing (find_among T i m.«package» m.service m.method)
  looked true e = refl
  looked false e = sym (ap is_missing (unseen e))

  -- the judgement of a method, as the code makes it
  pub many-judged : (k : ℕ) → k ≡ flag b m
      → (formed T m && (not (get_or seen k false) || is_missing (find_among T i m.«package» m.service m.method))) ≡ good_method T i
  many-judged k e =
      ap (λ (c : Bool). formed T m && c) (ap (λ (n : ℕ). not (get_or seen n false) || is_missing (find_among T i m.«package» m.service m.method)) e ∙ looked _ refl)
      ∙ method-judged T i m _ is refl
