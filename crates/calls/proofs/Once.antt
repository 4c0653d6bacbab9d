-- The order rules say one thing of a frame: what each rule decides, it decides alone.
use Rattle.std.specs.Prelude.{None, Option, Some}
use mathlib.Core.Path.{◌≡◌, refl, sym, ◌∙◌, ap, subst}
use mathlib.Core.Bool.{Bool, true, false}
use mathlib.Core.List.{List}
use Prim.Native.Nat.{ℕ}
use Rattle.schema.specs.Table.{Table}
use Rattle.schema.specs.Check.{method_row, find_method}
use Rattle.schema.proofs.Bools.{clash}
use Rattle.calls.specs.declared.Frame.{Frame}
use Rattle.calls.specs.declared.Payload.{Payload}
use Rattle.calls.specs.Judge.{right_side}
use Rattle.calls.specs.Belongs.{Belongs}
use Rattle.calls.specs.Order.{MayCome, in_stream, in_close, out_stream, out_close, response, error, cancel, Crosses, cancelled, TooManyElements}
use Rattle.calls.specs.Order.{Past, closed, since, Ruling, refused, comes, same, Ruled, wrong_side, unknown, already, no_room, opens, not_open, differ, not_now, dropped, too_many, goes}
use Rattle.calls.specs.Order.{Releases, no_call, not_cancelled, released}
use Rattle.calls.proofs.Searches.{missing_at, at-missing}
use Rattle.calls.proofs.Belongs.{belongs-once}

-- of a cancelled call only ERROR may come
pub may_not : {form kind : ℕ} {h : List ℕ} → cancelled h ≡ true → (kind ≡ 7 → ⊥) → MayCome form h kind → ⊥
may_not {h = h} c e (in_stream n p q) = clash (cancelled h) c n
may_not {h = h} c e (in_close n p q) = clash (cancelled h) c n
may_not {h = h} c e (out_stream n p q r) = clash (cancelled h) c n
may_not {h = h} c e (out_close n p q r) = clash (cancelled h) c n
may_not {h = h} c e (response n q) = clash (cancelled h) c n
may_not {h = h} c e error = e refl
may_not {h = h} c e (cancel n) = clash (cancelled h) c n

-- what crosses our cancel may not come
apart : {form kind : ℕ} {h : List ℕ} → MayCome form h kind → Crosses h kind → ⊥
apart m x = may_not x.is_cancelled x.no_error m

module _ (T : Table) (f : Frame) (full : Bool) where
  abbrev right : Bool
  right = right_side f.side f.kind

  abbrev named : Option ℕ
  named = find_method T f.«package» f.service f.method

  abbrev May : (m : ℕ) → List ℕ → Type 0
  May m h = MayCome (method_row T m).form h f.kind

  -- an INVOKE of method m
  abbrev Opening : (past : Past) (m : ℕ) → Ruling → Type 0
  Opening closed m r = (full ≡ true → r ≡ refused 13) × (full ≡ false → (d : Payload) → Belongs (method_row T m) 1 d → r ≡ comes d)
  Opening (since k b h) m r = r ≡ refused 10

  -- any other frame
  abbrev Following : (past : Past) → Ruling → Type 0
  Following closed r = r ≡ refused 11
  Following (since m b h) r =
      (same T f m ≡ false → r ≡ refused 12)
      × (same T f m ≡ true → (May m h → ⊥) → (Crosses h f.kind → ⊥) → r ≡ refused 14)
      × (same T f m ≡ true → May m h → (TooManyElements b h f.kind → ⊥) → (d : Payload) → Belongs (method_row T m) f.kind d → r ≡ comes d)
      × (same T f m ≡ true → Crosses h f.kind → r ≡ refused 16)
      × (same T f m ≡ true → May m h → TooManyElements b h f.kind → r ≡ refused 17)

  -- INVOKE is the client's
  other-kind : {h : List ℕ} → Crosses h f.kind → f.kind ≡ 1 → ⊥
  other-kind x k = clash false (subst (λ (n : ℕ). right_side 83 n ≡ true) k x.from_server) refl

  -- the ruling, rule by rule
  record Decided (past : Past) (r : Ruling) : Type 0 where
    wrong : right ≡ false → r ≡ refused 8
    missing : right ≡ true → f.kind ≡ 1 → named ≡ None → r ≡ refused 9
    opening : right ≡ true → f.kind ≡ 1 → (m : ℕ) → named ≡ Some m → Opening past m r
    following : right ≡ true → (f.kind ≡ 1 → ⊥) → Following past r

  decided : {past : Past} {r : Ruling} → Ruled T f full past r → Decided past r
  decided (wrong_side past e) =
      record { wrong = λ _. refl; missing = λ s. clash right s e; opening = λ s. clash right s e; following = λ s. clash right s e }
  decided (unknown past s k e) =
      record { wrong = λ z. clash right s z; missing = λ _ _ _. refl; opening = λ _ _ m q. missing_at m (sym e ∙ q); following = λ _ o. absurd (o k) }
  decided (already m n b h s k e) =
      record { wrong = λ z. clash right s z; missing = λ _ _ q. at-missing n (sym e ∙ q); opening = λ _ _ _ _. refl; following = λ _ o. absurd (o k) }
  decided (no_room n s k e t) =
      record {
        wrong = λ z. clash right s z;
        missing = λ _ _ q. at-missing n (sym e ∙ q);
        opening = λ _ _ m q. (λ _. refl, λ z. clash full t z);
        following = λ _ o. absurd (o k);
      }
  decided (opens n d s k e t w) =
      record {
        wrong = λ z. clash right s z;
        missing = λ _ _ q. at-missing n (sym e ∙ q);
        opening = λ _ _ m q. (λ z. clash full z t, λ _ x v. let same : m ≡ n = cc (e, q) in ap comes (belongs-once (method_row T n) w (rw same at v)));
        following = λ _ o. absurd (o k);
      }
  decided (not_open s o) =
      record { wrong = λ z. clash right s z; missing = λ _ k _. absurd (o k); opening = λ _ k _ _. absurd (o k); following = λ _ _. refl }
  decided (differ m b h s o d) =
      record {
        wrong = λ z. clash right s z;
        missing = λ _ k _. absurd (o k);
        opening = λ _ k _ _. absurd (o k);
        following = λ _ _. (
          λ _. refl,
          λ t. clash (same T f m) t d,
          λ t. clash (same T f m) t d,
          λ t. clash (same T f m) t d,
          λ t. clash (same T f m) t d,
        );
      }
  decided (not_now m b h s o t no-may no-cross) =
      record {
        wrong = λ z. clash right s z;
        missing = λ _ k _. absurd (o k);
        opening = λ _ k _ _. absurd (o k);
        following = λ _ _. (
          λ z. clash (same T f m) t z,
          λ _ _ _. refl,
          λ _ y. absurd (no-may y),
          λ _ x. absurd (no-cross x),
          λ _ y. absurd (no-may y),
        );
      }
  decided (dropped m b h s t x) =
      record {
        wrong = λ z. clash right s z;
        missing = λ _ k _. absurd (other-kind x k);
        opening = λ _ k _ _. absurd (other-kind x k);
        following = λ _ _. (
          λ z. clash (same T f m) t z,
          λ _ _ n. absurd (n x),
          λ _ y. absurd (apart y x),
          λ _ _. refl,
          λ _ y. absurd (apart y x),
        );
      }
  decided (too_many m b h s o t may k) =
      record {
        wrong = λ z. clash right s z;
        missing = λ _ k _. absurd (o k);
        opening = λ _ k _ _. absurd (o k);
        following = λ _ _. (
          λ z. clash (same T f m) t z,
          λ _ n. absurd (n may),
          λ _ _ n. absurd (n k),
          λ _ x. absurd (apart may x),
          λ _ _ _. refl,
        );
      }
  decided (goes m b h d s o t may few w) =
      record {
        wrong = λ z. clash right s z;
        missing = λ _ k _. absurd (o k);
        opening = λ _ k _ _. absurd (o k);
        following = λ _ _. (
          λ z. clash (same T f m) t z,
          λ _ n. absurd (n may),
          λ _ _ _ x v. ap comes (belongs-once (method_row T m) w v),
          λ _ x. absurd (apart may x),
          λ _ _ k. absurd (few k),
        );
      }

  by_decision : {past : Past} {q r : Ruling} → Decided past q → Ruled T f full past r → q ≡ r
  by_decision d (wrong_side past e) = d.wrong e
  by_decision d (unknown past s k e) = d.missing s k e
  by_decision d (already m n b h s k e) = d.opening s k n e
  by_decision d (no_room n s k e t) = (d.opening s k n e).0 t
  by_decision d (opens n x s k e t w) = (d.opening s k n e).1 t x w
  by_decision d (not_open s o) = d.following s o
  by_decision d (differ m b h s o d') = (d.following s o).0 d'
  by_decision d (not_now m b h s o t no-may no-cross) = (d.following s o).1 t no-may no-cross
  by_decision d (dropped m b h s t x) = (d.following s (other-kind x)).3 t x
  by_decision d (too_many m b h s o t may k) = (d.following s o).4 t may k
  by_decision d (goes m b h x s o t may few w) = (d.following s o).2 t may few x w

  -- A frame has one ruling by the past of its identifier.
  pub ruled-once : (past : Past) (q r : Ruling) → Ruled T f full past q → Ruled T f full past r → q ≡ r
  ruled-once past q r a b = by_decision (decided a) b

-- So has a release.
pub release-once : (past : Past) (m n : ℕ) → Releases past m → Releases past n → m ≡ n
release-once closed _ _ no_call no_call = refl
release-once (since k b h) _ _ (not_cancelled _ _ _ t) (not_cancelled _ _ _ u) = refl
release-once (since k b h) _ _ (not_cancelled _ _ _ t) (released _ _ _ u) = clash (cancelled h) u t
release-once (since k b h) _ _ (released _ _ _ t) (not_cancelled _ _ _ u) = clash (cancelled h) t u
release-once (since k b h) _ _ (released _ _ _ t) (released _ _ _ u) = refl
