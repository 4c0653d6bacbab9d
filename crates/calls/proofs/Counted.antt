-- The row of a method follows the figures of the history: one event more. The test of a full figure says what `Full` says.
use mathlib.Core.Path.{◌≡◌, refl, sym, ◌∙◌, ap}
use mathlib.Core.Logic.{◌↔◌, ⊎_elim}
use mathlib.Core.Bool.{Bool, true, false, cond, ◌&&◌}
use mathlib.Core.List.{List, [], ◌∷◌}
use Prim.Native.Nat.{ℕ}
use lib.Dec.{eqb}
use borrow.Author.Tests.{eqb-true, eq-eqb}
use Rattle.schema.specs.Table.{Table}
use Rattle.schema.proofs.Bools.{clash}
use Rattle.calls.specs.declared.Tally.{Tally}
use Rattle.calls.specs.declared.Figure.{Figure}
use Rattle.calls.specs.declared.Figure.TheVariants.{Nothing, Opened, Completed, Errored, Cancelled, Failed}
use Rattle.calls.specs.declared.Rise.{Rise}
use Rattle.calls.specs.Record.{counting}
use Rattle.calls.specs.Counting.{no_tally, figure_by, full_at, raised, row_after}
use Rattle.calls.specs.Event.{Event, identifier}
use Rattle.calls.specs.Order.{Past, closed, Heard, past_of}
use Rattle.calls.specs.Figures.{method_in, is_method, column, counted, figures, Full, opened_full, completed_full, errored_full, cancelled_full, failed_full}
use Rattle.calls.proofs.Ordered.{CountsAs}

-- a row with one more in the column of a figure, where it counts
abbrev with_one : Bool → Figure → Tally → Tally
with_one q f t =
    record {
      opened = counting (q && eqb (column f) 1) t.opened;
      completed = counting (q && eqb (column f) 2) t.completed;
      errored = counting (q && eqb (column f) 3) t.errored;
      cancelled = counting (q && eqb (column f) 4) t.cancelled;
      failed = counting (q && eqb (column f) 5) t.failed;
    }

by-column : (q : Bool) (f : Figure) (t : Tally) → cond q (raised t f) t ≡ with_one q f t
unfolding raised
by-column true Nothing t = refl
by-column true Opened t = refl
by-column true Completed t = refl
by-column true Errored t = refl
by-column true Cancelled t = refl
by-column true Failed t = refl
by-column false f t = refl

none-raised : (q : Bool) (t : Tally) → cond q (raised t Nothing) t ≡ t
unfolding raised
none-raised true t = refl
none-raised false t = refl

pub no-figures : (T : Table) (m : ℕ) → figures T m [] ≡ no_tally
unfolding counted
no-figures T m = refl

-- What rises in the row of a method is what the event counts as for it.
pub counted_step : (T : Table) (m : ℕ) (e : Event) (n : ℕ) (es : List Heard) (r : Rise) → CountsAs T e (past_of T (identifier e) closed es) r n
    → row_after m r n (figures T m es) ≡ figures T m (record { event = e; number = n } ∷ es)
unfolding counted
counted_step T m e n es r w = same ∙ by-column q f t ∙ ap (λ (x : Figure). with_one q x t) (sym w.0)
  where
    past : Past
    past = past_of T (identifier e) closed es

    t : Tally
    t = figures T m es

    f : Figure
    f = figure_by r n

    q : Bool
    q = is_method m (method_in T e past)

    same : cond (eqb r.row m) (raised t f) t ≡ cond q (raised t f) t
    same =
        ⊎_elim
        (λ (z : f ≡ Nothing). ap (λ (x : Figure). cond (eqb r.row m) (raised t x) t) z ∙ none-raised (eqb r.row m) t
        ∙ sym (ap (λ (x : Figure). cond q (raised t x) t) z ∙ none-raised q t))
        (λ k. rw k refl)
        w.1

-- ---- the limit

-- The test holds exactly where the figure is at 4294967295.
pub full-iff : (t : Tally) (f : Figure) → (full_at t f ≡ true) ↔ Full t f
full-iff t f = (there f, back)
  where
    there : (g : Figure) → full_at t g ≡ true → Full t g
    there Nothing e = clash false e refl
    there Opened e = opened_full (eqb-true t.opened 4294967295 e)
    there Completed e = completed_full (eqb-true t.completed 4294967295 e)
    there Errored e = errored_full (eqb-true t.errored 4294967295 e)
    there Cancelled e = cancelled_full (eqb-true t.cancelled 4294967295 e)
    there Failed e = failed_full (eqb-true t.failed 4294967295 e)

    back : {g : Figure} → Full t g → full_at t g ≡ true
    back (opened_full e) = eq-eqb t.opened 4294967295 e
    back (completed_full e) = eq-eqb t.completed 4294967295 e
    back (errored_full e) = eq-eqb t.errored 4294967295 e
    back (cancelled_full e) = eq-eqb t.cancelled 4294967295 e
    back (failed_full e) = eq-eqb t.failed 4294967295 e

pub full_not : (t : Tally) (f : Figure) → full_at t f ≡ false → Full t f → ⊥
full_not t f e w = clash (full_at t f) ((full-iff t f).1 w) e
