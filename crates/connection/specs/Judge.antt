-- The judgement of a frame whose identifiers are those of its call's method.
use Rattle.std.specs.Prelude.{ℕ, cond}
use Rattle.schema.specs.declared.Method.{Method}
use Rattle.calls.specs.declared.Call.{Call}
use Rattle.calls.specs.Forms.{row_of_form}
use Rattle.calls.specs.Record.{allowed, not_allowed, at_limit, after_frame}
use Rattle.calls.specs.Judge.{Verdict, stop, goes, payload_of}

-- 14 or 16, then 17.
abbrev pub named_verdict : Method → (kind : ℕ) → Call → Verdict
named_verdict m kind c =
    cond (allowed (row_of_form m.form) kind c)
    (cond (at_limit kind c) (stop 17) (goes (after_frame (row_of_form m.form) kind c) (payload_of m kind)))
    (stop (not_allowed kind c))
