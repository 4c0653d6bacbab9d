-- The record of a call: when it is free, what is allowed, what an accepted frame changes, when it is complete and when it is good.
-- All that depends on the members of a record stands here.
use Rattle.std.specs.Prelude.{ℕ, ◌+◌, Bool, true, false, not, cond, ◌&&◌, ◌||◌, eqb, ltb, leb}
use Rattle.calls.specs.declared.Call.{Call}
use Rattle.calls.specs.declared.FormRow.{FormRow}

-- The record of a free slot is zero in every member.
abbrev pub empty_call : Call
empty_call =
    record { correlation = 0; method = 0; «open» = false; responded = false; input_closed = false; output_closed = false; cancelled = false; input_elements = 0; output_elements = 0 }

-- The record that INVOKE makes.
abbrev pub opened_call : (method correlation : ℕ) → Call
opened_call m id =
    record { correlation = id; method = m; «open» = true; responded = false; input_closed = false; output_closed = false; cancelled = false; input_elements = 0; output_elements = 0 }

-- The call is open under this correlation.
abbrev pub is_call : ℕ → Call → Bool
is_call id c = c.«open» && eqb c.correlation id

abbrev pub is_free : Call → Bool
is_free c = not c.«open»

abbrev pub implies : Bool → Bool → Bool
implies a b = not a || b

-- A call is complete after RESPONSE and the close of each stream it has.
abbrev pub complete : FormRow → Call → Bool
complete row c = c.responded && (implies row.1 c.input_closed && implies row.3 c.output_closed)

-- Whether a frame that is no INVOKE is allowed: 7 ERROR always; a cancelled call allows nothing else. 2 and 3 need the input stream, not closed;
-- 4 and 5 the output stream, not closed, and RESPONSE; 6 RESPONSE comes once; 8 CANCEL at any time.
abbrev pub allowed : FormRow → ℕ → Call → Bool
allowed row kind c =
    eqb kind 7 ||
    (not c.cancelled &&
    ((eqb kind 2 && (row.0 && not c.input_closed)) ||
    ((eqb kind 3 && (row.1 && not c.input_closed)) ||
    ((eqb kind 4 && (row.2 && (c.responded && not c.output_closed))) ||
    ((eqb kind 5 && (row.3 && (c.responded && not c.output_closed))) ||
    ((eqb kind 6 && not c.responded) || eqb kind 8))))))

-- The number of a frame that is not allowed now: 14; for a server frame of a cancelled call, which is dropped, 16 stands there.
abbrev pub not_allowed : ℕ → Call → ℕ
not_allowed kind c = cond (c.cancelled && (leb 4 kind && leb kind 7)) 16 14

-- The elements of the two streams: 2 IN_STREAM, 4 OUT_STREAM.
abbrev pub is_input : ℕ → Bool
is_input kind = eqb kind 2

abbrev pub is_output : ℕ → Bool
is_output kind = eqb kind 4

-- The element limit: an element of this kind would be one above 65,535.
abbrev pub at_limit : ℕ → Call → Bool
at_limit kind c = (is_input kind && eqb c.input_elements 65535) || (is_output kind && eqb c.output_elements 65535)

-- One more, where one is counted.
abbrev pub counting : Bool → ℕ → ℕ
counting counted n = cond counted (n + 1) n

-- The record with the mark of an accepted frame, and a stream element counted.
abbrev pub marked : ℕ → Call → Call
marked kind c =
    record {
      correlation = c.correlation;
      method = c.method;
      «open» = true;
      responded = c.responded || eqb kind 6;
      input_closed = c.input_closed || eqb kind 3;
      output_closed = c.output_closed || eqb kind 5;
      cancelled = c.cancelled || eqb kind 8;
      input_elements = counting (is_input kind) c.input_elements;
      output_elements = counting (is_output kind) c.output_elements;
    }

-- An open call's record with this cancelled mark, and every other member as it was.
abbrev pub with_mark : Bool → Call → Call
with_mark b c =
    record {
      correlation = c.correlation;
      method = c.method;
      «open» = true;
      responded = c.responded;
      input_closed = c.input_closed;
      output_closed = c.output_closed;
      cancelled = b;
      input_elements = c.input_elements;
      output_elements = c.output_elements;
    }

-- ERROR ends a call at once, and so does the frame that makes it complete. CANCEL marks it.
abbrev pub ends : FormRow → ℕ → Call → Bool
ends row kind c = eqb kind 7 || complete row (marked kind c)

-- The record after an accepted frame; an ended one is zeroed.
abbrev pub after_frame : FormRow → ℕ → Call → Call
after_frame row kind c = cond (ends row kind c) empty_call (marked kind c)

-- ---- good

abbrev pub zero_call : Call → Bool
zero_call c =
    eqb c.correlation 0 &&
    (eqb c.method 0 &&
    (not c.responded &&
    (not c.input_closed &&
    (not c.output_closed &&
    (not c.cancelled && (eqb c.input_elements 0 && eqb c.output_elements 0))))))

-- An open record is good: its method is one of the table's, closed marks and counts of elements stand only where the form has that stream,
-- output is not ended before RESPONSE, and the call is not complete.
abbrev pub good_open : (methods : ℕ) → FormRow → Call → Bool
good_open methods row c =
    ltb c.method methods &&
    (implies c.input_closed row.1 &&
    (implies c.output_closed (row.3 && c.responded) &&
    ((row.0 || eqb c.input_elements 0) &&
    ((row.2 || eqb c.output_elements 0) &&
    not (complete row c)))))
