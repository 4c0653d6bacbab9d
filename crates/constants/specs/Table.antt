-- The numbers of the format by the names that they have in code. Each stands here as a numeral, beside the words of docs/FORMAT.md, and those of src/ are
-- held against it: `papers` says that each has this number.
use Rattle.constants.specs.declared.papers.FrameNumbers.{FrameNumbers}
use Rattle.constants.specs.declared.papers.CallNumbers.{CallNumbers}
use Rattle.constants.specs.declared.papers.ValueNumbers.{ValueNumbers}
use Rattle.constants.specs.declared.papers.SchemaNumbers.{SchemaNumbers}
use Rattle.constants.specs.declared.papers.OutputNumbers.{OutputNumbers}
use Rattle.constants.specs.declared.papers.TypeKindNumbers.{TypeKindNumbers}
use Rattle.constants.specs.declared.papers.FrameKindNumbers.{FrameKindNumbers}
use Rattle.constants.specs.declared.papers.SideBytes.{SideBytes}
use Rattle.constants.specs.declared.papers.FixedNumbers.{FixedNumbers}
use Rattle.constants.specs.declared.papers.LimitNumbers.{LimitNumbers}

-- Numbers that come back for a frame's bytes (docs/FORMAT.md, "The numbers").
abbrev pub frames : FrameNumbers
frames =
    record {
      accepted = 0;  -- accepted
      more = 1;  -- more bytes needed
      magic = 2;  -- magic
      version = 3;  -- version
      kind = 4;  -- kind
      flags = 5;  -- flags
      length = 6;  -- frame length malformed
      payload_too_long = 7;  -- payload above 16,384
      wrong_side = 8;  -- wrong side for this kind, or no side
    }

-- For a call.
abbrev pub calls : CallNumbers
calls =
    record {
      unknown_method = 9;  -- method unknown
      call_open = 10;  -- call already open
      call_not_open = 11;  -- call not open
      other_method = 12;  -- identifiers differ from the call's
      too_many_calls = 13;  -- 128 open
      not_now = 14;  -- not allowed now
      call_table = 15;  -- call table not good
      dropped = 16;  -- a server frame of a cancelled call, dropped
      too_many_elements = 17;  -- element limit
      tally_full = 18;  -- a tally at 4294967295 that would rise
      tally_rows = 19;  -- wrong number of tally rows
    }

-- For a payload.
abbrev pub values : ValueNumbers
values =
    record {
      cut = 20;  -- item (a cut VarUInt too), count or tail exceeds what remains
      varuint = 21;  -- VarUInt malformed
      bool = 22;  -- bool
      utf8 = 23;  -- UTF-8
      repeated_key = 24;  -- duplicate key
      absent_field = 25;  -- required field absent
      unknown_bit = 26;  -- unknown bit in an inner struct
      surplus = 27;  -- surplus bytes
      too_deep = 28;  -- depth 17
      undue_payload = 29;  -- payload where none belongs
      sheet_too_short = 30;  -- sheet has too few rows
      map_too_long = 31;  -- map above 64 pairs
    }

-- For a schema file.
abbrev pub schemas : SchemaNumbers
schemas =
    record {
      schema_shape = 40;  -- schema file shape
      too_many_rows = 41;  -- too many rows
      type_row = 42;  -- type row at fault
      field = 43;  -- field at fault
      method = 44;  -- method at fault
      file_too_long = 45;  -- record, or the listing's schema file, above 65,536 bytes
      no_struct = 46;  -- type asked for is no struct
      no_extension = 47;  -- no such extension
    }

-- For what is lent, and for an index.
abbrev pub outputs : OutputNumbers
outputs =
    record {
      sheet = 50;  -- sheet doesn't fit
      outside = 51;  -- span outside the bytes
      output_too_short = 52;  -- output too small
      list_too_short = 53;  -- the list of spans too small
      index = 65;  -- index shape or order
      other_record = 66;  -- record of another length
    }

-- Kinds of types (docs/FORMAT.md, "A schema file").
abbrev pub kinds : TypeKindNumbers
kinds =
    record {
      bool = 1;
      int8 = 2;
      int16 = 3;
      int32 = 4;
      int64 = 5;
      uint8 = 6;
      uint16 = 7;
      uint32 = 8;
      uint64 = 9;
      float32 = 10;
      float64 = 11;
      string = 12;
      bytes = 13;
      array = 14;
      map = 15;
      structure = 16;
    }

-- Kinds of frames (docs/FORMAT.md, "Frames").
abbrev pub frame_kinds : FrameKindNumbers
frame_kinds =
    record {
      invoke = 1;
      in_stream = 2;
      in_close = 3;
      out_stream = 4;
      out_close = 5;
      response = 6;
      error = 7;
      cancel = 8;
    }

-- Sides (docs/FORMAT.md, "Calls"): entries of a record are C or S, then a frame.
abbrev pub sides : SideBytes
sides =
    record {
      client = 67;  -- C
      server = 83;  -- S
    }

-- What is fixed in a frame, in a file and on a sheet.
abbrev pub formats : FixedNumbers
formats =
    record {
      magic = 175;  -- a frame is AF 01, ..
      magic_2 = 1;
      version = 1;  -- .. version 1
      flags = 0;  -- .. flags 0
      header = 25;  -- 25 bytes before the length
      layout = 1;  -- layout number 1
      no_type = 4294967295;  -- an N has 4294967295
      row_cells = 4;  -- rows of four 32-bit numbers
    }

-- Limits.
abbrev pub limits : LimitNumbers
limits =
    record {
      payload = 16384;  -- payloads have 0 to 16,384 bytes
      depth = 16;  -- depth 16 is allowed
      below_root = 15;
      pairs = 64;  -- maps get at most 64 pairs
      struct_fields = 64;  -- number of fields, 1 to 64
      types = 256;  -- at most 256 types
      fields = 2048;  -- .. 2,048 fields
      methods = 256;  -- .. 256 methods
      forms = 16;  -- form 0 to 15
      last_form = 15;
      file = 65536;  -- record, or the listing's schema file, above 65,536 bytes
      sheet = 16384;  -- the sheet has 4,096 rows, of four cells each
      calls = 128;  -- the call table has 128 slots
      elements = 65535;  -- the stream elements accepted each way, to 65,535
      tally = 4294967295;  -- a tally at 4294967295
    }
