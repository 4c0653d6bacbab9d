-- The numbers of the kinds of types and of frames, and the bytes of the sides: those of the records in Table.
use Rattle.std.specs.Prelude.{◌≡◌, ◌≢◌, ℕ, Result, MatchResult}
use Rattle.constants.specs.declared.kind.Kind.{Kind}
use Rattle.constants.specs.declared.kind.Kind.TheVariants.{Bool, Int8, Int16, Int32, Int64, Uint8, Uint16, Uint32, Uint64, Float32, Float64, String, Bytes, Array, Map, Struct}
use Rattle.constants.specs.declared.kind.UnknownKind.{UnknownKind}
use Rattle.constants.specs.declared.frame_kind.FrameKind.{FrameKind}
use Rattle.constants.specs.declared.frame_kind.FrameKind.TheVariants.{Invoke, InStream, InClose, OutStream, OutClose, Response, Error, Cancel}
use Rattle.constants.specs.declared.frame_kind.UnknownFrameKind.{UnknownFrameKind}
use Rattle.constants.specs.declared.side.Side.{Side}
use Rattle.constants.specs.declared.side.Side.TheVariants.{Client, Server}
use Rattle.constants.specs.declared.side.UnknownSide.{UnknownSide}
use Rattle.constants.specs.Table.{kinds, frame_kinds, sides}

abbrev pub number_of_kind : Kind → ℕ
number_of_kind Bool = kinds.bool
number_of_kind Int8 = kinds.int8
number_of_kind Int16 = kinds.int16
number_of_kind Int32 = kinds.int32
number_of_kind Int64 = kinds.int64
number_of_kind Uint8 = kinds.uint8
number_of_kind Uint16 = kinds.uint16
number_of_kind Uint32 = kinds.uint32
number_of_kind Uint64 = kinds.uint64
number_of_kind Float32 = kinds.float32
number_of_kind Float64 = kinds.float64
number_of_kind String = kinds.string
number_of_kind Bytes = kinds.bytes
number_of_kind Array = kinds.array
number_of_kind Map = kinds.map
number_of_kind Struct = kinds.structure

abbrev pub number_of_frame_kind : FrameKind → ℕ
number_of_frame_kind Invoke = frame_kinds.invoke
number_of_frame_kind InStream = frame_kinds.in_stream
number_of_frame_kind InClose = frame_kinds.in_close
number_of_frame_kind OutStream = frame_kinds.out_stream
number_of_frame_kind OutClose = frame_kinds.out_close
number_of_frame_kind Response = frame_kinds.response
number_of_frame_kind Error = frame_kinds.error
number_of_frame_kind Cancel = frame_kinds.cancel

abbrev pub byte_of_side : Side → ℕ
byte_of_side Client = sides.client
byte_of_side Server = sides.server

-- The result has this number, or it is an error with a number that none has.
abbrev pub KindOf : ℕ → Result Kind UnknownKind → Type 0
KindOf n r = MatchResult r (λ k. number_of_kind k ≡ n) (λ e. (e.0 ≡ n) × ((k : Kind) → number_of_kind k ≢ n))

abbrev pub FrameKindOf : ℕ → Result FrameKind UnknownFrameKind → Type 0
FrameKindOf n r = MatchResult r (λ k. number_of_frame_kind k ≡ n) (λ e. (e.0 ≡ n) × ((k : FrameKind) → number_of_frame_kind k ≢ n))

abbrev pub SideOf : ℕ → Result Side UnknownSide → Type 0
SideOf n r = MatchResult r (λ s. byte_of_side s ≡ n) (λ e. (e.0 ≡ n) × ((s : Side) → byte_of_side s ≢ n))
