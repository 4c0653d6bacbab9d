-- No two kinds of types, kinds of frames or sides have one number.
use Rattle.std.proofs.Common.{◌≡◌, refl, sym, ap, ◌∙◌, ℕ, cond, ◌==◌}
use Rattle.constants.specs.declared.kind.Kind.{Kind}
use Rattle.constants.specs.declared.kind.Kind.TheVariants.{Bool, Int8, Int16, Int32, Int64, Uint8, Uint16, Uint32, Uint64, Float32, Float64, String, Bytes, Array, Map, Struct}
use Rattle.constants.specs.declared.frame_kind.FrameKind.{FrameKind}
use Rattle.constants.specs.declared.frame_kind.FrameKind.TheVariants.{Invoke, InStream, InClose, OutStream, OutClose, Response, Error, Cancel}
use Rattle.constants.specs.declared.side.Side.{Side}
use Rattle.constants.specs.declared.side.Side.TheVariants.{Client, Server}
use Rattle.constants.specs.Kinds.{number_of_kind, number_of_frame_kind, byte_of_side}

-- The kind with a number; of a number that none has, the first. Likewise below.
abbrev pub kind_named : ℕ → Kind
kind_named n =
    cond (n == 2) Int8 (
    cond (n == 3) Int16 (
    cond (n == 4) Int32 (
    cond (n == 5) Int64 (
    cond (n == 6) Uint8 (
    cond (n == 7) Uint16 (
    cond (n == 8) Uint32 (
    cond (n == 9) Uint64 (
    cond (n == 10) Float32 (
    cond (n == 11) Float64 (
    cond (n == 12) String (
    cond (n == 13) Bytes (
    cond (n == 14) Array (
    cond (n == 15) Map (
    cond (n == 16) Struct (
    Bool)))))))))))))))

pub kind_named-number_of_kind : (k : Kind) → kind_named (number_of_kind k) ≡ k
kind_named-number_of_kind Bool = refl
kind_named-number_of_kind Int8 = refl
kind_named-number_of_kind Int16 = refl
kind_named-number_of_kind Int32 = refl
kind_named-number_of_kind Int64 = refl
kind_named-number_of_kind Uint8 = refl
kind_named-number_of_kind Uint16 = refl
kind_named-number_of_kind Uint32 = refl
kind_named-number_of_kind Uint64 = refl
kind_named-number_of_kind Float32 = refl
kind_named-number_of_kind Float64 = refl
kind_named-number_of_kind String = refl
kind_named-number_of_kind Bytes = refl
kind_named-number_of_kind Array = refl
kind_named-number_of_kind Map = refl
kind_named-number_of_kind Struct = refl

pub number_of_kind-injective : (a b : Kind) → number_of_kind a ≡ number_of_kind b → a ≡ b
number_of_kind-injective a b e = sym (kind_named-number_of_kind a) ∙ ap kind_named e ∙ kind_named-number_of_kind b

abbrev pub frame_kind_named : ℕ → FrameKind
frame_kind_named n =
    cond (n == 2) InStream (
    cond (n == 3) InClose (
    cond (n == 4) OutStream (
    cond (n == 5) OutClose (
    cond (n == 6) Response (
    cond (n == 7) Error (
    cond (n == 8) Cancel (
    Invoke)))))))

pub frame_kind_named-number_of_frame_kind : (k : FrameKind) → frame_kind_named (number_of_frame_kind k) ≡ k
frame_kind_named-number_of_frame_kind Invoke = refl
frame_kind_named-number_of_frame_kind InStream = refl
frame_kind_named-number_of_frame_kind InClose = refl
frame_kind_named-number_of_frame_kind OutStream = refl
frame_kind_named-number_of_frame_kind OutClose = refl
frame_kind_named-number_of_frame_kind Response = refl
frame_kind_named-number_of_frame_kind Error = refl
frame_kind_named-number_of_frame_kind Cancel = refl

pub number_of_frame_kind-injective : (a b : FrameKind) → number_of_frame_kind a ≡ number_of_frame_kind b → a ≡ b
number_of_frame_kind-injective a b e = sym (frame_kind_named-number_of_frame_kind a) ∙ ap frame_kind_named e ∙ frame_kind_named-number_of_frame_kind b

abbrev pub side_named : ℕ → Side
side_named n =
    cond (n == 83) Server (
    Client)

pub side_named-byte_of_side : (k : Side) → side_named (byte_of_side k) ≡ k
side_named-byte_of_side Client = refl
side_named-byte_of_side Server = refl

pub byte_of_side-injective : (a b : Side) → byte_of_side a ≡ byte_of_side b → a ≡ b
byte_of_side-injective a b e = sym (side_named-byte_of_side a) ∙ ap side_named e ∙ side_named-byte_of_side b
