-- Frames as a relation, beside the reader's function: which bytes are a frame with a given header and payload.
use Rattle.std.specs.Prelude.{◌≡◌, List, ◌∷◌, ◌++◌, ℕ, ◌+◌, ◌^◌, ◌<◌, ◌≤◌, length}
use Rattle.wire.specs.Little.{little}
use Rattle.wire.specs.Varuint.{Spelled}
use Rattle.frame.specs.declared.Header.{Header}

-- The bytes b are n in number, and hold x.
pub record IsNumber (n x : ℕ) (b : List ℕ) : Type 0 where
  pub width : length b ≡ n
  pub value : little b ≡ x

-- A frame is AF 01, version 1, kind, flags 0, package, service and method, correlation, the payload's length as a VarUInt, payload.
pub data IsFrame : (h : Header) (payload frame : List ℕ) → Type 0 where
  frame : {h : Header} {«package» service method correlation payload : List ℕ} (size : List ℕ)
      → 1 ≤ h.kind
      → h.kind ≤ 8
      → IsNumber 4 h.«package» «package»
      → IsNumber 4 h.service service
      → IsNumber 4 h.method method
      → IsNumber 8 h.correlation correlation
      → Spelled (length payload) size
      → length payload ≤ 16384
      → IsFrame h payload
      (0xAF ∷ 0x01 ∷ 0x01 ∷ h.kind ∷ 0x00 ∷ («package» ++ (service ++ (method ++ (correlation ++ (size ++ payload))))))

-- The bytes s start with a frame that has the header h; its payload is its last n bytes, from the place on.
pub record Starts (s : List ℕ) (h : Header) (place n : ℕ) : Type 0 where
  pub payload : List ℕ
  pub frame : List ℕ
  pub rest : List ℕ
  pub split : s ≡ frame ++ rest
  pub is : IsFrame h payload frame
  pub size : length payload ≡ n
  pub end : place + n ≡ length frame

-- Each number fits its field, as the numbers of a `Header` in code do.
pub record HeaderFits (h : Header) : Type 0 where
  pub «package» : h.«package» < 2 ^ 32
  pub service : h.service < 2 ^ 32
  pub method : h.method < 2 ^ 32
  pub correlation : h.correlation < 2 ^ 64
