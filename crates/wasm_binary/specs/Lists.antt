-- Vectors and parts with a size (WebAssembly core specification, "Vectors", "Sections", "Code Section").
use Rattle.std.specs.Prelude.{◌≡◌, ℕ, zero, suc, ◌+◌, ◌-◌, ◌<◌, List, [], ◌∷◌, ◌++◌, length, take, ◌⊎◌, Bool, true, false}
use Rattle.sim_refusals.specs.Refusals.{WasmCut, WasmSection}
use Rattle.wasm_binary.specs.Form.{Form, ◌>>=◌}
use Rattle.wasm_binary.specs.Leb.{u32, at_most}

-- Items one behind the other. The form of each may depend on a state that the items before have left.
module _ {S X : Type 0} (item : S → Form X) (next : S → X → S) (done : S → Bool) where
  -- items from a state that is not done to another state
  abbrev pub Run : S → List ℕ → List X → S → Type 0
  Run s bytes [] t = (bytes ≡ []) × (s ≡ t)
  Run s bytes (x ∷ xs) t = (done s ≡ false) × (a b : List ℕ) × (bytes ≡ a ++ b) × (item s).text a x × Run (next s x) b xs t

  abbrev pub RunBreaks : S → List ℕ → ℕ → ℕ → Type 0
  RunBreaks s bytes i number =
      (xs : List X) × (a b : List ℕ) × (t : S) × (j : ℕ) × (bytes ≡ a ++ b) × Run s a xs t × (done t ≡ false) × (i ≡ length a + j) × (item t).breaks b j number

  -- items until the state is done; it breaks where an item does, behind those before
  abbrev pub repeated : S → Form (List X)
  repeated s = record {
    text = λ bytes xs. (t : S) × Run s bytes xs t × (done t ≡ true);
    breaks = RunBreaks s;
  }

abbrev pub is_zero : ℕ → Bool
is_zero zero = true
is_zero (suc n) = false

-- so many items, all of one form
abbrev pub items : {X : Type 0} → Form X → ℕ → Form (List X)
items form n = repeated (λ (left : ℕ). form) (λ left x. left - 1) is_zero n

-- vec: a count and the items
abbrev pub vec : {X : Type 0} → Form X → Form (List X)
vec form = u32 >>= items form

-- a vec of at most so many items
abbrev pub vec_to : {X : Type 0} → ℕ → Form X → Form (List X)
vec_to greatest form = at_most greatest >>= items form

-- so many bytes, whatever they are; cut (61) where fewer stand there
abbrev pub bytes_of_length : ℕ → Form (List ℕ)
bytes_of_length n = record {
  text = λ bytes xs. (bytes ≡ xs) × (length xs ≡ n);
  breaks = λ bytes i number. (length bytes < n) × (i ≡ length bytes) × (number ≡ WasmCut);
}

-- vec(byte)
abbrev pub byte_vec : Form (List ℕ)
byte_vec = u32 >>= bytes_of_length

-- a size, and so many bytes of content
abbrev pub IsSized : {X : Type 0} → Form X → List ℕ → X → Type 0
IsSized form bytes x = (a b : List ℕ) × (bytes ≡ a ++ b) × u32.text a (length b) × form.text b x

-- The number where the content is complete before the end that its size gives: 63. Where the bytes end there too and more is
-- wanted behind the part, 61.
abbrev pub short_number : Bool → List ℕ → ℕ
short_number true [] = WasmCut
short_number wanted rest = WasmSection

-- in the content, of which no more is seen than the size gives, or where the content is complete before that
abbrev pub ContentBreaks : {X : Type 0} → Bool → Form X → ℕ → List ℕ → ℕ → ℕ → Type 0
ContentBreaks {X} wanted form size bytes i number =
    form.breaks (take size bytes) i number
    ⊎ ((a b : List ℕ) × (x : X) × (take size bytes ≡ a ++ b) × form.text a x × (length a < size) × (i ≡ length a) × (number ≡ short_number wanted b))

abbrev pub SizedBreaks : {X : Type 0} → Bool → Form X → List ℕ → ℕ → ℕ → Type 0
SizedBreaks wanted form bytes i number =
    u32.breaks bytes i number
    ⊎ ((a b : List ℕ) × (size j : ℕ) × (bytes ≡ a ++ b) × u32.text a size × (i ≡ length a + j) × ContentBreaks wanted form size b j number)

-- a part with a size; wanted: more is wanted behind it in the part around
abbrev pub sized : {X : Type 0} → Bool → Form X → Form X
sized wanted form = record { text = IsSized form; breaks = SizedBreaks wanted form }
