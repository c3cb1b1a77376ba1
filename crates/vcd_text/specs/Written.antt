-- How far the values of a row are written. No public clause cites this.
use Rattle.std.specs.Prelude.{◌≡◌, ℕ, ◌+◌, ◌*◌, ◌<◌, ◌≤◌, List, ◌++◌, length, drop, slice_index}
use Rattle.text_model.specs.Wave.{changes, change_count}
use Rattle.vcd_text.specs.Buffers.{BufferState}

-- The values before a place are in place of those of the last row, and the lines of those that are not what they were
-- are written behind a text, and counted.
pub record IsWritten (last new : List ℕ) (from : BufferState) (i count : ℕ) (values : List ℕ) (out : BufferState) : Type 0 where
  pub text : out.text ++ changes i (drop i last) (drop i new) ≡ from.text ++ changes 0 last new
  pub room : out.room ≡ from.room
  pub short : length out.text ≤ length from.text + 4 * i
  pub counted : count + change_count (drop i last) (drop i new) ≡ change_count last new
  pub few : count ≤ i
  pub long : length values ≡ length last
  pub done : (k : ℕ) → k < i → slice_index values k ≡ slice_index new k
  pub rest : (k : ℕ) → i ≤ k → slice_index values k ≡ slice_index last k
