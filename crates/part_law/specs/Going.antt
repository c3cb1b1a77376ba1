-- A part that goes on by itself on held levels, without script values. No public clause cites this.
use Rattle.std.specs.Prelude.{◌≡◌, ℕ, ◌-◌, [], Option}
use Rattle.std.specs.Option.{option_to_list}
use Rattle.part_law.specs.Machine.{Machine, glide, dues, sent, IsSame}

module _ {S : Type 0} (m : Machine S) where
  -- n cycles on from state s at t it is in state x, it was due d times, and it showed nothing new
  pub record Gone (s : S) (t n d : ℕ) (x : S) : Type 0 where
    pub state : x ≡ glide m s t n
    pub drives : m.drives x ≡ m.drives s
    pub contacts : m.contacts x ≡ m.contacts s
    pub same : IsSame m s t n
    pub silent : sent m s t n ≡ []
    pub dues_are : dues m s t n ≡ d

  -- the same where the last of these cycles was a wake, which may have changed drives or contacts and emitted a byte
  pub record Woke (s : S) (t n d : ℕ) (y : S) (byte : Option ℕ) : Type 0 where
    pub state : y ≡ glide m s t n
    pub same : IsSame m s t n
    pub sent_is : sent m s t n ≡ option_to_list byte
    pub silent : sent m s t (n - 1) ≡ []
    pub dues_are : dues m s t n ≡ d
