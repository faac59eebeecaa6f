-- What the functions write their text to, in their contracts. Assumes nothing.
use Rattle.std.specs.Prelude.{ℕ, ◌≡◌, ◌+◌, ◌≤◌, List, length}
use Rattle.runs.specs.Put.{put}
use Rattle.listing.specs.declared.Page.{Page}

-- a text has place
pub record Room (text : List ℕ) (p : Page) : Type 0 where
  pub room : p.at + length text ≤ length p.out.now

-- a text was put behind what stood there, in the same bytes
pub record Wrote (text : List ℕ) (p q : Page) : Type 0 where
  pub at : q.at ≡ p.at + length text
  pub out : q.out.now ≡ put p.at text p.out.now
  pub same : q.out.ghost_name ≡ p.out.ghost_name
