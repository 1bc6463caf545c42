-- A text in an output: put at a place, one behind the other; and what comes back of the whole.
-- Assumes nothing.
use Rattle.std.specs.Prelude.{◌≡◌, ℕ, ◌+◌, cond, Option, Some, None, List, ◌++◌, leb, length, take, drop}

-- a text put at a place of an output: it stands there, what is before it and what is behind it stays, and the place behind it is the next
pub record Put (before : List ℕ) (at : ℕ) (text after : List ℕ) (behind : ℕ) : Type 0 where
  pub size : length after ≡ length before
  pub place : behind ≡ at + length text
  pub front : take behind after ≡ take at before ++ text
  pub rest : drop behind after ≡ drop behind before

-- so many octets of text, or no room for them
unfoldable pub written_to : List ℕ → List ℕ → Option ℕ
written_to text out = cond (leb (length text) (length out)) (Some (length text)) None
