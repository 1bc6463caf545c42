-- Document 01, 'The image', and document 02, requests 2, 9 and 10: what differs between the versions of an image, a shape for each, to be laid
-- beside those sections. What is promised is stated once over any shape, and a further version is one shape more.
-- Assumes nothing.
use Rattle.std.specs.Prelude.{ℕ, Bool, true, false, cond, ◌&&◌, eqb}

pub record Shape : Type 0 where
  -- the octets before the bodies, beside the four of each entry that is counted: version and count, and the entry of a key part
  pub front : ℕ
  -- the octets of a body, and where in it the mark begins
  pub body : ℕ
  pub mark : ℕ
  -- whether the channel octet of a kind 3 body is a set of eight bits, the lowest for channel 0
  pub sets : Bool
  -- whether the keys stand behind the bodies, and octets 16 and 17 of a body are the ID of its key. Elsewhere octets 16 to 47 are the key
  pub key_part : Bool
  -- whether the last octet of a body, behind its mark, is the desk that owns it. Elsewhere every body is desk 1's
  pub owners : Bool

abbrev pub first : Shape
first = record { front = 2; body = 52; mark = 48; sets = false; key_part = false; owners = false }

abbrev pub second : Shape
second = record { front = 2; body = 52; mark = 48; sets = true; key_part = false; owners = false }

abbrev pub third : Shape
third = record { front = 6; body = 22; mark = 18; sets = true; key_part = true; owners = false }

abbrev pub fourth : Shape
fourth = record { front = 6; body = 23; mark = 18; sets = true; key_part = true; owners = true }

-- the shape of a version; another octet names none, and an image with it breaks a rule
unfoldable pub shape_of : ℕ → Shape
shape_of version = cond (eqb version 4) fourth (cond (eqb version 3) third (cond (eqb version 2) second first))

-- where several bodies may name one key, the IV of service 2 begins with what names the association
abbrev pub names_spi : Shape → ℕ → Bool
names_spi shape service = shape.key_part && eqb service 2
