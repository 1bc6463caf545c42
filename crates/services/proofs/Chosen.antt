-- The service that a number names: 2 is authenticated encryption, and every other number reads as authentication.
-- Assumes nothing.
use Prim.Native.Nat.{ℕ}
use mathlib.Core.Path.{◌≡◌}
use mathlib.Core.Logic.{◌≢◌}
use mathlib.Core.Bool.{Bool, true, false, cond}
use borrow.Author.Tests.{eq-eqb, ne_eqb}
use lib.Dec.{eqb}
use Rattle.services.specs.Services.{Service, service, authentication, authenticated_encryption}

pub encrypts : (n : ℕ) → n ≡ 2 → service n ≡ authenticated_encryption
unfolding service
encrypts n e = rw (eq-eqb n 2 e)

pub signs : (n : ℕ) → n ≢ 2 → service n ≡ authentication
unfolding service
signs n h = rw (ne_eqb n 2 h)

-- what holds of both services holds of the one that a number names
pub either : (P : Service → Type 0) → P authentication → P authenticated_encryption → (n : ℕ) → P (service n)
unfolding service
either P a e n = of (eqb n 2)
  where
    of : (b : Bool) → P (cond b authenticated_encryption authentication)
    of true = e
    of false = a
