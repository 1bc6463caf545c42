-- What the two services make of data, by the calls of the cipher crates: the IV is the field of a security header, and within the lengths
-- of a frame no call finds a text too long. All of it is under the expansion w of the key.
-- Assumes nothing.
use Prim.Native.Nat.{ℕ, ◌-◌, ◌^◌, ◌≤◌}
use mathlib.Core.Path.{◌≡◌, refl, ◌∙◌}
use mathlib.Core.Logic.{◌≢◌}
use mathlib.Core.Bool.{Bool, true, false, cond}
use mathlib.Core.List.{List, ◌++◌}
use native.Mathlib.Omega.{arith}
use borrow.Author.Tests.{le-ltb}
use lib.ListN.{length, drop, length-drop}
use lib.Seq.{take_all}
use Rattle.octets.specs.Lists.{part}
use Rattle.octets.specs.Same.{same}
use Rattle.octets.proofs.Parts.{part-inside}
use Rattle.key_schedule.specs.KeyExpansion.{key_expansion}
use Rattle.cmac.specs.Mac.{cmac_under}
use Rattle.gcm.specs.Calls.{call, sealed_under, checked_under, decrypted_under}
use Rattle.gcm.specs.Encryption.{tag}
use Rattle.octets.specs.Output.{written}
use Rattle.std.specs.Prelude.{Result, Ok, Err}
use Rattle.std.specs.Result.{is_ok}
use Rattle.gcm.specs.declared.Refusal.{Refusal}
use Rattle.gcm.specs.declared.Refusal.TheVariants as refusal
use Rattle.gcm.proofs.Laws.{text_limit, allowed, sealed_under-done, decrypted_under-done}
use Rattle.association.specs.declared.held.Held.{Held}
use Rattle.services.specs.SecurityHeader.{security_length}
use Rattle.services.specs.Steps.{text_under, clear_under, mac_under}
use Rattle.services.proofs.Chosen.{encrypts, signs}

rightly : (b : Bool) → b ≡ is_ok (cond {A = Result (Unit {0}) Refusal} b (Ok tt) (Err refusal.WrongTag))
rightly true = refl
rightly false = refl

module _ (h : Held) (security : List ℕ) (two : h.service ≡ 2) (long : length security ≡ security_length h) (iv : List ℕ)
    (read : iv ≡ part 2 12 security) where
  iv_read : iv ≡ drop 2 security
  iv_read =
      let l : length security ≡ 14 = rw (encrypts h.service two) at long in
      read ∙ part-inside 2 12 security (omega arith) ∙ take_all 12 (drop 2 security) (simp length-drop (omega arith))

  module _ (before : List ℕ) (lb : length before ≤ 2048) where
    pub sealing : (w : List ℕ) → w ≡ key_expansion h.key → (clear out : List ℕ) → length clear ≤ 2048 → length clear ≤ length out
        → let text = text_under h security clear in
        sealed_under w iv before clear out ≡ call (Ok (mac_under h security before text)) (written text out)
    sealing w expanded clear out lc room =
        rw (encrypts h.service two, text_under, mac_under, iv_read, expanded)
        (sealed_under-done (key_expansion h.key) (drop 2 security) before clear out (allowed before clear (omega arith) (omega arith)) room)

    pub judging : (w : List ℕ) → w ≡ key_expansion h.key → (text mac : List ℕ) → length text ≤ 2048
        → same (mac_under h security before text) mac ≡ is_ok (checked_under w iv before text mac)
    judging w expanded text mac lt =
        rw (encrypts h.service two, mac_under, iv_read, expanded, allowed before text (omega arith) (omega arith))
        (rightly (same (tag h.key (drop 2 security) before text) mac))

  pub releasing : (w : List ℕ) → w ≡ key_expansion h.key → (text out : List ℕ) → length text ≤ 2048 → length text ≤ length out
      → decrypted_under w iv text out ≡ call (Ok tt) (written (clear_under h security text) out)
  releasing w expanded text out lt room =
      rw (encrypts h.service two, clear_under, iv_read, expanded)
      (decrypted_under-done (key_expansion h.key) (drop 2 security) text out (text_limit text ∙ le-ltb (2 ^ 36 - 32) (length text) (omega arith)) room)

-- under every other number than 2 it is CMAC that is compared
pub comparing : (h : Held) → h.service ≢ 2 → (w : List ℕ) → w ≡ key_expansion h.key → (security before text mac : List ℕ)
    → same (cmac_under w (before ++ text)) mac ≡ same (mac_under h security before text) mac
comparing h other w expanded security before text mac = rw (signs h.service other, mac_under, expanded)
